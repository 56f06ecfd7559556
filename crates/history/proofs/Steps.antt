-- One stage of an operation, taken by a client or by its rescuer: which move it is, what holds at the next stage, and
-- what a look up shows. Assumes nothing.
use Prim.Native.Nat.{ℕ, ◌+◌, ◌-◌, ◌<◌, ◌≤◌}
use mathlib.Core.Bool.{true, false, false≢true, cond}
use mathlib.Core.List.{List, [], ◌∷◌}
use mathlib.Core.Logic.{⊎_elim}
use mathlib.Core.Path.{◌≡◌, refl, sym, ap, ◌∙◌}
use native.Mathlib.Omega.{arith}
use native.Mathlib.Nat.{le_refl, zero-add}
use lib.Dec.{ltb}
use borrow.Author.Tests.{eq-eqb, ne_eqb, eqb-true, ltb-true, ltb-false}
use Rattle.std.specs.Prelude.{Some, None, Err}
use Rattle.std.proofs.lemmas.Bool.{cases_Bool, cases_eq}
use Rattle.numbers.specs.declared.answers.Answer.{Answer}
use Rattle.numbers.specs.Sizes.{clients, cells, era_stop, era_limit, raised}
use Rattle.header.specs.Header.{era_in, count_in, client_in}
use Rattle.block.specs.declared.Operation.{Operation}
use Rattle.block.specs.declared.Standing.{Standing}
use Rattle.block.specs.declared.store.Store.{Store}
use Rattle.stages.specs.declared.Stage.{Stage}
use Rattle.stages.specs.declared.Outcome.{Outcome}
use Rattle.stages.specs.declared.ClientRecord.{ClientRecord}
use Rattle.stages.specs.Stages.{asks_nothing, went, closed, asked, entry_of, note_stage, log_stage, count_after, swapped, won, swap_won, swap_lost, cell_stage, era_stage, written, is_release, idle, releasing, releases, step_by}
use Rattle.stages.proofs.ByKind.{asked_refuses, count_entered, count_struck, written_release, written_entry}
use Rattle.stages.proofs.Cases.{step_cases}
use Rattle.calls.specs.Calls.{client, looked}
use Rattle.history.specs.Ledger.{Line, visible, struck, phased, line_of, wins_at, by_stage, naming, shown_by}
use Rattle.history.proofs.Updates.{upd, upd_same, upd_other, upd_all}
use Rattle.history.proofs.Counting.{slots_at, lines_of, few_of, slots_entered, slots_beside, naming_entered, naming_beside, shows_entered, alike_entered, slots_other, shows_other, shows_struck, alike_struck, ranged_struck, slots_struck, naming_struck, lines_struck, slots_phased, shows_beside, shows_visible, shows_none}
use Rattle.history.proofs.Invariant.{Won, none, some, Words, due_by, in_cell, At, Shown}
use Rattle.history.proofs.Frame.{Move}
use Rattle.history.proofs.Moves.{Now, same_lines, phased_lines, move_still, move_note, move_log, move_cell, move_era, move_swap, written_fits}
use Rattle.history.proofs.Stores.{hdr_after, words_after, standing_after, Ours}

-- a stage `at`, taken: its store is a's own and leaves the standing, it is a move, what holds at the next stage and
-- what is shown there, and an operation that goes on is a release where it was one
pub record Took (seen hdr col : ℕ → ℕ) (a : ℕ) (x : Words) (lines : List Line) (at : Stage) (s : Outcome ClientRecord)
    (after : List Line) (n : ℕ) : Type 0 where
  pub ghost : Won
  pub ours : Ours a s.store
  pub steady : (t : Standing) → standing_after s.store t ≡ t
  pub move : Move seen hdr col a x lines (hdr_after s.store hdr) (words_after s.store ghost x) after n
  pub then : At seen a (words_after s.store ghost x) s.next.stage
  pub shown :
      Shown a x.cells lines at → Shown a (words_after s.store ghost x).cells after s.next.stage
  pub going : idle s.next.stage ≡ false → releases s.next.stage ≡ releases at

-- an own era of a history has room for one more
pub era_up : (e n : ℕ) → e + 1 + n ≤ era_limit → (raised (record { 0 = e })).0 ≡ e + 1
era_up e n r = omega arith

module _ {seen hdr col : ℕ → ℕ} {a : ℕ} {x : Words} {lines : List Line} (nw : Now seen hdr col a x lines) where
  -- a stage that writes nothing
  stays :
      {at : Stage} (answer : Answer) (next : Stage) →
      At seen a x next →
      (Shown a x.cells lines at → Shown a x.cells lines next) →
      (idle next ≡ false → releases next ≡ releases at) →
      Took seen hdr col a x lines at (went answer next Store.Nothing) lines 0
  stays answer next then shown going =
      record {
        ghost = x.won;
        ours = tt;
        steady = λ s. refl;
        move = move_still nw same_lines;
        then = then;
        shown = shown;
        going = going;
      }

  -- with nothing under way nothing happens
  step_idle : At seen a x Stage.Idle → Took seen hdr col a x lines Stage.Idle (closed Answer.WrongMoment) lines 0
  step_idle t = stays Answer.WrongMoment Stage.Idle t (λ sh. sh) (λ i. refl)

  -- load: the header is kept
  load_kept :
      (op : Operation) →
      asked op (hdr op.slot.0) ≡ asks_nothing →
      At seen a x (Stage.Load op) →
      Took seen hdr col a x lines (Stage.Load op)
      (went Answer.Accepted (Stage.Note op (hdr op.slot.0)) Store.Nothing) lines 0
  unfolding looked
  load_kept op passes t =
      stays Answer.Accepted (Stage.Note op (hdr op.slot.0))
      (record { fits = t.fits; kept = nw.words op.slot.0; won_is = t.won_is; more = (t.more, passes) })
      (λ sh. sh)
      (λ i. refl)

  -- load: the operation is closed, and it was no release
  load_refused :
      (op : Operation) (answer : Answer) →
      asked op (hdr op.slot.0) ≡ Err answer →
      At seen a x (Stage.Load op) →
      Took seen hdr col a x lines (Stage.Load op) (closed answer) lines 0
  unfolding looked
  load_refused op answer refuses t =
      stays answer Stage.Idle
      (record { fits = tt; kept = tt; won_is = t.won_is; more = tt })
      (λ sh k b. rw (asked_refuses op.kind (hdr op.slot.0) answer refuses).0 at (sh k b))
      (λ i. absurd (false≢true (sym i)))

  -- note: a client never notes a rise of its own era: what it keeps of its own is below it
  note_other :
      (op : Operation) (h : ℕ) →
      At seen a x (Stage.Note op h) →
      x.row (client_in h) < era_in h →
      a ≡ client_in h →
      ⊥
  note_other op h t l e =
      let q : seen a ≡ x.row a + 0 = nw.its ∙ rw t.won_is in
      let r : x.row a < era_in h = rw e l in
      let s : era_in h < seen a = rw e t.kept.era in
      omega arith

  -- R3.2: the note
  note :
      (op : Operation) (h : ℕ) →
      At seen a x (Stage.Note op h) →
      Took seen hdr col a x lines (Stage.Note op h) (note_stage (client a) op h (record { 0 = x.row (client_in h) }))
      lines 0
  unfolding note_stage looked
  note op h t =
      ⊎_elim
      (λ (q : ltb (x.row (client_in h)) (era_in h) ≡ true).
      let l : x.row (client_in h) < era_in h = ltb-true _ _ q in
      let own : upd x.row (client_in h) (era_in h) a ≡ x.row a =
      upd_other x.row (client_in h) (era_in h) a (note_other op h t l)
      in
      rw q
      (record {
        ghost = x.won;
        ours = (refl, t.kept.client);
        steady = λ s. refl;
        move =
            move_note nw (upd x.row (client_in h) (era_in h)) own
            (upd_all (λ j r. x.row j ≤ r) x.row (client_in h) (era_in h) (omega arith) (λ j o. le_refl _))
            (upd_all (λ j r. j < clients → (j ≡ a → ⊥) → r < seen j) x.row (client_in h) (era_in h)
            (λ b o. t.kept.era) (λ j o. nw.base.past j));
        then =
            record {
              fits = t.fits;
              kept = t.kept;
              won_is = t.won_is;
              more = (rw own t.more.0, t.more.1, rw (upd_same x.row (client_in h) (era_in h)) (le_refl _));
            };
        shown = λ sh. sh;
        going = λ i. refl;
      }))
      (λ (q : ltb (x.row (client_in h)) (era_in h) ≡ false).
      rw q
      (stays Answer.Accepted (Stage.Log op h)
      (record { fits = t.fits; kept = t.kept; won_is = t.won_is; more = (t.more.0, t.more.1, ltb-false _ _ q) })
      (λ sh. sh)
      (λ i. refl)))
      (cases_Bool (ltb (x.row (client_in h)) (era_in h)))

  -- R3.3: the log
  log :
      (op : Operation) (h : ℕ) →
      At seen a x (Stage.Log op h) →
      Took seen hdr col a x lines (Stage.Log op h) (log_stage (client a) op h (record { 0 = x.row a })) lines 0
  unfolding log_stage looked
  log op h t =
      record {
        ghost = x.won;
        ours = refl;
        steady = λ s. refl;
        move =
            move_log nw (entry_of op h (record { 0 = x.row a }))
            (record { operation = t.fits; count = t.kept.count; era = let r = nw.base.room in omega arith })
            t.won_is;
        then =
            record {
              fits = t.fits;
              kept = t.kept;
              won_is = t.won_is;
              more = (t.more.0, t.more.1, t.more.2, refl);
            };
        shown = λ sh. sh;
        going = λ i. refl;
      }

  -- swap: lost, the load comes next
  swap_lost_lem :
      (op : Operation) (h : ℕ) →
      At seen a x (Stage.Swap op h) →
      Took seen hdr col a x lines (Stage.Swap op h) (swap_lost op) lines 0
  unfolding looked
  swap_lost_lem op h t =
      stays Answer.SwapLost (Stage.Load op)
      (record { fits = t.fits; kept = tt; won_is = t.won_is; more = t.more.0 })
      (λ sh. sh)
      (λ i. refl)

  -- swap: won, a line is entered or struck out
  module _ (op : Operation) (h : ℕ) (t : At seen a x (Stage.Swap op h)) (stands : hdr op.slot.0 ≡ h) where
    -- before the swap the lines of a cell are what it holds
    lines_now : (j : ℕ) → j < cells → slots_at a j lines ≡ in_cell (x.cells j)
    lines_now j b = nw.base.due j b ∙ ap in_cell (due_none j)
      where
        due_none : (j : ℕ) → due_by x.won x.cells j ≡ x.cells j
        due_none j = rw t.won_is

    -- the kept count is the number of lines that name the slot
    count_now : count_in h ≡ naming op.slot.0 lines
    count_now = ap count_in (sym stands) ∙ nw.count op.slot.0 t.fits.slot

    -- the move of a won swap
    abbrev Won_move : List Line → Type 0
    Won_move after =
        Move seen hdr col a x lines
        (upd hdr op.slot.0 (swapped (client a) op h (record { 0 = x.row a })))
        (record { row = x.row; cells = x.cells; log = x.log; won = some op })
        after
        1

    -- a line is entered
    enters :
        is_release op.kind ≡ false →
        (x.cells op.cell ≡ None) × (x.row a < era_stop) →
        Won_move (line_of a op ∷ lines)
    enters r before =
        let e : count_after op.kind (count_in h) ≡ count_in h + 1 = count_entered op.kind h r t.more.1 in
        move_swap nw op h (line_of a op ∷ lines) t.won_is (let c = t.kept.count in omega arith) stands
        t.more.2 t.more.3
        (alike_entered a op lines)
        (nw.client, (t.fits.cell, nw.ranged))
        (e ∙ (let q = count_now in let r = naming_entered a op lines in omega arith))
        (naming_beside a op lines)
        (λ s.
        let f = few_of a (line_of a op ∷ lines) (nw.client, (t.fits.cell, nw.ranged)) s in
        let b = before.1 in omega arith)
        (upd_all (λ j held. j < cells → slots_at a j (line_of a op ∷ lines) ≡ in_cell held) x.cells op.cell
        (written op)
        (λ b. slots_entered a op lines ∙ rw (lines_now op.cell b, before.0, written_entry op r))
        (λ j o b. slots_beside a op lines a j (λ p q. o q) ∙ lines_now j b))

    -- a line is struck out
    strikes : is_release op.kind ≡ true → x.cells op.cell ≡ Some op.slot → Won_move (struck a op lines)
    strikes r full =
        let e : count_after op.kind (count_in h) ≡ count_in h - 1 = count_struck op.kind (count_in h) r in
        move_swap nw op h (struck a op lines) t.won_is (let c = t.kept.count in omega arith) stands t.more.2
        t.more.3
        (alike_struck a op lines)
        (ranged_struck a op lines nw.ranged)
        (e ∙ here)
        (λ s o.
        sym
        (naming_struck a op s lines one ∙ rw (ne_eqb op.slot.0 s (λ q. o (sym q)))
        (zero-add _)))
        (λ s.
        let r : x.row a + 0 + lines_of a lines ≤ era_limit = rw t.won_is at nw.base.room in
        let f = lines_struck a op lines one in omega arith)
        (upd_all (λ j held. j < cells → slots_at a j (struck a op lines) ≡ in_cell held) x.cells op.cell
        (written op)
        (λ b. slots_struck a op lines one ∙ rw (written_release op r))
        (λ j o b. slots_other a op a j (λ p q. o q) lines ∙ lines_now j b))
      where
        one : slots_at a op.cell lines ≡ op.slot.0 ∷ []
        one = lines_now op.cell t.fits.cell ∙ ap in_cell full

        here : count_in h - 1 ≡ naming op.slot.0 (struck a op lines)
        here =
            let f : naming op.slot.0 lines ≡ 1 + naming op.slot.0 (struck a op lines) =
            naming_struck a op op.slot.0 lines one ∙ rw (eq-eqb op.slot.0 op.slot.0 refl)
            in
            let q = count_now in
            omega arith

    -- what a struck line leaves shown
    shown_struck :
        is_release op.kind ≡ true →
        Shown a x.cells lines (Stage.Swap op h) →
        Shown a x.cells (struck a op lines) (Stage.Cell op h)
    unfolding looked
    shown_struck r sh j b =
        ⊎_elim
        (λ (q : j ≡ op.cell).
        let t : releasing (Stage.Swap op h) j ≡ true = rw (r, eq-eqb op.cell j (sym q)) in
        let s : shown_by a j lines ≡ Answer.ShowsNothing = rw t at (sh j b) in
        rw t (shows_struck a op a j lines s))
        (λ (o : j ≡ op.cell → ⊥). shows_other a op a j (λ p q. o q) lines ∙ sh j b)
        (cases_eq j op.cell)

    -- an entered line changes nothing that is shown
    shown_entered :
        Shown a x.cells lines (Stage.Swap op h) → Shown a x.cells (line_of a op ∷ lines) (Stage.Cell op h)
    unfolding looked
    shown_entered sh j b = shows_entered a op lines a j ∙ sh j b

    -- the stage, given its move and what is then shown
    wins_to :
        {after : List Line} →
        Won_move after →
        (Shown a x.cells lines (Stage.Swap op h) → Shown a x.cells after (Stage.Cell op h)) →
        Took seen hdr col a x lines (Stage.Swap op h) (swap_won (client a) op h (record { 0 = x.row a })) after 1
    wins_to move shown =
        record {
          ghost = some op;
          ours = t.fits.slot;
          steady = λ s. refl;
          move = move;
          then = record { fits = t.fits; kept = t.kept; won_is = refl; more = tt };
          shown = shown;
          going = λ i. refl;
        }

    swap_won_lem :
        Took seen hdr col a x lines (Stage.Swap op h) (swap_won (client a) op h (record { 0 = x.row a }))
        (cond (is_release op.kind) (struck a op lines) (line_of a op ∷ lines)) 1
    swap_won_lem =
        ⊎_elim
        (λ (r : is_release op.kind ≡ true). rw r (wins_to (strikes r (rw r at t.more.0)) (shown_struck r)))
        (λ (r : is_release op.kind ≡ false). rw r (wins_to (enters r (rw r at t.more.0)) shown_entered))
        (cases_Bool (is_release op.kind))

  -- R3.5: the cell, once the swap is won
  module _ (op : Operation) (h : ℕ) (t : At seen a x (Stage.Cell op h)) where
    -- the lines of the cell are what the operation writes
    line_here : slots_at a op.cell lines ≡ in_cell (written op)
    line_here = nw.base.due op.cell t.fits.cell ∙ ap in_cell due_here
      where
        due_here : due_by x.won x.cells op.cell ≡ written op
        due_here = rw t.won_is (upd_same x.cells op.cell (written op))

    -- the cell written shows its line, or nothing after a release
    shown_cell :
        shown_by a op.cell (phased visible a op.cell lines) ≡ looked (Stage.Era op h) (written op) op.cell
    unfolding looked
    shown_cell =
        ⊎_elim
        (λ (r : is_release op.kind ≡ true).
        rw (r, eq-eqb op.cell op.cell refl)
        (shows_none a op.cell (phased visible a op.cell lines)
        (slots_phased visible a op.cell a op.cell lines ∙ line_here ∙ rw (written_release op r))))
        (λ (r : is_release op.kind ≡ false).
        rw (r, written_entry op r)
        (shows_visible a op.cell op.slot.0 lines (line_here ∙ rw (written_entry op r))))
        (cases_Bool (is_release op.kind))

    -- the other cells show what they showed
    shown_other :
        Shown a x.cells lines (Stage.Cell op h) →
        (j : ℕ) →
        (j ≡ op.cell → ⊥) →
        j < cells →
        shown_by a j (phased visible a op.cell lines) ≡ looked (Stage.Era op h) (x.cells j) j
    unfolding looked
    shown_other sh j o b = shows_beside visible a op.cell a j (λ p q. o q) lines ∙ sh j b

    cell :
        Took seen hdr col a x lines (Stage.Cell op h) (cell_stage (client a) op h) (phased visible a op.cell lines) 0
    unfolding cell_stage
    cell =
        record {
          ghost = x.won;
          ours = (refl, t.fits.cell, written_fits op t.fits);
          steady = λ s. refl;
          move = move_cell nw op t.fits t.won_is (phased_lines visible a op.cell lines);
          then =
              record {
                fits = t.fits;
                kept = t.kept;
                won_is = t.won_is;
                more = upd_same x.cells op.cell (written op);
              };
          shown = λ sh.
              upd_all
              (λ j held. j < cells → shown_by a j (phased visible a op.cell lines) ≡ looked (Stage.Era op h) held j)
              x.cells op.cell (written op)
              (λ b. shown_cell)
              (shown_other sh);
          going = λ i. refl;
        }

  -- R3.6: the era, once the cell is written
  module _ (op : Operation) (h : ℕ) (t : At seen a x (Stage.Era op h)) where
    -- once its cell is empty a release shows what no operation does
    shown_idle : (j : ℕ) → looked (Stage.Era op h) (x.cells j) j ≡ looked Stage.Idle (x.cells j) j
    unfolding looked
    shown_idle j =
        ⊎_elim
        (λ (r : releasing (Stage.Era op h) j ≡ true). rw (r, emptied r))
        (λ (r : releasing (Stage.Era op h) j ≡ false). rw r)
        (cases_Bool (releasing (Stage.Era op h) j))
      where
        emptied : releasing (Stage.Era op h) j ≡ true → x.cells j ≡ None
        emptied =
            ⊎_elim
            (λ (r : is_release op.kind ≡ true).
            rw r (λ q. rw (← (eqb-true op.cell j q)) (t.more ∙ written_release op r)))
            (λ (r : is_release op.kind ≡ false). rw r (λ q. absurd (false≢true q)))
            (cases_Bool (is_release op.kind))

    era : Took seen hdr col a x lines (Stage.Era op h) (era_stage (client a) (record { 0 = x.row a })) lines 0
    unfolding era_stage
    era =
        record {
          ghost = none;
          ours = (refl, nw.client);
          steady = λ s. refl;
          move =
              move_era nw op (raised (record { 0 = x.row a })).0
              (era_up (x.row a) (lines_of a lines) (rw t.won_is at nw.base.room))
              t.won_is t.more;
          then = record { fits = tt; kept = tt; won_is = refl; more = tt };
          shown = λ sh j b. sh j b ∙ shown_idle j;
          going = λ i. absurd (false≢true (sym i));
        }

  -- every stage
  pub taken :
      (stage : Stage) →
      At seen a x stage →
      Took seen hdr col a x lines stage (step_by (client a) hdr x.row stage) (by_stage won hdr a stage lines)
      (cond (wins_at won hdr stage) 1 0)
  taken =
      step_cases
      (λ stage s.
      At seen a x stage →
      Took seen hdr col a x lines stage s (by_stage won hdr a stage lines) (cond (wins_at won hdr stage) 1 0))
      (client a) hdr x.row
      step_idle load_kept load_refused note log
      (λ op h w t. rw w (swap_won_lem op h t (eqb-true _ _ w)))
      (λ op h w t. rw w (swap_lost_lem op h t))
      cell
      era
