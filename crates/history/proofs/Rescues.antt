-- One step of a rescue: which move it is and what holds at the next step. Condition 1 comes first: where the header is
-- gone by then, the client that replaced it had noted it, and condition 2 meets that note. Assumes nothing.
use Prim.Native.Nat.{ℕ, ◌+◌, ◌<◌, ◌≤◌}
use mathlib.Core.Bool.{Bool, true, false, cond}
use mathlib.Core.List.{List}
use mathlib.Core.Logic.{⊎_elim}
use mathlib.Core.Path.{◌≡◌, refl, sym, ap, ◌∙◌}
use native.Mathlib.Omega.{arith}
use lib.Dec.{eqb, ltb, leb}
use borrow.Author.Tests.{eq-eqb, eqb-true, eqb-false, ltb-true, ltb-false, leb-true, leb-false}
use Rattle.std.specs.Prelude.{Option, Some, None}
use Rattle.std.proofs.lemmas.Bool.{cases_Bool, cases_eq, and_parts, and_from, both_ways}
use Rattle.numbers.specs.declared.answers.Answer.{Answer}
use Rattle.numbers.specs.declared.Slot.{Slot}
use Rattle.numbers.specs.Sizes.{clients, slots, cells, raised}
use Rattle.header.specs.Header.{era_in, client_in}
use Rattle.block.specs.declared.Entry.{Entry}
use Rattle.block.specs.declared.Operation.{Operation}
use Rattle.block.specs.declared.Standing.{Standing}
use Rattle.block.specs.declared.store.Store.{Store}
use Rattle.block.specs.Block.{cell_at}
use Rattle.stages.specs.declared.ClientRecord.{ClientRecord}
use Rattle.stages.specs.declared.Stage.{Stage}
use Rattle.stages.specs.declared.Outcome.{Outcome}
use Rattle.stages.specs.Stages.{won, written, open_in, idle, releases, step_by}
use Rattle.stages.proofs.Cases.{stage_idle, going_answers}
use Rattle.rescue.specs.declared.RescuerStep.{RescuerStep}
use Rattle.rescue.specs.declared.RescuerRecord.{RescuerRecord}
use Rattle.rescue.specs.Search.{lowest_from, lowest_full, found_at}
use Rattle.rescue.specs.Rescue.{onto, read_log, from_row, onward, swap_stands, first_condition, second_condition, write_cell, raise_era, searched, as_rescue, rescue_by, release_stage}
use Rattle.calls.specs.Calls.{client}
use Rattle.history.specs.Ledger.{Line, past_swap, wins_at, by_stage}
use Rattle.history.proofs.Updates.{upd_same}
use Rattle.history.proofs.Counting.{lines_of}
use Rattle.history.proofs.Invariant.{Won, none, some, Words, won_of, EntryFits, Stands, Witness, Proven, Awaited, Rescuing, Clause}
use Rattle.history.proofs.Frame.{Move}
use Rattle.history.proofs.Moves.{Now, same_lines, move_still, move_cell, move_era, written_fits}
use Rattle.history.proofs.Stores.{hdr_after, words_after, standing_after, Ours}
use Rattle.history.proofs.Steps.{Took, era_up, taken}

-- what a search of the cells finds
abbrev pub Finds : (ℕ → Option Slot) → Option (ℕ × Slot) → Type 0
Finds held None = (k : ℕ) → k < cells → held k ≡ None
Finds held (Some (k, s)) = (k < cells) × (held k ≡ Some s)

module _ (bytes : List ℕ) (c : ℕ) where
  -- the search from cell k on, the cells before it empty
  finds_from :
      (n k : ℕ) →
      n + k ≡ cells →
      ((j : ℕ) → j < k → cell_at bytes c j ≡ None) →
      Finds (cell_at bytes c) (lowest_from bytes c n k)
  unfolding lowest_from
  finds_from ℕ.zero k e before = λ j l. before j (omega arith)
  finds_from (ℕ.suc n) k e before =
      looks (cell_at bytes c k) refl
      (λ (q : cell_at bytes c k ≡ None).
      finds_from n (k + 1) (omega arith)
      (λ j l. ⊎_elim (λ (p : j ≡ k). rw p q) (λ (o : j ≡ k → ⊥). before j (omega arith)) (cases_eq j k)))
    where
      looks :
          (held : Option Slot) →
          cell_at bytes c k ≡ held →
          (cell_at bytes c k ≡ None → Finds (cell_at bytes c) (lowest_from bytes c n (k + 1))) →
          Finds (cell_at bytes c) (found_at k held (lowest_from bytes c n (k + 1)))
      looks None q rest = rest q
      looks (Some s) q rest = (omega arith, q)

  -- the search of all cells
  pub finds : Finds (cell_at bytes c) (lowest_full bytes c)
  finds = finds_from cells 0 (omega arith) (λ j l. absurd (omega arith))

-- a rescue step, taken: its store is a's own, it is a move, what holds at the next step, and what a 100 tells
pub record Helped (seen hdr col : ℕ → ℕ) (a : ℕ) (x : Words) (lines : List Line) (s : Outcome RescuerRecord) (after : List Line)
    (n : ℕ) : Type 0 where
  pub ghost : Won
  pub ours : Ours a s.store
  pub move : Move seen hdr col a x lines (hdr_after s.store hdr) (words_after s.store ghost x) after n
  pub then :
      (r : ClientRecord) →
      r.stage ≡ Stage.Idle →
      Clause seen col a (words_after s.store ghost x) after (standing_after s.store Standing.InRescue)
      (record { client = r; rescuer = s.next })
  pub done :
      s.answer ≡ Answer.Finished →
      (x.won ≡ none) × ((k : ℕ) → k < cells → x.cells k ≡ None) ×
      (s.store ≡ Store.Standing (client a) Standing.Absent)

-- a step of an operation that is still under way does not answer 100
not_over :
    (a : ℕ) (hdr row : ℕ → ℕ) (stage : Stage) →
    idle (step_by (client a) hdr row stage).next.stage ≡ false →
    (step_by (client a) hdr row stage).answer ≡ Answer.Finished →
    ⊥
not_over a hdr row =
    going_answers (λ answer. answer ≡ Answer.Finished → ⊥) (client a) hdr row (λ e. cc) (λ e. cc)

module _ {seen hdr col : ℕ → ℕ} {a : ℕ} {x : Words} {lines : List Line} (nw : Now seen hdr col a x lines) where
  -- a rescue step that only reads
  reads :
      (step : RescuerStep) →
      Rescuing seen col a x step →
      Helped seen hdr col a x lines (onto step) lines 0
  reads step r =
      record {
        ghost = x.won;
        ours = tt;
        move = move_still nw same_lines;
        then = λ c e. (e, r);
        done = λ e. cc;
      }

  -- where something is won the log has it, and there is evidence
  log_won : (op : Operation) → x.won ≡ some op → Proven hdr col a (x.row a) x.log op
  log_won op e = rw e at nw.base.evidence

  -- something is won, or nothing is
  by_won : {A : Type 0} → (x.won ≡ none → A) → ((op : Operation) → x.won ≡ some op → A) → A
  by_won {A} f g = go x.won refl
    where
      go : (w : Won) → x.won ≡ w → A
      go none e = f e
      go (some op) e = g op e

  -- a witness is to be met only where something is won
  awaits :
      (start : ℕ) →
      ((op : Operation) → x.won ≡ some op → Witness col a (x.row a) start) →
      Awaited col a (x.row a) start x.won
  awaits start f =
      by_won (λ (q : x.won ≡ none). rw q tt) (λ (op : Operation) (q : x.won ≡ some op). rw q (f op q))

  -- where client j is no witness, one is to be met after it
  passes_over :
      (j : ℕ) →
      ((v : Witness col a (x.row a) j) → v.at ≡ j → ⊥) →
      Awaited col a (x.row a) j x.won →
      Awaited col a (x.row a) (j + 1) x.won
  passes_over j absent w =
      awaits (j + 1)
      (λ (op : Operation) (q : x.won ≡ some op).
      let v : Witness col a (x.row a) j = rw q at w in
      record { at = v.at; client = v.client; other = v.other; later = later v (absent v); saw = v.saw })
    where
      later : (v : Witness col a (x.row a) j) → (v.at ≡ j → ⊥) → j + 1 ≤ v.at
      later v o = let l = v.later in omega arith

  -- R4.1: with no log nothing is won
  read_log_lem : (l : Option Entry) → x.log ≡ l → Helped seen hdr col a x lines (read_log l) lines 0
  read_log_lem None e =
      reads RescuerStep.Search
      (by_won (λ q. q) (λ op q. let w = (log_won op q).logged in absurd (let z : ◌≡◌ {A = ℕ} 0 1 = cc in omega arith)))
  read_log_lem (Some e) q = reads (RescuerStep.Condition1 e) q

  module _ (e : Entry) (in_log : x.log ≡ Some e) where
    -- the operation won is the logged one
    same_op : (op : Operation) → x.won ≡ some op → op ≡ e.operation
    same_op op q = ap (λ (l : Option Entry). operation_in l) (sym (log_won op q).logged ∙ in_log)
      where
        operation_in : Option Entry → Operation
        operation_in None = op
        operation_in (Some f) = f.operation

    -- an era of a's that somebody holds and that is not below its own: the swap was won
    was_won : (era : ℕ) → x.row a ≤ era → era < seen a → x.won ≡ some e.operation
    was_won era l m =
        by_won
        (λ (q : x.won ≡ none). let s : seen a ≡ x.row a + 0 = nw.its ∙ rw q in absurd (omega arith))
        (λ op q. q ∙ ap some (same_op op q))

    -- R4.3: on to client j, or past the last
    from_row_lem : (j : ℕ) → (j ≡ a → ⊥) → Awaited col a (x.row a) j x.won → Rescuing seen col a x (from_row e j)
    from_row_lem j o w =
        ⊎_elim
        (λ (t : ltb j clients ≡ true). rw t (in_log, ltb-true _ _ t, o, w))
        (λ (t : ltb j clients ≡ false).
        rw t
        (by_won (λ q. q)
        (λ (op : Operation) (q : x.won ≡ some op).
        let v : Witness col a (x.row a) j = rw q at w in
        let l : clients ≤ j = ltb-false j clients t in
        absurd (let c = v.client in let f = v.later in omega arith))))
        (cases_Bool (ltb j clients))

    -- R4.3: on from client j, a itself passed over
    on_ward : (j : ℕ) → Awaited col a (x.row a) j x.won → Rescuing seen col a x (onward (client a) e j)
    on_ward j w =
        ⊎_elim
        (λ (t : eqb j a ≡ true).
        let q : j ≡ a = eqb-true _ _ t in
        rw t (from_row_lem (j + 1) (λ p. omega arith) (passes_over j (λ v p. v.other (p ∙ q)) w)))
        (λ (t : eqb j a ≡ false). rw t (from_row_lem j (eqb-false _ _ t) w))
        (cases_Bool (eqb j a))

    -- the header of the logged slot
    abbrev logged_header : ℕ
    logged_header = hdr e.operation.slot.0

    -- whether condition 1 says yes
    abbrev stands_there : Bool
    stands_there = swap_stands (client a) (record { 0 = x.row a }) logged_header

    -- condition 1 says yes: the swap was won
    stood : stands_there ≡ true → x.won ≡ some e.operation
    stood t =
        let c : client_in logged_header ≡ a =
        eqb-true _ _ (and_parts (eqb (client_in logged_header) a) (eqb (era_in logged_header) (x.row a)) t).0
        in
        let f : era_in logged_header ≡ x.row a =
        eqb-true _ _ (and_parts (eqb (client_in logged_header) a) (eqb (era_in logged_header) (x.row a)) t).1
        in
        was_won (era_in logged_header) (omega arith) (rw c at (nw.words e.operation.slot.0).era)

    -- a header that stands has condition 1 say yes
    stands_so : (op : Operation) → op ≡ e.operation → Stands hdr a (x.row a) op.slot.0 → stands_there ≡ true
    stands_so op q s = rw (← q) (and_from _ _ (eq-eqb _ _ s.client) (eq-eqb _ _ s.era))

    -- condition 1 says no: a swap that was won has a witness
    gone : stands_there ≡ false → Awaited col a (x.row a) 0 x.won
    gone t =
        awaits 0
        (λ op q. ⊎_elim (λ s. absurd (both_ways _ t (stands_so op (same_op op q) s))) (λ w. w) (log_won op q).evidence)

    -- R4.2: condition 1
    first :
        Helped seen hdr col a x lines (first_condition (client a) e (record { 0 = x.row a }) logged_header) lines 0
    unfolding first_condition
    first =
        ⊎_elim
        (λ (t : stands_there ≡ true). rw t (reads (RescuerStep.Cell e) (in_log, stood t)))
        (λ (t : stands_there ≡ false). rw t (reads (onward (client a) e 0) (on_ward 0 (gone t))))
        (cases_Bool stands_there)

    -- R4.3: condition 2 at client j
    second :
        (j : ℕ) →
        j < clients →
        (j ≡ a → ⊥) →
        Awaited col a (x.row a) j x.won →
        Helped seen hdr col a x lines
        (second_condition (client a) e (record { 0 = j }) (record { 0 = x.row a }) (record { 0 = col j })) lines 0
    unfolding second_condition
    second j l o w =
        ⊎_elim
        (λ (t : leb (x.row a) (col j) ≡ true).
        rw t (reads (RescuerStep.Cell e) (in_log, was_won (col j) (leb-true _ _ t) (nw.column j l o))))
        (λ (t : leb (x.row a) (col j) ≡ false).
        rw t (reads (onward (client a) e (j + 1)) (on_ward (j + 1) (passes_over j (unseen t) w))))
        (cases_Bool (leb (x.row a) (col j)))
      where
        unseen : leb (x.row a) (col j) ≡ false → (v : Witness col a (x.row a) j) → v.at ≡ j → ⊥
        unseen t v p =
            let s : x.row a ≤ col j = rw p at v.saw in
            let m : col j < x.row a = leb-false (x.row a) (col j) t in omega arith

    -- R4.4: the cell
    write_cell_lem : x.won ≡ some e.operation → Helped seen hdr col a x lines (write_cell (client a) e) lines 0
    unfolding write_cell
    write_cell_lem won =
        record {
          ghost = x.won;
          ours = (refl, fits.operation.cell, written_fits e.operation fits.operation);
          move = move_cell nw e.operation fits.operation won same_lines;
          then =
              λ c q. (
                q,
                (
                  e.operation,
                  won,
                  upd_same x.cells e.operation.cell (written e.operation),
                  fits.operation,
                ),
              );
          done = λ q. cc;
        }
      where
        fits : EntryFits e
        fits = rw in_log at nw.base.log

  -- R4.5: the era
  raise_era_lem :
      (op : Operation) →
      x.won ≡ some op →
      x.cells op.cell ≡ written op →
      Helped seen hdr col a x lines (raise_era (client a) (record { 0 = x.row a })) lines 0
  unfolding raise_era
  raise_era_lem op won there =
      record {
        ghost = none;
        ours = (refl, nw.client);
        move =
            move_era nw op (raised (record { 0 = x.row a })).0
            (era_up (x.row a) (lines_of a lines) (rw won at nw.base.room))
            won there;
        then = λ c q. (q, refl);
        done = λ q. cc;
      }

  -- R4.6: the search
  search_cells :
      (found : Option (ℕ × Slot)) →
      Finds x.cells found →
      x.won ≡ none →
      Helped seen hdr col a x lines (searched (client a) found) lines 0
  search_cells None f yet =
      record {
        ghost = x.won;
        ours = refl;
        move = move_still nw same_lines;
        then = λ c q. (q, refl, yet, f);
        done = λ q. (yet, f, refl);
      }
  search_cells (Some (k, s)) f yet =
      reads _
      (refl, record { fits = record { cell = f.0; slot = held }; kept = tt; won_is = yet; more = f.1 })
    where
      held : s.0 < slots
      held = rw f.1 at (nw.base.cells_fit k f.0)

  -- R4.6: a stage of the opened release
  release_stage_lem :
      (at : Stage) (s : Outcome ClientRecord) (after : List Line) (n : ℕ) →
      releases at ≡ true →
      (idle s.next.stage ≡ false → s.answer ≡ Answer.Finished → ⊥) →
      Took seen hdr col a x lines at s after n →
      Helped seen hdr col a x lines (as_rescue s) after n
  release_stage_lem at s after n r over t =
      ⊎_elim
      (λ (q : idle s.next.stage ≡ true).
      rw q
      (record {
        ghost = t.ghost;
        ours = t.ours;
        move = t.move;
        then = λ c e. rw (t.steady Standing.InRescue) (e, over_won q t.then.won_is);
        done = λ e. cc;
      }))
      (λ (q : idle s.next.stage ≡ false).
      rw q
      (record {
        ghost = t.ghost;
        ours = t.ours;
        move = t.move;
        then = λ c e. rw (t.steady Standing.InRescue) (e, (t.going q ∙ r, t.then));
        done = λ e. absurd (over q e);
      }))
      (cases_Bool (idle s.next.stage))
    where
      over_won :
          {w : Won} →
          idle s.next.stage ≡ true →
          w ≡ won_of (past_swap s.next.stage) (open_in s.next.stage) →
          w ≡ none
      over_won q e = rw (stage_idle s.next.stage q) at e

  -- every step of a rescue
  pub helped :
      (found : Option (ℕ × Slot)) →
      Finds x.cells found →
      (step : RescuerStep) →
      Rescuing seen col a x step →
      Helped seen hdr col a x lines (rescue_by (client a) hdr x.row col x.log found step)
      (by_stage won hdr a (release_stage step) lines) (cond (wins_at won hdr (release_stage step)) 1 0)
  helped found f RescuerStep.ReadLog r = read_log_lem x.log refl
  helped found f (RescuerStep.Condition1 e) r = first e r
  helped found f (RescuerStep.Condition2 e j) r = second e r.0 j.0 r.1 r.2 r.3
  helped found f (RescuerStep.Cell e) r = write_cell_lem e r.0 r.1
  helped found f RescuerStep.Era r = raise_era_lem r.0 r.1 r.2
  helped found f RescuerStep.Search r = search_cells found f r
  helped found f (RescuerStep.Release q) r =
      release_stage_lem q.stage (step_by (client a) hdr x.row q.stage) _ _ r.0
      (not_over a hdr x.row q.stage)
      (taken nw q.stage r.1)
