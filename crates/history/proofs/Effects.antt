-- What each accepted call does: a move of its client, and its clause afterwards. Assumes nothing.
use Prim.Native.Nat.{ℕ, ◌<◌}
use mathlib.Core.Bool.{true, false, false≢true, cond}
use mathlib.Core.List.{List}
use mathlib.Core.Logic.{⊎_elim}
use mathlib.Core.Path.{◌≡◌, refl, sym, ap, ◌∙◌}
use lib.Dec.{eqb}
use borrow.Author.Tests.{ltb-true, eqb-true, eq-eqb, ne_eqb, not-true}
use Rattle.std.specs.Prelude.{Option, Some, None}
use Rattle.std.proofs.lemmas.Bool.{cases_eq}
use Rattle.numbers.specs.declared.answers.Answer.{Answer}
use Rattle.numbers.specs.declared.Slot.{Slot}
use Rattle.numbers.specs.Sizes.{clients, slots, cells}
use Rattle.block.specs.declared.Kind.{Kind}
use Rattle.block.specs.declared.Operation.{Operation}
use Rattle.block.specs.declared.Standing.{Standing}
use Rattle.block.specs.declared.store.Store.{Store}
use Rattle.block.specs.Block.{cell_at, log_at}
use Rattle.block.specs.Matrix.{own_era}
use Rattle.block.specs.Store.{byte_of}
use Rattle.stages.specs.declared.Stage.{Stage}
use Rattle.stages.specs.declared.Outcome.{Outcome}
use Rattle.stages.specs.Stages.{won, idle, is_release, step_of}
use Rattle.stages.proofs.Cases.{stage_idle}
use Rattle.rescue.specs.Search.{lowest_full}
use Rattle.rescue.specs.Rescue.{rescue_of, release_stage}
use Rattle.calls.specs.declared.Act.{Act}
use Rattle.calls.specs.declared.Records.{Records}
use Rattle.calls.specs.Checks.{standing_code, same_standing, is_empty, found_nothing}
use Rattle.calls.specs.Calls.{client, nothing, accepted, stands_as, leaves, opened, of_client, of_rescuer, looked, asks_to_open, asks_to_release, release_opened, asks, effect, stage_of}
use Rattle.calls.specs.Named.{of}
use Rattle.world.specs.World.{World, records_at}
use Rattle.history.specs.Ledger.{Line, closing, phased, wins_at, by_stage}
use Rattle.history.specs.Demand3.{standing}
use Rattle.history.proofs.Counting.{shows_none, shows_closing, shows_beside}
use Rattle.history.proofs.Invariant.{Won, Words, vis, column, CellFits, OpFits, BeforeSwap, Shown, Clause, Inv}
use Rattle.history.proofs.Frame.{Move}
use Rattle.history.proofs.Moves.{now, SameLines, same_lines, phased_lines, move_still}
use Rattle.history.proofs.Stores.{hdr_after, words_after, standing_after, Ours}
use Rattle.history.proofs.Steps.{taken}
use Rattle.history.proofs.Rescues.{Finds, finds, helped}
use Rattle.history.proofs.View.{hdr_of, mine_of}
use Rattle.history.proofs.Outcomes.{none_opened, same_opened, checks_of, effect_of, lines_after, Passed}

-- what an outcome of client a's call does
pub record Done (w : World) (ghosts : ℕ → Won) (lines : List Line) (a : ℕ) (o : Outcome Records) (after : List Line)
    (n : ℕ) : Type 0 where
  pub ghost : Won
  pub ours : Ours a o.store
  pub move :
      Move (vis (mine_of w ghosts)) (hdr_of w) (column (mine_of w ghosts) a) a (mine_of w ghosts a).words lines
      (hdr_after o.store (hdr_of w))
      (words_after o.store ghost (mine_of w ghosts a).words)
      after
      n
  pub clause :
      Clause (vis (mine_of w ghosts)) (column (mine_of w ghosts) a) a
      (words_after o.store ghost (mine_of w ghosts a).words)
      after
      (standing_after o.store (mine_of w ghosts a).standing)
      o.next

-- the standing of a code
standing_of : ℕ → Standing
standing_of n =
    cond (eqb n 0) Standing.Absent
    (cond (eqb n 1) Standing.Running (cond (eqb n 2) Standing.Failed Standing.InRescue))

-- the code tells the standing
standing_of_lem : (s : Standing) → standing_of (standing_code s) ≡ s
unfolding standing_of
standing_of_lem Standing.Absent = refl
standing_of_lem Standing.Running = refl
standing_of_lem Standing.Failed = refl
standing_of_lem Standing.InRescue = refl

-- the standing asked for is the one found
pub standing_is_lem : (asked found : Standing) → same_standing asked found ≡ true → found ≡ asked
standing_is_lem asked found e = sym (standing_of_lem found) ∙ ap standing_of (eqb-true _ _ e) ∙ standing_of_lem asked

-- a cell that passes for empty is empty
empty_is : (held : Option Slot) → is_empty held ≡ true → held ≡ None
empty_is None e = refl
empty_is (Some s) e = absurd (false≢true e)

-- a full cell holds the slot that its byte says
full_is : (held : Option Slot) → is_empty held ≡ false → held ≡ Some (record { 0 = byte_of held })
full_is None e = absurd (false≢true (sym e))
full_is (Some s) e = refl

-- the slot in a full cell is one that there is
held_fits : (held : Option Slot) → is_empty held ≡ false → CellFits held → byte_of held < slots
held_fits None e f = absurd (false≢true (sym e))
held_fits (Some s) e f = f

-- a search that found nothing found every cell empty
none_found :
    (held : ℕ → Option Slot) (found : Option (ℕ × Slot)) →
    Finds held found →
    found_nothing found ≡ true →
    (k : ℕ) →
    k < cells →
    held k ≡ None
none_found held None f e = f
none_found held (Some (k, s)) f e = absurd (false≢true e)

-- the records of client a
abbrev pub given : World → ℕ → Records
given w a = records_at w.records a

-- the words of client a
abbrev pub mine : World → (ℕ → Won) → ℕ → Words
mine w ghosts a = (mine_of w ghosts a).words

-- what is known of client a with other words, lines, standing and records
abbrev pub Known : World → (ℕ → Won) → ℕ → Words → List Line → Standing → Records → Type 0
Known w ghosts a y lines s r = Clause (vis (mine_of w ghosts)) (column (mine_of w ghosts) a) a y lines s r

module _ (w : World) (ghosts : ℕ → Won) (lines : List Line) (inv : Inv (hdr_of w) (mine_of w ghosts) lines) (a : ℕ)
    (b : a < clients) where
  -- what is known of a client of each standing
  pub clause_of : (s : Standing) → standing w a ≡ s → Known w ghosts a (mine w ghosts a) lines s (given w a)
  clause_of s e = rw e at (inv.clause a b)

  -- a standing changes and nothing else
  stands :
      (s : Standing) (r : Records) →
      Known w ghosts a (mine w ghosts a) lines s r →
      Done w ghosts lines a (accepted r (Store.Standing (client a) s)) lines 0
  stands s r k = record { ghost = ghosts a; ours = refl; move = move_still (now a b inv) same_lines; clause = k }

  -- records change and nothing else, in the standing of now
  keeps :
      (s : Standing) →
      standing w a ≡ s →
      (r : Records) (answer : Answer) {after : List Line} →
      SameLines a lines after →
      Known w ghosts a (mine w ghosts a) after s r →
      Done w ghosts lines a (record { answer = answer; next = r; store = Store.Nothing }) after 0
  keeps s e r answer p k =
      record { ghost = ghosts a; ours = tt; move = move_still (now a b inv) p; clause = rw e k }

  -- a client joins: it has no entries, so it shows nothing
  joins : standing w a ≡ Standing.Absent → Done w ghosts lines a (stands_as a Standing.Running) lines 0
  unfolding looked
  joins e =
      let k = clause_of Standing.Absent e in
      stands Standing.Running nothing (
        refl,
        record { fits = tt; kept = tt; won_is = k.2; more = tt },
        λ j l. shows_none a j lines ((inv.base a b).due j l ∙ rw (k.2, k.3 j l)) ∙ rw (k.3 j l),
      )

  -- a client leaves: nothing is under way and no cell is full
  leaves_now :
      standing w a ≡ Standing.Running →
      idle (given w a).client.stage ≡ true →
      found_nothing (lowest_full w.block.cells a) ≡ true →
      Done w ghosts lines a (leaves a (given w a)) lines 0
  leaves_now e i f =
      let k = clause_of Standing.Running e in
      let q : (given w a).client.stage ≡ Stage.Idle = stage_idle (given w a).client.stage i in
      stands Standing.Absent (given w a) (
        q,
        k.0,
        rw q at k.1.won_is,
        none_found (mine w ghosts a).cells (lowest_full w.block.cells a) (finds w.block.cells a) f,
      )

  -- an operation opens
  opens :
      (op : Operation) →
      standing w a ≡ Standing.Running →
      idle (given w a).client.stage ≡ true →
      OpFits op →
      BeforeSwap a (mine w ghosts a) op →
      {after : List Line} →
      SameLines a lines after →
      (Shown a (mine w ghosts a).cells lines Stage.Idle → Shown a (mine w ghosts a).cells after (Stage.Load op)) →
      Done w ghosts lines a (opened op.kind op.cell op.slot (given w a)) after 0
  opens op e i fits before p sh =
      let k = clause_of Standing.Running e in
      let q : (given w a).client.stage ≡ Stage.Idle = stage_idle (given w a).client.stage i in
      keeps Standing.Running e (record { client = record { stage = Stage.Load op }; rescuer = (given w a).rescuer })
      Answer.Accepted p (
        k.0,
        record { fits = fits; kept = tt; won_is = rw q at k.1.won_is; more = before },
        sh (rw q at k.2),
      )

  -- R2.8: a client's step
  steps :
      standing w a ≡ Standing.Running →
      Done w ghosts lines a
      (of_client (step_of (client a) w.block.headers w.eras (given w a).client.stage) (given w a))
      (by_stage won (hdr_of w) a (given w a).client.stage lines)
      (cond (wins_at won (hdr_of w) (given w a).client.stage) 1 0)
  unfolding step_of
  steps e =
      let k = clause_of Standing.Running e in
      let t = taken (now a b inv) (given w a).client.stage k.1 in
      record {
        ghost = t.ghost;
        ours = t.ours;
        move = t.move;
        clause = rw (e, t.steady Standing.Running) (k.0, t.then, t.shown k.2);
      }

  -- R2.11: a rescue step
  rescues :
      standing w a ≡ Standing.InRescue →
      Done w ghosts lines a
      (of_rescuer
      (rescue_of (client a) w.block.headers w.block.cells (log_at w.block.logs a) w.eras
      (given w a).rescuer.step)
      (given w a))
      (by_stage won (hdr_of w) a (release_stage (given w a).rescuer.step) lines)
      (cond (wins_at won (hdr_of w) (release_stage (given w a).rescuer.step)) 1 0)
  unfolding rescue_of
  rescues e =
      let k = clause_of Standing.InRescue e in
      let t =
      helped (now a b inv) (lowest_full w.block.cells a) (finds w.block.cells a) (given w a).rescuer.step
      k.1
      in
      record {
        ghost = t.ghost;
        ours = t.ours;
        move = t.move;
        clause = rw e (t.then (given w a).client k.0);
      }

  -- what a release opened shows
  shown_closing :
      (op : Operation) →
      is_release op.kind ≡ true →
      Shown a (mine w ghosts a).cells lines Stage.Idle →
      Shown a (mine w ghosts a).cells (phased closing a op.cell lines) (Stage.Load op)
  unfolding looked
  shown_closing op r sh j l =
      ⊎_elim
      (λ (q : j ≡ op.cell). rw (r, q, eq-eqb op.cell op.cell refl) (shows_closing a op.cell lines))
      (λ (o : j ≡ op.cell → ⊥).
      rw (r, ne_eqb op.cell j (λ q. o (sym q)))
      (shows_beside closing a op.cell a j (λ p q. o q) lines ∙ sh j l))
      (cases_eq j op.cell)

  -- the release of a full cell opens, its checks passed
  release_opens :
      (k : ℕ) →
      Passed (asks_to_release a k (standing w a) w.block.cells (given w a)) →
      Done w ghosts lines a (release_opened a k w.block.cells (given w a)) (phased closing a k lines) 0
  release_opens k p =
      let l : k < cells = ltb-true k cells p.0 in
      let f : is_empty (cell_at w.block.cells a k) ≡ false = not-true _ p.1.1.1.0 in
      opens (record { kind = Kind.Release; cell = k; slot = record { 0 = byte_of (cell_at w.block.cells a k) } })
      (standing_is_lem _ _ p.1.0) p.1.1.0
      (record { cell = l; slot = held_fits (cell_at w.block.cells a k) f ((inv.base a b).cells_fit k l) })
      (full_is _ f)
      (phased_lines closing a k lines)
      (shown_closing _ refl)

  -- any other operation on an empty cell opens, its checks passed
  entry_opens :
      (kind : Kind) (k s : ℕ) →
      is_release kind ≡ false →
      Passed
      (asks_to_open a k s (standing w a) w.block.cells (own_era w.eras a) (given w a)) →
      Done w ghosts lines a (opened kind k (record { 0 = s }) (given w a)) lines 0
  unfolding looked
  entry_opens kind k s r p =
      let q = p.1.1 in
      opens (record { kind = kind; cell = k; slot = record { 0 = s } }) (standing_is_lem _ _ q.0) q.1.0
      (record { cell = ltb-true k cells p.0; slot = ltb-true s slots p.1.0 })
      (rw r (empty_is _ q.1.1.0, ltb-true _ _ q.1.1.1.0))
      same_lines
      (λ sh. rw r sh)

  -- every accepted call
  pub done :
      (act : Act) →
      Passed (checks_of w (of a act)) →
      Done w ghosts lines a (effect_of w (of a act)) (lines_after w (of a act) lines)
      (cond (wins_at won (hdr_of w) (stage_of act (given w a))) 1 0)
  unfolding asks effect
  done Act.Join p = joins (standing_is_lem _ _ p.1.0)
  done Act.Leave p =
      rw (same_opened a (given w a).client.stage lines)
      (leaves_now (standing_is_lem _ _ p.1.0) p.1.1.0 p.1.1.1.0)
  done (Act.Lease k s) p = entry_opens Kind.Lease k s refl p.1
  done (Act.Attach k s) p = entry_opens Kind.Attach k s refl p.1
  done (Act.Release k) p = rw p.1.1.1.0 (release_opens k p.1)
  done Act.Step p =
      rw (none_opened a (given w a).client.stage _ (by_stage won (hdr_of w) a (given w a).client.stage lines)
      (not-true _ p.1.1.0))
      (steps (standing_is_lem _ _ p.1.0))
  done Act.Fail p = stands Standing.Failed nothing (refl, refl)
  done Act.TakeOver p = stands Standing.InRescue nothing (refl, tt)
  done Act.RescueStep p =
      rw (same_opened a (given w a).client.stage _)
      (rescues (standing_is_lem _ _ p.1.0))
  done Act.RescuerFails p = stands Standing.Failed nothing (refl, refl)
  done (Act.LookUp k) p =
      let s = standing_is_lem _ _ p.1.1.0 in
      rw (same_opened a (given w a).client.stage lines)
      (keeps Standing.Running s (given w a) (looked (given w a).client.stage (cell_at w.block.cells a k) k)
      same_lines
      (clause_of Standing.Running s))
