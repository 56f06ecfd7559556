-- A rescue that answers 100: nothing is won and not yet raised, every cell is empty, and one standing is written. So
-- the own era of the rescued client is then one more than the number of swaps ever won for it. Assumes nothing.
use Prim.Native.Nat.{ℕ, ◌+◌, ◌<◌}
use mathlib.Core.Bool.{Bool, true, false, false≢true, cond, and-false}
use mathlib.Core.List.{List, []}
use mathlib.Core.Logic.{⊎_elim}
use mathlib.Core.Path.{◌≡◌, refl, sym, ap, ◌∙◌}
use native.Mathlib.Nat.{add-zero}
use native.Mathlib.Omega.{arith}
use lib.Dec.{eqb}
use borrow.Author.Tests.{lt-ltb}
use Rattle.std.specs.Prelude.{Option, Some, None}
use Rattle.std.proofs.lemmas.Bool.{cases_Bool, and_from}
use Rattle.numbers.specs.declared.answers.Answer.{Answer}
use Rattle.numbers.specs.Sizes.{clients, cells}
use Rattle.block.specs.declared.Standing.{Standing}
use Rattle.block.specs.declared.store.Store.{Store}
use Rattle.block.specs.declared.Operation.{Operation}
use Rattle.block.specs.Block.{cell_at}
use Rattle.stages.specs.declared.Stage.{Stage}
use Rattle.stages.specs.declared.Outcome.{Outcome}
use Rattle.stages.specs.Stages.{open_in, none_open, idle}
use Rattle.stages.proofs.Cases.{stage_idle}
use Rattle.rescue.specs.Search.{lowest_full}
use Rattle.rescue.specs.Rescue.{rescue_of}
use Rattle.calls.specs.declared.Call.{Call}
use Rattle.calls.specs.declared.Records.{Records}
use Rattle.calls.specs.Calls.{client, asks, effect}
use Rattle.calls.specs.Named.{fail, rescue_step}
use Rattle.world.specs.World.{World, records_at, fresh, answer, after, run}
use Rattle.history.specs.Ledger.{Line, past_swap, all_pass, accepts, performed, ledger, wins}
use Rattle.history.specs.Demand3.{NoLines, NoEntries, era, standing, CompletesExactlyWhenWon}
use Rattle.history.proofs.Counting.{no_lines}
use Rattle.history.proofs.Invariant.{Won, none, extra, vis, won_of}
use Rattle.history.proofs.Moves.{now}
use Rattle.history.proofs.Rescues.{finds, helped}
use Rattle.history.proofs.View.{placed, mine_of}
use Rattle.history.proofs.Outcomes.{accepted_is, after_accepted, performed_accepted, performed_refused, checks_of, effect_of, Passed, all_passed}
use Rattle.history.proofs.Effects.{given, clause_of}
use Rattle.history.proofs.Histories.{Good, next, reached}
use Rattle.history.proofs.Fresh.{fresh_good}
use Rattle.history.proofs.Limits.{all_within}

module _ (w : World) (ghosts : ℕ → Won) (lines : List Line) (good : Good w ghosts lines) where
  -- a call whose checks pass is accepted
  pub accepts_it : (call : Call) → Passed (checks_of w call) → accepts w call ≡ true
  accepts_it call p =
      and_from _ (all_pass (checks_of w call)) (all_within w ghosts lines good call.client)
      (all_passed (checks_of w call) p)

  module _ (c : ℕ) (l : c < clients) (s : standing w c ≡ Standing.InRescue) where
    -- the rescue step of a client in rescue is accepted
    rescue_accepted : accepts w (rescue_step c) ≡ true
    unfolding asks
    rescue_accepted =
        accepts_it (rescue_step c) (lt-ltb c clients l, (rw s, tt))

    module _ (e : answer w (rescue_step c) ≡ Answer.Finished) where
      -- what has been found once a rescue answers 100: nothing is won, every cell is empty, the client turns absent
      rescued :
          (ghosts c ≡ none) × ((k : ℕ) → k < cells → cell_at w.block.cells c k ≡ None) ×
          ((effect_of w (rescue_step c)).store ≡ Store.Standing (client c) Standing.Absent)
      unfolding effect rescue_of
      rescued =
          (helped (now c l good.inv) (lowest_full w.block.cells c) (finds w.block.cells c)
          (given w c).rescuer.step
          (clause_of w ghosts lines good.inv c l Standing.InRescue s).1
          ).done
          (sym (ap (λ (o : Outcome Records). o.answer) (accepted_is w (rescue_step c) rescue_accepted)) ∙ e)

      -- the world after it differs in one standing and the records
      after_is :
          after w (rescue_step c)
          ≡ placed w (Store.Standing (client c) Standing.Absent) c (effect_of w (rescue_step c)).next
      after_is =
          after_accepted w (rescue_step c) rescue_accepted
          ∙ ap (λ (st : Store). placed w st c (effect_of w (rescue_step c)).next) rescued.2

      -- the client has no entries
      pub no_entries : NoEntries c (after w (rescue_step c))
      no_entries = rw after_is rescued.1

      -- the client has no lines: those of a cell are what the cell holds
      pub no_lines_left : NoLines c lines
      no_lines_left =
          no_lines c lines good.inv.ranged
          (λ k m. (good.inv.base c l).due k m ∙ rw (rescued.0, rescued.1 k m))

      -- the client's own era is then what has been won
      pub era_after : era (after w (rescue_step c)) c ≡ vis (mine_of w ghosts) c
      era_after = rw (after_is, rescued.0) (sym (add-zero _))

-- an operation that is won is one more, exactly where it is open past its swap
past_one : (stage : Stage) → extra (won_of (past_swap stage) (open_in stage)) ≡ cond (past_swap stage) 1 0
past_one stage =
    ⊎_elim
    (λ (t : idle stage ≡ true). rw (stage_idle stage t))
    (λ (t : idle stage ≡ false). by_open (open_in stage) (past_swap stage) t)
    (cases_Bool (idle stage))
  where
    by_open : (o : Option Operation) (b : Bool) → none_open o ≡ false → extra (won_of b o) ≡ cond b 1 0
    by_open None b e = absurd (false≢true (sym e))
    by_open (Some op) true e = refl
    by_open (Some op) false e = refl

-- a failure wins nothing
fail_wins : (w : World) (c : ℕ) → wins c w (fail c) ≡ false
fail_wins w c = rw (idle_then, and-false (eqb c c))
  where
    idle_then : performed w (fail c) ≡ Stage.Idle
    idle_then = ⊎_elim (performed_accepted w (fail c)) (performed_refused w (fail c)) (cases_Bool (accepts w (fail c)))

-- from a failure to the 100 of the rescue the own era has risen by the swaps won meanwhile, and by one more exactly
-- where the open swap had been won
pub completes : CompletesExactlyWhenWon
unfolding CompletesExactlyWhenWon
completes h later c l running in_rescue finished =
    let r = reached h fresh (λ c. none) [] fresh_good in
    let w = run fresh h in
    let n = next w r.ghost (ledger fresh [] h) r.good (fail c) in
    let q = reached later (after w (fail c)) n.ghost _ n.good in
    let first : extra (r.ghost c) ≡ cond (past_swap (records_at w.records c).client.stage) 1 0 =
    ap extra (clause_of w r.ghost (ledger fresh [] h) r.good.inv c l Standing.Running running).1.won_is
    ∙ past_one (records_at w.records c).client.stage
    in
    let second : vis (mine_of (after w (fail c)) n.ghost) c ≡ vis (mine_of w r.ghost) c + 0 =
    n.tally c ∙ rw (fail_wins w c)
    in
    let third = q.tally c in
    let last = era_after (run (after w (fail c)) later) q.ghost _ q.good c l in_rescue finished in
    last ∙ third ∙ (let z : vis (mine_of w r.ghost) c ≡ era w c + extra (r.ghost c) = refl in omega arith)
