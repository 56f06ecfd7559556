-- No call of words within their limits answers 11, whatever it is given: by the cases of a call, of a step and of a
-- rescue step. Assumes nothing.
use Prim.Native.Nat.{ℕ}
use mathlib.Core.Bool.{Bool, true, false, cond}
use mathlib.Core.List.{List}
use mathlib.Core.Path.{◌≡◌}
use Rattle.std.specs.Prelude.{Option, Some, None}
use Rattle.numbers.specs.declared.answers.Answer.{Answer}
use Rattle.numbers.specs.declared.Slot.{Slot}
use Rattle.block.specs.declared.Block.{Block}
use Rattle.block.specs.Block.{header_at, cell_at, log_at}
use Rattle.block.specs.Matrix.{seen_era}
use Rattle.stages.specs.declared.Stage.{Stage}
use Rattle.stages.specs.declared.Outcome.{Outcome}
use Rattle.stages.specs.Stages.{releasing, step_of}
use Rattle.stages.proofs.Cases.{step_answers}
use Rattle.rescue.specs.Search.{lowest_full}
use Rattle.rescue.specs.Rescue.{rescue_of}
use Rattle.rescue.proofs.Answers.{rescue_answers}
use Rattle.calls.specs.declared.Call.{Call}
use Rattle.calls.specs.declared.Records.{Records}
use Rattle.calls.specs.Calls.{client, looked, shown, plain_call}
use Rattle.calls.proofs.Cases.{plain_cases}

-- an answer that is not 11
abbrev Told : Answer → Type 0
Told answer = answer ≡ Answer.BeyondLimits → ⊥

-- a look up
look_told : (stage : Stage) (held : Option Slot) (k : ℕ) → Told (looked stage held k)
unfolding looked
look_told stage held k = by_cell (releasing stage k) held
  where
    by_cell : (test : Bool) (held : Option Slot) → Told (cond test Answer.ShowsNothing (shown held))
    by_cell true held = λ e. cc
    by_cell false None = λ e. cc
    by_cell false (Some s) = λ e. cc

-- every call
pub never_beyond :
    (call : Call) (b : Block) (eras : List (List ℕ)) (given : Records) → Told (plain_call call b eras given).answer
unfolding step_of rescue_of
never_beyond call b eras given =
    plain_cases (λ (o : Outcome Records). Told o.answer) given
    (λ e. cc)
    (λ e. cc)
    (λ e. cc)
    (λ e. cc)
    (λ e. cc)
    (λ e. cc)
    (λ e. cc)
    (λ e. cc)
    b eras call.client
    (λ r store. accepted)
    (step_answers Told (client call.client) (header_at b.headers) (λ j. (seen_era eras call.client j).0)
    (λ e. cc) accepted (λ e. cc) (λ e. cc) lost
    finished given.client.stage)
    (rescue_answers Told accepted lost finished (client call.client) (header_at b.headers)
    (λ j. (seen_era eras call.client j).0) (λ j. (seen_era eras j call.client).0) (log_at b.logs call.client)
    (lowest_full b.cells call.client) given.rescuer.step)
    (λ k. look_told given.client.stage (cell_at b.cells call.client k) k)
    call.act
  where
    accepted : Told Answer.Accepted
    accepted = λ e. cc

    lost : Told Answer.SwapLost
    lost = λ e. cc

    finished : Told Answer.Finished
    finished = λ e. cc
