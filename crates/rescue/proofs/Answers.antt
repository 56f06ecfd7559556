-- What a rescue step answers: 0, 101 or 100. Assumes nothing.
use Prim.Native.Nat.{ℕ}
use mathlib.Core.Bool.{Bool, true, false}
use mathlib.Core.Path.{◌≡◌, refl}
use Rattle.std.specs.Prelude.{Option, Some, None}
use Rattle.numbers.specs.declared.Client.{Client}
use Rattle.numbers.specs.declared.answers.Answer.{Answer}
use Rattle.numbers.specs.declared.Slot.{Slot}
use Rattle.block.specs.declared.Entry.{Entry}
use Rattle.stages.specs.declared.Stage.{Stage}
use Rattle.stages.specs.Stages.{idle, step_by}
use Rattle.stages.proofs.Cases.{going_answers}
use Rattle.rescue.specs.declared.RescuerStep.{RescuerStep}
use Rattle.rescue.specs.Rescue.{read_log, first_condition, second_condition, write_cell, raise_era, searched, as_rescue, rescue_by}

module _ (P : Answer → Type 0) (zero : P Answer.Accepted) (lost : P Answer.SwapLost) (hundred : P Answer.Finished)
    (c : Client) (hdr row : ℕ → ℕ) where
  -- a stage of the opened release
  release_answers : (stage : Stage) → P (as_rescue (step_by c hdr row stage)).answer
  release_answers stage = by_idle (idle (step_by c hdr row stage).next.stage) refl
    where
      by_idle :
          (t : Bool) →
          idle (step_by c hdr row stage).next.stage ≡ t →
          P (as_rescue (step_by c hdr row stage)).answer
      by_idle true e = rw e zero
      by_idle false e = rw e (going_answers P c hdr row zero lost stage e)

  -- the log that is read
  read_answers : (log : Option Entry) → P (read_log log).answer
  read_answers None = zero
  read_answers (Some e) = zero

  -- the search
  search_answers : (found : Option (ℕ × Slot)) → P (searched c found).answer
  search_answers None = hundred
  search_answers (Some (k, s)) = zero

  -- every rescue step
  pub rescue_answers :
      (col : ℕ → ℕ) (log : Option Entry) (found : Option (ℕ × Slot)) (step : RescuerStep) → P (rescue_by c hdr row col log found step).answer
  unfolding first_condition second_condition write_cell raise_era
  rescue_answers col log found RescuerStep.ReadLog = read_answers log
  rescue_answers col log found (RescuerStep.Condition1 e) = zero
  rescue_answers col log found (RescuerStep.Condition2 e j) = zero
  rescue_answers col log found (RescuerStep.Cell e) = zero
  rescue_answers col log found RescuerStep.Era = zero
  rescue_answers col log found RescuerStep.Search = search_answers found
  rescue_answers col log found (RescuerStep.Release r) = release_answers r.stage
