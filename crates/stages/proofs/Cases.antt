-- The cases of a step: which stage is performed, whether a load is refused, whether a swap is won. Assumes nothing.
use Prim.Native.Nat.{ℕ}
use mathlib.Core.Bool.{Bool, true, false, false≢true}
use mathlib.Core.Logic.{⊎_elim}
use mathlib.Core.Path.{◌≡◌, refl, sym, subst}
use Rattle.std.specs.Prelude.{Result, Ok, Err}
use Rattle.numbers.specs.declared.Client.{Client}
use Rattle.numbers.specs.declared.answers.Answer.{Answer}
use Rattle.header.specs.Header.{client_in}
use Rattle.block.specs.declared.Operation.{Operation}
use Rattle.stages.specs.declared.Stage.{Stage}
use Rattle.stages.specs.declared.Outcome.{Outcome}
use Rattle.stages.specs.declared.ClientRecord.{ClientRecord}
use Rattle.stages.specs.Stages.{asks_nothing, kept, closed, asked, loaded, load_stage, note_stage, log_stage, won, swap_won, swap_lost, swap_by, swap_stage, cell_stage, era_stage, step_by, idle}
use Rattle.stages.proofs.ByKind.{asked_refuses}

-- a stage with nothing under way is none
pub stage_idle : (stage : Stage) → idle stage ≡ true → stage ≡ Stage.Idle
stage_idle Stage.Idle e = refl
stage_idle (Stage.Load op) e = absurd (false≢true e)
stage_idle (Stage.Note op h) e = absurd (false≢true e)
stage_idle (Stage.Log op h) e = absurd (false≢true e)
stage_idle (Stage.Swap op h) e = absurd (false≢true e)
stage_idle (Stage.Cell op h) e = absurd (false≢true e)
stage_idle (Stage.Era op h) e = absurd (false≢true e)

-- what holds of a step in each of its cases holds of every step
module _ (P : Stage → Outcome ClientRecord → Type 0) (me : Client) (hdr row : ℕ → ℕ)
    (nothing : P Stage.Idle (closed Answer.WrongMoment))
    (load_kept :
    (op : Operation) →
    asked op (hdr op.slot.0) ≡ asks_nothing →
    P (Stage.Load op) (kept op (hdr op.slot.0)))
    (load_refused :
    (op : Operation) (answer : Answer) →
    asked op (hdr op.slot.0) ≡ Err answer →
    P (Stage.Load op) (closed answer))
    (note : (op : Operation) (h : ℕ) → P (Stage.Note op h) (note_stage me op h (record { 0 = row (client_in h) })))
    (log : (op : Operation) (h : ℕ) → P (Stage.Log op h) (log_stage me op h (record { 0 = row me.0 })))
    (swap_won_lem :
    (op : Operation) (h : ℕ) →
    won (hdr op.slot.0) h ≡ true →
    P (Stage.Swap op h) (swap_won me op h (record { 0 = row me.0 })))
    (swap_lost_lem : (op : Operation) (h : ℕ) → won (hdr op.slot.0) h ≡ false → P (Stage.Swap op h) (swap_lost op))
    (cell : (op : Operation) (h : ℕ) → P (Stage.Cell op h) (cell_stage me op h))
    (era : (op : Operation) (h : ℕ) → P (Stage.Era op h) (era_stage me (record { 0 = row me.0 }))) where
  -- a load, by what it asks
  load_cases :
      (op : Operation) (a : Result (Unit {0}) Answer) →
      asked op (hdr op.slot.0) ≡ a →
      P (Stage.Load op) (loaded op (hdr op.slot.0) a)
  load_cases op (Ok u) e = load_kept op e
  load_cases op (Err answer) e = load_refused op answer e

  -- a swap, by whether it is won
  swap_cases :
      (op : Operation) (h : ℕ) (wins : Bool) →
      won (hdr op.slot.0) h ≡ wins →
      P (Stage.Swap op h) (swap_by me op h (record { 0 = row me.0 }) wins)
  swap_cases op h true e = swap_won_lem op h e
  swap_cases op h false e = swap_lost_lem op h e

  -- every step
  pub step_cases : (stage : Stage) → P stage (step_by me hdr row stage)
  unfolding load_stage swap_stage
  step_cases Stage.Idle = nothing
  step_cases (Stage.Load op) = load_cases op (asked op (hdr op.slot.0)) refl
  step_cases (Stage.Note op h) = note op h
  step_cases (Stage.Log op h) = log op h
  step_cases (Stage.Swap op h) = swap_cases op h (won (hdr op.slot.0) h) refl
  step_cases (Stage.Cell op h) = cell op h
  step_cases (Stage.Era op h) = era op h

module _ (P : Answer → Type 0) (me : Client) (hdr row : ℕ → ℕ) where
  -- R2.14: what a step answers: 5 where nothing was under way, else 0, 7, 8, 101 or 100
  pub step_answers :
      P Answer.WrongMoment →
      P Answer.Accepted →
      P Answer.SlotHeld →
      P Answer.SlotFree →
      P Answer.SwapLost →
      P Answer.Finished →
      (stage : Stage) →
      P (step_by me hdr row stage).answer
  unfolding note_stage log_stage cell_stage era_stage
  step_answers five zero seven eight lost hundred =
      step_cases (λ stage s. P s.answer) me hdr row five
      (λ op e. zero)
      (λ op answer e.
      ⊎_elim (λ q. subst P (sym q) seven) (λ q. subst P (sym q) eight) (asked_refuses op.kind _ answer e).1)
      (λ op h. zero)
      (λ op h. zero)
      (λ op h e. zero)
      (λ op h e. lost)
      (λ op h. zero)
      (λ op h. hundred)

  -- R3.0: a step after which something is under way answers 0 or 101
  pub going_answers :
      P Answer.Accepted →
      P Answer.SwapLost →
      (stage : Stage) →
      idle (step_by me hdr row stage).next.stage ≡ false →
      P (step_by me hdr row stage).answer
  unfolding note_stage log_stage cell_stage era_stage
  going_answers zero lost =
      step_cases (λ stage s. idle s.next.stage ≡ false → P s.answer) me hdr row
      (λ e. absurd (false≢true (sym e)))
      (λ op a e. zero)
      (λ op answer a e. absurd (false≢true (sym e)))
      (λ op h e. zero)
      (λ op h e. zero)
      (λ op h w e. zero)
      (λ op h w e. lost)
      (λ op h e. zero)
      (λ op h e. absurd (false≢true (sym e)))
