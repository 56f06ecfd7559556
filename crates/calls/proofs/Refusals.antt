-- Demand 1: a refusal leaves everything as it was, and 7 and 8 end the operation and nothing else. By the cases of a
-- call: a check that does not pass hands back what was given, and of the effects only a step, a rescue step and a look
-- up answer something else than 0. Assumes nothing.
use Prim.Native.Nat.{ℕ}
use mathlib.Core.Bool.{Bool, true, false, cond, false≢true}
use mathlib.Core.List.{List}
use mathlib.Core.Logic.{⊎_elim}
use mathlib.Core.Path.{◌≡◌, refl, sym, ap, ◌∙◌}
use Rattle.std.specs.Prelude.{Option, Some, None}
use Rattle.std.proofs.lemmas.Bool.{cond_both}
use Rattle.numbers.specs.declared.answers.Answer.{Answer}
use Rattle.numbers.specs.declared.Client.{Client}
use Rattle.numbers.specs.declared.Slot.{Slot}
use Rattle.block.specs.declared.Block.{Block}
use Rattle.block.specs.declared.store.Store.{Store}
use Rattle.block.specs.declared.Entry.{Entry}
use Rattle.block.specs.Block.{cell_at, header_at, log_at}
use Rattle.block.specs.Matrix.{seen_era}
use Rattle.block.specs.Store.{block_after, eras_after}
use Rattle.stages.specs.declared.Stage.{Stage}
use Rattle.stages.specs.declared.Outcome.{Outcome}
use Rattle.stages.specs.Stages.{step_of, note_stage, log_stage, cell_stage, era_stage, closed, releasing}
use Rattle.stages.proofs.ByKind.{asked_refuses}
use Rattle.stages.proofs.Cases.{step_cases}
use Rattle.rescue.specs.declared.RescuerStep.{RescuerStep}
use Rattle.rescue.specs.Rescue.{rescue_of}
use Rattle.rescue.specs.Search.{lowest_full}
use Rattle.rescue.proofs.Answers.{rescue_answers}
use Rattle.limits.specs.Limits.{within}
use Rattle.calls.specs.declared.Call.{Call}
use Rattle.calls.specs.declared.Records.{Records}
use Rattle.calls.specs.Checks.{unchanged}
use Rattle.calls.specs.Calls.{client, of_client, of_rescuer, looked, shown, checked_call}
use Rattle.calls.specs.Demands.{leaves_everything, ends_operation, ended, Demand1}
use Rattle.calls.proofs.Cases.{plain_cases}

-- what an outcome owes to the records that its call was given
record Owes (given : Records) (o : Outcome Records) : Type 0 where
  nothing_written : leaves_everything o.answer ≡ true → o.store ≡ Store.Nothing
  same_records : leaves_everything o.answer ≡ true → o.next ≡ given
  nothing_swapped : ends_operation o.answer ≡ true → o.store ≡ Store.Nothing
  ended_records : ends_operation o.answer ≡ true → o.next ≡ ended given

-- an answer that is neither owes nothing
goes_on : (given : Records) (o : Outcome Records) → leaves_everything o.answer ≡ false → ends_operation o.answer ≡ false → Owes given o
goes_on given o l e =
    record {
      nothing_written = λ t. absurd (false≢true (sym l ∙ t));
      same_records = λ t. absurd (false≢true (sym l ∙ t));
      nothing_swapped = λ t. absurd (false≢true (sym e ∙ t));
      ended_records = λ t. absurd (false≢true (sym e ∙ t));
    }

-- a refusal hands back what was given
refusal : (given : Records) (answer : Answer) → ends_operation answer ≡ false → Owes given (unchanged answer given)
refusal given answer e =
    record {
      nothing_written = λ t. refl;
      same_records = λ t. refl;
      nothing_swapped = λ t. refl;
      ended_records = λ t. absurd (false≢true (sym e ∙ t));
    }

-- 7 and 8 hand back the records with the operation ended
closing : (given : Records) (answer : Answer) → leaves_everything answer ≡ false → Owes given (of_client (closed answer) given)
closing given answer l =
    record {
      nothing_written = λ t. refl;
      same_records = λ t. absurd (false≢true (sym l ∙ t));
      nothing_swapped = λ t. refl;
      ended_records = λ t. refl;
    }

-- an answer that neither leaves everything nor ends an operation
abbrev GoesOn : Answer → Type 0
GoesOn answer = (leaves_everything answer ≡ false) × (ends_operation answer ≡ false)

module _ (given : Records) where
  -- a step: only the load stage ends an operation, and with nothing under way everything stays
  step_owes :
      (me : Client) (headers : List ℕ) (eras : List (List ℕ)) (stage : Stage) →
      given.client.stage ≡ stage →
      Owes given (of_client (step_of me headers eras stage) given)
  unfolding step_of note_stage log_stage cell_stage era_stage
  step_owes me headers eras =
      step_cases (λ stage s. given.client.stage ≡ stage → Owes given (of_client s given)) me (header_at headers)
      (λ j. (seen_era eras me.0 j).0)
      (λ e. record {
        nothing_written = λ t. refl;
        same_records = λ t. λ i. record { client = record { stage = sym e i }; rescuer = given.rescuer };
        nothing_swapped = λ t. refl;
        ended_records = λ t. refl;
      })
      (λ op a e. goes_on given _ refl refl)
      (λ op answer a e.
      ⊎_elim
      (λ (q : answer ≡ Answer.SlotHeld). rw q (closing given Answer.SlotHeld refl))
      (λ (q : answer ≡ Answer.SlotFree). rw q (closing given Answer.SlotFree refl))
      (asked_refuses op.kind _ answer a).1)
      (λ op h e. goes_on given _ refl refl)
      (λ op h e. goes_on given _ refl refl)
      (λ op h w e. goes_on given _ refl refl)
      (λ op h w e. goes_on given _ refl refl)
      (λ op h e. goes_on given _ refl refl)
      (λ op h e. goes_on given _ refl refl)

  -- a rescue step goes on or answers 100
  rescue_owes :
      (c : Client) (headers bytes : List ℕ) (log : Option Entry) (eras : List (List ℕ)) (step : RescuerStep) →
      Owes given (of_rescuer (rescue_of c headers bytes log eras step) given)
  unfolding rescue_of
  rescue_owes c headers bytes log eras step =
      let g =
      rescue_answers GoesOn (refl, refl) (refl, refl) (refl, refl) c (header_at headers) (λ j. (seen_era eras c.0 j).0)
      (λ j. (seen_era eras j c.0).0) log (lowest_full bytes c.0) step
      in
      goes_on given _ g.0 g.1

-- no look up ends an operation
looked_ends_none : (stage : Stage) (held : Option Slot) (k : ℕ) → ends_operation (looked stage held k) ≡ false
unfolding looked
looked_ends_none stage held k = tested (releasing stage k) held
  where
    tested : (test : Bool) (held : Option Slot) → ends_operation (cond test Answer.ShowsNothing (shown held)) ≡ false
    tested true held = refl
    tested false None = refl
    tested false (Some s) = refl

-- what each call owes, whatever it is given
call_owes : (call : Call) (b : Block) (eras : List (List ℕ)) (given : Records) → Owes given (checked_call call b eras given)
unfolding checked_call
call_owes call b eras given =
    cond_both (within call.client b eras given.client given.rescuer) _ _ (Owes given)
    (λ e. plain_cases (Owes given) given
    (refusal given _ refl) (refusal given _ refl) (refusal given _ refl) (refusal given _ refl)
    (refusal given _ refl) (refusal given _ refl) (refusal given _ refl) (refusal given _ refl)
    b eras call.client
    (λ r store. goes_on given _ refl refl)
    (step_owes given (client call.client) b.headers eras given.client.stage refl)
    (rescue_owes given (client call.client) b.headers b.cells (log_at b.logs call.client) eras
    given.rescuer.step)
    (λ k. refusal given _ (looked_ends_none given.client.stage (cell_at b.cells call.client k) k))
    call.act)
    (λ e. refusal given Answer.BeyondLimits refl)

-- D1: any call, any numbers, any words
pub demand1 : (call : Call) (b : Block) (eras : List (List ℕ)) (given : Records) → Demand1 call b eras given
demand1 call b eras given =
    let o = call_owes call b eras given in
    record {
      leaves_block = λ t. ap (λ (s : Store). block_after s b) (o.nothing_written t);
      leaves_eras = λ t. ap (λ (s : Store). eras_after s eras) (o.nothing_written t);
      leaves_records = λ t. o.same_records t;
      ends_block = λ t. ap (λ (s : Store). block_after s b) (o.nothing_swapped t);
      ends_eras = λ t. ap (λ (s : Store). eras_after s eras) (o.nothing_swapped t);
      ends_the_operation = λ t. o.ended_records t;
    }
