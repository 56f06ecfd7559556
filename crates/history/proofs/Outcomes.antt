-- A call is accepted and its effect is the outcome, or it changes nothing; and what the ledger makes of it. Assumes
-- nothing.
use Prim.Native.Nat.{ℕ, ◌<◌}
use mathlib.Core.Bool.{Bool, true, false, and-false}
use mathlib.Core.List.{List, [], ◌∷◌}
use mathlib.Core.Logic.{⊎_elim}
use mathlib.Core.Path.{◌≡◌, refl, ap, ◌∙◌}
use lib.Seq.{set-get_or}
use borrow.Author.Tests.{ltb-true}
use Rattle.std.specs.Prelude.{Option, Some, None}
use Rattle.std.proofs.lemmas.Bool.{cases_Bool, and_parts, both_ways}
use Rattle.numbers.specs.declared.answers.Answer.{Answer}
use Rattle.numbers.specs.Sizes.{clients}
use Rattle.block.specs.declared.Operation.{Operation}
use Rattle.stages.specs.declared.Stage.{Stage}
use Rattle.stages.specs.declared.Outcome.{Outcome}
use Rattle.stages.specs.Stages.{won, is_release, open_in, idle}
use Rattle.limits.specs.Limits.{within}
use Rattle.calls.specs.declared.Call.{Call}
use Rattle.calls.specs.declared.Records.{Records}
use Rattle.calls.specs.Checks.{Check, after_checks, unchanged}
use Rattle.calls.specs.Calls.{nothing, checks, effect, plain_call, checked_call, stage_of}
use Rattle.world.specs.World.{World, outcome, after_by, after}
use Rattle.history.specs.Ledger.{Line, opened_by, by_stage, all_pass, given_to, accepts, performed_by, performed, entered_by, entered}
use Rattle.history.proofs.View.{hdr_of, placed}

-- where all checks pass the outcome is the effect
all_pass_lem : (cs : List Check) (given : Records) (o : Outcome Records) → all_pass cs ≡ true → after_checks cs given o ≡ o
all_pass_lem [] given o e = refl
all_pass_lem (ch ∷ cs) given o e =
    rw (and_parts ch.passes (all_pass cs) e).0 (all_pass_lem cs given o (and_parts ch.passes (all_pass cs) e).1)

-- where a check does not pass nothing changes
some_fails :
    (cs : List Check) (given : Records) (o : Outcome Records) →
    all_pass cs ≡ false →
    (ans : Answer) × (after_checks cs given o ≡ unchanged ans given)
some_fails [] given o e = absurd (both_ways true e refl)
some_fails (ch ∷ cs) given o e =
    ⊎_elim
    (λ (t : ch.passes ≡ true).
    let f : all_pass cs ≡ false = rw t at e in
    let r = some_fails cs given o f in (r.0, rw t r.1))
    (λ (t : ch.passes ≡ false). (ch.refusal, rw t))
    (cases_Bool ch.passes)

-- where something was under way a call opens nothing
pub none_opened :
    (c : ℕ) (before : Stage) (after : Option Operation) (lines : List Line) →
    idle before ≡ false →
    opened_by c before after lines ≡ lines
none_opened c before None lines e = refl
none_opened c before (Some op) lines e = rw (e, and-false (is_release op.kind))

-- a call that leaves the stage opens nothing
pub same_opened : (c : ℕ) (stage : Stage) (lines : List Line) → opened_by c stage (open_in stage) lines ≡ lines
same_opened c stage lines = by_open (open_in stage) refl
  where
    by_open : (o : Option Operation) → open_in stage ≡ o → opened_by c stage o lines ≡ lines
    by_open None e = refl
    by_open (Some op) e = none_opened c stage (Some op) lines (rw e)

-- what a call does once it is accepted
abbrev pub effect_of : World → Call → Outcome Records
effect_of w call = effect call.act call.client w.block w.eras (given_to w call)

-- the checks of a call
abbrev pub checks_of : World → Call → List Check
checks_of w call = checks call w.block w.eras (given_to w call)

-- whether the words that a call is given are within their limits
abbrev limits_of : World → Call → Bool
limits_of w call =
    within call.client w.block w.eras (given_to w call).client (given_to w call).rescuer

-- what the ledger makes of an accepted call
abbrev pub lines_after : World → Call → List Line → List Line
lines_after w call lines =
    opened_by call.client (given_to w call).client.stage (open_in (effect_of w call).next.client.stage)
    (by_stage won (hdr_of w) call.client (stage_of call.act (given_to w call)) lines)

module _ (w : World) (call : Call) where
  -- the outcome of an accepted call is its effect
  pub accepted_is : accepts w call ≡ true → outcome w call ≡ effect_of w call
  unfolding checked_call plain_call
  accepted_is e =
      rw (and_parts (limits_of w call) (all_pass (checks_of w call)) e).0
      (all_pass_lem (checks_of w call) (given_to w call) (effect_of w call)
      (and_parts (limits_of w call) (all_pass (checks_of w call)) e).1)

  -- a refused call leaves everything
  pub refused_is : accepts w call ≡ false → (ans : Answer) × (outcome w call ≡ unchanged ans (given_to w call))
  unfolding checked_call plain_call
  refused_is e =
      ⊎_elim
      (λ (t : limits_of w call ≡ true).
      let f : all_pass (checks_of w call) ≡ false = rw t at e in
      let r = some_fails (checks_of w call) (given_to w call) (effect_of w call) f in
      (r.0, rw t r.1))
      (λ (t : limits_of w call ≡ false). (Answer.BeyondLimits, rw t))
      (cases_Bool (limits_of w call))

  -- the world of an accepted call
  pub after_accepted :
      accepts w call ≡ true →
      after w call ≡ placed w (effect_of w call).store call.client (effect_of w call).next
  unfolding after_by
  after_accepted e = ap (λ (o : Outcome Records). placed w o.store call.client o.next) (accepted_is e)

  -- a refused call leaves the world
  pub after_refused : accepts w call ≡ false → after w call ≡ w
  unfolding after_by
  after_refused e =
      ap (λ (o : Outcome Records). placed w o.store call.client o.next) (refused_is e).1
      ∙ (λ i. record { block = w.block; eras = w.eras; records = set-get_or w.records call.client nothing i })

  -- the stage that an accepted call performs
  pub performed_accepted : accepts w call ≡ true → performed w call ≡ stage_of call.act (given_to w call)
  unfolding performed_by
  performed_accepted e = rw e

  -- a refused call performs no stage
  pub performed_refused : accepts w call ≡ false → performed w call ≡ Stage.Idle
  unfolding performed_by
  performed_refused e = rw e

  -- what the ledger enters of an accepted call
  pub entered_accepted : (lines : List Line) → accepts w call ≡ true → entered w call lines ≡ lines_after w call lines
  unfolding entered_by
  entered_accepted lines e = rw (performed_accepted e, accepted_is e)

  -- of a refused call the ledger enters nothing
  pub entered_refused : (lines : List Line) → accepts w call ≡ false → entered w call lines ≡ lines
  unfolding entered_by
  entered_refused lines e =
      rw (performed_refused e, (refused_is e).1) (same_opened call.client (given_to w call).client.stage lines)

-- every check of the list, passed
abbrev pub Passed : List Check → Type 0
Passed [] = Unit {0}
Passed (ch ∷ cs) = (ch.passes ≡ true) × Passed cs

-- a list that passes has every check passed
passed : (cs : List Check) → all_pass cs ≡ true → Passed cs
passed [] e = tt
passed (ch ∷ cs) e = ((and_parts ch.passes (all_pass cs) e).0, passed cs (and_parts ch.passes (all_pass cs) e).1)

-- a list whose every check has passed passes
pub all_passed : (cs : List Check) → Passed cs → all_pass cs ≡ true
all_passed [] p = refl
all_passed (ch ∷ cs) p = rw p.0 (all_passed cs p.1)

-- the checks of an accepted call have passed
pub passes_accepted : (w : World) (call : Call) → accepts w call ≡ true → Passed (checks_of w call)
passes_accepted w call e =
    passed (checks_of w call) (and_parts (limits_of w call) (all_pass (checks_of w call)) e).1

-- the client of an accepted call is one that there is
pub client_passes : (w : World) (call : Call) → Passed (checks_of w call) → call.client < clients
client_passes w call p = ltb-true call.client clients p.0
