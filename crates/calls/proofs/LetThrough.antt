-- A call asks its checks one after the other: what they let through, settled, is the outcome of `after_checks`. Assumes
-- nothing.
use Prim.Native.Nat.{ℕ}
use mathlib.Core.Bool.{Bool, true, false, cond}
use mathlib.Core.List.{List, [], ◌∷◌}
use mathlib.Core.Path.{◌≡◌, refl}
use Rattle.std.specs.Prelude.{Result, Err}
use Rattle.numbers.specs.declared.Era.{Era}
use Rattle.numbers.specs.declared.answers.Answer.{Answer}
use Rattle.block.specs.declared.Kind.{Kind}
use Rattle.block.specs.declared.Standing.{Standing}
use Rattle.stages.specs.declared.Outcome.{Outcome}
use Rattle.calls.specs.declared.Records.{Records}
use Rattle.calls.specs.Checks.{Check, refused, after_checks, let_through, settled}
use Rattle.calls.specs.Calls.{opened, asks_to_open, open_of}

module _ (given : Records) where
  -- one check more, whether it passes or not
  one_more :
      (passes : Bool) (refusal : Answer) (rest : Result (Outcome Records) Answer) (o : Outcome Records) →
      settled given rest ≡ o →
      settled given (cond passes rest (Err refusal)) ≡ cond passes o (refused refusal given)
  one_more true refusal rest o e = e
  one_more false refusal rest o e = refl

  pub settles : (checks : List Check) (o : Outcome Records) → settled given (let_through checks o) ≡ after_checks checks given o
  settles [] o = refl
  settles (check ∷ rest) o =
      one_more check.passes check.refusal (let_through rest o) (after_checks rest given o) (settles rest o)

-- so lease and attach
pub opens :
    (kind : Kind) (c k s : ℕ) (found : Standing) (bytes : List ℕ) (own : Era) (given : Records) →
    settled given (let_through (asks_to_open c k s found bytes own given) (opened kind k (record { 0 = s }) given))
    ≡ open_of kind c k s found bytes own given
opens kind c k s found bytes own given = settles given (asks_to_open c k s found bytes own given) (opened kind k (record { 0 = s }) given)
