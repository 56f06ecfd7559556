-- What differs by the kind of an operation: what its load asks, what its won swap does to the count, what it writes.
-- Assumes nothing.
use Prim.Native.Nat.{ℕ, ◌+◌, ◌-◌}
use mathlib.Core.Bool.{Bool, true, false, false≢true, cond}
use mathlib.Core.Logic.{◌⊎◌, inl, inr}
use mathlib.Core.Path.{◌≡◌, refl, sym}
use native.Mathlib.Omega.{arith}
use borrow.Author.Tests.{eqb-true}
use Rattle.std.specs.Prelude.{Some, None, Err}
use Rattle.numbers.specs.declared.answers.Answer.{Answer}
use Rattle.header.specs.Header.{count_in, is_free}
use Rattle.block.specs.declared.Kind.{Kind}
use Rattle.block.specs.declared.Operation.{Operation}
use Rattle.stages.specs.Stages.{asks_nothing, asked_by, count_after, is_release, written}

-- an operation that is no release and was not refused raises the count by one
pub count_entered :
    (kind : Kind) (h : ℕ) →
    is_release kind ≡ false →
    asked_by kind h ≡ asks_nothing →
    count_after kind (count_in h) ≡ count_in h + 1
count_entered Kind.Lease h r a = by_free (is_free h) refl a
  where
    by_free :
        (free : Bool) →
        is_free h ≡ free →
        cond free asks_nothing (Err Answer.SlotHeld) ≡ asks_nothing →
        1 ≡ count_in h + 1
    by_free true e q = let z : count_in h ≡ 0 = eqb-true _ _ e in omega arith
    by_free false e q = cc
count_entered Kind.Attach h r a = refl
count_entered Kind.Release h r a = absurd (false≢true (sym r))

-- a release lowers it by one
pub count_struck : (kind : Kind) (n : ℕ) → is_release kind ≡ true → count_after kind n ≡ n - 1
count_struck Kind.Lease n r = absurd (false≢true r)
count_struck Kind.Attach n r = absurd (false≢true r)
count_struck Kind.Release n r = refl

-- a load is refused with 7 or 8, and never for a release
pub asked_refuses :
    (kind : Kind) (h : ℕ) (answer : Answer) →
    asked_by kind h ≡ Err answer →
    (is_release kind ≡ false) × ((answer ≡ Answer.SlotHeld) ⊎ (answer ≡ Answer.SlotFree))
asked_refuses Kind.Lease h answer e = (refl, inl (by_free (is_free h) e))
  where
    by_free :
        (free : Bool) →
        cond free asks_nothing (Err Answer.SlotHeld) ≡ Err answer →
        answer ≡ Answer.SlotHeld
    by_free true q = cc
    by_free false q = cc
asked_refuses Kind.Attach h answer e = (refl, inr (by_free (is_free h) e))
  where
    by_free :
        (free : Bool) →
        cond free (Err Answer.SlotFree) asks_nothing ≡ Err answer →
        answer ≡ Answer.SlotFree
    by_free true q = cc
    by_free false q = cc
asked_refuses Kind.Release h answer e = cc

-- a release empties its cell
pub written_release : (op : Operation) → is_release op.kind ≡ true → written op ≡ None
unfolding written
written_release op e = rw e

-- every other operation writes its slot
pub written_entry : (op : Operation) → is_release op.kind ≡ false → written op ≡ Some op.slot
unfolding written
written_entry op e = rw e
