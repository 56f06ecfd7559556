-- A test of every element of a list, numbered or not, seen from place i, before which each has passed: it goes on past
-- an element that passes, answers false at one that fails, and true past the last. Assumes nothing.
use Prim.Native.Nat.{ℕ, ◌+◌, ◌≤◌, ◌<◌}
use mathlib.Core.Bool.{Bool, true, false, ◌&&◌}
use mathlib.Core.List.{List}
use mathlib.Core.Path.{◌≡◌, refl, sym, ◌∙◌}
use native.Mathlib.Numerals.{add-one}
use lib.ListN.{length, get_or, drop, drop_of_length-le}
use lib.Seq.{drop-cons}
use Rattle.std.specs.List.{list_all}

module _ {A : Type 0} where
  -- the elements before i have passed, and whether all do is left to the rest
  pub record Passed (test : A → Bool) (xs : List A) (i : ℕ) : Type 0 where
    pub rest : list_all test xs ≡ list_all test (drop i xs)

  module _ {test : A → Bool} {xs : List A} where
    pub starts : Passed test xs 0
    starts = record { rest = refl }

    module _ {i : ℕ} (p : Passed test xs i) where
      -- the element at i is looked at
      looks :
          (d : A) →
          i < length xs →
          list_all test xs ≡ (test (get_or xs i d) && list_all test (drop (i + 1) xs))
      looks d h = p.rest ∙ rw (drop-cons xs i d h, add-one)

      pub passes : (d : A) → i < length xs → test (get_or xs i d) ≡ true → Passed test xs (i + 1)
      passes d h e = record { rest = looks d h ∙ rw e }

      pub fails : (d : A) → i < length xs → test (get_or xs i d) ≡ false → false ≡ list_all test xs
      fails d h e = sym (looks d h ∙ rw e)

      pub ends : length xs ≤ i → true ≡ list_all test xs
      ends h = sym (p.rest ∙ rw (drop_of_length-le xs h))
