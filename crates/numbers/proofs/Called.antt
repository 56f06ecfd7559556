-- What a branch on `!f(x)` tells, where `f` ensures that its result is the test t. Assumes nothing.
use mathlib.Core.Bool.{Bool, true, false, not}
use mathlib.Core.Path.{◌≡◌, sym, ◌∙◌}
use borrow.Author.Tests.{not-true, not-false}

module _ {r t : Bool} (ensures : r ≡ t) where
  pub was_true : not r ≡ false → t ≡ true
  was_true h = sym ensures ∙ not-false r h

  pub was_false : not r ≡ true → t ≡ false
  was_false h = sym ensures ∙ not-true r h
