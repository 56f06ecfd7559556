-- The search for the lowest full cell, seen from cell k: it passes an empty cell, finds a full one, and ends past the
-- last. Assumes nothing.
use Prim.Native.Nat.{ℕ, suc, ◌+◌, ◌-◌, ◌≤◌, ◌<◌}
use mathlib.Core.List.{List}
use mathlib.Core.Path.{◌≡◌, ap, ◌∙◌}
use native.Mathlib.Omega.{arith}
use Rattle.std.specs.Prelude.{Option, Some, None}
use Rattle.numbers.specs.declared.Slot.{Slot}
use Rattle.numbers.specs.Sizes.{cells}
use Rattle.block.specs.Block.{cell_at}
use Rattle.rescue.specs.Search.{found_at, lowest_from}

-- what the search finds from cell k on
abbrev pub from : List ℕ → ℕ → ℕ → Option (ℕ × Slot)
from bytes c k = lowest_from bytes c (cells - k) k

module _ (bytes : List ℕ) (c k : ℕ) where
  -- one cell is looked at
  looks : k < cells → from bytes c k ≡ found_at k (cell_at bytes c k) (from bytes c (k + 1))
  unfolding lowest_from
  looks h =
      let left : cells - k ≡ suc (cells - (k + 1)) = omega arith in
      ap (λ (n : ℕ). lowest_from bytes c n k) left

  pub passes : k < cells → cell_at bytes c k ≡ None → from bytes c k ≡ from bytes c (k + 1)
  passes h e = looks h ∙ ap (λ (held : Option Slot). found_at k held (from bytes c (k + 1))) e

  pub finds : (s : Slot) → k < cells → cell_at bytes c k ≡ Some s → from bytes c k ≡ Some (k, s)
  finds s h e = looks h ∙ ap (λ (held : Option Slot). found_at k held (from bytes c (k + 1))) e

  pub ends : cells ≤ k → from bytes c k ≡ None
  unfolding lowest_from
  ends h =
      let none : cells - k ≡ 0 = omega arith in
      ap (λ (n : ℕ). lowest_from bytes c n k) none
