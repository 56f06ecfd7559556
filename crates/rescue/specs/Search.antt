-- The lowest cell that holds a slot (R4.6).
use Rattle.std.specs.Prelude.{ℕ, zero, suc, ◌+◌, List, Option, Some, None}
use Rattle.numbers.specs.declared.Slot.{Slot}
use Rattle.numbers.specs.Sizes.{cells}
use Rattle.block.specs.Block.{cell_at}

-- cell k itself where it holds a slot, else what the rest of the search finds
abbrev pub found_at : ℕ → Option Slot → Option (ℕ × Slot) → Option (ℕ × Slot)
found_at k None rest = rest
found_at k (Some s) rest = Some (k, s)

-- the lowest full cell of client c among the n cells from k on
unfoldable pub lowest_from : List ℕ → ℕ → ℕ → ℕ → Option (ℕ × Slot)
lowest_from bytes c zero k = None
lowest_from bytes c (suc n) k = found_at k (cell_at bytes c k) (lowest_from bytes c n (k + 1))

-- R4.6: the lowest full cell of client c
abbrev pub lowest_full : List ℕ → ℕ → Option (ℕ × Slot)
lowest_full bytes c = lowest_from bytes c cells 0
