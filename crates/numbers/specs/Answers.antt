-- The number of each answer (R2.14).
use Rattle.std.specs.Prelude.{ℕ, ◌+◌}
use Rattle.numbers.specs.declared.answers.Answer.{Answer}
use Rattle.numbers.specs.declared.answers.Answer.TheVariants.{Accepted, NoSuchClient, NoSuchCell, NoSuchSlot, WrongStanding, WrongMoment, WrongCell, SlotHeld, SlotFree, AtEraStop, StillHolding, BeyondLimits, NoSuchCall, CutRecord, Finished, SwapLost, ShowsNothing, Shows}

-- R2.14: the answers and their numbers, in the table's order
abbrev pub number_of : Answer → ℕ
number_of Accepted = 0
number_of NoSuchClient = 1
number_of NoSuchCell = 2
number_of NoSuchSlot = 3
number_of WrongStanding = 4
number_of WrongMoment = 5
number_of WrongCell = 6
number_of SlotHeld = 7
number_of SlotFree = 8
number_of AtEraStop = 9
number_of StillHolding = 10
number_of BeyondLimits = 11
number_of NoSuchCall = 12
number_of CutRecord = 13
number_of Finished = 100
number_of SwapLost = 101
number_of ShowsNothing = 199
number_of (Shows s) = 200 + s.0
