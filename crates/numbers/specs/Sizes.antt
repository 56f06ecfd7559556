-- How many there are of each thing, and when a number names one (R1.1, R1.7).
use Rattle.std.specs.Prelude.{ℕ, ◌+◌, ◌%◌, cond, ltb, Option, Some, None, Result, Ok, Err}
use Rattle.numbers.specs.declared.Era.{Era}
use Rattle.numbers.specs.declared.Client.{Client}
use Rattle.numbers.specs.declared.Slot.{Slot}
use Rattle.numbers.specs.declared.answers.Answer.{Answer}

-- R1.1: eight clients, numbered from 0
abbrev pub clients : ℕ
clients = 8

-- R1.1: sixty-four slots, numbered from 0
abbrev pub slots : ℕ
slots = 64

-- R1.1: sixteen cells for each client, numbered from 0
abbrev pub cells : ℕ
cells = 16

-- R1.1, R2.5: no lease and no attach opens at this own era or above
abbrev pub era_stop : ℕ
era_stop = 4294967200

-- R1.12, R2.18: no era of a history is above this: the era stop, and one for each cell that can still be let go
abbrev pub era_limit : ℕ
era_limit = 4294967216

-- R1.12: no count of a history is above this: every cell of every client
abbrev pub count_limit : ℕ
count_limit = 128

-- R1.1: the number, where it is one of the first n
abbrev pub below : ℕ → ℕ → Option ℕ
below n number = cond (ltb number n) (Some number) None

-- R1.7, R2.14: the client that a number names, else 1
abbrev pub checked_client : ℕ → Result Client Answer
checked_client n = cond (ltb n clients) (Ok (record { 0 = n })) (Err Answer.NoSuchClient)

-- R1.7, R2.14: the slot that a number names, else 3
abbrev pub checked_slot : ℕ → Result Slot Answer
checked_slot n = cond (ltb n slots) (Ok (record { 0 = n })) (Err Answer.NoSuchSlot)

-- R1.1, R2.14: the cell that a number names, else 2
abbrev pub checked_cell : ℕ → Result ℕ Answer
checked_cell n = cond (ltb n cells) (Ok n) (Err Answer.NoSuchCell)

-- R3.6, R4.5: one more, in an era's 32 bits
abbrev pub raised : Era → Era
raised e = record { 0 = (e.0 + 1) % 4294967296 }
