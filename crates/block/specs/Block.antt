-- The shared words and how each is read (R1.2, R1.5).
use Rattle.std.specs.Prelude.{ℕ, ◌+◌, ◌*◌, cond, List, ltb, eqb, get_or, replicate, Option, Some, None}
use Rattle.numbers.specs.declared.Slot.{Slot}
use Rattle.numbers.specs.Sizes.{clients, slots, cells}
use Rattle.block.specs.declared.Block.{Block}
use Rattle.block.specs.declared.Standing.{Standing}
use Rattle.block.specs.declared.Entry.{Entry}

-- R1.2: the byte of an empty cell, which names no slot
abbrev pub empty : ℕ
empty = 255

-- R1.1: the cells of all clients
abbrev pub all_cells : ℕ
all_cells = clients * cells

-- R1.2: the header of slot s
abbrev pub header_at : List ℕ → ℕ → ℕ
header_at headers s = get_or headers s 0

-- R1.2: a cell is empty, or a slot number
abbrev pub cell_in : ℕ → Option Slot
cell_in byte = cond (eqb byte empty) None (Some (record { 0 = byte }))

-- R1.1: where cell k of client c lies among the cells
abbrev pub cell_index : ℕ → ℕ → ℕ
cell_index c k = c * cells + k

-- R1.2: what cell k of client c holds
abbrev pub cell_at : List ℕ → ℕ → ℕ → Option Slot
cell_at bytes c k = cond (ltb k cells) (cell_in (get_or bytes (cell_index c k) empty)) None

-- R1.2: the log of client c
abbrev pub log_at : List (Option Entry) → ℕ → Option Entry
log_at logs c = get_or logs c None

-- R1.2: the standing of client c
abbrev pub standing_at : List Standing → ℕ → Standing
standing_at standings c = get_or standings c Standing.Absent

-- R1.5: all headers 0, cells empty, logs none, clients absent
unfoldable pub fresh_block : Block
fresh_block =
    record {
      headers = replicate slots 0;
      cells = replicate all_cells empty;
      logs = replicate clients None;
      standings = replicate clients Standing.Absent;
    }
