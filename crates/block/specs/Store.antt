-- The one word that a step or a call writes (R3.0, R2.16), and each of the shared words after it.
use Rattle.std.specs.Prelude.{ℕ, cond, List, [], ltb, get_or, set, Option, Some, None}
use Rattle.numbers.specs.declared.Era.{Era}
use Rattle.numbers.specs.declared.Slot.{Slot}
use Rattle.numbers.specs.Sizes.{cells}
use Rattle.block.specs.declared.Block.{Block}
use Rattle.block.specs.declared.store.Store.{Store}
use Rattle.block.specs.declared.Entry.{Entry}
use Rattle.block.specs.declared.Standing.{Standing}
use Rattle.block.specs.Block.{empty, cell_index}

-- R1.2: what a cell holds, as its byte
abbrev pub byte_of : Option Slot → ℕ
byte_of None = empty
byte_of (Some s) = s.0

-- the cells with cell k of client c written
abbrev pub cells_with : List ℕ → ℕ → ℕ → Option Slot → List ℕ
cells_with bytes c k held = cond (ltb k cells) (set bytes (cell_index c k) (byte_of held)) bytes

-- the matrix with what i has seen of j written
abbrev pub with_era : List (List ℕ) → ℕ → ℕ → Era → List (List ℕ)
with_era m i j e = set m i (set (get_or m i []) j e.0)

-- the headers after a store
abbrev pub headers_after : Store → List ℕ → List ℕ
headers_after Store.Nothing headers = headers
headers_after (Store.Header s w) headers = set headers s.0 w
headers_after (Store.Cell c k held) headers = headers
headers_after (Store.Log c e) headers = headers
headers_after (Store.Era i j e) headers = headers
headers_after (Store.Standing c s) headers = headers

-- the cells after a store
abbrev pub cells_after : Store → List ℕ → List ℕ
cells_after Store.Nothing bytes = bytes
cells_after (Store.Header s w) bytes = bytes
cells_after (Store.Cell c k held) bytes = cells_with bytes c.0 k held
cells_after (Store.Log c e) bytes = bytes
cells_after (Store.Era i j e) bytes = bytes
cells_after (Store.Standing c s) bytes = bytes

-- the logs after a store
abbrev pub logs_after : Store → List (Option Entry) → List (Option Entry)
logs_after Store.Nothing logs = logs
logs_after (Store.Header s w) logs = logs
logs_after (Store.Cell c k held) logs = logs
logs_after (Store.Log c e) logs = set logs c.0 (Some e)
logs_after (Store.Era i j e) logs = logs
logs_after (Store.Standing c s) logs = logs

-- the standings after a store
abbrev pub standings_after : Store → List Standing → List Standing
standings_after Store.Nothing standings = standings
standings_after (Store.Header s w) standings = standings
standings_after (Store.Cell c k held) standings = standings
standings_after (Store.Log c e) standings = standings
standings_after (Store.Era i j e) standings = standings
standings_after (Store.Standing c s) standings = set standings c.0 s

-- the matrix after a store
abbrev pub eras_after : Store → List (List ℕ) → List (List ℕ)
eras_after Store.Nothing m = m
eras_after (Store.Header s w) m = m
eras_after (Store.Cell c k held) m = m
eras_after (Store.Log c e) m = m
eras_after (Store.Era i j e) m = with_era m i.0 j.0 e
eras_after (Store.Standing c s) m = m

-- the block after a store
abbrev pub block_after : Store → Block → Block
block_after store b =
    record {
      headers = headers_after store b.headers;
      cells = cells_after store b.cells;
      logs = logs_after store b.logs;
      standings = standings_after store b.standings;
    }
