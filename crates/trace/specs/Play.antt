-- Playing a file (Part 5): records of a fixed size, a line for each, and the slots in use at the end.
use Rattle.std.specs.Prelude.{ℕ, zero, suc, ◌+◌, ◌-◌, ◌*◌, ◌/◌, ◌≤◌, cond, List, [], ◌∷◌, ◌++◌, ◌≡◌, eqb, ltb, length, drop, Option, Some, None}
use Rattle.numbers.specs.declared.answers.Answer.{Answer}
use Rattle.numbers.specs.Answers.{number_of}
use Rattle.header.specs.Header.{count_in}
use Rattle.block.specs.declared.Block.{Block}
use Rattle.text.specs.Text.{line, slot_line, line_size, slot_line_size, filled, fitting}
use Rattle.calls.specs.declared.Records.{Records}
use Rattle.calls.specs.declared.Call.{Call}
use Rattle.calls.specs.Calls.{plain_call}
use Rattle.decode.specs.Decode.{record_size, first_asked}
use Rattle.world.specs.World.{World, Machine, calling, rules, fresh, answer_by, after_by}
use Rattle.trace.specs.declared.Played.{Played}

-- what the first k records of some bytes ask for
unfoldable pub asked : ℕ → List ℕ → List (Option Call)
asked zero bytes = []
asked (suc k) bytes = first_asked bytes ∷ asked k (drop record_size bytes)

-- R5.3: how many whole records there are, and the bytes after them
abbrev pub wholes : List ℕ → ℕ
wholes bytes = length bytes / record_size

abbrev pub cut : List ℕ → List ℕ
cut bytes = drop (wholes bytes * record_size) bytes

-- the machine of the rules without its test of the limits, which no history fails (proofs/Same.antt)
abbrev pub plainly : Machine
plainly = calling plain_call

module _ (m : Machine) where
  -- R5.2: what a record is answered, and the world after it
  abbrev pub told : World → Option Call → Answer
  told w (Some call) = answer_by m w call
  told w None = Answer.NoSuchCall

  abbrev pub next : World → Option Call → World
  next w (Some call) = after_by m w call
  next w None = w

  -- R5.4: the lines of some records, from a world and the place of the first
  unfoldable pub text_by : World → ℕ → List (Option Call) → List ℕ
  text_by w n [] = []
  text_by w n (d ∷ rest) = line n (number_of (told w d)) ++ text_by (next w d) (n + 1) rest

  -- the world after some records
  unfoldable pub world_by : World → List (Option Call) → World
  world_by w [] = w
  world_by w (d ∷ rest) = world_by (next w d) rest

-- R5.3: the line of a record that is cut short, at place n
abbrev pub cut_text : ℕ → List ℕ → List ℕ
cut_text n [] = []
cut_text n (byte ∷ more) = line n (number_of Answer.CutRecord)

-- R5.5: the line of slot s, where its header's count is above 0
abbrev pub slot_text : ℕ → ℕ → List ℕ
slot_text s header = cond (eqb (count_in header) 0) [] (slot_line s (count_in header))

-- R5.5: the lines of the slots from s on, of their headers
unfoldable pub slots_text : ℕ → List ℕ → List ℕ
slots_text s [] = []
slots_text s (header ∷ headers) = slot_text s header ++ slots_text (s + 1) headers

-- what stands after the whole records' lines: a cut record's line, and the slots in use
abbrev pub end_text : List ℕ → ℕ → List ℕ → List ℕ
end_text headers n rest = cut_text n rest ++ slots_text 0 headers

-- Part 5: what playing some bytes prints, from a world and the place of the first record
unfoldable pub played_by : Machine → World → ℕ → List ℕ → List ℕ
played_by m w n bytes =
    let records = asked (wholes bytes) bytes in
    text_by m w n records ++ end_text (world_by m w records).block.headers (n + wholes bytes) (cut bytes)

-- Part 5: all that the program prints for an input
unfoldable pub printed : List ℕ → List ℕ
printed input = played_by rules fresh 1 input

-- the world of a block, a matrix and the records
abbrev pub world_of : Block → List (List ℕ) → List Records → World
world_of block eras records = record { block = block; eras = eras; records = records }

-- the last place that fits 64 bits
abbrev pub last_place : ℕ
last_place = 18446744073709551615

-- how many records a turn plays: the whole ones, as many as have room for the longest line each; none where the places
-- of the input might not fit
unfoldable pub turn_count : ℕ → ℕ → ℕ → ℕ
turn_count n size room =
    cond (ltb (last_place - n) size)
    0
    (cond (ltb (size / record_size) (room / line_size)) (size / record_size) (room / line_size))

-- what the records that a turn plays ask for
abbrev pub turn_asked : ℕ → List ℕ → ℕ → List (Option Call)
turn_asked n input room = asked (turn_count n (length input) room) input

-- what a turn that has played k records hands back
abbrev pub handed_back : World → ℕ → ℕ → List (Option Call) → Played
handed_back w n k records =
    record {
      block = (world_by plainly w records).block;
      records = (world_by plainly w records).records;
      read = k * record_size;
      end = length (text_by plainly w n records);
      place = n + k;
    }

-- what a turn of the player leaves: what it hands back, the matrix, and the output with the text of the records played
-- written over it and nothing else; and what follows for a caller
pub record Turn (w : World) (n : ℕ) (input out : List ℕ) (r : Played) (eras : List (List ℕ)) (exit : List ℕ) : Type 0 where
  pub result : r ≡ handed_back w n (turn_count n (length input) (length out)) (turn_asked n input (length out))
  pub matrix : eras ≡ (world_by plainly w (turn_asked n input (length out))).eras
  pub text : exit ≡ filled out 0 (text_by plainly w n (turn_asked n input (length out)))
  pub read_within : r.read ≤ length input
  pub end_within : r.end ≤ length out

-- what the end of the player writes: the text of a cut record and of the slots, where there is room for the longest
abbrev pub end_written : List ℕ → ℕ → List ℕ → ℕ → List ℕ
end_written headers n rest room = fitting (line_size + slot_line_size * length headers) room 0 (end_text headers n rest)

-- what the end of the player leaves, and what follows for a caller
pub record Ending (headers : List ℕ) (n : ℕ) (rest out : List ℕ) (end : ℕ) (exit : List ℕ) : Type 0 where
  pub result : end ≡ length (end_written headers n rest (length out))
  pub text : exit ≡ filled out 0 (end_written headers n rest (length out))
  pub end_within : end ≤ length out
