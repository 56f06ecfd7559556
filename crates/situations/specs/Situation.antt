-- What a situation is (part 6 of the rules): calls with the numbers of their answers, and what the shared words are in
-- between and at the end; and the test that it comes about.
use Rattle.std.specs.Prelude.{ℕ, ◌-◌, Bool, true, false, ◌&&◌, List, [], ◌∷◌, ◌++◌, map, eqb, replicate, Option, Some, None}
use Rattle.numbers.specs.Answers.{number_of}
use Rattle.header.specs.Header.{packed, count_in}
use Rattle.block.specs.declared.Kind.{Kind}
use Rattle.block.specs.declared.Standing.{Standing}
use Rattle.block.specs.declared.store.Store.{Store}
use Rattle.block.specs.declared.Entry.{Entry}
use Rattle.block.specs.Block.{header_at, cell_at, standing_at}
use Rattle.block.specs.Matrix.{seen_era, own_era}
use Rattle.block.specs.Store.{byte_of}
use Rattle.calls.specs.declared.Call.{Call}
use Rattle.calls.specs.Named.{lease, attach, release, step, take_over, rescue_step}
use Rattle.calls.specs.Checks.{standing_code, same_standing, is_empty}
use Rattle.world.specs.World.{World, fresh, outcome, answer, after, run}

-- what a shared word is at some point, and what a call would write there
pub data Fact : Type 0 where
  -- slot s has the count n
  count_is : (s n : ℕ) → Fact
  -- the header of slot s has this era, count and client
  header_is : (s era count client : ℕ) → Fact
  -- the header of slot s is the word w
  word_is : (s w : ℕ) → Fact
  -- the own era of client c is e
  own_era_is : (c e : ℕ) → Fact
  -- the matrix entry at (i, j) is e
  entry_is : (i j e : ℕ) → Fact
  -- cell k of client c holds slot s
  cell_holds : (c k s : ℕ) → Fact
  -- cell k of client c is empty
  cell_empty : (c k : ℕ) → Fact
  -- client c has this standing
  standing_is : (c : ℕ) → Standing → Fact
  -- this call, were it made here, would write slot s into cell k of client c
  would_write : Call → (c k s : ℕ) → Fact
  -- the shared words are those of another world
  words_of : World → Fact

-- one item of a situation: a call and the number that it gets (R2.14), or a fact of the point that is reached
pub data Item : Type 0 where
  gets : Call → ℕ → Item
  finds : Fact → Item

-- a situation: the world that it starts from, and its items in order
pub record Situation : Type 0 where
  pub start : World
  pub items : List Item

-- a situation that starts from a fresh block (R1.5): a file of calls
abbrev pub file : List Item → Situation
file items = record { start = fresh; items = items }

-- whether two lists have the same numbers
abbrev pub same : List ℕ → List ℕ → Bool
same [] [] = true
same [] (y ∷ ys) = false
same (x ∷ xs) [] = false
same (x ∷ xs) (y ∷ ys) = eqb x y && same xs ys

-- the three kinds told apart
abbrev pub kind_code : Kind → ℕ
kind_code Kind.Lease = 0
kind_code Kind.Attach = 1
kind_code Kind.Release = 2

-- R1.2: the words of a log, ahead of those that follow
abbrev pub log_words : Option Entry → List ℕ → List ℕ
log_words None rest = 0 ∷ rest
log_words (Some e) rest =
    1 ∷ kind_code e.operation.kind ∷ e.era.0 ∷ e.operation.cell ∷ e.operation.slot.0 ∷ e.count ∷ rest

-- R1.2: the words of all logs
abbrev pub all_log_words : List (Option Entry) → List ℕ
all_log_words [] = []
all_log_words (w ∷ rest) = log_words w (all_log_words rest)

-- R1.3: the entries of the matrix, row by row
abbrev pub all_entries : List (List ℕ) → List ℕ
all_entries [] = []
all_entries (row ∷ rest) = row ++ all_entries rest

-- R1.2: all shared words of a world
unfoldable pub shared_words : World → List ℕ
shared_words w =
    w.block.headers
    ++ (w.block.cells
    ++ (all_entries w.eras
    ++ (map standing_code w.block.standings ++ all_log_words w.block.logs)))

-- whether a store writes slot s into cell k of client c
abbrev pub writes_cell : Store → ℕ → ℕ → ℕ → Bool
writes_cell Store.Nothing c k s = false
writes_cell (Store.Header slot w) c k s = false
writes_cell (Store.Cell at cell held) c k s = eqb at.0 c && (eqb cell k && eqb (byte_of held) s)
writes_cell (Store.Log at e) c k s = false
writes_cell (Store.Era i j e) c k s = false
writes_cell (Store.Standing at standing) c k s = false

-- whether a fact is so in a world
unfoldable pub is_so : World → Fact → Bool
is_so w (count_is s n) = eqb (count_in (header_at w.block.headers s)) n
is_so w (header_is s era count client) =
    eqb (header_at w.block.headers s)
    (packed (record { era = record { 0 = era }; count = count; client = record { 0 = client } }))
is_so w (word_is s h) = eqb (header_at w.block.headers s) h
is_so w (own_era_is c e) = eqb (own_era w.eras c).0 e
is_so w (entry_is i j e) = eqb (seen_era w.eras i j).0 e
is_so w (cell_holds c k s) = eqb (byte_of (cell_at w.block.cells c k)) s
is_so w (cell_empty c k) = is_empty (cell_at w.block.cells c k)
is_so w (standing_is c asked) = same_standing asked (standing_at w.block.standings c)
is_so w (would_write call c k s) = writes_cell (outcome w call).store c k s
is_so w (words_of other) = same (shared_words w) (shared_words other)

-- whether every call gets its number and every fact is so, each in the world that the calls before it left (R1.10)
unfoldable pub comes_about : World → List Item → Bool
comes_about w [] = true
comes_about w (gets call n ∷ rest) = eqb (number_of (answer w call)) n && comes_about (after w call) rest
comes_about w (finds fact ∷ rest) = is_so w fact && comes_about w rest

-- whether a situation comes about
unfoldable pub holds : Situation → Bool
holds s = comes_about s.start s.items

-- the calls among the items
abbrev pub calls_of : List Item → List Call
calls_of [] = []
calls_of (gets call n ∷ rest) = call ∷ calls_of rest
calls_of (finds fact ∷ rest) = calls_of rest

-- the world at the end of a situation
abbrev pub end_of : Situation → World
end_of s = run s.start (calls_of s.items)

-- the facts of the point that is reached
abbrev pub found : List Fact → List Item
found facts = map finds facts

-- a call that gets this number
abbrev pub answered : Call → ℕ → List Item
answered call n = gets call n ∷ []

-- a call that is accepted
abbrev pub accepted : Call → List Item
accepted call = answered call 0

-- n steps of client c, with more to follow
abbrev pub steps : ℕ → ℕ → List Item
steps c n = replicate n (gets (step c) 0)

-- R3.1 to R3.6: the six steps of an operation that wins its swap at once; the sixth finishes it
abbrev pub six_steps : ℕ → List Item
six_steps c = steps c 5 ++ answered (step c) 100

-- a whole lease, attach or release
abbrev pub whole_lease : ℕ → ℕ → ℕ → List Item
whole_lease c k s = accepted (lease c k s) ++ six_steps c

abbrev pub whole_attach : ℕ → ℕ → ℕ → List Item
whole_attach c k s = accepted (attach c k s) ++ six_steps c

abbrev pub whole_release : ℕ → ℕ → List Item
whole_release c k = accepted (release c k) ++ six_steps c

-- n rescue steps of client c, with more to follow
abbrev pub rescue_steps : ℕ → ℕ → List Item
rescue_steps c n = replicate n (gets (rescue_step c) 0)

-- n rescue steps of client c, the last of which finishes the rescue
abbrev pub last_rescue_steps : ℕ → ℕ → List Item
last_rescue_steps c n = rescue_steps c (n - 1) ++ answered (rescue_step c) 100

-- a take over of client c and its rescue, which has n steps
abbrev pub rescue : ℕ → ℕ → List Item
rescue c n = accepted (take_over c) ++ last_rescue_steps c n
