-- One operation, six stages (part 3 of the rules). A stage is given the words that it reads and says what the step
-- answers, the stage that comes next and the one word that it writes. Above this file a stage is asked for its
-- operation, its kept header and its number (`open_in`, `kept_in`, `place_of`), and an operation for `is_release`; the
-- cases of a step are those of proofs/Cases.antt.
use Rattle.std.specs.Prelude.{ℕ, ◌+◌, ◌-◌, Bool, true, false, cond, List, ltb, eqb, Option, Some, None, Result, Ok, Err}
use Rattle.numbers.specs.declared.Client.{Client}
use Rattle.numbers.specs.declared.Era.{Era}
use Rattle.numbers.specs.declared.answers.Answer.{Answer}
use Rattle.numbers.specs.declared.Slot.{Slot}
use Rattle.numbers.specs.Sizes.{raised}
use Rattle.header.specs.Header.{packed, unpacked, era_in, count_in, client_in, is_free}
use Rattle.block.specs.declared.Entry.{Entry}
use Rattle.block.specs.declared.Kind.{Kind}
use Rattle.block.specs.declared.Operation.{Operation}
use Rattle.block.specs.declared.store.Store.{Store}
use Rattle.block.specs.Block.{header_at}
use Rattle.block.specs.Matrix.{seen_era}
use Rattle.stages.specs.declared.ClientRecord.{ClientRecord}
use Rattle.stages.specs.declared.Stage.{Stage}
use Rattle.stages.specs.declared.Outcome.{Outcome}

-- what a step answers, the stage that comes next, the one word it writes
abbrev pub went : Answer → Stage → Store → Outcome ClientRecord
went answer stage store = record { answer = answer; next = record { stage = stage }; store = store }

-- R3.1: the operation goes on at its note with the header kept
abbrev pub kept : Operation → ℕ → Outcome ClientRecord
kept op h = went Answer.Accepted (Stage.Note op h) Store.Nothing

-- R2.14: nothing is written and nothing is under way: 7 and 8, and 5 where nothing was
abbrev pub closed : Answer → Outcome ClientRecord
closed answer = went answer Stage.Idle Store.Nothing

-- R3.1: nothing more is asked
abbrev pub asks_nothing : Result (Unit {0}) Answer
asks_nothing = Ok tt

-- R3.1: lease asks that the slot is free, else 7; attach that it is not, else 8; release asks nothing
abbrev pub asked_by : Kind → ℕ → Result (Unit {0}) Answer
asked_by Kind.Lease h = cond (is_free h) asks_nothing (Err Answer.SlotHeld)
asked_by Kind.Attach h = cond (is_free h) (Err Answer.SlotFree) asks_nothing
asked_by Kind.Release h = asks_nothing

-- R3.1: what an operation asks of the header that it finds
abbrev pub asked : Operation → ℕ → Result (Unit {0}) Answer
asked op h = asked_by op.kind h

-- R3.1: the header is kept, or the operation ends
abbrev pub loaded : Operation → ℕ → Result (Unit {0}) Answer → Outcome ClientRecord
loaded op h (Ok u) = kept op h
loaded op h (Err answer) = closed answer

-- R3.1: load, given the slot's header
unfoldable pub load_stage : Operation → ℕ → Outcome ClientRecord
load_stage op header = loaded op header (asked op header)

-- R3.2: note, given what the own row has seen of the kept header's client
unfoldable pub note_stage : Client → Operation → ℕ → Era → Outcome ClientRecord
note_stage me op h seen =
    went Answer.Accepted (Stage.Log op h)
    (cond (ltb seen.0 (era_in h)) (Store.Era me (unpacked h).client (unpacked h).era) Store.Nothing)

-- R3.3: what is logged: the operation, the own era and the count read
abbrev pub entry_of : Operation → ℕ → Era → Entry
entry_of op h own = record { operation = op; era = own; count = count_in h }

-- R3.3: log, given the own era
unfoldable pub log_stage : Client → Operation → ℕ → Era → Outcome ClientRecord
log_stage me op h own = went Answer.Accepted (Stage.Swap op h) (Store.Log me (entry_of op h own))

-- R3.4: 1 for lease, one more for attach, one less for release, which leaves 0 at 0
abbrev pub count_after : Kind → ℕ → ℕ
count_after Kind.Lease n = 1
count_after Kind.Attach n = n + 1
count_after Kind.Release n = n - 1

-- R3.4: the header that a won swap writes
abbrev pub swapped : Client → Operation → ℕ → Era → ℕ
swapped me op h own = packed (record { era = own; count = count_after op.kind (count_in h); client = me })

-- R3.4: a swap is won where the slot's header still equals the whole kept word
abbrev pub won : ℕ → ℕ → Bool
won header h = eqb header h

-- R3.4: a won swap writes the header, and the cell comes next
abbrev pub swap_won : Client → Operation → ℕ → Era → Outcome ClientRecord
swap_won me op h own =
    went Answer.Accepted (Stage.Cell op h) (Store.Header op.slot (swapped me op h own))

-- R3.4: a lost swap writes nothing, and the load comes next
abbrev pub swap_lost : Operation → Outcome ClientRecord
swap_lost op = went Answer.SwapLost (Stage.Load op) Store.Nothing

-- R3.4: swap, given the own era and whether it is won
abbrev pub swap_by : Client → Operation → ℕ → Era → Bool → Outcome ClientRecord
swap_by me op h own wins = cond wins (swap_won me op h own) (swap_lost op)

-- R3.4: swap, given the own era and the slot's header
unfoldable pub swap_stage : Client → Operation → ℕ → Era → ℕ → Outcome ClientRecord
swap_stage me op h own header = swap_by me op h own (won header h)

-- whether an operation lets go of its slot
abbrev pub is_release : Kind → Bool
is_release Kind.Lease = false
is_release Kind.Attach = false
is_release Kind.Release = true

-- R3.5, R4.4: what an operation writes into its cell: the slot, or nothing for a release
unfoldable pub written : Operation → Option Slot
written op = cond (is_release op.kind) None (Some op.slot)

-- R3.5: cell
unfoldable pub cell_stage : Client → Operation → ℕ → Outcome ClientRecord
cell_stage me op h = went Answer.Accepted (Stage.Era op h) (Store.Cell me op.cell (written op))

-- R3.6: era, given the own era
unfoldable pub era_stage : Client → Era → Outcome ClientRecord
era_stage me own = went Answer.Finished Stage.Idle (Store.Era me me (raised own))

-- R3.0: one step performs one stage; here stands which words each reads: the header of its slot, and of the own row the
-- kept header's client or the own era
abbrev pub step_by : Client → (ℕ → ℕ) → (ℕ → ℕ) → Stage → Outcome ClientRecord
step_by me hdr row Stage.Idle = closed Answer.WrongMoment
step_by me hdr row (Stage.Load op) = load_stage op (hdr op.slot.0)
step_by me hdr row (Stage.Note op h) = note_stage me op h (record { 0 = row (client_in h) })
step_by me hdr row (Stage.Log op h) = log_stage me op h (record { 0 = row me.0 })
step_by me hdr row (Stage.Swap op h) = swap_stage me op h (record { 0 = row me.0 }) (hdr op.slot.0)
step_by me hdr row (Stage.Cell op h) = cell_stage me op h
step_by me hdr row (Stage.Era op h) = era_stage me (record { 0 = row me.0 })

-- R3.0: one step, of the headers and the matrix
unfoldable pub step_of : Client → List ℕ → List (List ℕ) → Stage → Outcome ClientRecord
step_of me headers eras stage = step_by me (header_at headers) (λ j. (seen_era eras me.0 j).0) stage

-- R1.8: the operation that is under way
abbrev pub open_in : Stage → Option Operation
open_in Stage.Idle = None
open_in (Stage.Load op) = Some op
open_in (Stage.Note op h) = Some op
open_in (Stage.Log op h) = Some op
open_in (Stage.Swap op h) = Some op
open_in (Stage.Cell op h) = Some op
open_in (Stage.Era op h) = Some op

-- R1.8: the header that is kept
abbrev pub kept_in : Stage → Option ℕ
kept_in Stage.Idle = None
kept_in (Stage.Load op) = None
kept_in (Stage.Note op h) = Some h
kept_in (Stage.Log op h) = Some h
kept_in (Stage.Swap op h) = Some h
kept_in (Stage.Cell op h) = Some h
kept_in (Stage.Era op h) = Some h

-- R3.1 to R3.6: a stage's number; 0 where nothing is under way
abbrev pub place_of : Stage → ℕ
place_of Stage.Idle = 0
place_of (Stage.Load op) = 1
place_of (Stage.Note op h) = 2
place_of (Stage.Log op h) = 3
place_of (Stage.Swap op h) = 4
place_of (Stage.Cell op h) = 5
place_of (Stage.Era op h) = 6

-- R1.8: whether no operation is open
abbrev pub none_open : Option Operation → Bool
none_open None = true
none_open (Some op) = false

-- R1.8: whether a stage is none
abbrev pub idle : Stage → Bool
idle stage = none_open (open_in stage)

-- R1.8: whether nothing is under way
abbrev pub is_idle : ClientRecord → Bool
is_idle r = idle r.stage

-- whether an operation releases cell k
abbrev pub releases_cell : ℕ → Option Operation → Bool
releases_cell k None = false
releases_cell k (Some op) = cond (is_release op.kind) (eqb op.cell k) false

-- R2.17: whether a release of cell k is under way
abbrev pub releasing : Stage → ℕ → Bool
releasing stage k = releases_cell k (open_in stage)

-- R4.6: whether an operation that is open is a release
abbrev pub open_release : Option Operation → Bool
open_release None = false
open_release (Some op) = is_release op.kind

-- R4.6: whether what is under way is a release
abbrev pub releases : Stage → Bool
releases stage = open_release (open_in stage)
