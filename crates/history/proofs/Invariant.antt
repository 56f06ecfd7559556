-- What holds of every world of a history, over functions: the header of each slot, and each client's words (its row of
-- the matrix, its cells, its log, its standing and its records) with a ghost, the operation whose swap it has won and
-- whose era is not yet raised. `vis_of c` is c's own era, and one more where that is some operation: no era of c that
-- anybody else holds reaches it. Assumes nothing.
use Prim.Native.Nat.{ℕ, ◌+◌, ◌<◌, ◌≤◌}
use mathlib.Core.Bool.{Bool, true, false}
use mathlib.Core.List.{List, [], ◌∷◌}
use mathlib.Core.Logic.{◌⊎◌}
use mathlib.Core.Path.{◌≡◌}
use Rattle.std.specs.Prelude.{Option, Some, None}
use Rattle.numbers.specs.declared.Slot.{Slot}
use Rattle.numbers.specs.Sizes.{clients, slots, cells, era_stop, era_limit, count_limit}
use Rattle.header.specs.Header.{era_in, count_in, client_in, spare_in}
use Rattle.block.specs.declared.Entry.{Entry}
use Rattle.block.specs.declared.Operation.{Operation}
use Rattle.block.specs.declared.Standing.{Standing}
use Rattle.stages.specs.declared.Stage.{Stage}
use Rattle.stages.specs.Stages.{asks_nothing, asked, entry_of, written, is_release, open_in, kept_in, releases}
use Rattle.rescue.specs.declared.RescuerStep.{RescuerStep}
use Rattle.calls.specs.declared.Records.{Records}
use Rattle.calls.specs.Calls.{looked}
use Rattle.history.specs.Ledger.{Line, past_swap, naming, shown_by}
use Rattle.history.proofs.Updates.{upd}
use Rattle.history.proofs.Counting.{slots_at, lines_of, Ranged}

-- the operation whose swap is won and whose era is not yet raised
pub data Won : Type 0 where
  none : Won
  some : Operation → Won

-- one where something is won
abbrev pub extra : Won → ℕ
extra none = 0
extra (some op) = 1

-- a client's shared words, and the ghost
pub record Words : Type 0 where
  pub row : ℕ → ℕ
  pub cells : ℕ → Option Slot
  pub log : Option Entry
  pub won : Won

-- all that is a client's: those words, its standing and its records
pub record Mine : Type 0 where
  pub words : Words
  pub standing : Standing
  pub records : Records

-- the own era, and one more where something is won
abbrev pub vis_of : ℕ → Words → ℕ
vis_of c x = x.row c + extra x.won

-- the own era of client c among all, and one more where something is won
abbrev pub vis : (ℕ → Mine) → ℕ → ℕ
vis of c = vis_of c (of c).words

-- what each client has seen of c
abbrev pub column : (ℕ → Mine) → ℕ → ℕ → ℕ
column of c j = (of j).words.row c

-- a header that stands in a slot or is kept
pub record Word (seen : ℕ → ℕ) (h : ℕ) : Type 0 where
  pub spare : spare_in h ≡ 0
  pub client : client_in h < clients
  pub count : count_in h ≤ count_limit
  pub era : era_in h < seen (client_in h)

-- a cell names a slot that there is
abbrev pub CellFits : Option Slot → Type 0
CellFits None = Unit {0}
CellFits (Some s) = s.0 < slots

-- an operation names a cell and a slot that there are
pub record OpFits (op : Operation) : Type 0 where
  pub cell : op.cell < cells
  pub slot : op.slot.0 < slots

-- a log entry names a cell and a slot that there are, a count and an era within their limits
pub record EntryFits (e : Entry) : Type 0 where
  pub operation : OpFits e.operation
  pub count : e.count ≤ count_limit
  pub era : e.era.0 ≤ era_limit

-- a log is none, or an entry that fits
abbrev pub LogFits : Option Entry → Type 0
LogFits None = Unit {0}
LogFits (Some e) = EntryFits e

-- the header of slot s is c's, at its own era
pub record Stands (hdr : ℕ → ℕ) (c own s : ℕ) : Type 0 where
  pub client : client_in (hdr s) ≡ c
  pub era : era_in (hdr s) ≡ own

-- a client from `start` on, not c, has noted c's own era
pub record Witness (col : ℕ → ℕ) (c own start : ℕ) : Type 0 where
  pub at : ℕ
  pub client : at < clients
  pub other : at ≡ c → ⊥
  pub later : start ≤ at
  pub saw : own ≤ col at

-- a won swap is logged at the own era, and it stands in its header or another client has noted it
pub record Proven (hdr : ℕ → ℕ) (col : ℕ → ℕ) (c own : ℕ) (log : Option Entry) (op : Operation) : Type 0 where
  pub count : ℕ
  pub logged : log ≡ Some (record { operation = op; era = record { 0 = own }; count = count })
  pub evidence : Stands hdr c own op.slot.0 ⊎ Witness col c own 0

-- where nothing is won there is nothing to show
abbrev pub Evidence : (ℕ → ℕ) → (ℕ → ℕ) → ℕ → ℕ → Option Entry → Won → Type 0
Evidence hdr col c own log none = Unit {0}
Evidence hdr col c own log (some op) = Proven hdr col c own log op

-- what a cell will hold once the won operation is through
abbrev pub due_by : Won → (ℕ → Option Slot) → ℕ → Option Slot
due_by none held k = held k
due_by (some op) held k = upd held op.cell (written op) k

-- the slots in a cell: none or one
abbrev pub in_cell : Option Slot → List ℕ
in_cell None = []
in_cell (Some s) = s.0 ∷ []

-- what holds of a client's words whatever is under way
pub record Base (seen hdr col : ℕ → ℕ) (c : ℕ) (x : Words) (lines : List Line) : Type 0 where
  pub own_some : 0 < x.row c
  pub past : (j : ℕ) → j < clients → (j ≡ c → ⊥) → x.row j < seen j
  pub evidence : Evidence hdr col c (x.row c) x.log x.won
  pub log : LogFits x.log
  pub cells_fit : (k : ℕ) → k < cells → CellFits (x.cells k)
  pub room : vis_of c x + lines_of c lines ≤ era_limit
  pub due : (k : ℕ) → k < cells → slots_at c k lines ≡ in_cell (due_by x.won x.cells k)

-- before its swap a release finds its slot in its cell; every other operation an empty cell, below the era stop
abbrev pub Before : Bool → ℕ → Option Slot → Slot → Type 0
Before true own held s = held ≡ Some s
Before false own held s = (held ≡ None) × (own < era_stop)

-- an operation of client c before its swap
abbrev pub BeforeSwap : ℕ → Words → Operation → Type 0
BeforeSwap c x op = Before (is_release op.kind) (x.row c) (x.cells op.cell) op.slot

-- the own row has the era of a header
abbrev pub Noted : (ℕ → ℕ) → ℕ → Type 0
Noted row h = era_in h ≤ row (client_in h)

-- what is under way names a cell and a slot that there are
abbrev pub OpenFits : Option Operation → Type 0
OpenFits None = Unit {0}
OpenFits (Some op) = OpFits op

-- what is kept is a header
abbrev pub KeptFits : (ℕ → ℕ) → Option ℕ → Type 0
KeptFits seen None = Unit {0}
KeptFits seen (Some h) = Word seen h

-- the open operation, where its swap is won
abbrev pub won_of : Bool → Option Operation → Won
won_of false op = none
won_of true None = none
won_of true (Some op) = some op

-- what more is known of a client's words at each stage
abbrev pub MoreAt : ℕ → Words → Stage → Type 0
MoreAt c x Stage.Idle = Unit {0}
MoreAt c x (Stage.Load op) = BeforeSwap c x op
MoreAt c x (Stage.Note op h) = BeforeSwap c x op × (asked op h ≡ asks_nothing)
MoreAt c x (Stage.Log op h) = BeforeSwap c x op × (asked op h ≡ asks_nothing) × Noted x.row h
MoreAt c x (Stage.Swap op h) =
    BeforeSwap c x op
    × (asked op h ≡ asks_nothing)
    × Noted x.row h
    × (x.log ≡ Some (entry_of op h (record { 0 = x.row c })))
MoreAt c x (Stage.Cell op h) = Unit {0}
MoreAt c x (Stage.Era op h) = x.cells op.cell ≡ written op

-- a client's words at a stage: what is won is the open operation, exactly past its swap
pub record At (seen : ℕ → ℕ) (c : ℕ) (x : Words) (stage : Stage) : Type 0 where
  pub fits : OpenFits (open_in stage)
  pub kept : KeptFits seen (kept_in stage)
  pub won_is : x.won ≡ won_of (past_swap stage) (open_in stage)
  pub more : MoreAt c x stage

-- where something is won, a witness is still to be met
abbrev pub Awaited : (ℕ → ℕ) → ℕ → ℕ → ℕ → Won → Type 0
Awaited col c own start none = Unit {0}
Awaited col c own start (some op) = Witness col c own start

-- a client's words at each step of its rescue
abbrev pub Rescuing : (ℕ → ℕ) → (ℕ → ℕ) → ℕ → Words → RescuerStep → Type 0
Rescuing seen col c x RescuerStep.ReadLog = Unit {0}
Rescuing seen col c x (RescuerStep.Condition1 e) = x.log ≡ Some e
Rescuing seen col c x (RescuerStep.Condition2 e j) =
    (x.log ≡ Some e) × (j.0 < clients) × (j.0 ≡ c → ⊥) × Awaited col c (x.row c) j.0 x.won
Rescuing seen col c x (RescuerStep.Cell e) = (x.log ≡ Some e) × (x.won ≡ some e.operation)
Rescuing seen col c x RescuerStep.Era =
    (op : Operation) × (x.won ≡ some op) × (x.cells op.cell ≡ written op) × OpFits op
Rescuing seen col c x RescuerStep.Search = x.won ≡ none
Rescuing seen col c x (RescuerStep.Release r) = (releases r.stage ≡ true) × At seen c x r.stage

-- what a look up of a running client's cells shows
abbrev pub Shown : ℕ → (ℕ → Option Slot) → List Line → Stage → Type 0
Shown c held lines stage = (k : ℕ) → k < cells → shown_by c k lines ≡ looked stage (held k) k

-- a client's words by its standing
abbrev pub Clause : (ℕ → ℕ) → (ℕ → ℕ) → ℕ → Words → List Line → Standing → Records → Type 0
Clause seen col c x lines Standing.Absent r =
    (r.client.stage ≡ Stage.Idle)
    × (r.rescuer.step ≡ RescuerStep.ReadLog)
    × (x.won ≡ none)
    × ((k : ℕ) → k < cells → x.cells k ≡ None)
Clause seen col c x lines Standing.Running r =
    (r.rescuer.step ≡ RescuerStep.ReadLog)
    × At seen c x r.client.stage
    × Shown c x.cells lines r.client.stage
Clause seen col c x lines Standing.Failed r =
    (r.client.stage ≡ Stage.Idle) × (r.rescuer.step ≡ RescuerStep.ReadLog)
Clause seen col c x lines Standing.InRescue r =
    (r.client.stage ≡ Stage.Idle) × Rescuing seen col c x r.rescuer.step

-- what holds of every world of a history
pub record Inv (hdr : ℕ → ℕ) (of : ℕ → Mine) (lines : List Line) : Type 0 where
  pub words : (s : ℕ) → Word (vis of) (hdr s)
  pub base : (c : ℕ) → c < clients → Base (vis of) hdr (column of c) c (of c).words lines
  pub clause :
      (c : ℕ) → c < clients → Clause (vis of) (column of c) c (of c).words lines (of c).standing (of c).records
  pub count : (s : ℕ) → s < slots → count_in (hdr s) ≡ naming s lines
  pub ranged : Ranged lines
