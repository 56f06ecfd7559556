-- The eleven calls (part 2 of the rules): the checks of each in their order, and what an accepted call does. Check 1 is
-- asked of every call, and then what its act asks of the client.
use Rattle.std.specs.Prelude.{ℕ, cond, List, [], ◌∷◌, Option, Some, None}
use Rattle.numbers.specs.declared.Client.{Client}
use Rattle.numbers.specs.declared.Era.{Era}
use Rattle.numbers.specs.declared.Slot.{Slot}
use Rattle.numbers.specs.declared.answers.Answer.{Answer}
use Rattle.block.specs.declared.Block.{Block}
use Rattle.block.specs.declared.Kind.{Kind}
use Rattle.block.specs.declared.Standing.{Standing}
use Rattle.block.specs.declared.store.Store.{Store}
use Rattle.block.specs.Block.{cell_at, log_at, standing_at}
use Rattle.block.specs.Matrix.{own_era}
use Rattle.block.specs.Store.{byte_of}
use Rattle.stages.specs.declared.Stage.{Stage}
use Rattle.stages.specs.declared.Outcome.{Outcome}
use Rattle.stages.specs.declared.ClientRecord.{ClientRecord}
use Rattle.stages.specs.Stages.{step_of, releasing}
use Rattle.rescue.specs.declared.RescuerStep.{RescuerStep}
use Rattle.rescue.specs.declared.RescuerRecord.{RescuerRecord}
use Rattle.rescue.specs.Rescue.{rescue_of, release_stage}
use Rattle.limits.specs.Limits.{within}
use Rattle.calls.specs.declared.Act.{Act}
use Rattle.calls.specs.declared.Call.{Call}
use Rattle.calls.specs.declared.Records.{Records}
use Rattle.calls.specs.Checks.{Check, unchanged, after_checks, a_client, a_cell, a_slot, stands, nothing_under_way, something_under_way, cell_empty, cell_full, below_era_stop, no_entries}

-- the client that a number names, once checked
abbrev pub client : ℕ → Client
client c = record { 0 = c }

-- R1.8: records with nothing under way
abbrev pub nothing : Records
nothing = record { client = record { stage = Stage.Idle }; rescuer = record { step = RescuerStep.ReadLog } }

-- an accepted call: the records it hands back and the one word it writes
abbrev pub accepted : Records → Store → Outcome Records
accepted next store = record { answer = Answer.Accepted; next = next; store = store }

-- R1.9, R2.16: a standing changes, and nothing else; what was under way is forgotten
abbrev pub stands_as : ℕ → Standing → Outcome Records
stands_as c standing = accepted nothing (Store.Standing (client c) standing)

-- R2.3, R2.9, R2.10, R2.12: join, fail, take over, rescuer fails: of a client found with one standing, which gets another
abbrev pub stand_of : ℕ → Standing → Standing → Standing → Records → Outcome Records
stand_of c found from to given = after_checks (stands from found ∷ []) given (stands_as c to)

-- R2.4: leave
abbrev pub asks_to_leave : ℕ → Standing → List ℕ → Records → List Check
asks_to_leave c found bytes given = stands Standing.Running found ∷ nothing_under_way given ∷ no_entries bytes c ∷ []

abbrev pub leaves : ℕ → Records → Outcome Records
leaves c given = accepted given (Store.Standing (client c) Standing.Absent)

abbrev pub leave_of : ℕ → Standing → List ℕ → Records → Outcome Records
leave_of c found bytes given = after_checks (asks_to_leave c found bytes given) given (leaves c given)

-- R2.16: calls 3 to 5 only open an operation, at its load
abbrev pub opened : Kind → ℕ → Slot → Records → Outcome Records
opened kind k s given =
    accepted
    (record {
      client = record { stage = Stage.Load (record { kind = kind; cell = k; slot = s }) };
      rescuer = given.rescuer;
    })
    Store.Nothing

-- R2.5, R2.6: lease and attach, the same for both
abbrev pub asks_to_open : ℕ → ℕ → ℕ → Standing → List ℕ → Era → Records → List Check
asks_to_open c k s found bytes own given =
    a_cell k
    ∷ a_slot s
    ∷ stands Standing.Running found
    ∷ nothing_under_way given
    ∷ cell_empty bytes c k
    ∷ below_era_stop own
    ∷ []

abbrev pub open_of : Kind → ℕ → ℕ → ℕ → Standing → List ℕ → Era → Records → Outcome Records
open_of kind c k s found bytes own given =
    after_checks (asks_to_open c k s found bytes own given) given (opened kind k (record { 0 = s }) given)

-- R2.7: release
abbrev pub asks_to_release : ℕ → ℕ → Standing → List ℕ → Records → List Check
asks_to_release c k found bytes given =
    a_cell k ∷ stands Standing.Running found ∷ nothing_under_way given ∷ cell_full bytes c k ∷ []

-- R1.11: a release takes its slot from the cell
abbrev pub release_opened : ℕ → ℕ → List ℕ → Records → Outcome Records
release_opened c k bytes given = opened Kind.Release k (record { 0 = byte_of (cell_at bytes c k) }) given

abbrev pub release_of : ℕ → ℕ → Standing → List ℕ → Records → Outcome Records
release_of c k found bytes given =
    after_checks (asks_to_release c k found bytes given) given (release_opened c k bytes given)

-- R2.8: step; the client's record is handed back
abbrev pub asks_to_step : Standing → Records → List Check
asks_to_step found given = stands Standing.Running found ∷ something_under_way given ∷ []

abbrev pub of_client : Outcome ClientRecord → Records → Outcome Records
of_client s given = record { answer = s.answer; next = record { client = s.next; rescuer = given.rescuer }; store = s.store }

abbrev pub step_call_of : ℕ → Standing → List ℕ → List (List ℕ) → Records → Outcome Records
step_call_of c found headers eras given =
    after_checks (asks_to_step found given) given
    (of_client (step_of (client c) headers eras given.client.stage) given)

-- R2.11: rescue step; the rescuer's record is handed back
abbrev pub of_rescuer : Outcome RescuerRecord → Records → Outcome Records
of_rescuer s given = record { answer = s.answer; next = record { client = given.client; rescuer = s.next }; store = s.store }

abbrev pub rescue_call_of : ℕ → Standing → Block → List (List ℕ) → Records → Outcome Records
rescue_call_of c found b eras given =
    after_checks (stands Standing.InRescue found ∷ []) given
    (of_rescuer (rescue_of (client c) b.headers b.cells (log_at b.logs c) eras given.rescuer.step) given)

abbrev pub shown : Option Slot → Answer
shown None = Answer.ShowsNothing
shown (Some s) = Answer.Shows s

-- R2.17: 199 where the cell is empty or its release is under way, else 200 + the slot in the cell
unfoldable pub looked : Stage → Option Slot → ℕ → Answer
looked stage held k = cond (releasing stage k) Answer.ShowsNothing (shown held)

-- R2.13: look up
abbrev pub asks_to_look_up : ℕ → Standing → List Check
asks_to_look_up k found = a_cell k ∷ stands Standing.Running found ∷ []

abbrev pub shows_cell : ℕ → ℕ → List ℕ → Records → Outcome Records
shows_cell c k bytes given = unchanged (looked given.client.stage (cell_at bytes c k) k) given

abbrev pub look_up_of : ℕ → ℕ → Standing → List ℕ → Records → Outcome Records
look_up_of c k found bytes given = after_checks (asks_to_look_up k found) given (shows_cell c k bytes given)

-- the standing of client c
abbrev pub found_at : Block → ℕ → Standing
found_at b c = standing_at b.standings c

-- R2.3 to R2.13: what each call asks of client c, in order, once there is such a client
unfoldable pub asks : Act → ℕ → Block → List (List ℕ) → Records → List Check
asks Act.Join c b eras given = stands Standing.Absent (found_at b c) ∷ []
asks Act.Leave c b eras given = asks_to_leave c (found_at b c) b.cells given
asks (Act.Lease k s) c b eras given = asks_to_open c k s (found_at b c) b.cells (own_era eras c) given
asks (Act.Attach k s) c b eras given = asks_to_open c k s (found_at b c) b.cells (own_era eras c) given
asks (Act.Release k) c b eras given = asks_to_release c k (found_at b c) b.cells given
asks Act.Step c b eras given = asks_to_step (found_at b c) given
asks Act.Fail c b eras given = stands Standing.Running (found_at b c) ∷ []
asks Act.TakeOver c b eras given = stands Standing.Failed (found_at b c) ∷ []
asks Act.RescueStep c b eras given = stands Standing.InRescue (found_at b c) ∷ []
asks Act.RescuerFails c b eras given = stands Standing.InRescue (found_at b c) ∷ []
asks (Act.LookUp k) c b eras given = asks_to_look_up k (found_at b c)

-- R2.3 to R2.13: what each call does for client c once its checks have passed
unfoldable pub effect : Act → ℕ → Block → List (List ℕ) → Records → Outcome Records
effect Act.Join c b eras given = stands_as c Standing.Running
effect Act.Leave c b eras given = leaves c given
effect (Act.Lease k s) c b eras given = opened Kind.Lease k (record { 0 = s }) given
effect (Act.Attach k s) c b eras given = opened Kind.Attach k (record { 0 = s }) given
effect (Act.Release k) c b eras given = release_opened c k b.cells given
effect Act.Step c b eras given = of_client (step_of (client c) b.headers eras given.client.stage) given
effect Act.Fail c b eras given = stands_as c Standing.Failed
effect Act.TakeOver c b eras given = stands_as c Standing.InRescue
effect Act.RescueStep c b eras given =
    of_rescuer (rescue_of (client c) b.headers b.cells (log_at b.logs c) eras given.rescuer.step) given
effect Act.RescuerFails c b eras given = stands_as c Standing.Failed
effect (Act.LookUp k) c b eras given = shows_cell c k b.cells given

-- R2.3 to R2.13: the checks of a call, in their order
abbrev pub checks : Call → Block → List (List ℕ) → Records → List Check
checks call b eras given = a_client call.client ∷ asks call.act call.client b eras given

-- R2.1: a call of a block and records that are within their limits
unfoldable pub plain_call : Call → Block → List (List ℕ) → Records → Outcome Records
plain_call call b eras given =
    after_checks (checks call b eras given) given (effect call.act call.client b eras given)

-- R2.2: any call of any block and any records: 11 first, and then nothing changes
unfoldable pub checked_call : Call → Block → List (List ℕ) → Records → Outcome Records
checked_call call b eras given =
    cond (within call.client b eras given.client given.rescuer)
    (plain_call call b eras given)
    (unchanged Answer.BeyondLimits given)

-- R3.0, R4.6: the stage that an act performs once it is accepted: a client's, or that of its rescuer's release
abbrev pub stage_of : Act → Records → Stage
stage_of Act.Join given = Stage.Idle
stage_of Act.Leave given = Stage.Idle
stage_of (Act.Lease k s) given = Stage.Idle
stage_of (Act.Attach k s) given = Stage.Idle
stage_of (Act.Release k) given = Stage.Idle
stage_of Act.Step given = given.client.stage
stage_of Act.Fail given = Stage.Idle
stage_of Act.TakeOver given = Stage.Idle
stage_of Act.RescueStep given = release_stage given.rescuer.step
stage_of Act.RescuerFails given = Stage.Idle
stage_of (Act.LookUp k) given = Stage.Idle
