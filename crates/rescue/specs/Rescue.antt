-- The rescue of client c in its steps 1 to 6 (part 4 of the rules). A step is given the words that it reads and says
-- what it answers, the step that comes next and the one word that it writes.
use Rattle.std.specs.Prelude.{ℕ, ◌+◌, Bool, cond, ◌&&◌, List, ltb, leb, eqb, Option, Some, None}
use Rattle.numbers.specs.declared.Client.{Client}
use Rattle.numbers.specs.declared.Era.{Era}
use Rattle.numbers.specs.declared.answers.Answer.{Answer}
use Rattle.numbers.specs.declared.Slot.{Slot}
use Rattle.numbers.specs.Sizes.{clients, raised}
use Rattle.header.specs.Header.{era_in, client_in}
use Rattle.block.specs.declared.Entry.{Entry}
use Rattle.block.specs.declared.Kind.{Kind}
use Rattle.block.specs.declared.Standing.{Standing}
use Rattle.block.specs.declared.store.Store.{Store}
use Rattle.block.specs.Block.{header_at}
use Rattle.block.specs.Matrix.{seen_era}
use Rattle.stages.specs.declared.Stage.{Stage}
use Rattle.stages.specs.declared.Outcome.{Outcome}
use Rattle.stages.specs.declared.ClientRecord.{ClientRecord}
use Rattle.stages.specs.Stages.{step_by, written, is_idle}
use Rattle.rescue.specs.declared.RescuerStep.{RescuerStep}
use Rattle.rescue.specs.declared.RescuerRecord.{RescuerRecord}
use Rattle.rescue.specs.Search.{lowest_full}

-- what a rescue step answers, the step that comes next, the one word it writes
abbrev pub went : Answer → RescuerStep → Store → Outcome RescuerRecord
went answer step store = record { answer = answer; next = record { step = step }; store = store }

-- a rescue step that only reads, and goes on
abbrev pub onto : RescuerStep → Outcome RescuerRecord
onto step = went Answer.Accepted step Store.Nothing

-- R4.1: keep c's log; none: go to 6
abbrev pub read_log : Option Entry → Outcome RescuerRecord
read_log None = onto RescuerStep.Search
read_log (Some e) = onto (RescuerStep.Condition1 e)

-- R4.3: condition 2 at client j; past the last client: go to 6
abbrev pub from_row : Entry → ℕ → RescuerStep
from_row e j = cond (ltb j clients) (RescuerStep.Condition2 e (record { 0 = j })) RescuerStep.Search

-- R4.3: clients ascending, c itself passed over without a step
abbrev pub onward : Client → Entry → ℕ → RescuerStep
onward c e j = cond (eqb j c.0) (from_row e (j + 1)) (from_row e j)

-- R4.2: the header has client c and era equal to c's own era
abbrev pub swap_stands : Client → Era → ℕ → Bool
swap_stands c own header = eqb (client_in header) c.0 && eqb (era_in header) own.0

-- R4.2: condition 1, given c's own era and the logged slot's header. Yes: go to 4
unfoldable pub first_condition : Client → Entry → Era → ℕ → Outcome RescuerRecord
first_condition c e own header = onto (cond (swap_stands c own header) (RescuerStep.Cell e) (onward c e 0))

-- R4.3: entry (j, c) is at least c's own era
abbrev pub swap_seen : Era → Era → Bool
swap_seen own seen = leb own.0 seen.0

-- R4.3: condition 2 at client j, given c's own era and entry (j, c). Yes: go to 4
unfoldable pub second_condition : Client → Entry → Client → Era → Era → Outcome RescuerRecord
second_condition c e j own seen = onto (cond (swap_seen own seen) (RescuerStep.Cell e) (onward c e (j.0 + 1)))

-- R4.4: cell: write what the logged operation would have written
unfoldable pub write_cell : Client → Entry → Outcome RescuerRecord
write_cell c e =
    went Answer.Accepted RescuerStep.Era (Store.Cell c e.operation.cell (written e.operation))

-- R4.5: add one to c's own era; go to 6
unfoldable pub raise_era : Client → Era → Outcome RescuerRecord
raise_era c own = went Answer.Accepted RescuerStep.Search (Store.Era c c (raised own))

-- R4.6: none: c is absent, 100; otherwise open the release of the lowest full cell
abbrev pub searched : Client → Option (ℕ × Slot) → Outcome RescuerRecord
searched c None = went Answer.Finished RescuerStep.ReadLog (Store.Standing c Standing.Absent)
searched c (Some (k, s)) =
    onto (RescuerStep.Release (record { stage = Stage.Load (record { kind = Kind.Release; cell = k; slot = s }) }))

-- R4.6: a stage of the opened release: a lost swap answers 101, the sixth stage answers 0 and returns to 6
abbrev pub as_rescue : Outcome ClientRecord → Outcome RescuerRecord
as_rescue s =
    cond (is_idle s.next)
    (went Answer.Accepted RescuerStep.Search s.store)
    (went s.answer (RescuerStep.Release s.next) s.store)

-- R4.0: one rescue step; here stands which words each reads: c's log, the header of a slot, c's row, of the other rows
-- what they have seen of c, and the lowest full cell
abbrev pub rescue_by : Client → (ℕ → ℕ) → (ℕ → ℕ) → (ℕ → ℕ) → Option Entry → Option (ℕ × Slot) → RescuerStep → Outcome RescuerRecord
rescue_by c hdr row col log found RescuerStep.ReadLog = read_log log
rescue_by c hdr row col log found (RescuerStep.Condition1 e) =
    first_condition c e (record { 0 = row c.0 }) (hdr e.operation.slot.0)
rescue_by c hdr row col log found (RescuerStep.Condition2 e j) =
    second_condition c e j (record { 0 = row c.0 }) (record { 0 = col j.0 })
rescue_by c hdr row col log found (RescuerStep.Cell e) = write_cell c e
rescue_by c hdr row col log found RescuerStep.Era = raise_era c (record { 0 = row c.0 })
rescue_by c hdr row col log found RescuerStep.Search = searched c found
rescue_by c hdr row col log found (RescuerStep.Release r) = as_rescue (step_by c hdr row r.stage)

-- R4.0: one rescue step, of the headers, the cells, c's log and the matrix
unfoldable pub rescue_of : Client → List ℕ → List ℕ → Option Entry → List (List ℕ) → RescuerStep → Outcome RescuerRecord
rescue_of c headers bytes log eras step =
    rescue_by c (header_at headers) (λ j. (seen_era eras c.0 j).0) (λ j. (seen_era eras j c.0).0) log
    (lowest_full bytes c.0) step

-- R4.6: the stage of the release that a rescuer has opened, or none
abbrev pub release_stage : RescuerStep → Stage
release_stage RescuerStep.ReadLog = Stage.Idle
release_stage (RescuerStep.Condition1 e) = Stage.Idle
release_stage (RescuerStep.Condition2 e j) = Stage.Idle
release_stage (RescuerStep.Cell e) = Stage.Idle
release_stage RescuerStep.Era = Stage.Idle
release_stage RescuerStep.Search = Stage.Idle
release_stage (RescuerStep.Release r) = r.stage
