-- The limits of given contents (R1.12): what a block, an era matrix and the records of a client may hold. That a kind
-- or a standing is none of those named, that a stage is none its operation has, and that a rescuer keeps a log without
-- the words its step reads (R1.12 l, m, o, p) no value of these types can say.
use Rattle.std.specs.Prelude.{ℕ, Bool, true, not, ◌&&◌, ◌||◌, List, ltb, leb, eqb, get_or, Option, Some, None}
use Rattle.std.specs.List.{list_all, enumerate_from}
use Rattle.numbers.specs.Sizes.{clients, slots, cells, era_limit, count_limit}
use Rattle.header.specs.Header.{era_in, count_in, client_in, spare_in}
use Rattle.block.specs.declared.Block.{Block}
use Rattle.block.specs.declared.Entry.{Entry}
use Rattle.block.specs.declared.Operation.{Operation}
use Rattle.block.specs.Block.{empty}
use Rattle.stages.specs.declared.ClientRecord.{ClientRecord}
use Rattle.stages.specs.declared.Stage.{Stage}
use Rattle.stages.specs.Stages.{open_in, kept_in, releases}
use Rattle.rescue.specs.declared.RescuerStep.{RescuerStep}
use Rattle.rescue.specs.declared.RescuerRecord.{RescuerRecord}

-- R1.12: a header has its spare bits zero, a client that there is, a count and an era not above theirs
unfoldable pub header_within : ℕ → Bool
header_within w =
    eqb (spare_in w) 0 && (ltb (client_in w) clients && (leb (count_in w) count_limit && leb (era_in w) era_limit))

-- R1.12: a cell's byte is empty or names a slot that there is
abbrev pub cell_within : ℕ → Bool
cell_within byte = eqb byte empty || ltb byte slots

-- R1.12: an operation names a cell and a slot that there are
abbrev pub operation_within : Operation → Bool
operation_within op = ltb op.cell cells && ltb op.slot.0 slots

-- R1.12: a log names a cell and a slot that there are, a count and an era not above theirs
unfoldable pub entry_within : Entry → Bool
entry_within e = operation_within e.operation && (leb e.count count_limit && leb e.era.0 era_limit)

abbrev pub log_within : Option Entry → Bool
log_within None = true
log_within (Some e) = entry_within e

-- R1.12: every header, cell and log of a block
unfoldable pub block_within : Block → Bool
block_within b =
    list_all header_within b.headers
    && (list_all cell_within b.cells && list_all log_within b.logs)

-- R1.12: a row of the matrix has no entry above the era limit, and the own era, which stands at i, is not 0
unfoldable pub row_within : ℕ → List ℕ → Bool
row_within i row = ltb 0 (get_or row i 0) && list_all (λ (e : ℕ). leb e era_limit) row

-- R1.12: every row of the matrix
abbrev pub eras_within : List (List ℕ) → Bool
eras_within eras = list_all (λ (p : ℕ × List ℕ). row_within p.0 p.1) (enumerate_from 0 eras)

-- R1.12: the operation that is under way
abbrev pub open_within : Option Operation → Bool
open_within None = true
open_within (Some op) = operation_within op

-- R1.12: the header that is kept
abbrev pub kept_within : Option ℕ → Bool
kept_within None = true
kept_within (Some h) = header_within h

-- R1.12: a stage of a working record
unfoldable pub stage_within : Stage → Bool
stage_within stage = open_within (open_in stage) && kept_within (kept_in stage)

-- R1.12: a step of the rescuer of client c; in condition 2 it stands at a client that there is, and not at c
unfoldable pub rescue_within : ℕ → RescuerStep → Bool
rescue_within c RescuerStep.ReadLog = true
rescue_within c (RescuerStep.Condition1 e) = entry_within e
rescue_within c (RescuerStep.Condition2 e j) = entry_within e && (ltb j.0 clients && not (eqb j.0 c))
rescue_within c (RescuerStep.Cell e) = entry_within e
rescue_within c RescuerStep.Era = true
rescue_within c RescuerStep.Search = true
rescue_within c (RescuerStep.Release r) = releases r.stage && stage_within r.stage

-- R1.12: the block, the matrix and the two records of client c that a call is given
unfoldable pub within : ℕ → Block → List (List ℕ) → ClientRecord → RescuerRecord → Bool
within c b eras client rescuer =
    block_within b && (eras_within eras && (stage_within client.stage && rescue_within c rescuer.step))
