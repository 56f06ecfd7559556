-- The one theorem of the situations: every row of the table comes about. It is proved by playing the rows: each
-- definition of the rules that a row plays is named on the `unfolding` line. Assumes nothing.
use Rattle.std.proofs.Common.{refl}
use Rattle.header.specs.Header.{packed, unpacked, spare_in}
use Rattle.block.specs.Block.{fresh_block}
use Rattle.block.specs.Matrix.{fresh_eras}
use Rattle.stages.specs.Stages.{load_stage, note_stage, log_stage, swap_stage, written, cell_stage, era_stage, step_of}
use Rattle.rescue.specs.Search.{lowest_from}
use Rattle.rescue.specs.Rescue.{first_condition, second_condition, write_cell, raise_era, rescue_of}
use Rattle.limits.specs.Limits.{header_within, entry_within, block_within, row_within, stage_within, rescue_within, within}
use Rattle.calls.specs.Calls.{asks, looked, effect, plain_call, checked_call}
use Rattle.world.specs.World.{fresh, after_by, run_by}
use Rattle.situations.specs.Situation.{shared_words, is_so, comes_about, holds}
use Rattle.situations.specs.Table.{situations, AllHold}

pub all_hold : AllHold
unfolding packed unpacked spare_in fresh_block fresh_eras load_stage note_stage log_stage swap_stage written cell_stage
    era_stage step_of lowest_from first_condition second_condition write_cell raise_era rescue_of header_within
    entry_within block_within row_within stage_within rescue_within within asks looked effect plain_call checked_call
    fresh after_by run_by shared_words is_so comes_about holds situations
all_hold = refl
