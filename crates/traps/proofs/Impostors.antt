-- What shuts each impostor of R8.2 out. The first four are held to one call of situation A (R6.A): there they answer or
-- write something else than demand 2 says, so the statement of the public call is not theirs. The fifth is held to its
-- own ledger. Assumes nothing.
use Rattle.std.proofs.Common.{◌≡◌, ℕ, take, sym, ap, arith}
use mathlib.Core.Bool.{false≢true}
use Rattle.numbers.specs.Answers.{number_of}
use Rattle.header.specs.Header.{packed, unpacked, spare_in}
use Rattle.block.specs.Block.{fresh_block}
use Rattle.block.specs.Matrix.{fresh_eras}
use Rattle.stages.specs.declared.Outcome.{Outcome}
use Rattle.stages.specs.Stages.{load_stage, note_stage, log_stage, swap_stage, written, cell_stage, era_stage, step_of}
use Rattle.limits.specs.Limits.{header_within, entry_within, block_within, row_within, stage_within, rescue_within, within}
use Rattle.calls.specs.declared.Records.{Records}
use Rattle.calls.specs.Calls.{asks, effect, plain_call, checked_call}
use Rattle.world.specs.World.{CallFunction, calling, fresh, after_by, run_by}
use Rattle.history.specs.Ledger.{performed_by, entered_by, ledger_by, naming}
use Rattle.history.specs.Demand3.{Keeps}
use Rattle.traps.specs.Impostors.{Meets, refuses_all, accepts_all, changes_no_word, all_at_load, invents_count, worked, made_of, writes_header}

-- the statement of the public call, at the call of situation A that comes after its first n
at : (f : CallFunction) (n : ℕ) → Meets f → made_of f n ≡ made_of checked_call n
at f n meets = meets _ _ _ _

-- R8.2 a, by demand 2: the join of situation A gets 0, and here 4
pub refusing_all_is_out : Meets refuses_all → ⊥
unfolding packed unpacked spare_in fresh_block fresh_eras header_within block_within row_within stage_within rescue_within
    within asks effect plain_call checked_call fresh run_by
refusing_all_is_out meets =
    let e : ◌≡◌ {A = ℕ} 4 0 = ap (λ (o : Outcome Records). number_of o.answer) (at refuses_all 0 meets) in
    omega arith

-- R8.2 b, by demand 2: the sixth step of situation A gets 100, and here 0
pub accepting_all_is_out : Meets accepts_all → ⊥
unfolding packed unpacked spare_in fresh_block fresh_eras load_stage note_stage log_stage swap_stage written cell_stage era_stage
    step_of header_within entry_within block_within row_within stage_within rescue_within within asks effect plain_call
    checked_call fresh after_by run_by
accepting_all_is_out meets =
    let e : ◌≡◌ {A = ℕ} 0 100 = ap (λ (o : Outcome Records). number_of o.answer) (at accepts_all 7 meets) in
    omega arith

-- R8.2 c, by demand 2: the swap of situation A writes a header, and here nothing
pub changing_no_word_is_out : Meets changes_no_word → ⊥
unfolding packed unpacked spare_in fresh_block fresh_eras load_stage note_stage log_stage swap_stage step_of header_within
    entry_within block_within row_within stage_within rescue_within within asks effect plain_call checked_call fresh after_by
    run_by
changing_no_word_is_out meets =
    false≢true (ap (λ (o : Outcome Records). writes_header o.store) (at changes_no_word 5 meets))

-- R8.2 d, by demand 2: the load of situation A writes nothing, and here a header
pub all_at_load_is_out : Meets all_at_load → ⊥
unfolding packed unpacked spare_in fresh_block fresh_eras load_stage step_of header_within block_within row_within stage_within
    rescue_within within asks effect plain_call checked_call fresh after_by run_by
all_at_load_is_out meets =
    false≢true (sym (ap (λ (o : Outcome Records). writes_header o.store) (at all_at_load 2 meets)))

-- R8.2 e, by demand 3 (a): after the swap of situation A, its sixth call, the count is 2 and the ledger has one line
pub inventing_a_count_is_out : Keeps (calling invents_count) (take 6 worked) → ⊥
unfolding packed unpacked spare_in fresh_block fresh_eras load_stage note_stage log_stage swap_stage step_of header_within
    entry_within block_within row_within stage_within rescue_within within asks effect plain_call checked_call fresh
    after_by run_by performed_by entered_by ledger_by naming
inventing_a_count_is_out keeps =
    let e : ◌≡◌ {A = ℕ} 2 1 = keeps.count 5 (omega arith) in
    omega arith
