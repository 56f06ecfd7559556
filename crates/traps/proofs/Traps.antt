-- Every trap of part 7 is one: its history is played on the machine that falls into it and on the machine of the rules.
-- Of the first it is shown that a part of demand 3 fails; of the second that it holds, by the theorem of demand 3.
-- Assumes nothing.
use Rattle.std.proofs.Common.{◌≡◌, ℕ, true, take, refl, ap, arith}
use Rattle.numbers.specs.Answers.{number_of}
use Rattle.header.specs.Header.{packed, unpacked, spare_in}
use Rattle.block.specs.Block.{fresh_block}
use Rattle.block.specs.Matrix.{fresh_eras}
use Rattle.stages.specs.Stages.{load_stage, note_stage, log_stage, swap_stage, written, cell_stage, era_stage, step_of}
use Rattle.rescue.specs.Search.{lowest_from}
use Rattle.rescue.specs.Rescue.{first_condition, second_condition, write_cell, raise_era, rescue_of}
use Rattle.limits.specs.Limits.{header_within, entry_within, block_within, row_within, stage_within, rescue_within, within}
use Rattle.calls.specs.Calls.{asks, looked, effect, plain_call, checked_call}
use Rattle.world.specs.World.{fresh, after_by, run_by}
use Rattle.history.specs.Ledger.{struck, phased, performed_by, entered_by, ledger_by, naming, shown_by}
use Rattle.history.specs.Demand3.{Keeps}
use Rattle.situations.specs.Situation.{shared_words, is_so, comes_about, holds}
use Rattle.traps.specs.Variant.{fresh_from_zero, within_from_zero, breaking}
use Rattle.traps.specs.Traps.{lines_of, ending, Trap, Caught, AllCaught, calls_in, eras_from_zero, condition_2_first, row_wiped_at_leave, row_wiped_at_rescue, counts_compared, note_after_swap, released_cell_believed}
use Rattle.traps.proofs.Variant.{unbroken_keeps}

-- what is played of a trap, beside what the theorem of demand 3 says of it
played :
    (t : Trap) →
    holds t.history ≡ true →
    ending (breaking t.number) t.client (calls_in t) ≡ t.trapped →
    ending (breaking 0) t.client (calls_in t) ≡ t.unbroken →
    (Keeps (breaking t.number) (take t.after (calls_in t)) → ⊥) →
    Caught t
played t comes_about trapped unbroken fails =
    record {
      comes_about = comes_about;
      fails = fails;
      keeps = unbroken_keeps (take t.after (calls_in t));
      trapped = trapped;
      unbroken = unbroken;
    }

-- R7: each of them. Where its rule is broken, (a) fails in the first and the fifth, with a count of 0 and one line; (d)
-- in those between and in the sixth, with a rescue that ends and a line of client 0; (b) in the last, with a look up
-- that gets 205 where the ledger says 199
pub all_caught : AllCaught
unfolding packed unpacked spare_in fresh_block fresh_eras load_stage note_stage log_stage swap_stage written cell_stage
    era_stage step_of lowest_from first_condition second_condition write_cell raise_era rescue_of header_within
    entry_within block_within row_within stage_within rescue_within within asks looked effect plain_call checked_call
    fresh after_by run_by shared_words is_so comes_about holds lines_of naming shown_by struck phased performed_by entered_by
    ledger_by ending fresh_from_zero within_from_zero
all_caught =
    record {
      eras_begin_at_one = played eras_from_zero refl refl refl
          (λ k. let e : ◌≡◌ {A = ℕ} 0 1 = k.count 5 (omega arith) in omega arith);
      condition_1_first = played condition_2_first refl refl refl
          (λ k. (k.rescue_leaves_nothing 0 (omega arith) refl refl).1.1.0 refl);
      rows_stay_at_leave = played row_wiped_at_leave refl refl refl
          (λ k. (k.rescue_leaves_nothing 0 (omega arith) refl refl).1.0 refl);
      rows_stay_at_rescue = played row_wiped_at_rescue refl refl refl
          (λ k. (k.rescue_leaves_nothing 0 (omega arith) refl refl).1.0 refl);
      whole_header_compared = played counts_compared refl refl refl
          (λ k. let e : ◌≡◌ {A = ℕ} 0 1 = k.count 5 (omega arith) in omega arith);
      note_before_swap = played note_after_swap refl refl refl
          (λ k. (k.rescue_leaves_nothing 0 (omega arith) refl refl).1.1.0 refl);
      released_cell_hidden = played released_cell_believed refl refl refl
          (λ k.
          let e : ◌≡◌ {A = ℕ} 205 199 = ap number_of (k.lookup 0 2 (omega arith) (omega arith) refl) in
          omega arith);
    }
