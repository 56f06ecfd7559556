-- The traps of part 7 of the rules: for each a history after which demand 3 fails where its rule is broken. The history
-- is written with the numbers that the machine of the rules answers (Situation.antt), and with what both machines end
-- with. A header is written {era, count, client}.
use Rattle.std.specs.Prelude.{ℕ, ◌+◌, true, cond, List, [], ◌∷◌, ◌++◌, ◌≡◌, eqb, replicate, take}
use Rattle.header.specs.Header.{count_in}
use Rattle.block.specs.Block.{header_at}
use Rattle.calls.specs.declared.Call.{Call}
use Rattle.calls.specs.Named.{join, lease, attach, release, step, fail, take_over, rescue_step, look_up}
use Rattle.world.specs.World.{Machine, run_by}
use Rattle.history.specs.Ledger.{Line, ledger_by, naming}
use Rattle.history.specs.Demand3.{Keeps}
use Rattle.situations.specs.Situation.{Situation, file, calls_of, holds, found, answered, accepted, steps, whole_lease, rescue_steps, last_rescue_steps, rescue}
use Rattle.situations.specs.Situation.Item.{gets}
use Rattle.situations.specs.Situation.Fact.{count_is, own_era_is, entry_is, cell_holds}
use Rattle.situations.specs.Table.{fails_in_lease, l_row_of_client_that_left, l_row_of_client_rescued}
use Rattle.traps.specs.Variant.{breaking}

-- how many lines are client c's
unfoldable pub lines_of : ℕ → List Line → ℕ
lines_of c [] = 0
lines_of c (l ∷ rest) = cond (eqb l.client c) 1 0 + lines_of c rest

-- what demand 3 compares at the end of a history
pub record Ending : Type 0 where
  -- (a) the count of slot 5, and the lines that name it
  pub count : ℕ
  pub lines : ℕ
  -- (d) the lines of the client that was rescued
  pub left : ℕ

-- what a machine ends a history with, c being the client that was rescued
unfoldable pub ending : Machine → ℕ → List Call → Ending
ending m c h =
    let lines = ledger_by m m.start [] h in
    record {
      count = count_in (header_at (run_by m m.start h).block.headers 5);
      lines = naming 5 lines;
      left = lines_of c lines;
    }

-- a trap: its number in part 7, its history, after how many of the calls demand 3 fails, whom it is about, and what the
-- machine that falls into it and the machine of the rules end with
pub record Trap : Type 0 where
  pub number : ℕ
  pub history : Situation
  pub after : ℕ
  pub client : ℕ
  pub trapped : Ending
  pub unbroken : Ending

-- the calls of a trap's history
abbrev pub calls_in : Trap → List Call
calls_in t = calls_of t.history.items

-- what is to be shown of a trap
pub record Caught (t : Trap) : Type 0 where
  -- the machine of the rules answers the numbers that the history is written with
  pub comes_about : holds t.history ≡ true
  -- demand 3 fails where the rule is broken
  pub fails : Keeps (breaking t.number) (take t.after (calls_in t)) → ⊥
  -- and holds where none is
  pub keeps : Keeps (breaking 0) (take t.after (calls_in t))
  -- what the two end with
  pub trapped : ending (breaking t.number) t.client (calls_in t) ≡ t.trapped
  pub unbroken : ending (breaking 0) t.client (calls_in t) ≡ t.unbroken

-- R7.1. Own eras begin at 0. Client 0 fails after its first log. The untouched header {0, 0, 0} has client 0 and era 0,
-- so that condition 1 says yes, and the rescue writes slot 5 into cell 2. Client 1 leases slot 5; the rescue releases
-- it: the count is 0, and the ledger has the line of client 1. By the rules the rescue has 10 steps and finds nothing.
abbrev pub eras_from_zero : Trap
eras_from_zero =
    record {
      number = 1;
      history =
          file
          (fails_in_lease 0 3
          ++ accepted (take_over 0)
          ++ rescue_steps 0 5
          ++ accepted (join 1)
          ++ accepted (lease 1 3 5)
          ++ steps 1 4
          ++ last_rescue_steps 0 5
          ++ found (count_is 5 1 ∷ own_era_is 0 1 ∷ []));
      after = 22;
      client = 0;
      trapped = record { count = 0; lines = 1; left = 0 };
      unbroken = record { count = 1; lines = 1; left = 0 };
    }

-- R7.2. Condition 2 is asked ahead of condition 1. Client 0 fails after its swap, {1, 1, 0}. Its rescuer has asked
-- (1, 0) and had a no when client 1 notes era 1 of client 0 and swaps {1, 2, 1}. The other rows say no, and so does
-- condition 1, asked last: the rescue ends, and leaves client 0 the line that it had won. By the rules condition 1 is
-- asked before client 1 comes, and says yes.
abbrev pub condition_2_first : Trap
condition_2_first =
    record {
      number = 2;
      history =
          file
          (fails_in_lease 0 4
          ++ accepted (take_over 0)
          ++ rescue_steps 0 2
          ++ accepted (join 1)
          ++ accepted (attach 1 3 5)
          ++ steps 1 4
          ++ last_rescue_steps 0 10
          ++ found (count_is 5 1 ∷ own_era_is 0 3 ∷ []));
      after = 23;
      client = 0;
      trapped = record { count = 2; lines = 2; left = 1 };
      unbroken = record { count = 1; lines = 1; left = 0 };
    }

-- R7.3. The row of a client that leaves is wiped: situation L. That client 0 had swapped only entry (1, 0) shows; with
-- it wiped the rescue says no eight times and leaves client 0 the line that it had won.
abbrev pub row_wiped_at_leave : Trap
row_wiped_at_leave =
    record {
      number = 3;
      history = l_row_of_client_that_left;
      after = 33;
      client = 0;
      trapped = record { count = 1; lines = 1; left = 1 };
      unbroken = record { count = 0; lines = 0; left = 0 };
    }

-- R7.3. The same where client 1 does not leave but fails and is rescued: situation L, its second row.
abbrev pub row_wiped_at_rescue : Trap
row_wiped_at_rescue =
    record {
      number = 3;
      history = l_row_of_client_rescued;
      after = 44;
      client = 0;
      trapped = record { count = 1; lines = 1; left = 1 };
      unbroken = record { count = 0; lines = 0; left = 0 };
    }

-- R7.4. A swap compares counts. Client 0 loads the untouched header for a lease. Client 1 leases slot 5, releases it up
-- to its swap, {2, 0, 1}, and fails: count 0 again, another header. Client 0, who noted none of it, swaps {1, 1, 0}.
-- In the rescue of client 1 condition 1 says no and so do all rows; cell 3, never emptied, is released once more: the
-- count is 0, and the ledger has the line of client 0. By the rules client 0 gets 101, and condition 1 says yes.
abbrev pub counts_compared : Trap
counts_compared =
    record {
      number = 4;
      history =
          file
          (accepted (join 0)
          ++ accepted (lease 0 2 5)
          ++ steps 0 1
          ++ accepted (join 1)
          ++ whole_lease 1 3 5
          ++ accepted (release 1 3)
          ++ steps 1 4
          ++ accepted (fail 1)
          ++ steps 0 2
          ++ answered (step 0) 101
          ++ rescue 1 5
          ++ replicate 9 (gets (rescue_step 1) 4)
          ++ found (count_is 5 0 ∷ own_era_is 1 3 ∷ []));
      after = 35;
      client = 1;
      trapped = record { count = 0; lines = 1; left = 0 };
      unbroken = record { count = 0; lines = 0; left = 0 };
    }

-- R7.5. The note comes after the swap. Client 0 fails after its swap. Client 1 swaps over it and has not noted it when
-- the rescuer of client 0 asks: condition 1 says no and so do all rows, and client 0 is left the line that it had won.
-- By the rules three steps of client 1 are load, note and log, and condition 1 says yes.
abbrev pub note_after_swap : Trap
note_after_swap =
    record {
      number = 5;
      history =
          file
          (fails_in_lease 0 4
          ++ accepted (join 1)
          ++ accepted (attach 1 3 5)
          ++ steps 1 3
          ++ rescue 0 12
          ++ found (count_is 5 0 ∷ entry_is 1 0 1 ∷ own_era_is 0 3 ∷ []));
      after = 22;
      client = 0;
      trapped = record { count = 2; lines = 2; left = 1 };
      unbroken = record { count = 0; lines = 0; left = 0 };
    }

-- R7.6. A cell is believed while it is being released. Client 0's release has swapped the count to 0, and client 1 has
-- leased slot 5 anew; client 0's look up still shows it, and the ledger has no line of client 0. By the
-- rules the look up gets 199.
abbrev pub released_cell_believed : Trap
released_cell_believed =
    record {
      number = 6;
      history =
          file
          (accepted (join 0)
          ++ whole_lease 0 2 5
          ++ accepted (release 0 2)
          ++ steps 0 4
          ++ accepted (join 1)
          ++ accepted (lease 1 3 5)
          ++ steps 1 4
          ++ found (cell_holds 0 2 5 ∷ count_is 5 1 ∷ [])
          ++ answered (look_up 0 2) 199);
      after = 19;
      client = 0;
      trapped = record { count = 1; lines = 1; left = 0 };
      unbroken = record { count = 1; lines = 1; left = 0 };
    }

-- R7: all of them
pub record AllCaught : Type 0 where
  pub eras_begin_at_one : Caught eras_from_zero
  pub condition_1_first : Caught condition_2_first
  pub rows_stay_at_leave : Caught row_wiped_at_leave
  pub rows_stay_at_rescue : Caught row_wiped_at_rescue
  pub whole_header_compared : Caught counts_compared
  pub note_before_swap : Caught note_after_swap
  pub released_cell_hidden : Caught released_cell_believed
