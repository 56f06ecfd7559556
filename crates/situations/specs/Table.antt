-- The situations A to J of the rules (part 6) and two of our own, K and L, as one table. Over each stand what happens,
-- in a sentence, and how its numbers follow from the rules. A header is written {era, count, client}, and its word is
-- named where the rules name it (situation A).
use Rattle.std.specs.Prelude.{ℕ, true, List, [], ◌∷◌, ◌++◌, ◌≡◌}
use Rattle.std.specs.List.{list_all}
use Rattle.block.specs.declared.Standing.{Standing}
use Rattle.block.specs.Store.{with_era}
use Rattle.calls.specs.Named.{join, leave, lease, attach, release, step, fail, take_over, rescue_step, rescuer_fails, look_up}
use Rattle.world.specs.World.{World, fresh}
use Rattle.situations.specs.Situation.{Item, Situation, file, end_of, holds, found, answered, accepted, steps, six_steps, whole_lease, whole_attach, whole_release, rescue_steps, last_rescue_steps, rescue}
use Rattle.situations.specs.Situation.Fact.{count_is, header_is, word_is, own_era_is, entry_is, cell_holds, cell_empty, standing_is, would_write, words_of}

-- client c joins and opens a lease of slot 5 into cell 2, and fails after n steps
abbrev pub fails_in_lease : ℕ → ℕ → List Item
fails_in_lease c n =
    accepted (join c) ++ accepted (lease c 2 5) ++ steps c n ++ accepted (fail c)

-- A. The worked example: client 0 leases slot 5 into cell 2 and looks up that cell and the next (R6.A).
-- Its one swap is won at own era 1: {1, 1, 0}, which is 1 + 4294967296; the sixth step makes the own era 2. Cell 2
-- shows 200 + 5, and cell 3 is empty.
abbrev pub a_worked_example : Situation
a_worked_example =
    file
    (accepted (join 0)
    ++ whole_lease 0 2 5
    ++ answered (look_up 0 2) 205
    ++ answered (look_up 0 3) 199
    ++ found (word_is 5 4294967297 ∷ header_is 5 1 1 0 ∷ count_is 5 1 ∷ own_era_is 0 2 ∷ []))

-- B. Client 0 fails with its lease logged and not swapped; the rescue undoes nothing, for nothing was done (R6.B).
-- The log is read (1), the untouched header has era 0, not 1 (2), the seven entries (1, 0) to (7, 0) are 0 (3 to 9),
-- and no cell is full (10): 10 steps. No swap and no era step was made: count 0, own era 1.
abbrev pub b_lease_lost_before_swap : Situation
b_lease_lost_before_swap =
    file
    (fails_in_lease 0 3
    ++ rescue 0 10
    ++ found (header_is 5 0 0 0 ∷ count_is 5 0 ∷ own_era_is 0 1 ∷ cell_empty 0 2 ∷ standing_is 0 Standing.Absent ∷ []))

-- C. Client 0 fails right after its swap; the rescue completes the lease and then releases it (R6.C).
-- The log is read (1), the header {1, 1, 0} has client 0 and era 1 (2), cell 2 is written (3), the own era becomes 2
-- (4), the search finds cell 2 (5), its release has six stages (6 to 11), which swap at era 2 and make the own era 3,
-- and the search finds nothing (12): 12 steps. The header ends as {2, 0, 0}.
abbrev pub c_lease_lost_after_swap : Situation
c_lease_lost_after_swap =
    file
    (fails_in_lease 0 4
    ++ rescue 0 12
    ++ found (header_is 5 2 0 0 ∷ count_is 5 0 ∷ own_era_is 0 3 ∷ cell_empty 0 2 ∷ standing_is 0 Standing.Absent ∷ []))

-- D. As in C, but client 1 attaches to slot 5 before the take over: its swap hides the other, its note shows it (R6.D).
-- Client 1 notes era 1 of client 0 and swaps {1, 2, 1}. The log is read (1), condition 1 says no (2), condition 2 says
-- yes at its first entry, (1, 0) (3), and C's last ten steps follow (4 to 13): 13 steps. The release swaps {2, 1, 0}.
-- The own era of client 0 went up twice, that of client 1 once.
abbrev pub d_swap_seen_by_another : Situation
d_swap_seen_by_another =
    file
    (fails_in_lease 0 4
    ++ accepted (join 1)
    ++ whole_attach 1 3 5
    ++ found (header_is 5 1 2 1 ∷ entry_is 1 0 1 ∷ [])
    ++ rescue 0 13
    ++ answered (look_up 1 3) 205
    ++ found (header_is 5 2 1 0 ∷ count_is 5 1 ∷ own_era_is 0 3 ∷ own_era_is 1 2 ∷ standing_is 0 Standing.Absent ∷ []))

-- E. Clients 0 and 1 load slot 5, which client 2 holds, for an attach each; the swap that comes second is lost (R6.E).
-- Both keep {1, 1, 2}. Client 0 swaps {1, 2, 0}; client 1 finds it in place of the kept word: 101, and the header
-- stays. From its load on client 1 then swaps {1, 3, 1}.
abbrev pub e_swap_lost_to_another : Situation
e_swap_lost_to_another =
    file
    (accepted (join 2)
    ++ whole_lease 2 4 5
    ++ accepted (join 0)
    ++ accepted (join 1)
    ++ accepted (attach 0 2 5)
    ++ accepted (attach 1 3 5)
    ++ steps 0 1
    ++ steps 1 1
    ++ steps 0 3
    ++ steps 1 2
    ++ answered (step 1) 101
    ++ found (header_is 5 1 2 0 ∷ count_is 5 2 ∷ [])
    ++ steps 0 1
    ++ answered (step 0) 100
    ++ six_steps 1
    ++ found (header_is 5 1 3 1 ∷ count_is 5 3 ∷ own_era_is 0 2 ∷ own_era_is 1 2 ∷ own_era_is 2 2 ∷ []))

-- a world given to F: client 0 runs and holds slot 5 in cell 2, and its own era is e
abbrev pub with_own_era : ℕ → World
with_own_era e =
    let w = end_of (file (accepted (join 0) ++ whole_lease 0 2 5)) in
    record { block = w.block; eras = with_era w.eras 0 0 (record { 0 = e }); records = w.records }

-- F. With an own era one below the era stop, client 0 can still lease (R6.F).
-- The lease of slot 6 swaps {4294967199, 1, 0}, and raises the own era to 4294967200, which is the era stop: the next
-- lease gets 9.
abbrev pub f_below_era_stop : Situation
f_below_era_stop =
    record {
      start = with_own_era 4294967199;
      items =
          whole_lease 0 3 6
          ++ found (header_is 6 4294967199 1 0 ∷ count_is 6 1 ∷ own_era_is 0 4294967200 ∷ [])
          ++ answered (lease 0 4 7) 9;
    }

-- F. With an own era at the era stop, client 0 can neither lease nor attach, but it can let go (R6.F).
-- Lease and attach get 9; the release of cell 2 is accepted and swaps {4294967200, 0, 0}; the own era becomes
-- 4294967201, which is not above the limit of R2.18.
abbrev pub f_at_era_stop : Situation
f_at_era_stop =
    record {
      start = with_own_era 4294967200;
      items =
          answered (lease 0 3 6) 9
          ++ answered (attach 0 3 5) 9
          ++ whole_release 0 2
          ++ found (header_is 5 4294967200 0 0 ∷ count_is 5 0 ∷ own_era_is 0 4294967201 ∷ cell_empty 0 2 ∷ []);
    }

-- G. Of several numbers that are too large the first in the order of the checks answers, ahead of the standing (R6.G).
-- Nobody has joined. Client 8 gets 1 from each of the eleven calls, whatever its cell and slot; client 0 with cell 16
-- gets 2, with cell 15 and slot 64 it gets 3, and with numbers that all exist 4. All words stay.
abbrev pub g_numbers_too_large : Situation
g_numbers_too_large =
    file
    (answered (join 8) 1
    ++ answered (leave 8) 1
    ++ answered (lease 8 16 64) 1
    ++ answered (attach 8 16 64) 1
    ++ answered (release 8 16) 1
    ++ answered (step 8) 1
    ++ answered (fail 8) 1
    ++ answered (take_over 8) 1
    ++ answered (rescue_step 8) 1
    ++ answered (rescuer_fails 8) 1
    ++ answered (look_up 8 16) 1
    ++ answered (lease 0 16 64) 2
    ++ answered (attach 0 16 64) 2
    ++ answered (release 0 16) 2
    ++ answered (look_up 0 16) 2
    ++ answered (lease 0 15 64) 3
    ++ answered (attach 0 15 64) 3
    ++ answered (lease 0 15 63) 4
    ++ found (words_of fresh ∷ []))

-- H. Client 1 opens a lease of a held slot and an attach to a free one; each ends at its load (R6.H).
-- Slot 5 has count 1, so the lease gets 7; slot 6 has count 0, so the attach gets 8. That each is over shows in what
-- comes after: the attach can be opened, and one more step gets 5. Neither changes a word.
abbrev pub h_slot_held_slot_free : Situation
h_slot_held_slot_free =
    file
    (accepted (join 0)
    ++ whole_lease 0 2 5
    ++ accepted (join 1)
    ++ accepted (lease 1 3 5)
    ++ answered (step 1) 7
    ++ accepted (attach 1 3 6)
    ++ answered (step 1) 8
    ++ answered (step 1) 5
    ++ found (header_is 5 1 1 0 ∷ header_is 6 0 0 0 ∷ count_is 5 1 ∷ count_is 6 0 ∷ own_era_is 1 1 ∷ []))

-- I. Client 0's release is past its swap when slot 5 goes to client 2; its cell names it and shows nothing (R6.I).
-- The swaps: lease {1, 1, 0}, attach {1, 2, 1}, release of client 0 {2, 1, 0}, release of client 1 {2, 0, 1}, lease of
-- client 2 {1, 1, 2}. Cell 2 of client 0 is written only at the fifth stage, so it holds 5, but it is being released:
-- 199. Client 2's look up shows 205.
abbrev pub i_look_up_while_releasing : Situation
i_look_up_while_releasing =
    file
    (accepted (join 0)
    ++ whole_lease 0 2 5
    ++ accepted (join 1)
    ++ whole_attach 1 3 5
    ++ accepted (release 0 2)
    ++ steps 0 4
    ++ whole_release 1 3
    ++ found (count_is 5 0 ∷ [])
    ++ accepted (join 2)
    ++ whole_lease 2 4 5
    ++ found (cell_holds 0 2 5 ∷ [])
    ++ answered (look_up 0 2) 199
    ++ answered (look_up 2 4) 205
    ++ found (header_is 5 1 1 2 ∷ count_is 5 1 ∷ own_era_is 0 2 ∷ own_era_is 1 3 ∷ own_era_is 2 2 ∷ []))

-- J. As in C, but the first rescuer fails after its cell step; the second does all of it again and ends alike (R6.J).
-- The third step of either writes slot 5 into cell 2 of client 0. The first leaves the own era at 1 and the header at
-- {1, 1, 0}, so the second meets condition 1 again and needs the 12 steps of C: two, the cell step, nine more.
abbrev pub j_rescuer_fails : Situation
j_rescuer_fails =
    file
    (fails_in_lease 0 4
    ++ accepted (take_over 0)
    ++ rescue_steps 0 2
    ++ found (would_write (rescue_step 0) 0 2 5 ∷ [])
    ++ rescue_steps 0 1
    ++ found (cell_holds 0 2 5 ∷ own_era_is 0 1 ∷ [])
    ++ accepted (rescuer_fails 0)
    ++ found (standing_is 0 Standing.Failed ∷ [])
    ++ accepted (take_over 0)
    ++ rescue_steps 0 2
    ++ found (would_write (rescue_step 0) 0 2 5 ∷ [])
    ++ last_rescue_steps 0 10
    ++ found (count_is 5 0 ∷ own_era_is 0 3 ∷ words_of (end_of c_lease_lost_after_swap) ∷ []))

-- K. Between load and swap of client 0's attach slot 5 is released and leased anew: same count, another header (ours;
-- R3.4, R7.4). A swap that compares counts is won here; client 2's swap then goes unnoted, so that its rescue says no
-- eight times and leaves a count that nobody holds.
-- Client 0 keeps {1, 1, 1}. Client 1 releases, {2, 0, 1}, client 2 leases up to its swap, {1, 1, 2}, and fails: same
-- era, same count, other client, so client 0 gets 101. From its load on it notes era 1 of client 2 and swaps {1, 2, 0}.
-- In the rescue of client 2 the log is read (1), condition 1 says no (2), condition 2 says yes at (0, 2) (3), and C's
-- last ten steps follow (4 to 13): 13 steps. Its release swaps {2, 1, 2}: count 1, the entry of client 0.
abbrev pub k_same_count_other_header : Situation
k_same_count_other_header =
    file
    (accepted (join 1)
    ++ whole_lease 1 3 5
    ++ found (header_is 5 1 1 1 ∷ [])
    ++ accepted (join 0)
    ++ accepted (attach 0 2 5)
    ++ steps 0 1
    ++ whole_release 1 3
    ++ accepted (join 2)
    ++ accepted (lease 2 4 5)
    ++ steps 2 4
    ++ accepted (fail 2)
    ++ found (header_is 5 1 1 2 ∷ count_is 5 1 ∷ [])
    ++ steps 0 2
    ++ answered (step 0) 101
    ++ found (header_is 5 1 1 2 ∷ entry_is 0 2 0 ∷ [])
    ++ six_steps 0
    ++ found (header_is 5 1 2 0 ∷ count_is 5 2 ∷ entry_is 0 2 1 ∷ [])
    ++ rescue 2 13
    ++ answered (look_up 0 2) 205
    ++ found (header_is 5 2 1 2 ∷ count_is 5 1 ∷ own_era_is 0 2 ∷ own_era_is 1 3 ∷ own_era_is 2 3 ∷ []))

-- L. Client 1 attaches over client 0's swap, lets go and leaves; only its row shows that client 0 had swapped (ours;
-- R4.3, R7.3). Where leaving clears the row, condition 2 says no seven times and the count stays 1.
-- Client 1 notes era 1 of client 0, swaps {1, 2, 1} and, releasing, {2, 1, 1}. So condition 1 says no and condition 2
-- yes at (1, 0), as in D: 13 steps. The rescue's release swaps {2, 0, 0}: count 0. Both own eras went up twice.
abbrev pub l_row_of_client_that_left : Situation
l_row_of_client_that_left =
    file
    (fails_in_lease 0 4
    ++ accepted (join 1)
    ++ whole_attach 1 3 5
    ++ whole_release 1 3
    ++ accepted (leave 1)
    ++ found (standing_is 1 Standing.Absent ∷ header_is 5 2 1 1 ∷ entry_is 1 0 1 ∷ [])
    ++ rescue 0 13
    ++ found (header_is 5 2 0 0 ∷ count_is 5 0 ∷ own_era_is 0 3 ∷ own_era_is 1 3 ∷ cell_empty 0 2 ∷ []))

-- L. The same where client 1 does not let go but fails and is rescued (ours; R4.3, R7.3). Where the end of a rescue
-- clears the row, condition 2 of client 0's rescue says no seven times and the count stays 1.
-- Client 1 fails with nothing under way. Its log is read (1), the header {1, 2, 1} has era 1 and the own era is 2 (2),
-- the entries (0, 1) and (2, 1) to (7, 1) are 0 (3 to 9), the search finds cell 3 (10), its release has six stages and
-- swaps {2, 1, 1} (11 to 16), the search finds nothing (17): 17 steps. Client 0's rescue is then the one above.
abbrev pub l_row_of_client_rescued : Situation
l_row_of_client_rescued =
    file
    (fails_in_lease 0 4
    ++ accepted (join 1)
    ++ whole_attach 1 3 5
    ++ accepted (fail 1)
    ++ rescue 1 17
    ++ found (standing_is 1 Standing.Absent ∷ header_is 5 2 1 1 ∷ entry_is 1 0 1 ∷ [])
    ++ rescue 0 13
    ++ found (header_is 5 2 0 0 ∷ count_is 5 0 ∷ own_era_is 0 3 ∷ own_era_is 1 3 ∷ cell_empty 0 2 ∷ []))

-- R6: the table
unfoldable pub situations : List Situation
situations =
    a_worked_example
    ∷ b_lease_lost_before_swap
    ∷ c_lease_lost_after_swap
    ∷ d_swap_seen_by_another
    ∷ e_swap_lost_to_another
    ∷ f_below_era_stop
    ∷ f_at_era_stop
    ∷ g_numbers_too_large
    ∷ h_slot_held_slot_free
    ∷ i_look_up_while_releasing
    ∷ j_rescuer_fails
    ∷ k_same_count_other_header
    ∷ l_row_of_client_that_left
    ∷ l_row_of_client_rescued
    ∷ []

-- R6, R8.3: every situation of the table comes about
abbrev pub AllHold : Type 0
AllHold = list_all holds situations ≡ true
