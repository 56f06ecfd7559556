-- The fresh world meets the invariant: one lemma a word. Assumes nothing.
use Prim.Native.Nat.{ℕ, zero, suc, ◌<◌}
use mathlib.Core.Bool.{Bool, true, false, cond}
use mathlib.Core.List.{[]}
use mathlib.Core.Logic.{⊎_elim}
use mathlib.Core.Path.{◌≡◌, refl, sym}
use native.Mathlib.Omega.{arith}
use lib.Dec.{eqb, ltb}
use lib.ListN.{length, get_or, replicate, length-replicate}
use borrow.Author.Tests.{eq-eqb, ne_eqb, eqb-true}
use Rattle.std.specs.Prelude.{Option, None}
use Rattle.std.proofs.lemmas.Bool.{cases_Bool, agree_below, agree_below_at}
use Rattle.numbers.specs.Sizes.{clients, slots, cells}
use Rattle.header.specs.Header.{spare_in}
use Rattle.header.proofs.Laws.{zero_era, zero_count, zero_client}
use Rattle.block.specs.declared.Standing.{Standing}
use Rattle.block.specs.declared.Entry.{Entry}
use Rattle.block.specs.Block.{empty, all_cells, fresh_block, cell_index, cell_at, log_at, standing_at}
use Rattle.block.specs.Matrix.{fresh_eras, seen_era}
use Rattle.calls.specs.declared.Records.{Records}
use Rattle.calls.specs.Calls.{nothing}
use Rattle.world.specs.World.{records_at, fresh}
use Rattle.history.specs.Ledger.{naming}
use Rattle.history.proofs.Counting.{slots_at, lines_of}
use Rattle.history.proofs.Invariant.{none, vis, Word}
use Rattle.history.proofs.View.{Shaped, hdr_of, mine_of}
use Rattle.history.proofs.Histories.{Good}

-- a list of one value, read anywhere with that default
same_everywhere : {A : Type 0} (n i : ℕ) (v : A) → get_or (replicate n v) i v ≡ v
same_everywhere zero i v = refl
same_everywhere (suc n) zero v = refl
same_everywhere (suc n) (suc i) v = same_everywhere n i v

-- a test of every client
abbrev all_below : (ℕ → Bool) → Bool
all_below f = agree_below f (λ i. true) clients

-- where every client passes, each does
each : (f : ℕ → Bool) → all_below f ≡ true → (i : ℕ) → i < clients → f i ≡ true
each f e i l = agree_below_at f (λ i. true) clients i e l

-- own eras 1, all others 0, computed
seen_tests : all_below (λ i. all_below (λ j. eqb (seen_era fresh_eras i j).0 (cond (eqb i j) 1 0))) ≡ true
unfolding fresh_eras
seen_tests = refl

-- each row has an entry for each client, computed
row_tests : all_below (λ i. eqb (length (get_or fresh_eras i [])) clients) ≡ true
unfolding fresh_eras
row_tests = refl

-- own eras are 1, all others 0
fresh_seen : (i : ℕ) → i < clients → (j : ℕ) → j < clients → (seen_era fresh_eras i j).0 ≡ cond (eqb i j) 1 0
fresh_seen i l j m =
    eqb-true _ _
    (each (λ j. eqb (seen_era fresh_eras i j).0 (cond (eqb i j) 1 0))
    (each (λ i. all_below (λ j. eqb (seen_era fresh_eras i j).0 (cond (eqb i j) 1 0))) seen_tests i l)
    j
    m)

-- each row has an entry for each client
fresh_row : (i : ℕ) → i < clients → length (get_or fresh_eras i []) ≡ clients
fresh_row i l = eqb-true _ _ (each (λ i. eqb (length (get_or fresh_eras i [])) clients) row_tests i l)

-- every own era is 1
fresh_own : (c : ℕ) → c < clients → (seen_era fresh.eras c c).0 ≡ 1
unfolding fresh
fresh_own c l = rw (fresh_seen c l c l, eq-eqb c c refl)

-- nobody has seen anything of another
fresh_other : (i j : ℕ) → i < clients → j < clients → (j ≡ i → ⊥) → (seen_era fresh.eras i j).0 ≡ 0
unfolding fresh
fresh_other i j l m o = rw (fresh_seen i l j m, ne_eqb i j (λ e. o (sym e)))

-- every header is 0
fresh_header : (s : ℕ) → hdr_of fresh s ≡ 0
unfolding fresh fresh_block
fresh_header s = same_everywhere slots s 0

-- every byte of a cell is that of an empty one
fresh_byte : (i : ℕ) → get_or fresh.block.cells i empty ≡ empty
unfolding fresh fresh_block
fresh_byte i = same_everywhere all_cells i empty

-- every cell is empty
fresh_cell : (c k : ℕ) → cell_at fresh.block.cells c k ≡ None
fresh_cell c k =
    ⊎_elim
    (λ (t : ltb k cells ≡ true). rw (t, fresh_byte (cell_index c k)))
    (λ (t : ltb k cells ≡ false). rw t)
    (cases_Bool (ltb k cells))

-- there are no logs
fresh_log : (c : ℕ) → log_at fresh.block.logs c ≡ None
unfolding fresh fresh_block
fresh_log c = same_everywhere clients c None

-- every client is absent
fresh_standing : (c : ℕ) → standing_at fresh.block.standings c ≡ Standing.Absent
unfolding fresh fresh_block
fresh_standing c = same_everywhere clients c Standing.Absent

-- nothing is under way
fresh_records_lem : (c : ℕ) → records_at fresh.records c ≡ nothing
unfolding fresh
fresh_records_lem c = same_everywhere clients c nothing

-- the lists have their lengths
fresh_shaped : Shaped fresh
unfolding fresh fresh_block fresh_eras
fresh_shaped =
    record {
      headers = length-replicate {A = ℕ} slots 0;
      bytes = length-replicate {A = ℕ} all_cells empty;
      logs = length-replicate {A = Option Entry} clients None;
      standings = length-replicate {A = Standing} clients Standing.Absent;
      eras = refl;
      rows = fresh_row;
      records = length-replicate {A = Records} clients nothing;
    }

-- a header of 0 has nothing in its spare bits
zero_spare : spare_in 0 ≡ 0
unfolding spare_in
zero_spare = refl

-- a header of 0 is a word of client 0 before its first swap
zero_word : (seen : ℕ → ℕ) → seen 0 ≡ 1 → Word seen 0
zero_word seen e =
    record {
      spare = zero_spare;
      client = rw zero_client (omega arith);
      count = rw zero_count (omega arith);
      era = rw (zero_era, zero_client, e) (omega arith);
    }

-- the fresh world meets the invariant: nothing is won, and the ledger is empty
pub fresh_good : Good fresh (λ c. none) []
unfolding slots_at lines_of naming
fresh_good =
    record {
      shape = fresh_shaped;
      inv =
          record {
            words =
                λ s.
                rw (fresh_header s)
                (zero_word (vis (mine_of fresh (λ c. none))) (rw (fresh_own 0 (omega arith)) refl));
            base = λ c l.
                record {
                  own_some = rw (fresh_own c l) (omega arith);
                  past = λ j m o. rw (fresh_other c j l m o, fresh_own j m) (omega arith);
                  evidence = tt;
                  log = rw (fresh_log c) tt;
                  cells_fit = λ k m. rw (fresh_cell c k) tt;
                  room = rw (fresh_own c l) (omega arith);
                  due = λ k m. rw (fresh_cell c k);
                };
            clause = λ c l. rw (fresh_standing c, fresh_records_lem c) (refl, refl, refl, λ k m. fresh_cell c k);
            count = λ s l. rw (fresh_header s) zero_count;
            ranged = tt;
          };
    }
