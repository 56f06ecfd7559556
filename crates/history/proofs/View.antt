-- A world seen as functions: the header of each slot and the words of each client. The lists keep their lengths, and
-- the view of a world after a store of a client's own words is the store of the view. Assumes nothing.
use Prim.Native.Nat.{ℕ, ◌<◌}
use mathlib.Core.Bool.{true, false}
use mathlib.Core.List.{List, []}
use mathlib.Core.Logic.{⊎_elim}
use mathlib.Core.Path.{◌≡◌, refl, ap, fun_ext, ◌∙◌}
use native.Mathlib.Omega.{arith}
use lib.Dec.{ltb}
use lib.ListN.{length, get_or, set, length-set}
use lib.Seq.{get_or-set_same, get_or-set_other}
use borrow.Author.Tests.{ltb-true, lt-ltb, ne_eqb}
use Rattle.std.specs.Prelude.{Option, Some, None}
use Rattle.std.proofs.lemmas.Bool.{cases_Bool, cases_eq}
use Rattle.numbers.specs.declared.Slot.{Slot}
use Rattle.numbers.specs.Sizes.{clients, slots, cells}
use Rattle.block.specs.declared.Standing.{Standing}
use Rattle.block.specs.declared.store.Store.{Store}
use Rattle.block.specs.Block.{empty, all_cells, header_at, cell_in, cell_index, cell_at, log_at, standing_at}
use Rattle.block.specs.Matrix.{seen_era}
use Rattle.block.specs.Store.{byte_of, cells_with, with_era, headers_after, cells_after, logs_after, standings_after, eras_after, block_after}
use Rattle.calls.specs.declared.Records.{Records}
use Rattle.calls.specs.Calls.{nothing}
use Rattle.world.specs.World.{World, records_at}
use Rattle.history.proofs.Updates.{upd, upd_same, upd_other, upd_all}
use Rattle.history.proofs.Invariant.{Won, Mine, CellFits}
use Rattle.history.proofs.Stores.{hdr_after, words_after, standing_after, Ours}

-- every list of a world has its length
pub record Shaped (w : World) : Type 0 where
  pub headers : length w.block.headers ≡ slots
  pub bytes : length w.block.cells ≡ all_cells
  pub logs : length w.block.logs ≡ clients
  pub standings : length w.block.standings ≡ clients
  pub eras : length w.eras ≡ clients
  pub rows : (i : ℕ) → i < clients → length (get_or w.eras i []) ≡ clients
  pub records : length w.records ≡ clients

-- the world after a store, with a's records
abbrev pub placed : World → Store → ℕ → Records → World
placed w st a r =
    record { block = block_after st w.block; eras = eras_after st w.eras; records = set w.records a r }

-- the header of each slot
abbrev pub hdr_of : World → ℕ → ℕ
hdr_of w s = header_at w.block.headers s

-- client c's row of the matrix
abbrev pub row_in : List (List ℕ) → ℕ → ℕ → ℕ
row_in eras c j = (seen_era eras c j).0

-- the words of each client
abbrev pub mine_of : World → (ℕ → Won) → ℕ → Mine
mine_of w ghosts c =
    record {
      words =
          record {
            row = row_in w.eras c;
            cells = cell_at w.block.cells c;
            log = log_at w.block.logs c;
            won = ghosts c;
          };
      standing = standing_at w.block.standings c;
      records = records_at w.records c;
    }

-- the list `next` is read as l is, but for v at a
record Put {A B : Type 0} (read : List A → ℕ → B) (l : List A) (a : ℕ) (v : B) (next : List A) : Type 0 where
  long : length next ≡ length l
  here : read next a ≡ v
  there : (c : ℕ) → (c ≡ a → ⊥) → read next c ≡ read l c

module _ {A B : Type 0} {read : List A → ℕ → B} {l : List A} {a : ℕ} where
  -- a list left as it is
  unput : Put read l a (read l a) l
  unput = record { long = refl; here = refl; there = λ c o. refl }

  -- what is read is the old function with one value replaced
  put_upd : {v : B} {next : List A} → Put read l a v next → read next ≡ upd (read l) a v
  put_upd {v} {next} p = fun_ext (upd_all (λ c y. read next c ≡ y) (read l) a v p.here p.there)

  -- a part of what is read
  put_read :
      {C : Type 0} (f : B → C) {v : B} {next : List A} →
      Put read l a v next →
      Put (λ l c. f (read l c)) l a (f v) next
  put_read f p = record { long = p.long; here = ap f p.here; there = λ c o. ap f (p.there c o) }

-- a list written at a
put_set : {A : Type 0} (l : List A) (a : ℕ) (v d : A) → a < length l → Put (λ l c. get_or l c d) l a v (set l a v)
put_set l a v d m =
    record { long = length-set l a v; here = get_or-set_same l a v d m; there = λ c o. get_or-set_other l a c v d o }

-- the byte of a cell is read as the cell
cell_byte : (held : Option Slot) → CellFits held → cell_in (byte_of held) ≡ held
cell_byte None f = refl
cell_byte (Some s) f = rw (ne_eqb s.0 empty (λ e. omega arith))

-- cell k of client a written
module _ (bytes : List ℕ) (long : length bytes ≡ all_cells) (a k : ℕ) (b : a < clients) (l : k < cells) (held : Option Slot)
    (fits : CellFits held) where
  -- the cell written is read
  cell_same : cell_at (cells_with bytes a k held) a k ≡ held
  cell_same =
      let m : cell_index a k < length bytes = omega arith in
      rw (lt-ltb k cells l, get_or-set_same bytes (cell_index a k) (byte_of held) empty m) (cell_byte held fits)

  -- every other cell is as before
  cell_other : (c j : ℕ) → (c ≡ a → j ≡ k → ⊥) → cell_at (cells_with bytes a k held) c j ≡ cell_at bytes c j
  cell_other c j o =
      ⊎_elim
      (λ (t : ltb j cells ≡ true).
      let p : j < cells = ltb-true j cells t in
      rw (
        lt-ltb k cells l,
        t,
        get_or-set_other bytes (cell_index a k) (cell_index c j) (byte_of held) empty
            (λ e. o (omega arith) (omega arith)),
      ))
      (λ (t : ltb j cells ≡ false). rw t)
      (cases_Bool (ltb j cells))

  -- the client's cells are the old ones with one replaced
  put_cell : Put cell_at bytes a (upd (cell_at bytes a) k held) (cells_with bytes a k held)
  put_cell =
      record {
        long = rw (lt-ltb k cells l) (length-set bytes (cell_index a k) (byte_of held));
        here =
            fun_ext
            (upd_all (λ j y. cell_at (cells_with bytes a k held) a j ≡ y) (cell_at bytes a) k held cell_same
            (λ j o. cell_other a j (λ p. o)));
        there = λ c o. fun_ext (λ j. cell_other c j (λ p q. o p));
      }

-- entry j of row a written
module _ (eras : List (List ℕ)) (a j e : ℕ) (m : a < length eras) where
  -- row a is the one written, the others are as they were
  put_row : Put (λ eras i. get_or eras i []) eras a (set (get_or eras a []) j e) (with_era eras a j (record { 0 = e }))
  put_row = put_set eras a (set (get_or eras a []) j e) [] m

  -- the client's row has one entry replaced
  put_entry :
      j < length (get_or eras a []) → Put row_in eras a (upd (row_in eras a) j e) (with_era eras a j (record { 0 = e }))
  put_entry n =
      let p = put_read {C = ℕ → ℕ} (λ row i. get_or row i 0) put_row in
      record { long = p.long; here = p.here ∙ put_upd (put_set (get_or eras a []) j e 0 n); there = p.there }

  -- every row is as long as it was
  long_rows : (i : ℕ) → length (get_or (with_era eras a j (record { 0 = e })) i []) ≡ length (get_or eras i [])
  long_rows i =
      ⊎_elim
      (λ (q : i ≡ a). rw (q, put_row.here) (length-set (get_or eras a []) j e))
      (λ (o : i ≡ a → ⊥). ap length (put_row.there i o))
      (cases_eq i a)

module _ {w : World} (sh : Shaped w) (ghosts : ℕ → Won) (a : ℕ) (b : a < clients) (r : Records) (g : Won) where
  -- a's words after a store of its own
  abbrev pub mine_next : Store → Mine
  mine_next st =
      record {
        words = words_after st g (mine_of w ghosts a).words;
        standing = standing_after st (mine_of w ghosts a).standing;
        records = r;
      }

  -- what is read after a store: the headers, a's words and standing, and all else as it was
  record Reads (st : Store) : Type 0 where
    slots_long : length (headers_after st w.block.headers) ≡ length w.block.headers
    headers : header_at (headers_after st w.block.headers) ≡ hdr_after st (hdr_of w)
    rows_long : (i : ℕ) → length (get_or (eras_after st w.eras) i []) ≡ length (get_or w.eras i [])
    rows : Put row_in w.eras a (mine_next st).words.row (eras_after st w.eras)
    held : Put cell_at w.block.cells a (mine_next st).words.cells (cells_after st w.block.cells)
    logs : Put log_at w.block.logs a (mine_next st).words.log (logs_after st w.block.logs)
    stand : Put standing_at w.block.standings a (mine_next st).standing (standings_after st w.block.standings)

  -- every store of a's own is read
  reads : (st : Store) → Ours a st → Reads st
  reads Store.Nothing o =
      record {
        slots_long = refl;
        headers = refl;
        rows_long = λ i. refl;
        rows = unput;
        held = unput;
        logs = unput;
        stand = unput;
      }
  reads (Store.Header s h) o =
      let m : s.0 < length w.block.headers = let q = sh.headers in omega arith in
      let p = put_set w.block.headers s.0 h 0 m in
      record {
        slots_long = p.long;
        headers = put_upd p;
        rows_long = λ i. refl;
        rows = unput;
        held = unput;
        logs = unput;
        stand = unput;
      }
  reads (Store.Cell c k held) o =
      record {
        slots_long = refl;
        headers = refl;
        rows_long = λ i. refl;
        rows = unput;
        held = rw o.0 (put_cell w.block.cells sh.bytes a k b o.1 held o.2);
        logs = unput;
        stand = unput;
      }
  reads (Store.Log c e) o =
      let m : a < length w.block.logs = let s = sh.logs in omega arith in
      record {
        slots_long = refl;
        headers = refl;
        rows_long = λ i. refl;
        rows = unput;
        held = unput;
        logs = rw o (put_set w.block.logs a (Some e) None m);
        stand = unput;
      }
  reads (Store.Era i j e) o =
      let m : a < length w.eras = let s = sh.eras in omega arith in
      let n : j.0 < length (get_or w.eras a []) = let s = sh.rows a b in let l = o.1 in omega arith in
      record {
        slots_long = refl;
        headers = refl;
        rows_long = rw o.0 (long_rows w.eras a j.0 e.0 m);
        rows = rw o.0 (put_entry w.eras a j.0 e.0 m n);
        held = unput;
        logs = unput;
        stand = unput;
      }
  reads (Store.Standing c s) o =
      let m : a < length w.block.standings = let s = sh.standings in omega arith in
      record {
        slots_long = refl;
        headers = refl;
        rows_long = λ i. refl;
        rows = unput;
        held = unput;
        logs = unput;
        stand = rw o (put_set w.block.standings a s Standing.Absent m);
      }

  module _ (st : Store) (o : Ours a st) where
    -- the lists keep their lengths
    pub shaped_placed : Shaped (placed w st a r)
    shaped_placed =
        let read = reads st o in
        record {
          headers = read.slots_long ∙ sh.headers;
          bytes = read.held.long ∙ sh.bytes;
          logs = read.logs.long ∙ sh.logs;
          standings = read.stand.long ∙ sh.standings;
          eras = read.rows.long ∙ sh.eras;
          rows = λ i l. read.rows_long i ∙ sh.rows i l;
          records = length-set w.records a r ∙ sh.records;
        }

    -- a's words are those of the store
    mine_here : mine_of (placed w st a r) (upd ghosts a g) a ≡ mine_next st
    mine_here =
        let read = reads st o in
        let m : a < length w.records = let s = sh.records in omega arith in
        λ i.
        record {
          words =
              record {
                row = read.rows.here i;
                cells = read.held.here i;
                log = read.logs.here i;
                won = upd_same ghosts a g i;
              };
          standing = read.stand.here i;
          records = get_or-set_same w.records a r nothing m i;
        }

    -- every other client's words are as they were
    mine_there : (c : ℕ) → (c ≡ a → ⊥) → mine_of (placed w st a r) (upd ghosts a g) c ≡ mine_of w ghosts c
    mine_there c q =
        let read = reads st o in
        λ i.
        record {
          words =
              record {
                row = read.rows.there c q i;
                cells = read.held.there c q i;
                log = read.logs.there c q i;
                won = upd_other ghosts a g c q i;
              };
          standing = read.stand.there c q i;
          records = get_or-set_other w.records a c r nothing q i;
        }

    -- the view after a store is the store of the view
    pub mine_placed : mine_of (placed w st a r) (upd ghosts a g) ≡ upd (mine_of w ghosts) a (mine_next st)
    mine_placed =
        fun_ext
        (upd_all (λ c y. mine_of (placed w st a r) (upd ghosts a g) c ≡ y) (mine_of w ghosts) a (mine_next st) mine_here
        mine_there)

    -- the headers after a store are the store of the headers
    pub headers_placed : hdr_of (placed w st a r) ≡ hdr_after st (hdr_of w)
    headers_placed = (reads st o).headers
