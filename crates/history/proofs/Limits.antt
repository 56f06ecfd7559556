-- No world of a history is beyond its limits: every word of the block, of the matrix and of the records passes its
-- test, so that no call of a history answers 11. Assumes nothing.
use Prim.Native.Nat.{ℕ, suc, ◌+◌, ◌/◌, ◌%◌, ◌<◌, ◌≤◌}
use mathlib.Core.Bool.{Bool, true, false}
use mathlib.Core.List.{List, [], ◌∷◌}
use mathlib.Core.Logic.{⊎_elim}
use mathlib.Core.Path.{◌≡◌, refl}
use native.Mathlib.Omega.{arith}
use lib.Dec.{eqb, ltb, leb}
use lib.ListN.{length, get_or, get_or-eq_default}
use borrow.Author.Tests.{eq-eqb, ne_eqb, ltb-true, ltb-false, lt-ltb, le-leb}
use Rattle.std.specs.List.{list_all, enumerate_from}
use Rattle.std.specs.Prelude.{Option, Some, None}
use Rattle.std.proofs.lemmas.List.Elements.{All-from_get_or}
use Rattle.std.proofs.lemmas.List.Sums.{list_all-from_AllPass}
use Rattle.std.proofs.lemmas.Bool.{cases_Bool, cases_eq, and_from}
use Rattle.numbers.specs.Sizes.{clients, slots, cells, era_limit, count_limit}
use Rattle.header.specs.Header.{era_in, count_in, client_in, spare_in}
use Rattle.block.specs.declared.Entry.{Entry}
use Rattle.block.specs.declared.Operation.{Operation}
use Rattle.block.specs.declared.Standing.{Standing}
use Rattle.block.specs.Block.{empty, all_cells, cell_in, cell_index, cell_at, log_at}
use Rattle.block.specs.Matrix.{seen_era}
use Rattle.stages.specs.declared.Stage.{Stage}
use Rattle.stages.specs.Stages.{open_in, kept_in, releases}
use Rattle.rescue.specs.declared.RescuerStep.{RescuerStep}
use Rattle.limits.specs.Limits.{header_within, cell_within, operation_within, entry_within, log_within, block_within, row_within, eras_within, open_within, kept_within, stage_within, rescue_within, within}
use Rattle.calls.specs.declared.Records.{Records}
use Rattle.calls.specs.Calls.{nothing}
use Rattle.world.specs.World.{World, records_at}
use Rattle.history.specs.Ledger.{Line}
use Rattle.history.proofs.Invariant.{Won, Words, vis, column, Word, CellFits, OpFits, EntryFits, LogFits, OpenFits, KeptFits, At, Rescuing, Clause}
use Rattle.history.proofs.View.{hdr_of, mine_of}
use Rattle.history.proofs.Histories.{Good}

module _ {A : Type 0} (d : A) where
  -- every element passes where each does at its place
  all_pass :
      (test : A → Bool) (xs : List A) →
      ((n : ℕ) → n < length xs → test (get_or xs n d) ≡ true) →
      list_all test xs ≡ true
  all_pass test xs h = list_all-from_AllPass test xs (All-from_get_or (λ x. test x ≡ true) xs d h)

  -- and of a test that sees the place too
  all_placed_pass :
      (test : ℕ × A → Bool) (xs : List A) (i : ℕ) →
      ((n : ℕ) → n < length xs → (p : ℕ) → p ≡ i + n → test (p, get_or xs n d) ≡ true) →
      list_all test (enumerate_from i xs) ≡ true
  all_placed_pass test [] i h = refl
  all_placed_pass test (x ∷ xs) i h =
      and_from (test (i, x)) (list_all test (enumerate_from (i + 1) xs)) (h 0 (omega arith) i (omega arith))
      (all_placed_pass test xs (i + 1) (λ n l p e. h (suc n) (omega arith) p (omega arith)))

-- a header of a history is within its limits
header_within_lem :
    (seen : ℕ → ℕ) → ((c : ℕ) → c < clients → seen c ≤ era_limit) → (h : ℕ) → Word seen h → header_within h ≡ true
unfolding header_within
header_within_lem seen few h w =
    let e : era_in h ≤ era_limit = let a = w.era in let b = few (client_in h) w.client in omega arith in
    rw (
      eq-eqb (spare_in h) 0 w.spare,
      lt-ltb (client_in h) clients w.client,
      le-leb (count_in h) count_limit w.count,
      le-leb
          (era_in h) era_limit e,
    )

-- an operation that fits is within its limits
op_within : (op : Operation) → OpFits op → operation_within op ≡ true
op_within op f = rw (lt-ltb op.cell cells f.cell, lt-ltb op.slot.0 slots f.slot)

-- a log entry that fits is within its limits
entry_within_lem : (e : Entry) → EntryFits e → entry_within e ≡ true
unfolding entry_within
entry_within_lem e f =
    and_from (operation_within e.operation) _ (op_within e.operation f.operation)
    (rw (le-leb e.count count_limit f.count, le-leb e.era.0 era_limit f.era))

-- a log that fits is within its limits
log_within_lem : (l : Option Entry) → LogFits l → log_within l ≡ true
log_within_lem None f = refl
log_within_lem (Some e) f = entry_within_lem e f

-- the byte of a cell that fits is within its limits
byte_within : (byte : ℕ) → CellFits (cell_in byte) → cell_within byte ≡ true
byte_within byte f =
    ⊎_elim
    (λ (t : eqb byte empty ≡ true). rw t)
    (λ (t : eqb byte empty ≡ false). let l : byte < slots = rw t at f in rw (t, lt-ltb byte slots l))
    (cases_Bool (eqb byte empty))

module _ (seen : ℕ → ℕ) (few : (c : ℕ) → c < clients → seen c ≤ era_limit) (c : ℕ) (x : Words) (fits : LogFits x.log)
  where
    -- an open operation that fits is within its limits
    open_within_lem : (o : Option Operation) → OpenFits o → open_within o ≡ true
    open_within_lem None f = refl
    open_within_lem (Some op) f = op_within op f

    -- a kept header is within its limits
    kept_within_lem : (k : Option ℕ) → KeptFits seen k → kept_within k ≡ true
    kept_within_lem None f = refl
    kept_within_lem (Some h) f = header_within_lem seen few h f

    -- a stage is within its limits
    at_within : (stage : Stage) → At seen c x stage → stage_within stage ≡ true
    unfolding stage_within
    at_within stage t =
        and_from (open_within (open_in stage)) (kept_within (kept_in stage)) (open_within_lem (open_in stage) t.fits)
        (kept_within_lem (kept_in stage) t.kept)

    -- the log that a rescuer keeps is within its limits
    in_log : (e : Entry) → x.log ≡ Some e → entry_within e ≡ true
    in_log e q = entry_within_lem e (rw q at fits)

    -- a step of a rescue is within its limits
    rescuing_within : (col : ℕ → ℕ) (step : RescuerStep) → Rescuing seen col c x step → rescue_within c step ≡ true
    unfolding rescue_within
    rescuing_within col RescuerStep.ReadLog r = refl
    rescuing_within col (RescuerStep.Condition1 e) r = in_log e r
    rescuing_within col (RescuerStep.Condition2 e j) r =
        and_from (entry_within e) _ (in_log e r.0) (rw (lt-ltb j.0 clients r.1, ne_eqb j.0 c r.2))
    rescuing_within col (RescuerStep.Cell e) r = in_log e r.0
    rescuing_within col RescuerStep.Era r = refl
    rescuing_within col RescuerStep.Search r = refl
    rescuing_within col (RescuerStep.Release q) r =
        and_from (releases q.stage) _ r.0 (at_within q.stage r.1)

    -- the records of a client are within their limits, by its standing
    records_within :
        (col : ℕ → ℕ) (lines : List Line) (s : Standing) (r : Records) →
        Clause seen col c x lines s r →
        (stage_within r.client.stage ≡ true) × (rescue_within c r.rescuer.step ≡ true)
    unfolding stage_within rescue_within
    records_within col lines Standing.Absent r k = (rw k.0, rw k.1)
    records_within col lines Standing.Running r k = (at_within r.client.stage k.1, rw k.0)
    records_within col lines Standing.Failed r k = (rw k.0, rw k.1)
    records_within col lines Standing.InRescue r k = (rw k.0, rescuing_within col r.rescuer.step k.1)

module _ (w : World) (ghosts : ℕ → Won) (lines : List Line) (good : Good w ghosts lines) where
  -- own eras, and with them all eras, are below the limit
  pub few_eras : (c : ℕ) → c < clients → vis (mine_of w ghosts) c ≤ era_limit
  few_eras c l = let r = (good.inv.base c l).room in omega arith

  -- every header is within its limits
  headers_within : list_all header_within w.block.headers ≡ true
  headers_within =
      all_pass 0 header_within w.block.headers
      (λ n l. header_within_lem (vis (mine_of w ghosts)) few_eras (hdr_of w n) (good.inv.words n))

  -- every cell is within its limits
  cells_within : list_all cell_within w.block.cells ≡ true
  cells_within =
      all_pass empty cell_within w.block.cells
      (λ n l. byte_within (get_or w.block.cells n empty) (at n (let s = good.shape.bytes in omega arith)))
    where
      at : (n : ℕ) → n < all_cells → CellFits (cell_in (get_or w.block.cells n empty))
      at n l =
          let f : CellFits (cell_at w.block.cells (n / cells) (n % cells)) =
          (good.inv.base (n / cells) (omega arith)).cells_fit (n % cells) (omega arith)
          in
          let t : ltb (n % cells) cells ≡ true = lt-ltb (n % cells) cells (omega arith) in
          let g : CellFits (cell_in (get_or w.block.cells (cell_index (n / cells) (n % cells)) empty)) = rw t at f in
          let q : cell_index (n / cells) (n % cells) ≡ n = omega arith in
          rw q at g

  -- every log is within its limits
  logs_within : list_all log_within w.block.logs ≡ true
  logs_within =
      all_pass None log_within w.block.logs
      (λ n l.
      log_within_lem (log_at w.block.logs n) (good.inv.base n (let s = good.shape.logs in omega arith)).log)

  -- the block is within its limits
  block_within_lem : block_within w.block ≡ true
  unfolding block_within
  block_within_lem = rw (headers_within, cells_within, logs_within)

  -- a row of the matrix is within its limits
  row_within_lem : (i : ℕ) → i < clients → row_within i (get_or w.eras i []) ≡ true
  unfolding row_within
  row_within_lem i l =
      and_from (ltb 0 (seen_era w.eras i i).0) (list_all (λ (e : ℕ). leb e era_limit) (get_or w.eras i []))
      (lt-ltb 0 (seen_era w.eras i i).0 (good.inv.base i l).own_some)
      (all_pass 0 (λ (e : ℕ). leb e era_limit) (get_or w.eras i [])
      (λ n m. le-leb _ era_limit (entry n (let s = good.shape.rows i l in omega arith))))
    where
      entry : (n : ℕ) → n < clients → (seen_era w.eras i n).0 ≤ era_limit
      entry n m =
          ⊎_elim
          (λ (q : n ≡ i). rw q (let v = few_eras i l in omega arith))
          (λ (o : n ≡ i → ⊥). let p = (good.inv.base i l).past n m o in let v = few_eras n m in omega arith)
          (cases_eq n i)

  -- the matrix is within its limits
  eras_within_lem : eras_within w.eras ≡ true
  eras_within_lem =
      all_placed_pass [] (λ (p : ℕ × List ℕ). row_within p.0 p.1) w.eras 0
      (λ n l p e. let q : p ≡ n = omega arith in rw q (row_within_lem n (let s = good.shape.eras in omega arith)))

  -- the records that a call is given are within their limits, even of a client that there is none
  private_within :
      (c : ℕ) →
      (stage_within (records_at w.records c).client.stage ≡ true) ×
      (rescue_within c (records_at w.records c).rescuer.step ≡ true)
  unfolding stage_within rescue_within
  private_within c =
      ⊎_elim
      (λ (t : ltb c clients ≡ true).
      let l : c < clients = ltb-true c clients t in
      records_within (vis (mine_of w ghosts)) few_eras c (mine_of w ghosts c).words (good.inv.base c l).log
      (column (mine_of w ghosts) c) lines
      (mine_of w ghosts c).standing (mine_of w ghosts c).records (good.inv.clause c l))
      (λ (t : ltb c clients ≡ false).
      let l : length w.records ≤ c = let m = ltb-false c clients t in let s = good.shape.records in omega arith in
      let q : records_at w.records c ≡ nothing = get_or-eq_default w.records nothing l in
      rw q (refl, refl))
      (cases_Bool (ltb c clients))

  -- all that a call is given is within its limits, whichever client it names
  pub all_within :
      (c : ℕ) →
      within c w.block w.eras (records_at w.records c).client (records_at w.records c).rescuer ≡ true
  unfolding within
  all_within c = rw (block_within_lem, eras_within_lem, (private_within c).0, (private_within c).1)
