-- The six moves of a client, or of its rescuer on its behalf: nothing but records, a note, a log, a cell, an era, a
-- won swap. Each is a `Move` of Frame.antt. Assumes nothing.
use Prim.Native.Nat.{ℕ, ◌+◌, ◌<◌, ◌≤◌}
use mathlib.Core.Bool.{true, false}
use mathlib.Core.List.{List}
use mathlib.Core.Logic.{inl, inr, ⊎_elim}
use mathlib.Core.Path.{◌≡◌, refl, sym, ap, ◌∙◌}
use native.Mathlib.Omega.{arith}
use native.Mathlib.Nat.{le_refl}
use lib.ListN.{length}
use Rattle.std.specs.Prelude.{Option, Some, None}
use Rattle.std.proofs.lemmas.Bool.{cases_Bool, cases_eq}
use Rattle.numbers.specs.declared.Slot.{Slot}
use Rattle.numbers.specs.Sizes.{clients, slots, cells, era_limit, count_limit}
use Rattle.header.specs.declared.Fields.{Fields}
use Rattle.header.specs.Header.{era_in, count_in, client_in}
use Rattle.header.proofs.Laws.{Narrow, era_packed, count_packed, client_packed, spare_packed}
use Rattle.block.specs.declared.Entry.{Entry}
use Rattle.block.specs.declared.Operation.{Operation}
use Rattle.stages.specs.Stages.{count_after, entry_of, is_release, swapped, written}
use Rattle.stages.proofs.ByKind.{written_release, written_entry}
use Rattle.calls.specs.Calls.{client}
use Rattle.history.specs.Ledger.{Line, Phase, phased, naming}
use Rattle.history.proofs.Updates.{upd, upd_same, upd_other, upd_all, upd_twice, upd_there}
use Rattle.history.proofs.Counting.{slots_at, lines_of, Ranged, Alike, alike, Single, few_naming, slots_phased, lines_phased, naming_phased, ranged_phased, alike_phased}
use Rattle.history.proofs.Invariant.{none, some, Words, Mine, vis_of, vis, column, Word, CellFits, OpFits, EntryFits, due_by, in_cell, Base, Noted, Inv}
use Rattle.history.proofs.Frame.{word_up, same_swap, Replaced, Move}

-- what the move of client a begins with
pub record Now (seen hdr col : ℕ → ℕ) (a : ℕ) (x : Words) (lines : List Line) : Type 0 where
  pub client : a < clients
  pub its : seen a ≡ vis_of a x
  pub words : (s : ℕ) → Word seen (hdr s)
  pub base : Base seen hdr col a x lines
  pub count : (s : ℕ) → s < slots → count_in (hdr s) ≡ naming s lines
  pub ranged : Ranged lines
  pub single : (c : ℕ) → c < clients → Single c lines
  pub column : (j : ℕ) → j < clients → (j ≡ a → ⊥) → col j < seen a

-- a cell holds at most one slot
few_in : (held : Option Slot) → length (in_cell held) ≤ 1
few_in None = omega arith
few_in (Some s) = omega arith

-- the invariant gives what a move begins with
pub now :
    {hdr : ℕ → ℕ} {of : ℕ → Mine} {lines : List Line} (a : ℕ) →
    a < clients →
    Inv hdr of lines →
    Now (vis of) hdr (column of a) a (of a).words lines
now {of = of} a b inv =
    record {
      client = b;
      its = refl;
      words = inv.words;
      base = inv.base a b;
      count = inv.count;
      ranged = inv.ranged;
      column = λ j l o. (inv.base j l).past a b (λ e. o (sym e));
      single = λ c l k m. rw ((inv.base c l).due k m) (few_in (due_by (of c).words.won (of c).words.cells k));
    }

-- what an operation writes into its cell names a slot that there is
pub written_fits : (op : Operation) → OpFits op → CellFits (written op)
written_fits op f =
    ⊎_elim
    (λ (t : is_release op.kind ≡ true). rw (written_release op t) tt)
    (λ (t : is_release op.kind ≡ false). rw (written_entry op t) f.slot)
    (cases_Bool (is_release op.kind))

-- the same lines but for the phases of client a's
pub record SameLines (a : ℕ) (lines after : List Line) : Type 0 where
  pub slots_as : (k : ℕ) → slots_at a k after ≡ slots_at a k lines
  pub client : lines_of a after ≡ lines_of a lines
  pub naming : (s : ℕ) → naming s after ≡ naming s lines
  pub ranged : Ranged lines → Ranged after
  pub others : (d : ℕ) → (d ≡ a → ⊥) → Alike d lines after

-- a ledger that is left as it is
pub same_lines : {a : ℕ} {lines : List Line} → SameLines a lines lines
same_lines = record { slots_as = λ k. refl; client = refl; naming = λ s. refl; ranged = λ r. r; others = λ d h. alike }

-- a ledger with the lines of one cell in another phase
pub phased_lines : (p : Phase) (a k : ℕ) (lines : List Line) → SameLines a lines (phased p a k lines)
phased_lines p a k lines =
    record {
      slots_as = λ j. slots_phased p a k a j lines;
      client = lines_phased p a k a lines;
      naming = λ s. naming_phased p a k s lines;
      ranged = ranged_phased p a k lines;
      others = alike_phased p a k lines;
    }

module _ {seen hdr col : ℕ → ℕ} {a : ℕ} {x : Words} {lines : List Line} (nw : Now seen hdr col a x lines) where
  -- a move that wins no swap leaves the headers, and no more than the phases of a's lines change
  unswapped :
      {y : Words} {after : List Line} →
      vis_of a y ≡ vis_of a x →
      ((j : ℕ) → x.row j ≤ y.row j) →
      SameLines a lines after →
      Base seen hdr col a y after →
      Move seen hdr col a x lines hdr y after 0
  unswapped same up p base =
      record {
        rise = omega arith;
        row_up = up;
        replaced = λ s. inl same_swap;
        others = p.others;
        ranged = p.ranged nw.ranged;
        count = λ s l. nw.count s l ∙ sym (p.naming s);
        words = λ later rises e s. word_up rises (nw.words s);
        base = base;
      }

  -- nothing but records, and phases
  pub move_still : {after : List Line} → SameLines a lines after → Move seen hdr col a x lines hdr x after 0
  move_still p =
      let k = nw.base in
      unswapped refl (λ j. le_refl _) p
      (record {
        own_some = k.own_some;
        past = k.past;
        evidence = k.evidence;
        log = k.log;
        cells_fit = k.cells_fit;
        room = rw p.client k.room;
        due = λ j l. p.slots_as j ∙ k.due j l;
      })

  -- a note: the own row rises, the own era stays
  pub move_note :
      (row : ℕ → ℕ) →
      row a ≡ x.row a →
      ((j : ℕ) → x.row j ≤ row j) →
      ((j : ℕ) → j < clients → (j ≡ a → ⊥) → row j < seen j) →
      Move seen hdr col a x lines hdr (record { row = row; cells = x.cells; log = x.log; won = x.won }) lines 0
  move_note row own up past =
      let k = nw.base in
      unswapped (rw own) up same_lines
      (record {
        own_some = rw own k.own_some;
        past = past;
        evidence = rw own k.evidence;
        log = k.log;
        cells_fit = k.cells_fit;
        room = rw own k.room;
        due = k.due;
      })

  -- a log, while nothing is won
  pub move_log :
      (e : Entry) →
      EntryFits e →
      x.won ≡ none →
      Move seen hdr col a x lines hdr (record { row = x.row; cells = x.cells; log = Some e; won = x.won }) lines
      0
  move_log e fits yet =
      let k = nw.base in
      unswapped refl (λ j. le_refl _) same_lines
      (record {
        own_some = k.own_some;
        past = k.past;
        evidence = rw yet tt;
        log = fits;
        cells_fit = k.cells_fit;
        room = k.room;
        due = k.due;
      })

  -- a cell, once the swap is won
  pub move_cell :
      (op : Operation) →
      OpFits op →
      x.won ≡ some op →
      {after : List Line} →
      SameLines a lines after →
      Move seen hdr col a x lines hdr
      (record { row = x.row; cells = upd x.cells op.cell (written op); log = x.log; won = x.won }) after 0
  move_cell op fits won p =
      let k = nw.base in
      unswapped refl (λ j. le_refl _) p
      (record {
        own_some = k.own_some;
        past = k.past;
        evidence = k.evidence;
        log = k.log;
        cells_fit =
            upd_all (λ j held. j < cells → CellFits held) x.cells op.cell (written op)
            (λ l. written_fits op fits) (λ j h. k.cells_fit j);
        room = rw p.client k.room;
        due = λ j l. p.slots_as j ∙ k.due j l ∙ ap in_cell (same j);
      })
    where
      same : (j : ℕ) → due_by x.won x.cells j ≡ due_by x.won (upd x.cells op.cell (written op)) j
      same j = rw won (sym (upd_twice x.cells op.cell (written op) j))

  -- the era, once the cell is written
  pub move_era :
      (op : Operation) (e : ℕ) →
      e ≡ x.row a + 1 →
      x.won ≡ some op →
      x.cells op.cell ≡ written op →
      Move seen hdr col a x lines hdr (record { row = upd x.row a e; cells = x.cells; log = x.log; won = none })
      lines 0
  move_era op e q won there =
      let k = nw.base in
      unswapped (rw (upd_same x.row a e, won) (omega arith))
      (upd_all (λ j r. x.row j ≤ r) x.row a e (omega arith) (λ j h. le_refl _))
      same_lines
      (record {
        own_some = rw (upd_same x.row a e) (omega arith);
        past = λ j l o. rw (upd_other x.row a e j o) (k.past j l o);
        evidence = tt;
        log = k.log;
        cells_fit = k.cells_fit;
        room =
            rw (upd_same x.row a e)
            (let r : x.row a + 1 + lines_of a lines ≤ era_limit = rw won at k.room in omega arith);
        due = λ j l. k.due j l ∙ ap in_cell (same j);
      })
    where
      same : (j : ℕ) → due_by x.won x.cells j ≡ x.cells j
      same j = rw won (upd_there x.cells op.cell (written op) there j)

  -- a won swap: the header of the operation's slot, and a ledger of whose lines this is known
  module _ (op : Operation) (h : ℕ) (after : List Line)
      (yet : x.won ≡ none)
      (small : count_after op.kind (count_in h) ≤ count_limit + 1)
      (stands : hdr op.slot.0 ≡ h)
      (seen_it : Noted x.row h)
      (in_log : x.log ≡ Some (entry_of op h (record { 0 = x.row a })))
      (others : (d : ℕ) → (d ≡ a → ⊥) → Alike d lines after)
      (ranged : Ranged after)
      (here : count_after op.kind (count_in h) ≡ naming op.slot.0 after)
      (elsewhere : (s : ℕ) → (s ≡ op.slot.0 → ⊥) → naming s after ≡ naming s lines)
      (room : Single a after → x.row a + 1 + lines_of a after ≤ era_limit)
      (due : (k : ℕ) → k < cells → slots_at a k after ≡ in_cell (upd x.cells op.cell (written op) k)) where
    -- the header that a won swap writes
    abbrev new_header : ℕ
    new_header = swapped (client a) op h (record { 0 = x.row a })

    -- the fields of that header
    abbrev new_fields : Fields
    new_fields = record { era = record { 0 = x.row a }; count = count_after op.kind (count_in h); client = client a }

    -- the fields of that header fit their bits
    narrow : Narrow new_fields
    narrow =
        record {
          era = let r = nw.base.room in omega arith;
          count = omega arith;
          client = let c = nw.client in omega arith;
        }

    -- each cell still has at most one line
    singles : (c : ℕ) → c < clients → Single c after
    singles c l =
        ⊎_elim
        (λ (e : c ≡ a). λ k p. rw (e, due k p) (few_in (upd x.cells op.cell (written op) k)))
        (λ (o : c ≡ a → ⊥). λ k p. rw ((others c o).slots k) (nw.single c l k p))
        (cases_eq c a)

    -- the new header is within its limits, and its era is the own era
    new_word : (later : ℕ → ℕ) → later a ≡ x.row a + 1 → Word later new_header
    new_word later q =
        record {
          spare = spare_packed new_fields;
          client = rw (client_packed new_fields narrow) nw.client;
          count = rw (count_packed new_fields narrow, here) (few_naming op.slot.0 after ranged singles);
          era = rw (era_packed new_fields narrow, client_packed new_fields narrow) (omega arith);
        }

    -- a won swap is a move
    pub move_swap :
        Move seen hdr col a x lines (upd hdr op.slot.0 new_header)
        (record { row = x.row; cells = x.cells; log = x.log; won = some op }) after 1
    move_swap =
        let k = nw.base in
        record {
          rise = rw yet (omega arith);
          row_up = λ j. le_refl _;
          replaced =
              upd_all (λ s w. Replaced hdr (λ j. w) x.row s) hdr op.slot.0 new_header
              (inr (rw stands seen_it))
              (λ s o. inl same_swap);
          others = others;
          ranged = ranged;
          count =
              upd_all (λ s w. s < slots → count_in w ≡ naming s after) hdr op.slot.0 new_header
              (λ l. count_packed new_fields narrow ∙ here)
              (λ s o l. nw.count s l ∙ sym (elsewhere s o));
          words = λ later rises q.
              upd_all (λ s w. Word later w) hdr op.slot.0 new_header
              (new_word later q)
              (λ s o. word_up rises (nw.words s));
          base =
              record {
                own_some = k.own_some;
                past = k.past;
                evidence =
                    record {
                      count = count_in h;
                      logged = in_log;
                      evidence = inl (record { client = at_slot.0; era = at_slot.1 });
                    };
                log = k.log;
                cells_fit = k.cells_fit;
                room = room (singles a nw.client);
                due = due;
              };
        }
      where
        at_slot :
            (client_in (upd hdr op.slot.0 new_header op.slot.0) ≡ a) ×
            (era_in (upd hdr op.slot.0 new_header op.slot.0) ≡ x.row a)
        at_slot =
            rw (upd_same hdr op.slot.0 new_header)
            (client_packed new_fields narrow, era_packed new_fields narrow)
