-- The lines of a ledger counted: those of a client, those of a cell, those that name a slot; what entering, striking
-- and phasing a line does to each; and the pigeonhole over the cells of a client and over all. Assumes nothing.
use Prim.Native.Nat.{ℕ, zero, suc, ◌+◌, ◌*◌, ◌<◌, ◌≤◌}
use mathlib.Core.Bool.{Bool, true, false, cond, ◌&&◌, and-false}
use mathlib.Core.List.{List, [], ◌∷◌}
use mathlib.Core.Logic.{⊎_elim}
use mathlib.Core.Path.{◌≡◌, refl, sym, ap, ◌∙◌}
use native.Mathlib.Nat.{zero-add}
use native.Mathlib.Omega.{arith}
use lib.Dec.{eqb}
use lib.ListN.{length}
use borrow.Author.Tests.{eqb-true, eq-eqb, ne_eqb}
use Rattle.std.proofs.lemmas.Bool.{cases_Bool, cases_eq, and_parts, and_from, false_from_ne_true}
use Rattle.numbers.specs.declared.answers.Answer.{Answer}
use Rattle.numbers.specs.Sizes.{clients, cells, count_limit}
use Rattle.block.specs.declared.Operation.{Operation}
use Rattle.history.specs.Ledger.{Phase, visible, closing, Line, line_of, is_entry, is_line, struck, in_phase, phased, naming, is_visible, shown_by}
use Rattle.history.specs.Demand3.{NoLines}

-- the slots that the lines of client c and cell k name
unfoldable pub slots_at : ℕ → ℕ → List Line → List ℕ
slots_at c k [] = []
slots_at c k (l ∷ rest) = cond (is_entry c k l) (l.slot ∷ slots_at c k rest) (slots_at c k rest)

-- how many lines are client c's
unfoldable pub lines_of : ℕ → List Line → ℕ
lines_of c [] = 0
lines_of c (l ∷ rest) = cond (eqb l.client c) 1 0 + lines_of c rest

-- every line is of a client and a cell that there are
abbrev pub Ranged : List Line → Type 0
Ranged [] = Unit {0}
Ranged (l ∷ rest) = (l.client < clients) × ((l.cell < cells) × Ranged rest)

-- the lines of client c look alike in two ledgers
pub record Alike (c : ℕ) (old new : List Line) : Type 0 where
  pub slots : (k : ℕ) → slots_at c k new ≡ slots_at c k old
  pub lines : lines_of c new ≡ lines_of c old
  pub shows : (k : ℕ) → shown_by c k new ≡ shown_by c k old

-- a ledger is like itself
pub alike : {c : ℕ} {lines : List Line} → Alike c lines lines
alike = record { slots = λ k. refl; lines = refl; shows = λ k. refl }

-- a line of client c and cell k is of client c
entry_client : (c k : ℕ) (l : Line) → is_entry c k l ≡ true → l.client ≡ c
entry_client c k l e = eqb-true l.client c (and_parts (eqb l.client c) (eqb l.cell k) e).0

-- a line of client c and cell k is of cell k
entry_cell : (c k : ℕ) (l : Line) → is_entry c k l ≡ true → l.cell ≡ k
entry_cell c k l e = eqb-true l.cell k (and_parts (eqb l.client c) (eqb l.cell k) e).1

-- a line of one cell is of no other
entry_other : (c k d j : ℕ) (l : Line) → (d ≡ c → j ≡ k → ⊥) → is_entry c k l ≡ true → is_entry d j l ≡ false
entry_other c k d j l far e =
    false_from_ne_true (is_entry d j l)
    (λ t. far (sym (entry_client d j l t) ∙ entry_client c k l e) (sym (entry_cell d j l t) ∙ entry_cell c k l e))

-- a line of one client is of no other
entry_stays : (c k d : ℕ) (l : Line) → (d ≡ c → ⊥) → is_entry c k l ≡ true → eqb l.client d ≡ false
entry_stays c k d l far e = ne_eqb l.client d (λ q. far (sym q ∙ entry_client c k l e))

-- A line entered.
module _ (c : ℕ) (op : Operation) (lines : List Line) where
  -- the line entered is of its client and cell
  entered_is : is_entry c op.cell (line_of c op) ≡ true
  entered_is = and_from (eqb c c) (eqb op.cell op.cell) (eq-eqb c c refl) (eq-eqb op.cell op.cell refl)

  -- the cell of the line entered has one line more
  pub slots_entered : slots_at c op.cell (line_of c op ∷ lines) ≡ op.slot.0 ∷ slots_at c op.cell lines
  unfolding slots_at
  slots_entered = rw entered_is

  -- every other cell has as many lines
  pub slots_beside : (d j : ℕ) → (d ≡ c → j ≡ op.cell → ⊥) → slots_at d j (line_of c op ∷ lines) ≡ slots_at d j lines
  unfolding slots_at
  slots_beside d j far = rw (entry_other c op.cell d j (line_of c op) far entered_is)

  -- one line more names its slot
  pub naming_entered : naming op.slot.0 (line_of c op ∷ lines) ≡ 1 + naming op.slot.0 lines
  unfolding naming
  naming_entered = rw (eq-eqb op.slot.0 op.slot.0 refl)

  -- as many lines name every other slot
  pub naming_beside : (s : ℕ) → (s ≡ op.slot.0 → ⊥) → naming s (line_of c op ∷ lines) ≡ naming s lines
  unfolding naming
  naming_beside s h = rw (ne_eqb op.slot.0 s (λ e. h (sym e))) (zero-add (naming s lines))

  -- a line whose cell is not yet written shows nothing
  pub shows_entered : (d j : ℕ) → shown_by d j (line_of c op ∷ lines) ≡ shown_by d j lines
  unfolding shown_by
  shows_entered d j = rw (and-false (is_entry d j (line_of c op)))

  -- every other client has as many lines
  lines_beside : (d : ℕ) → (d ≡ c → ⊥) → lines_of d (line_of c op ∷ lines) ≡ lines_of d lines
  unfolding lines_of
  lines_beside d h = rw (ne_eqb c d (λ e. h (sym e))) (zero-add (lines_of d lines))

  -- the lines of the others are as before
  pub alike_entered : (d : ℕ) → (d ≡ c → ⊥) → Alike d lines (line_of c op ∷ lines)
  alike_entered d h =
      record { slots = λ j. slots_beside d j (λ e q. h e); lines = lines_beside d h; shows = λ j. shows_entered d j }

-- A line struck out.
module _ (c : ℕ) (op : Operation) where
  -- whether a line is the one struck out
  abbrev hit : Line → Bool
  hit l = is_line c op.cell op.slot.0 l

  -- a line of the cell that names the slot is the one struck out
  entry_hit : (l : Line) → is_entry c op.cell l ≡ true → l.slot ≡ op.slot.0 → hit l ≡ true
  entry_hit l e q =
      and_from (is_entry c op.cell l) (eqb l.slot op.slot.0) e (eq-eqb l.slot op.slot.0 q)

  -- the line struck out is of the cell
  hit_entry : (l : Line) → hit l ≡ true → is_entry c op.cell l ≡ true
  hit_entry l e = (and_parts (is_entry c op.cell l) (eqb l.slot op.slot.0) e).0

  -- a line of another cell is not struck out
  no_hit : (l : Line) → is_entry c op.cell l ≡ false → hit l ≡ false
  no_hit l e = rw e

  -- a function of the lines, told line by line, that the lines of the cell do not change is as before
  struck_keeps :
      {A : Type 0} (f : List Line → A) (step : Line → A → A) →
      ((l : Line) (rest : List Line) → f (l ∷ rest) ≡ step l (f rest)) →
      ((l : Line) (v : A) → is_entry c op.cell l ≡ true → step l v ≡ v) →
      (lines : List Line) →
      f (struck c op lines) ≡ f lines
  unfolding struck
  struck_keeps f step cons same [] = refl
  struck_keeps f step cons same (l ∷ rest) =
      ⊎_elim
      (λ (e : hit l ≡ true). rw e (sym (cons l rest ∙ same l (f rest) (hit_entry l e))))
      (λ (e : hit l ≡ false).
      rw e (cons l (struck c op rest) ∙ ap (step l) (struck_keeps f step cons same rest) ∙ sym (cons l rest)))
      (cases_Bool (hit l))

  module _ (d j : ℕ) (far : d ≡ c → j ≡ op.cell → ⊥) where
    -- every other cell keeps its lines
    pub slots_other : (lines : List Line) → slots_at d j (struck c op lines) ≡ slots_at d j lines
    unfolding slots_at
    slots_other =
        struck_keeps (slots_at d j) (λ l v. cond (is_entry d j l) (l.slot ∷ v) v) (λ l rest. refl)
        (λ l v e. rw (entry_other c op.cell d j l far e))

    -- every other cell shows what it showed
    pub shows_other : (lines : List Line) → shown_by d j (struck c op lines) ≡ shown_by d j lines
    unfolding shown_by
    shows_other =
        struck_keeps (shown_by d j)
        (λ l v. cond (is_entry d j l && is_visible l.phase) (Answer.Shows (record { 0 = l.slot })) v) (λ l rest. refl)
        (λ l v e. rw (entry_other c op.cell d j l far e))

  -- every other client has as many lines
  lines_other : (d : ℕ) → (d ≡ c → ⊥) → (lines : List Line) → lines_of d (struck c op lines) ≡ lines_of d lines
  unfolding lines_of
  lines_other d far =
      struck_keeps (lines_of d) (λ l v. cond (eqb l.client d) 1 0 + v) (λ l rest. refl)
      (λ l v e. rw (entry_stays c op.cell d l far e) (zero-add v))

  -- the lines of the others are as before
  pub alike_struck : (lines : List Line) (d : ℕ) → (d ≡ c → ⊥) → Alike d lines (struck c op lines)
  alike_struck lines d h =
      record {
        slots = λ j. slots_other d j (λ e q. h e) lines;
        lines = lines_other d h lines;
        shows = λ j. shows_other d j (λ e q. h e) lines;
      }

  -- a cell that showed nothing shows nothing
  pub shows_struck :
      (d j : ℕ) (lines : List Line) →
      shown_by d j lines ≡ Answer.ShowsNothing →
      shown_by d j (struck c op lines) ≡ Answer.ShowsNothing
  unfolding shown_by struck
  shows_struck d j [] e = e
  shows_struck d j (l ∷ rest) e =
      ⊎_elim
      (λ (t : (is_entry d j l && is_visible l.phase) ≡ true).
      let s : Answer.Shows (record { 0 = l.slot }) ≡ Answer.ShowsNothing = rw t at e in
      cc)
      (λ (t : (is_entry d j l && is_visible l.phase) ≡ false).
      let r : shown_by d j rest ≡ Answer.ShowsNothing = rw t at e in
      ⊎_elim
      (λ (q : hit l ≡ true). rw q r)
      (λ (q : hit l ≡ false). rw (q, t) (shows_struck d j rest r))
      (cases_Bool (hit l)))
      (cases_Bool (is_entry d j l && is_visible l.phase))

  -- the lines that are left are in range
  pub ranged_struck : (lines : List Line) → Ranged lines → Ranged (struck c op lines)
  unfolding struck
  ranged_struck [] r = r
  ranged_struck (l ∷ rest) r =
      ⊎_elim
      (λ (e : hit l ≡ true). rw e r.1.1)
      (λ (e : hit l ≡ false). rw e (r.0, (r.1.0, ranged_struck rest r.1.1)))
      (cases_Bool (hit l))

  -- a cell with one line has none once it is struck out
  pub slots_struck :
      (lines : List Line) →
      slots_at c op.cell lines ≡ op.slot.0 ∷ [] →
      slots_at c op.cell (struck c op lines) ≡ []
  unfolding slots_at struck
  slots_struck [] e = cc
  slots_struck (l ∷ rest) e =
      ⊎_elim
      (λ (t : is_entry c op.cell l ≡ true).
      let q : l.slot ∷ slots_at c op.cell rest ≡ op.slot.0 ∷ [] = rw t at e in
      rw (entry_hit l t (cc)) (cc))
      (λ (t : is_entry c op.cell l ≡ false).
      let q : slots_at c op.cell rest ≡ op.slot.0 ∷ [] = rw t at e in
      rw (no_hit l t, t) (slots_struck rest q))
      (cases_Bool (is_entry c op.cell l))

  -- a sum over the lines loses what the line struck out weighs
  struck_less :
      (f : List Line → ℕ) (weight : Line → ℕ) (n : ℕ) →
      ((l : Line) (rest : List Line) → f (l ∷ rest) ≡ weight l + f rest) →
      ((l : Line) → is_entry c op.cell l ≡ true → l.slot ≡ op.slot.0 → weight l ≡ n) →
      (lines : List Line) →
      slots_at c op.cell lines ≡ op.slot.0 ∷ [] →
      f lines ≡ n + f (struck c op lines)
  unfolding slots_at struck
  struck_less f weight n cons weighs [] e = cc
  struck_less f weight n cons weighs (l ∷ rest) e =
      ⊎_elim
      (λ (t : is_entry c op.cell l ≡ true).
      let q : l.slot ∷ slots_at c op.cell rest ≡ op.slot.0 ∷ [] = rw t at e in
      let same : l.slot ≡ op.slot.0 = cc in
      rw (entry_hit l t same) (cons l rest ∙ ap (λ (m : ℕ). m + f rest) (weighs l t same)))
      (λ (t : is_entry c op.cell l ≡ false).
      let q : slots_at c op.cell rest ≡ op.slot.0 ∷ [] = rw t at e in
      let less = struck_less f weight n cons weighs rest q in
      let here = cons l rest in
      let there = cons l (struck c op rest) in
      rw (no_hit l t) (omega arith))
      (cases_Bool (is_entry c op.cell l))

  -- the slot has one line less, the others as many
  pub naming_struck :
      (s : ℕ) (lines : List Line) →
      slots_at c op.cell lines ≡ op.slot.0 ∷ [] →
      naming s lines ≡ cond (eqb op.slot.0 s) 1 0 + naming s (struck c op lines)
  unfolding naming
  naming_struck s =
      struck_less (naming s) (λ l. cond (eqb l.slot s) 1 0) (cond (eqb op.slot.0 s) 1 0) (λ l rest. refl)
      (λ l t q. rw q)

  -- the client has one line less
  pub lines_struck :
      (lines : List Line) →
      slots_at c op.cell lines ≡ op.slot.0 ∷ [] →
      lines_of c lines ≡ 1 + lines_of c (struck c op lines)
  unfolding lines_of
  lines_struck =
      struck_less (lines_of c) (λ l. cond (eqb l.client c) 1 0) 1 (λ l rest. refl)
      (λ l t q. rw (eq-eqb l.client c (entry_client c op.cell l t)))

-- Lines in another phase.
module _ (p : Phase) (c k : ℕ) where
  -- a line in another phase names the same slot
  phase_slot : (l : Line) → (in_phase p c k l).slot ≡ l.slot
  phase_slot l = ⊎_elim (λ (e : is_entry c k l ≡ true). rw e) (λ (e : is_entry c k l ≡ false). rw e) (cases_Bool (is_entry c k l))

  -- a line in another phase is of the same client
  phase_client : (l : Line) → (in_phase p c k l).client ≡ l.client
  phase_client l = ⊎_elim (λ (e : is_entry c k l ≡ true). rw e) (λ (e : is_entry c k l ≡ false). rw e) (cases_Bool (is_entry c k l))

  -- a line in another phase is of the same cell
  phase_cell : (l : Line) → (in_phase p c k l).cell ≡ l.cell
  phase_cell l = ⊎_elim (λ (e : is_entry c k l ≡ true). rw e) (λ (e : is_entry c k l ≡ false). rw e) (cases_Bool (is_entry c k l))

  -- every cell has the same lines
  pub slots_phased : (d j : ℕ) (lines : List Line) → slots_at d j (phased p c k lines) ≡ slots_at d j lines
  unfolding slots_at phased
  slots_phased d j [] = refl
  slots_phased d j (l ∷ rest) = rw (phase_slot l, phase_client l, phase_cell l, slots_phased d j rest)

  -- every client has as many lines
  pub lines_phased : (d : ℕ) (lines : List Line) → lines_of d (phased p c k lines) ≡ lines_of d lines
  unfolding lines_of phased
  lines_phased d [] = refl
  lines_phased d (l ∷ rest) = rw (phase_client l, lines_phased d rest)

  -- as many lines name every slot
  pub naming_phased : (s : ℕ) (lines : List Line) → naming s (phased p c k lines) ≡ naming s lines
  unfolding naming phased
  naming_phased s [] = refl
  naming_phased s (l ∷ rest) = rw (phase_slot l, naming_phased s rest)

  -- all lines are in range
  pub ranged_phased : (lines : List Line) → Ranged lines → Ranged (phased p c k lines)
  unfolding phased
  ranged_phased [] r = r
  ranged_phased (l ∷ rest) r = rw (phase_client l, phase_cell l) (r.0, (r.1.0, ranged_phased rest r.1.1))

  -- every other cell shows what it showed
  pub shows_beside :
      (d j : ℕ) →
      (d ≡ c → j ≡ k → ⊥) →
      (lines : List Line) →
      shown_by d j (phased p c k lines) ≡ shown_by d j lines
  unfolding shown_by phased
  shows_beside d j far [] = refl
  shows_beside d j far (l ∷ rest) =
      ⊎_elim
      (λ (e : is_entry c k l ≡ true). rw (e, entry_other c k d j l far e, shows_beside d j far rest))
      (λ (e : is_entry c k l ≡ false). rw (e, shows_beside d j far rest))
      (cases_Bool (is_entry c k l))

  -- the lines of the others are as before
  pub alike_phased : (lines : List Line) (d : ℕ) → (d ≡ c → ⊥) → Alike d lines (phased p c k lines)
  alike_phased lines d h =
      record {
        slots = λ j. slots_phased d j lines;
        lines = lines_phased d lines;
        shows = λ j. shows_beside d j (λ e q. h e) lines;
      }

-- a cell whose release is opened shows nothing
pub shows_closing : (c k : ℕ) (lines : List Line) → shown_by c k (phased closing c k lines) ≡ Answer.ShowsNothing
unfolding shown_by phased
shows_closing c k [] = refl
shows_closing c k (l ∷ rest) =
    ⊎_elim
    (λ (e : is_entry c k l ≡ true). rw (e, e) (shows_closing c k rest))
    (λ (e : is_entry c k l ≡ false). rw (e, e) (shows_closing c k rest))
    (cases_Bool (is_entry c k l))

-- a cell that is written shows its line
pub shows_visible :
    (c k s : ℕ) (lines : List Line) →
    slots_at c k lines ≡ s ∷ [] →
    shown_by c k (phased visible c k lines) ≡ Answer.Shows (record { 0 = s })
unfolding shown_by phased slots_at
shows_visible c k s [] q = cc
shows_visible c k s (l ∷ rest) q =
    ⊎_elim
    (λ (e : is_entry c k l ≡ true).
    let r : l.slot ∷ slots_at c k rest ≡ s ∷ [] = rw e at q in
    let same : l.slot ≡ s = cc in rw (e, e, same))
    (λ (e : is_entry c k l ≡ false). rw (e, e) (shows_visible c k s rest (rw e at q)))
    (cases_Bool (is_entry c k l))

-- a cell with no line shows nothing
pub shows_none : (c k : ℕ) (lines : List Line) → slots_at c k lines ≡ [] → shown_by c k lines ≡ Answer.ShowsNothing
unfolding shown_by slots_at
shows_none c k [] q = refl
shows_none c k (l ∷ rest) q =
    ⊎_elim
    (λ (e : is_entry c k l ≡ true).
    let r : l.slot ∷ slots_at c k rest ≡ [] = rw e at q in
    cc)
    (λ (e : is_entry c k l ≡ false). rw e (shows_none c k rest (rw e at q)))
    (cases_Bool (is_entry c k l))

-- The pigeonhole: a sum over the numbers below n.
unfoldable sum_to : ℕ → (ℕ → ℕ) → ℕ
sum_to zero f = 0
sum_to (suc n) f = f n + sum_to n f

-- a sum of two terms is the sum of their sums
sum_add : (n : ℕ) (f g : ℕ → ℕ) → sum_to n (λ i. f i + g i) ≡ sum_to n f + sum_to n g
unfolding sum_to
sum_add zero f g = refl
sum_add (suc n) f g = let e = sum_add n f g in omega arith

-- equal terms make equal sums
sum_same : (n : ℕ) (f g : ℕ → ℕ) → ((i : ℕ) → f i ≡ g i) → sum_to n f ≡ sum_to n g
unfolding sum_to
sum_same zero f g h = refl
sum_same (suc n) f g h = let e = sum_same n f g h in let q = h n in omega arith

-- terms of at most b sum up to at most n times b
sum_bound : (b n : ℕ) (f : ℕ → ℕ) → ((i : ℕ) → i < n → f i ≤ b) → sum_to n f ≤ n * b
unfolding sum_to
sum_bound b zero f h = omega arith
sum_bound b (suc n) f h =
    let e = sum_bound b n f (λ i l. h i (omega arith)) in let q = h n (omega arith) in omega arith

-- no number below n is one that is not below n
sum_none : (x n : ℕ) → n ≤ x → sum_to n (λ i. cond (eqb x i) 1 0) ≡ 0
unfolding sum_to
sum_none x zero h = refl
sum_none x (suc n) h =
    let e = sum_none x n (omega arith) in
    rw (ne_eqb x n (λ q. omega arith)) (rw e)

-- exactly one number below n is x
sum_one : (x n : ℕ) → x < n → sum_to n (λ i. cond (eqb x i) 1 0) ≡ 1
unfolding sum_to
sum_one x zero h = absurd (omega arith)
sum_one x (suc n) h =
    ⊎_elim
    (λ (e : x ≡ n). rw (eq-eqb x n e, sum_none x n (omega arith)))
    (λ (e : x ≡ n → ⊥).
    let q = sum_one x n (omega arith) in
    rw (ne_eqb x n e) (rw q))
    (cases_eq x n)

-- noughts sum up to nought
sum_zero : (n : ℕ) → sum_to n (λ i. 0) ≡ 0
unfolding sum_to
sum_zero zero = refl
sum_zero (suc n) = rw (sum_zero n)

-- one and n is the number after n
one_more : (n : ℕ) → 1 + n ≡ suc n
one_more n = omega arith

-- a line is one in its own cell
share :
    (c k : ℕ) (l : Line) (rest : List Line) →
    length (slots_at c k (l ∷ rest)) ≡ cond (is_entry c k l) 1 0 + length (slots_at c k rest)
unfolding slots_at
share c k l rest =
    ⊎_elim
    (λ (t : is_entry c k l ≡ true). rw t (sym (one_more (length (slots_at c k rest)))))
    (λ (t : is_entry c k l ≡ false). rw t (sym (zero-add (length (slots_at c k rest)))))
    (cases_Bool (is_entry c k l))

-- a line of the client is in one of its cells
one_cell :
    (c : ℕ) (l : Line) → l.cell < cells → sum_to cells (λ k. cond (is_entry c k l) 1 0) ≡ cond (eqb l.client c) 1 0
one_cell c l b =
    ⊎_elim
    (λ (t : eqb l.client c ≡ true). rw t (sum_one l.cell cells b))
    (λ (t : eqb l.client c ≡ false). rw t (sum_zero cells))
    (cases_Bool (eqb l.client c))

-- the lines of a client are those of its cells
cells_of : (c : ℕ) (lines : List Line) → Ranged lines → lines_of c lines ≡ sum_to cells (λ k. length (slots_at c k lines))
unfolding lines_of slots_at
cells_of c [] r = sym (sum_zero cells)
cells_of c (l ∷ rest) r =
    let e = cells_of c rest r.1.1 in
    let o = one_cell c l r.1.0 in
    let q = sum_add cells (λ k. cond (is_entry c k l) 1 0) (λ k. length (slots_at c k rest)) in
    let s =
    sum_same cells (λ k. length (slots_at c k (l ∷ rest))) (λ k. cond (is_entry c k l) 1 0 + length (slots_at c k rest))
    (λ k. share c k l rest)
    in
    omega arith

-- the lines are those of the clients
clients_of : (lines : List Line) → Ranged lines → length lines ≡ sum_to clients (λ c. lines_of c lines)
unfolding lines_of
clients_of [] r = sym (sum_zero clients)
clients_of (l ∷ rest) r =
    let e = clients_of rest r.1.1 in
    let q = sum_add clients (λ c. cond (eqb l.client c) 1 0) (λ c. lines_of c rest) in
    let o = sum_one l.client clients r.0 in
    omega arith

-- no more lines name a slot than there are
naming_few : (s : ℕ) (lines : List Line) → naming s lines ≤ length lines
unfolding naming
naming_few s [] = omega arith
naming_few s (l ∷ rest) =
    let e = naming_few s rest in
    ⊎_elim
    (λ (t : eqb l.slot s ≡ true). rw t (omega arith))
    (λ (t : eqb l.slot s ≡ false). rw t (omega arith))
    (cases_Bool (eqb l.slot s))

-- each cell has at most one line
abbrev pub Single : ℕ → List Line → Type 0
Single c lines = (k : ℕ) → k < cells → length (slots_at c k lines) ≤ 1

-- a client has at most as many lines as cells
pub few_of : (c : ℕ) (lines : List Line) → Ranged lines → Single c lines → lines_of c lines ≤ cells
few_of c lines r h =
    rw (cells_of c lines r) (let b = sum_bound 1 cells (λ k. length (slots_at c k lines)) h in omega arith)

-- no more lines name a slot than there are cells
pub few_naming :
    (s : ℕ) (lines : List Line) →
    Ranged lines →
    ((c : ℕ) → c < clients → Single c lines) →
    naming s lines ≤ count_limit
few_naming s lines r h =
    let n = naming_few s lines in
    let e = clients_of lines r in
    let b = sum_bound cells clients (λ c. lines_of c lines) (λ c l. few_of c lines r (h c l)) in
    omega arith

-- a client none of whose cells has a line has none
pub no_lines :
    (c : ℕ) (lines : List Line) →
    Ranged lines →
    ((k : ℕ) → k < cells → slots_at c k lines ≡ []) →
    NoLines c lines
unfolding slots_at
no_lines c [] r h = tt
no_lines c (l ∷ rest) r h =
    (λ e. full l.cell e refl (h l.cell r.1.0), no_lines c rest r.1.1 (λ k b. rest_none k (h k b)))
  where
    full : (k : ℕ) → l.client ≡ c → l.cell ≡ k → slots_at c k (l ∷ rest) ≡ [] → ⊥
    full k e f q =
        let both : is_entry c k l ≡ true =
        and_from (eqb l.client c) (eqb l.cell k) (eq-eqb l.client c e) (eq-eqb l.cell k f)
        in
        let none : l.slot ∷ slots_at c k rest ≡ [] = rw both at q in
        cc

    rest_none : (k : ℕ) → slots_at c k (l ∷ rest) ≡ [] → slots_at c k rest ≡ []
    rest_none k q =
        ⊎_elim
        (λ (t : is_entry c k l ≡ true).
        let none : l.slot ∷ slots_at c k rest ≡ [] = rw t at q in
        cc)
        (λ (t : is_entry c k l ≡ false). rw t at q)
        (cases_Bool (is_entry c k l))
