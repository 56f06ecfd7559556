-- The lines of the slots, one after the other. Assumes nothing.
use Prim.Native.Nat.{ℕ, suc, ◌+◌, ◌*◌, ◌≤◌, ◌<◌}
use mathlib.Core.List.{List, [], ◌∷◌, ◌++◌, append_assoc, append-nil}
use mathlib.Core.Logic.{⊎_elim}
use mathlib.Core.Path.{◌≡◌, refl, sym, ap, ◌∙◌}
use native.Mathlib.Omega.{arith}
use native.Mathlib.Numerals.{add-one}
use lib.ListN.{length, take, get_or, length-append}
use lib.Seq.{take-suc, length-take-le}
use lib.Dec.{eqb}
use borrow.Author.Tests.{eq-eqb, ne_eqb, le-leb}
use Rattle.std.proofs.lemmas.Bool.{cases_Bool}
use Rattle.header.specs.Header.{count_in}
use Rattle.text.specs.Text.{line, slot_line, line_size, slot_line_size, Put}
use Rattle.text.proofs.Filling.{put_none, put_then, put_length}
use Rattle.text.proofs.Widths.{line_most, slot_line_most}
use Rattle.trace.specs.Play.{cut_text, slot_text, slots_text, Ending}

-- the lines of some slots, and of those after them
slots_then : (s : ℕ) (x y : List ℕ) → slots_text s (x ++ y) ≡ slots_text s x ++ slots_text (s + length x) y
unfolding slots_text
slots_then s [] y = let z : s + 0 ≡ s = omega arith in rw z refl
slots_then s (h ∷ x) y =
    let z : s + suc (length x) ≡ s + 1 + length x = omega arith in
    rw (z, slots_then (s + 1) x y) (simp append_assoc)

-- one slot more
pub slots_more :
    (headers : List ℕ) (s : ℕ) →
    s < length headers →
    slots_text 0 (take (s + 1) headers) ≡ slots_text 0 (take s headers) ++ slot_text s (get_or headers s 0)
unfolding slots_text
slots_more headers s h =
    let l : 0 + length (take s headers) ≡ s = let e = length-take-le s headers (omega arith) in omega arith in
    ap (slots_text 0) (ap (λ (i : ℕ). take i headers) (add-one s) ∙ take-suc headers s 0 h)
    ∙ slots_then 0 (take s headers) (get_or headers s 0 ∷ [])
    ∙ rw l (ap (λ (t : List ℕ). slots_text 0 (take s headers) ++ t) (append-nil (slot_text s (get_or headers s 0))))

-- a slot's line is no longer than the longest, and so those of many
slot_most : (s header : ℕ) → length (slot_text s header) ≤ slot_line_size
slot_most s header =
    ⊎_elim
    (λ t. rw t (omega arith))
    (λ t. rw t (slot_line_most s (count_in header)))
    (cases_Bool (eqb (count_in header) 0))

pub slots_most : (s : ℕ) (headers : List ℕ) → length (slots_text s headers) ≤ slot_line_size * length headers
unfolding slots_text
slots_most s [] = omega arith
slots_most s (header ∷ headers) =
    let h = slot_most s header in
    let r = slots_most (s + 1) headers in
    simp length-append (omega arith)

-- the lines of the first s slots are put
pub record Below (headers before : List ℕ) (at : ℕ) (out : List ℕ) (s end : ℕ) : Type 0 where
  pub put : Put before at (slots_text 0 (take s headers)) out end
  pub size : length out ≡ length before

module _ {headers before : List ℕ} {at : ℕ} where
  -- at first of none
  pub none_below : Below headers before at before 0 at
  unfolding slots_text
  none_below = record { put = put_none before at; size = refl }

  pub below_most : {out : List ℕ} {s end : ℕ} → Below headers before at out s end → s ≤ length headers → end ≤ at + slot_line_size * s
  below_most {out} {s} {end} p h =
      let e = p.put.ends in
      let m = slots_most 0 (take s headers) in
      let l = length-take-le s headers h in
      omega arith

  -- one slot more
  pub one_below :
      {out after : List ℕ} {s end next : ℕ} →
      Below headers before at out s end →
      s < length headers →
      at + slot_line_size * length headers ≤ length before →
      Put out end (slot_text s (get_or headers s 0)) after next →
      Below headers before at after (s + 1) next
  one_below {out} {after} {s} {end} {next} p h room put =
      let l = p.size in
      let m = below_most p (omega arith) in
      let e = put.ends in
      let q = slot_most s (get_or headers s 0) in
      record {
        put = rw (sym (slots_more headers s h)) at (put_then p.put put (omega arith));
        size = put_length put (omega arith) ∙ l;
      }

-- R5.3: with no bytes left there is no cut record
pub no_cut : (n : ℕ) (rest : List ℕ) → length rest ≡ 0 → cut_text n rest ≡ []
no_cut n [] h = refl
no_cut n (byte ∷ more) h = absurd (let z : suc (length more) ≡ 0 = h in omega arith)

pub a_cut : (n : ℕ) (rest : List ℕ) → (length rest ≡ 0 → ⊥) → line n 13 ≡ cut_text n rest
a_cut n [] h = absurd (h refl)
a_cut n (byte ∷ more) h = refl

pub cut_most : (n : ℕ) (rest : List ℕ) → length (cut_text n rest) ≤ line_size
cut_most n [] = omega arith
cut_most n (byte ∷ more) = line_most n 13

-- R5.5: a slot with count 0 has no line
pub free_slot : (s header count : ℕ) → count ≡ count_in header → count ≡ 0 → slot_text s header ≡ []
free_slot s header count e z = rw (eq-eqb (count_in header) 0 (sym e ∙ z))

pub used_slot : (s header count : ℕ) → count ≡ count_in header → (count ≡ 0 → ⊥) → slot_line s count ≡ slot_text s header
used_slot s header count e z = rw (ne_eqb (count_in header) 0 (λ (n : count_in header ≡ 0). z (e ∙ n)), e)

-- the whole ending, put where there is room
pub ending :
    {headers rest out one two : List ℕ} {n mid end : ℕ} →
    Put out 0 (cut_text n rest) one mid →
    Put one mid (slots_text 0 headers) two end →
    line_size + slot_line_size * length headers ≤ length out →
    Ending headers n rest out end two
ending {headers} {rest} {out} {one} {two} {n} {mid} {end} p q room =
    let a = cut_most n rest in
    let b = slots_most 0 headers in
    let e = p.ends in
    let f = q.ends in
    let put = put_then p q (omega arith) in
    let t = le-leb (0 + (line_size + slot_line_size * length headers)) (length out) (omega arith) in
    record { result = rw t (let g = put.ends in omega arith); text = rw t put.fills; end_within = omega arith }
