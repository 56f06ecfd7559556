-- How many digits a number has, and that the library's text of it is these digits. Assumes nothing.
use Prim.Native.Nat.{ℕ, zero, suc, max, ◌+◌, ◌*◌, ◌/◌, ◌%◌, ◌^◌, ◌≤◌, ◌<◌}
use mathlib.Core.List.{List, [], ◌∷◌, ◌++◌}
use mathlib.Core.Path.{◌≡◌, refl, sym, ap, ◌∙◌}
use native.Mathlib.Omega.{arith}
use native.Mathlib.Numerals.{add-one}
use borrow.Author.Tests.{lt-ltb, le-ltb}
use lib.ListN.{length, take, drop, length-append, take-append-drop}
use Rattle.std.specs.Fmt as Fmt
use Rattle.std.proofs.Common.{inl, inr}
use Rattle.std.proofs.Math.Nat.{pow-suc, one-le-pow}
use Rattle.std.proofs.lemmas.Bool.{cases_lt}
use Rattle.std.proofs.lemmas.Fmt.{decimal_by_steps, decimal_nonempty, decimal_step, length-decimal-le}
use Rattle.text.specs.Text.{spelled, width_from, width, decimal, line, slot_line, number_size, line_size, slot_line_size, Put}

-- k digits are k bytes more
pub spelled_length : (k n : ℕ) (a : List ℕ) → length (spelled k n a) ≡ k + length a
unfolding spelled
spelled_length zero n a = omega arith
spelled_length (suc k) n a = spelled_length k (n / 10) ((48 + n % 10) ∷ a) ∙ (let z : k + suc (length a) ≡ suc k + length a = omega arith in z)

-- what a text is put before does not change its digits
pub spelled_append : (k n : ℕ) (a b : List ℕ) → spelled k n a ++ b ≡ spelled k n (a ++ b)
unfolding spelled
spelled_append zero n a b = refl
spelled_append (suc k) n a b = spelled_append k (n / 10) ((48 + n % 10) ∷ a) b

-- no more digits than are tried
tries : (f k p n : ℕ) → width_from f k p n ≤ k + f
tries zero k p n = omega arith
tries (suc f) k p n =
    elim (cases_lt n p) [
      | inl h ↦ rw (lt-ltb n p h) (omega arith)
      | inr h ↦ rw (le-ltb n p h) (let t = tries f (k + 1) (p * 10) n in omega arith)
    ]

-- no number of digits is above the most
pub width_most : (n : ℕ) → width n ≤ number_size
unfolding width
width_most n = let t = tries 19 1 10 n in omega arith

-- a number is as long as it has digits
pub decimal_length : (n : ℕ) → length (decimal n) ≡ width n
unfolding decimal
decimal_length n = let l = spelled_length (width n) n [] in omega arith

decimal_most : (n : ℕ) → length (decimal n) ≤ number_size
decimal_most n = let l = decimal_length n in let w = width_most n in omega arith

-- a line is no longer than the longest
pub line_most : (place number : ℕ) → length (line place number) ≤ line_size
unfolding line
line_most place number =
    let a = decimal_most place in
    let b = decimal_most number in
    simp length-append (omega arith)

pub slot_line_most : (slot count : ℕ) → length (slot_line slot count) ≤ slot_line_size
unfolding slot_line
slot_line_most slot count = let h = line_most slot count in omega arith

-- the first power of ten that is not tried
above : ℕ → ℕ → ℕ
above zero p = p
above (suc f) p = above f (p * 10)

-- where a number is below it, it does not matter how many are tried
enough : (f g k p n : ℕ) → n < above f p → n < above g p → width_from f k p n ≡ width_from g k p n
unfolding above
enough zero zero k p n a b = refl
enough zero (suc g) k p n a b = rw (lt-ltb n p a)
enough (suc f) zero k p n a b = rw (lt-ltb n p b)
enough (suc f) (suc g) k p n a b =
    elim (cases_lt n p) [
      | inl h ↦ rw (lt-ltb n p h) refl
      | inr h ↦ rw (le-ltb n p h) (enough f g (k + 1) (p * 10) n a b)
    ]

-- a number of one digit more
shifted : (f k p n : ℕ) → width_from f (k + 1) (p * 10) n ≡ width_from f k p (n / 10) + 1
shifted zero k p n = refl
shifted (suc f) k p n =
    elim (cases_lt (n / 10) p) [
      | inl h ↦ rw (lt-ltb (n / 10) p h, lt-ltb n (p * 10) (omega arith)) refl
      | inr h ↦ rw (le-ltb (n / 10) p h, le-ltb n (p * 10) (omega arith)) (shifted f (k + 1) (p * 10) n)
    ]

width_more : (n : ℕ) → 10 ≤ n → n < 2 ^ 64 → width n ≡ width (n / 10) + 1
unfolding width above
width_more n a b =
    rw (le-ltb n 10 a)
    (shifted 18 1 10 n ∙ ap (λ (k : ℕ). k + 1) (enough 18 19 1 10 (n / 10) (omega arith) (omega arith)))

-- the library's text of a number is its digits
digits_are : (n : ℕ) → n < 2 ^ 64 → Fmt.decimal n ≡ decimal n
unfolding decimal width spelled
digits_are n b =
    decimal_by_steps (λ m ds. m < 2 ^ 64 → ds ≡ decimal m)
    (λ m h _. let e : m % 10 ≡ m = omega arith in rw (lt-ltb m 10 h, e) refl)
    (λ m ds h e l.
    ap (λ (x : List ℕ). x ++ ((48 + m % 10) ∷ [])) (e (omega arith))
    ∙ spelled_append (width (m / 10)) (m / 10) [] ((48 + m % 10) ∷ [])
    ∙ ap (λ (k : ℕ). spelled k m []) (sym (width_more m h l ∙ add-one (width (m / 10)))))
    n b b

-- a number with k digits or more after its first
longer : (k n : ℕ) → 10 ^ k ≤ max n 1 → n < 2 ^ 64 → k < length (Fmt.decimal n)
longer zero n h b = decimal_nonempty n b
longer (suc k) n h b =
    let s : 10 ^ suc k ≡ 10 ^ k * 10 = pow-suc 10 k in
    let one : 1 ≤ 10 ^ k = one-le-pow k 10 (omega arith) in
    let i = longer k (n / 10) (omega arith) (omega arith) in
    rw (decimal_step n (omega arith) b) (simp length-append (omega arith))

-- the length of a number's text is one more than its logarithm
pub log_length : (n k : ℕ) → n < 2 ^ 64 → 10 ^ k ≤ max n 1 → max n 1 < 10 * 10 ^ k → length (Fmt.decimal n) ≡ k + 1
log_length n k b low high =
    let s : 10 ^ suc k ≡ 10 ^ k * 10 = pow-suc 10 k in
    let most = length-decimal-le (suc k) n (omega arith) (omega arith) b in
    let least = longer k n low b in
    omega arith

-- the library's text of a number put so that it ends at a place
pub digits_put :
    {o out : List ℕ} {end : ℕ} (at n start : ℕ) →
    n < 2 ^ 64 →
    end ≡ at + length (Fmt.decimal n) →
    start + length (Fmt.decimal n) ≡ end →
    drop start out ≡ Fmt.decimal n ++ drop end o →
    take start out ≡ take start o →
    Put o at (decimal n) out end
digits_put {o} {out} {end} at n start b e s written before =
    let same : start ≡ at = omega arith in
    rw (← digits_are n b)
    (record {
      ends = e;
      fills =
          sym (take-append-drop at out)
          ∙ rw same at (ap (λ (x : List ℕ). x ++ drop start out) before)
          ∙ ap (λ (x : List ℕ). take at o ++ x) (rw same at written ∙ ap (λ (m : ℕ). Fmt.decimal n ++ drop m o) e);
    })
