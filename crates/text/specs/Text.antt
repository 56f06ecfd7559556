-- The text of the lines (R5.4, R5.5), as bytes.
use Rattle.std.specs.Prelude.{ℕ, zero, suc, ◌+◌, ◌*◌, ◌/◌, ◌%◌, cond, List, [], ◌∷◌, ◌++◌, ◌≡◌, ltb, leb, length, take, drop}

-- the last k decimal digits of n, in front of a text
unfoldable pub spelled : ℕ → ℕ → List ℕ → List ℕ
spelled zero n rest = rest
spelled (suc k) n rest = spelled k (n / 10) ((48 + n % 10) ∷ rest)

-- how many digits n has, known to be k or more: k where n is below p, the power of ten of k digits, and else more;
-- at most f more are tried
abbrev pub width_from : ℕ → ℕ → ℕ → ℕ → ℕ
width_from zero k p n = k
width_from (suc f) k p n = cond (ltb n p) k (width_from f (k + 1) (p * 10) n)

-- how long the longest number of 64 bits is
abbrev pub number_size : ℕ
number_size = 20

-- how many decimal digits a number of 64 bits has: 1 to 20, the first power of ten above it
unfoldable pub width : ℕ → ℕ
width n = width_from 19 1 10 n

-- n in decimal
unfoldable pub decimal : ℕ → List ℕ
decimal n = spelled (width n) n []

-- R5.4: a record's line: its place, a space, the answer's number, a newline
unfoldable pub line : ℕ → ℕ → List ℕ
line place answer = decimal place ++ (32 ∷ []) ++ decimal answer ++ (10 ∷ [])

-- how long the longest line is
abbrev pub line_size : ℕ
line_size = 2 * (number_size + 1)

-- R5.5: the word "slot" and a space
abbrev pub slot_word : List ℕ
slot_word = 115 ∷ 108 ∷ 111 ∷ 116 ∷ 32 ∷ []

-- R5.5: a slot's line: the word "slot", its number and its count
unfoldable pub slot_line : ℕ → ℕ → List ℕ
slot_line slot count = slot_word ++ line slot count

abbrev pub slot_line_size : ℕ
slot_line_size = length slot_word + line_size

-- a list of bytes with a text written over it from `at` on, and all its other bytes as they were
abbrev pub filled : List ℕ → ℕ → List ℕ → List ℕ
filled bytes at text = take at bytes ++ (text ++ drop (at + length text) bytes)

-- a text was put at `at` of some bytes, and ends at `end`
pub record Put (before : List ℕ) (at : ℕ) (text after : List ℕ) (end : ℕ) : Type 0 where
  pub ends : end ≡ at + length text
  pub fills : after ≡ filled before at text

-- a text of at most `most` bytes, where so many have room from `at` on, and else nothing
abbrev pub fitting : ℕ → ℕ → ℕ → List ℕ → List ℕ
fitting most room at text = cond (leb (at + most) room) text []

-- such a text was put at `at` of some bytes
abbrev pub PutIn : ℕ → List ℕ → ℕ → List ℕ → List ℕ → ℕ → Type 0
PutIn most before at text after end = Put before at (fitting most (length before) at text) after end
