-- Playing some records and then others is playing both. Assumes nothing.
use Prim.Native.Nat.{ℕ, zero, suc, ◌+◌, ◌*◌, ◌≤◌}
use mathlib.Core.List.{List, [], ◌∷◌, ◌++◌, append_assoc}
use mathlib.Core.Path.{◌≡◌, refl, sym, ap, ◌∙◌}
use native.Mathlib.Omega.{arith}
use lib.ListN.{length, drop, length-append, length-drop, get_or, get_or-append}
use lib.Seq.{get_or-drop, drop-drop, drop_at, drop-append-le}
use Rattle.std.specs.Prelude.{Option}
use Rattle.numbers.specs.Answers.{number_of}
use Rattle.header.specs.Header.{unpacked}
use Rattle.block.specs.Block.{fresh_block}
use Rattle.text.specs.Text.{line_size}
use Rattle.text.proofs.Widths.{line_most}
use Rattle.calls.specs.declared.Call.{Call}
use Rattle.decode.specs.Decode.{decoded, record_size, first_asked}
use Rattle.world.specs.World.{World, Machine, fresh}
use Rattle.trace.specs.Play.{asked, wholes, cut, told, next, text_by, world_by, slots_text, end_text, played_by, printed}

-- what the record at a place of some bytes asks for
pub first_at :
    (bytes : List ℕ) (at : ℕ) →
    first_asked (drop at bytes)
    ≡ decoded (get_or bytes at 0) (get_or bytes (at + 1) 0) (get_or bytes (at + 2) 0) (get_or bytes (at + 3) 0)
first_at bytes at =
    let z : at + 0 ≡ at = omega arith in
    rw (get_or-drop at bytes 0 0, z, get_or-drop at bytes 1 0, get_or-drop at bytes 2 0, get_or-drop at bytes 3 0)

-- k records are k
pub asked_length : (k : ℕ) (bytes : List ℕ) → length (asked k bytes) ≡ k
unfolding asked
asked_length zero bytes = refl
asked_length (suc k) bytes = ap suc (asked_length k (drop record_size bytes))

-- k records, and those after them
pub asked_add : (k j : ℕ) (bytes : List ℕ) → asked (k + j) bytes ≡ asked k bytes ++ asked j (drop (k * record_size) bytes)
unfolding asked
asked_add zero j bytes = let z : 0 + j ≡ j = omega arith in rw z refl
asked_add (suc k) j bytes =
    let s : suc k + j ≡ suc (k + j) = omega arith in
    let m : record_size + k * record_size ≡ suc k * record_size = omega arith in
    rw (s, asked_add k j (drop record_size bytes), drop-drop (k * record_size) record_size bytes, m) refl

-- one record more
pub asked_more :
    (k : ℕ) (bytes : List ℕ) → asked (k + 1) bytes ≡ asked k bytes ++ (first_asked (drop (k * record_size) bytes) ∷ [])
unfolding asked
asked_more k bytes = asked_add k 1 bytes

-- bytes after k records do not change what they ask for
pub asked_append : (k : ℕ) (x y : List ℕ) → k * record_size ≤ length x → asked k (x ++ y) ≡ asked k x
unfolding asked
asked_append zero x y h = refl
asked_append (suc k) x y h =
    let l = length-drop record_size x in
    let byte : (i : ℕ) → i + 1 ≤ record_size → get_or (x ++ y) i 0 ≡ get_or x i 0 =
    λ i b. get_or-append x y 0 i (omega arith) in
    rw (
      byte 0 (omega arith),
      byte 1 (omega arith),
      byte 2 (omega arith),
      byte 3 (omega arith),
      drop-append-le record_size x y (omega arith),
      asked_append k (drop record_size x) y (omega arith),
    ) refl

module _ (m : Machine) where
  -- the world after both
  pub world_then : (w : World) (x y : List (Option Call)) → world_by m w (x ++ y) ≡ world_by m (world_by m w x) y
  unfolding world_by
  world_then w [] y = refl
  world_then w (d ∷ x) y = world_then (next m w d) x y

  -- the lines of both
  pub text_then :
      (w : World) (n : ℕ) (x y : List (Option Call)) →
      text_by m w n (x ++ y) ≡ text_by m w n x ++ text_by m (world_by m w x) (n + length x) y
  unfolding world_by text_by
  text_then w n [] y = let z : n + 0 ≡ n = omega arith in rw z refl
  text_then w n (d ∷ x) y =
      let s : n + suc (length x) ≡ n + 1 + length x = omega arith in
      rw (s, text_then (next m w d) (n + 1) x y) (simp append_assoc)

  -- the lines of some records are no longer than the longest each
  pub text_most : (w : World) (n : ℕ) (x : List (Option Call)) → length (text_by m w n x) ≤ length x * line_size
  unfolding text_by
  text_most w n [] = omega arith
  text_most w n (d ∷ x) =
      let h = line_most n (number_of (told m w d)) in
      let r = text_most (next m w d) (n + 1) x in
      simp length-append (omega arith)

  -- what is printed from k records on
  pub played_from :
      (w : World) (n k : ℕ) (bytes : List ℕ) →
      k * record_size ≤ length bytes →
      played_by m w n bytes
      ≡ text_by m w n (asked k bytes)
      ++ played_by m (world_by m w (asked k bytes)) (n + k) (drop (k * record_size) bytes)
  unfolding played_by
  played_from w n k bytes h =
      let rest = drop (k * record_size) bytes in
      let l = length-drop (k * record_size) bytes in
      let j : wholes bytes ≡ k + wholes rest = omega arith in
      let a : asked (wholes bytes) bytes ≡ asked k bytes ++ asked (wholes rest) rest =
      ap (λ (i : ℕ). asked i bytes) j ∙ asked_add k (wholes rest) bytes in
      let c : cut bytes ≡ cut rest =
      ap (λ (i : ℕ). drop (i * record_size) bytes) j
      ∙ ap (λ (i : ℕ). drop i bytes) (let z : (k + wholes rest) * record_size ≡ k * record_size + wholes rest * record_size = omega arith in z)
      ∙ sym (drop-drop (wholes rest * record_size) (k * record_size) bytes) in
      let p : n + (k + wholes rest) ≡ n + k + wholes rest = omega arith in
      ap (λ (x : List (Option Call)). text_by m w n x ++ end_text (world_by m w x).block.headers (n + wholes bytes) (cut bytes)) a
      ∙ rw (c, j, p, text_then w n (asked k bytes) (asked (wholes rest) rest), world_then w (asked k bytes) (asked (wholes rest) rest), asked_length k bytes) (simp append_assoc)

  -- how the input is cut into turns does not change what is printed
  pub played_then :
      (w : World) (n k : ℕ) (x y : List ℕ) →
      length x ≡ k * record_size →
      played_by m w n (x ++ y) ≡ text_by m w n (asked k x) ++ played_by m (world_by m w (asked k x)) (n + k) y
  played_then w n k x y h =
      played_from w n k (x ++ y) (simp length-append (omega arith))
      ∙ rw (asked_append k x y (omega arith), drop_at x y (k * record_size) h) refl

-- R5.6: an empty input prints nothing
pub empty_prints_nothing : printed [] ≡ []
unfolding printed played_by asked text_by world_by fresh slots_text fresh_block unpacked
empty_prints_nothing = refl
