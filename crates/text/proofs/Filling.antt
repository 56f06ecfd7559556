-- Texts written over a list of bytes, one after the other. Assumes nothing.
use Prim.Native.Nat.{ℕ, ◌+◌, ◌-◌, ◌≤◌}
use mathlib.Core.List.{List, [], ◌++◌, append_assoc}
use mathlib.Core.Path.{◌≡◌, sym, ap, ◌∙◌}
use native.Mathlib.Omega.{arith}
use borrow.Author.Tests.{le-leb}
use lib.ListN.{length, take, drop, length-append, length-drop, take-append-drop}
use lib.Seq.{take_at, drop_at, drop-drop, length-take-le}
use Rattle.text.specs.declared.Page.{Page}
use Rattle.text.specs.Page.{Adds}
use Rattle.text.specs.Text.{filled, Put, PutIn}

-- nothing written
pub filled_none : (o : List ℕ) (at : ℕ) → filled o at [] ≡ o
filled_none o at = let z : at + 0 ≡ at = omega arith in rw z (take-append-drop at o)

-- the length stays
pub filled_length : (o : List ℕ) (at : ℕ) (t : List ℕ) → at + length t ≤ length o → length (filled o at t) ≡ length o
filled_length o at t h =
    simp (length-append, length-drop, length-take-le at o (omega arith))
    (let z : at + (length t + (length o - (at + length t))) ≡ length o = omega arith in z)

-- one text after another
pub filled_then :
    (o : List ℕ) (at : ℕ) (t u : List ℕ) (mid : ℕ) →
    mid ≡ at + length t →
    mid + length u ≤ length o →
    filled (filled o at t) mid u ≡ filled o at (t ++ u)
filled_then o at t u mid e h =
    let front : length (take at o ++ t) ≡ mid =
    length-append (take at o) t ∙ ap (λ (x : ℕ). x + length t) (length-take-le at o (omega arith)) ∙ sym e in
    let split : filled o at t ≡ (take at o ++ t) ++ drop (at + length t) o = sym (append_assoc (take at o) t _) in
    let a : take mid (filled o at t) ≡ take at o ++ t = ap (take mid) split ∙ take_at (take at o ++ t) _ mid front in
    let b : drop mid (filled o at t) ≡ drop (at + length t) o = ap (drop mid) split ∙ drop_at (take at o ++ t) _ mid front in
    let m : at + length t + length u ≡ at + length (t ++ u) =
    let l = length-append t u in omega arith in
    let d : drop (mid + length u) (filled o at t) ≡ drop (at + length (t ++ u)) o =
    sym (drop-drop (length u) mid (filled o at t))
    ∙ ap (drop (length u)) b
    ∙ drop-drop (length u) (at + length t) o
    ∙ ap (λ (x : ℕ). drop x o) m in
    rw (a, d) (simp append_assoc)

-- a text put leaves the length
pub put_length : {o t out : List ℕ} {at end : ℕ} → Put o at t out end → end ≤ length o → length out ≡ length o
put_length {o} {t} {out} {at} {end} p h =
    ap length p.fills ∙ filled_length o at t (let e = p.ends in omega arith)

-- a text put after another
pub put_then :
    {o t u one two : List ℕ} {at mid end : ℕ} →
    Put o at t one mid →
    Put one mid u two end →
    end ≤ length o →
    Put o at (t ++ u) two end
put_then {o} {t} {u} {one} {two} {at} {mid} {end} p q h =
    let l = length-append t u in
    let e = p.ends in
    let f = q.ends in
    record {
      ends = omega arith;
      fills =
          q.fills
          ∙ ap (λ (x : List ℕ). filled x mid u) p.fills
          ∙ filled_then o at t u mid e (omega arith);
    }

-- the same of a page
pub adds_then :
    {before mid after : Page} {t u : List ℕ} →
    Adds before t mid →
    Adds mid u after →
    after.end ≤ length before.bytes.now →
    Adds before (t ++ u) after
adds_then p q h =
    record { put = put_then p.put q.put h; size = q.size ∙ p.size; same = q.same ∙ p.same }

-- nothing put is a text put
pub put_none : (o : List ℕ) (at : ℕ) → Put o at [] o at
put_none o at = record { ends = omega arith; fills = sym (filled_none o at) }

-- where there is room, all of a text is put
pub put_all : (most at end : ℕ) (o t out : List ℕ) → at + most ≤ length o → PutIn most o at t out end → Put o at t out end
put_all most at end o t out h p = rw (le-leb (at + most) (length o) h) at p
