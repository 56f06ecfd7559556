-- One read more: its bytes stand behind those taken before.
use Rattle.std.proofs.Common.{◌≡◌, ℕ, ◌+◌, ◌≤◌, List, ◌++◌, length, take, sym, ap, ◌∙◌, arith, length-take-le}
use Rattle.std.proofs.lemmas.List.{take-append-le}
use Rattle.std.proofs.Math.Seq.{take-append-add}
use Rattle.std.proofs.KnownBytes.{Consumes-trans}
use borrow.Rule.Slice.PartMut.{put_mid}
use Rattle.input.proofs.read_full.Goals as goal

-- the front of a list whose part from a on is ys now: what stood before a, and the front of ys
front_after :
    (a k n : ℕ) (xs ys : List ℕ) →
    a ≤ length xs →
    n ≤ length ys →
    take (a + n) (put_mid a k xs ys) ≡ take a xs ++ take n ys
front_after a k n xs ys within fits =
    ap (λ (m : ℕ). take (m + n) (put_mid a k xs ys)) (sym (length-take-le a xs within))
    ∙ take-append-add (take a xs) _ n
    ∙ ap (λ (zs : List ℕ). take a xs ++ zs) (take-append-le n ys _ fits)

pub loop-done-preserved : goal.loop-done-preserved
loop-done-preserved g c =
    let i = c.loop-done in
    let bound = c.in_ok-n.ensures.bound.0 in
    record {
      within = omega arith;
      took =
          rw (front_after i.done _ c.in_ok-n.n i.buf c.read.new.buf i.invariant.within bound)
          (Consumes-trans _ _ _ _ _ i.invariant.took c.in_ok-n.ensures.bytes.0);
    }
