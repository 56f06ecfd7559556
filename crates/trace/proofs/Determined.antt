-- What a turn and the end of the player leave is determined: two outcomes that their statements allow are equal (R8.1).
-- Assumes nothing.
use Prim.Native.Nat.{ℕ}
use mathlib.Core.List.{List}
use mathlib.Core.Path.{◌≡◌, sym, ◌∙◌}
use Rattle.world.specs.World.{World}
use Rattle.trace.specs.declared.Played.{Played}
use Rattle.trace.specs.Play.{Turn, Ending}

-- two turns
pub any_two_turns_are_equal :
    {w : World} {n : ℕ} {input out : List ℕ} {r s : Played} {eras matrix : List (List ℕ)} {exit text : List ℕ} →
    Turn w n input out r eras exit →
    Turn w n input out s matrix text →
    (r ≡ s) × (eras ≡ matrix) × (exit ≡ text)
any_two_turns_are_equal t u =
    (t.result ∙ sym u.result, t.matrix ∙ sym u.matrix, t.text ∙ sym u.text)

-- two endings
pub any_two_endings_are_equal :
    {headers rest out : List ℕ} {n r s : ℕ} {exit text : List ℕ} →
    Ending headers n rest out r exit →
    Ending headers n rest out s text →
    (r ≡ s) × (exit ≡ text)
any_two_endings_are_equal t u = (t.result ∙ sym u.result, t.text ∙ sym u.text)
