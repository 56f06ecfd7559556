-- The player leaves out the test of the limits, and prints the same: no history of calls fails it (demand 3). Assumes
-- nothing.
use Prim.Native.Nat.{ℕ, ◌+◌}
use mathlib.Core.List.{List, [], ◌∷◌, ◌++◌}
use mathlib.Core.Path.{◌≡◌, refl, ap, ◌∙◌}
use Rattle.std.specs.Prelude.{Option, Some, None}
use Rattle.numbers.specs.declared.answers.Answer.{Answer}
use Rattle.numbers.specs.Answers.{number_of}
use Rattle.stages.specs.declared.Outcome.{Outcome}
use Rattle.text.specs.Text.{line}
use Rattle.calls.specs.declared.Call.{Call}
use Rattle.calls.specs.declared.Records.{Records}
use Rattle.calls.specs.Calls.{checked_call}
use Rattle.world.specs.World.{World, rules, fresh, outcome_by, after_by}
use Rattle.history.specs.Ledger.{Line, entered}
use Rattle.history.proofs.Invariant.{Won, none}
use Rattle.history.proofs.Histories.{Good}
use Rattle.history.proofs.Histories.{next as good_next}
use Rattle.history.proofs.Fresh.{fresh_good}
use Rattle.history.proofs.Limits.{all_within}
use Rattle.trace.specs.Play.{plainly, told, next, text_by, world_by, played_by, printed}

-- a world that a history leads to, however it went
pub record Reached (w : World) : Type 0 where
  pub won : ℕ → Won
  pub lines : List Line
  pub good : Good w won lines

pub fresh_reached : Reached fresh
fresh_reached = record { won = λ c. none; lines = []; good = fresh_good }

-- there a call is the plain call
same_outcome : (w : World) → Reached w → (call : Call) → outcome_by rules w call ≡ outcome_by plainly w call
unfolding checked_call
same_outcome w r call = rw (all_within w r.won r.lines r.good call.client)

same_told : (w : World) → Reached w → (d : Option Call) → told rules w d ≡ told plainly w d
same_told w r (Some call) = ap (λ (o : Outcome Records). o.answer) (same_outcome w r call)
same_told w r None = refl

same_next : (w : World) → Reached w → (d : Option Call) → next rules w d ≡ next plainly w d
unfolding after_by
same_next w r (Some call) = rw (same_outcome w r call)
same_next w r None = refl

-- and the world after it is reached too
next_reached : (w : World) → Reached w → (d : Option Call) → Reached (next rules w d)
next_reached w r (Some call) =
    let n = good_next w r.won r.lines r.good call in
    record { won = n.ghost; lines = entered w call r.lines; good = n.good }
next_reached w r None = r

-- so are the lines and the world of some records
pub same_text :
    (w : World) → Reached w → (n : ℕ) (records : List (Option Call)) → text_by rules w n records ≡ text_by plainly w n records
unfolding text_by
same_text w r n [] = refl
same_text w r n (d ∷ rest) =
    let first = line n (number_of (told rules w d)) in
    ap (λ (t : List ℕ). first ++ t) (same_text (next rules w d) (next_reached w r d) (n + 1) rest)
    ∙ ap (λ (v : World). first ++ text_by plainly v (n + 1) rest) (same_next w r d)
    ∙ ap (λ (a : Answer). line n (number_of a) ++ text_by plainly (next plainly w d) (n + 1) rest) (same_told w r d)

pub same_world : (w : World) → Reached w → (records : List (Option Call)) → world_by rules w records ≡ world_by plainly w records
unfolding world_by
same_world w r [] = refl
same_world w r (d ∷ rest) =
    same_world (next rules w d) (next_reached w r d) rest ∙ ap (λ (v : World). world_by plainly v rest) (same_next w r d)

-- what the program prints is what the player's loop and its end write
pub printed_plainly : (input : List ℕ) → printed input ≡ played_by plainly fresh 1 input
unfolding printed played_by
printed_plainly input = rw (same_text fresh fresh_reached 1, same_world fresh fresh_reached)
