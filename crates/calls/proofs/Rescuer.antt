-- A rescuer knows only what lies in shared memory: an accepted take over hands back records with nothing under way,
-- whatever they were, and from there every step is a function of the shared words. Assumes nothing.
use Prim.Native.Nat.{ℕ, ◌<◌}
use mathlib.Core.Bool.{true}
use mathlib.Core.List.{List, [], ◌∷◌}
use mathlib.Core.Path.{◌≡◌, sym, ap, ◌∙◌}
use borrow.Author.Tests.{lt-ltb}
use Rattle.numbers.specs.Sizes.{clients}
use Rattle.block.specs.declared.Block.{Block}
use Rattle.block.specs.declared.Standing.{Standing}
use Rattle.block.specs.Block.{standing_at}
use Rattle.block.specs.Store.{block_after, eras_after}
use Rattle.stages.specs.declared.Outcome.{Outcome}
use Rattle.limits.specs.Limits.{within}
use Rattle.calls.specs.declared.Records.{Records}
use Rattle.calls.specs.Calls.{asks, effect, stands_as, plain_call, checked_call}
use Rattle.calls.specs.Named.{take_over}
use Rattle.calls.specs.Demands.{rescue_steps, taken_over, KnowsOnlySharedWords}

-- an accepted take over hands back records with nothing under way, whatever they were
fresh_rescuer :
    (c : ℕ) (b : Block) (eras : List (List ℕ)) (given : Records) →
    c < clients →
    standing_at b.standings c ≡ Standing.Failed →
    within c b eras given.client given.rescuer ≡ true →
    checked_call (take_over c) b eras given ≡ stands_as c Standing.InRescue
unfolding checked_call plain_call asks effect
fresh_rescuer c b eras given below failed limits = rw (limits, lt-ltb c clients below, failed)

-- D2: a rescuer knows only what lies in shared memory
pub knows_only_shared_words : KnowsOnlySharedWords
unfolding KnowsOnlySharedWords taken_over
knows_only_shared_words n c b eras given other below failed limits others =
    ap
    (λ (o : Outcome Records). rescue_steps n c (block_after o.store b) (eras_after o.store eras) o.next (o.answer ∷ []))
    (fresh_rescuer c b eras given below failed limits ∙ sym (fresh_rescuer c b eras other below failed others))
