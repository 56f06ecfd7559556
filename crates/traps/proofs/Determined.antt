-- R8.1: a statement of the form "the result is this definition of the arguments" allows one outcome, whatever the
-- arguments, those of refused calls among them. Every public function's statement has this form and no condition:
-- `ensures { result ≡ .. }` and no `requires`; one that writes into what it is lent says as much of each slice at
-- its exit. There is no exception, and no such statement is empty. What a call writes is the store of its outcome.
-- Assumes nothing.
use Rattle.std.proofs.Common.{◌≡◌, ℕ, List, sym, ap, ◌∙◌}
use Rattle.block.specs.declared.Block.{Block}
use Rattle.block.specs.Store.{block_after, eras_after}
use Rattle.stages.specs.declared.Outcome.{Outcome}
use Rattle.calls.specs.declared.Records.{Records}

-- R8.1: whenever the statement allows two outcomes, the two are equal
pub any_two_outcomes_are_equal :
    {A : Type 0} (definition : A) (one other : A) → one ≡ definition → other ≡ definition → one ≡ other
any_two_outcomes_are_equal definition one other p q = p ∙ sym q

-- R8.1: so is every word of the block and of the matrix afterwards
pub any_two_blocks_are_equal :
    (b : Block) (eras : List (List ℕ)) (definition one other : Outcome Records) →
    one ≡ definition →
    other ≡ definition →
    (block_after one.store b ≡ block_after other.store b)
    × (eras_after one.store eras ≡ eras_after other.store eras)
any_two_blocks_are_equal b eras definition one other p q =
    let e = any_two_outcomes_are_equal definition one other p q in
    (ap (λ (o : Outcome Records). block_after o.store b) e, ap (λ (o : Outcome Records). eras_after o.store eras) e)
