-- The search so far: no cell passed over holds a slot, so it is the search from the cell reached.
use Rattle.std.proofs.Common.{◌≡◌, ◌-◌, ◌≤◌}
use Rattle.numbers.specs.Sizes.{cells}
use Rattle.rescue.specs.Search.{lowest_full}
use Rattle.rescue.proofs.Lowest.{from}
use Rattle.rescue.proofs.search.lowest_full.Given as goal

abbrev pub invariant-loop-k : goal.invariant-loop-k
invariant-loop-k l = (l.k ≤ cells) × (lowest_full l.cells l.c.0 ≡ from l.cells l.c.0 l.k)

abbrev pub decreases-loop-k : goal.decreases-loop-k
decreases-loop-k l = cells - l.k
