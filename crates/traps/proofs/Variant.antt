-- With no rule broken the machine is that of the rules: put together from its parts, it computes. Assumes nothing.
use Rattle.std.proofs.Common.{◌≡◌, List, refl}
use Rattle.calls.specs.declared.Call.{Call}
use Rattle.calls.specs.Calls.{plain_call, checked_call}
use Rattle.world.specs.World.{rules}
use Rattle.history.specs.Demand3.{Keeps}
use Rattle.history.proofs.Theorem.{demand3}
use Rattle.traps.specs.Variant.{breaking}

-- the whole machine
pub unbroken_is_real : breaking 0 ≡ rules
unfolding plain_call checked_call
unbroken_is_real = refl

-- D3 (a), (b) and (d) after every history where no rule is broken, by the theorem of demand 3
pub unbroken_keeps : (h : List Call) → Keeps (breaking 0) h
unbroken_keeps h = rw unbroken_is_real (demand3.holds h).keeps
