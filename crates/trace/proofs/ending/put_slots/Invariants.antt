-- The lines of the slots below `slot` are put.
use Rattle.trace.proofs.Slots.{Below}
use Rattle.trace.proofs.ending.put_slots.Given as goal

abbrev pub invariant-loop-slot : goal.invariant-loop-slot
invariant-loop-slot l = Below l.headers l.fn.out l.at l.out l.slot l.end
