-- One slot more is put: its line after the lines of those below it.
use Rattle.trace.proofs.Slots.{none_below, one_below}
use Rattle.trace.proofs.ending.put_slots.Goals as goal

pub loop-slot-init : goal.loop-slot-init
loop-slot-init c = none_below

pub loop-slot-preserved : goal.loop-slot-preserved
loop-slot-preserved c =
    one_below c.loop-slot.invariant c.loop-slot-test.true c.requires c.put_slot-end.ensures
