-- Where there is room, the line of a cut record is put, and the slots' after it.
use Rattle.std.proofs.Common.{arith}
use Rattle.trace.proofs.Slots.{ending}
use Rattle.trace.proofs.play_end.Goals as goal

pub returns : goal.returns
returns c = ending c.put_cut-end.ensures c.put_slots.ensures (omega arith)
