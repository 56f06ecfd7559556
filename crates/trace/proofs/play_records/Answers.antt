-- One record more is played: its line after the lines of those before it, and the world after it.
use Rattle.std.proofs.Common.{arith, length}
use Rattle.trace.proofs.Turns.{counted, begins, goes}
use Rattle.trace.proofs.play_records.Goals as goal

pub loop-k-init : goal.loop-k-init
loop-k-init c =
    let count = c.turn_count-count.ensures in
    record {
      going = begins;
      counted = rw count (counted c.args.place (length c.args.input.now) (length c.args.out.now) (omega arith));
      count = count;
    }

pub loop-k-preserved : goal.loop-k-preserved
loop-k-preserved c =
    let inv = c.loop-k.invariant in
    let asked = c.asked_at-asked in
    let played = c.played-answer in
    record {
      going =
          goes inv.going (omega (arith, inv.counted.fits)) asked.result asked.ensures played.result played.ensures.answer
          c.put_answer-end.ensures
          played.ensures.world;
      counted = inv.counted;
      count = inv.count;
    }
