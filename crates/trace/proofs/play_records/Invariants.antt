-- A turn has played k records of those that it counts: its block, matrix and records, as a world, are the world after
-- them, and the output holds their text.
use Rattle.std.proofs.Common.{◌≡◌, length}
use Rattle.trace.specs.Play.{turn_count, world_of}
use Rattle.trace.proofs.Turns.{Counted, Going}
use Rattle.trace.proofs.play_records.Given as goal

abbrev pub invariant-loop-k : goal.invariant-loop-k
invariant-loop-k l =
    record {
      going :
          Going (world_of l.fn.block l.fn.eras l.fn.records) l.place l.input l.fn.out (world_of l.words l.eras l.all) l.out l.k
          l.end;
      counted : Counted l.place (length l.input) (length l.fn.out) l.count;
      count : l.count ≡ turn_count l.place (length l.input) (length l.fn.out);
    }
