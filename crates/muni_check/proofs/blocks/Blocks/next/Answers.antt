use Rattle.std.proofs.Common.{take}
use Rattle.muni_check.proofs.blocks.Blocks.next.Goals as goal

pub returns-in_ok-add-in-Ok : goal.returns-in_ok-add-in-Ok
returns-in_ok-add-in-Ok g c = rw c.requires record {
  piece = take c.in-Ok.count c.take.new.room;
  taken = c.in-Ok.ensures.takes.moved;
  cuts = c.in_ok-add-in-Ok.ensures.records;
  end = tt;
  uncounted = c.in-Ok.ensures.counts.uncounted;
}
