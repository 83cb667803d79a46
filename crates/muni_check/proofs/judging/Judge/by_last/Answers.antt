use Rattle.std.specs.BTreeMap as tree
use Rattle.muni_keep.specs.Trades.{by_bytes}
use Rattle.muni_check.proofs.judging.Judge.by_last.Goals as goal

pub returns-clause-said : goal.returns-clause-said
returns-clause-said g c = (tree.get by_bytes c.hold.new.self.issues c.args.asked.now.cusip, c.in_ok-hold.ensures.known, c.by_held.ensures.said)
