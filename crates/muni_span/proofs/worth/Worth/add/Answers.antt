use Rattle.std.proofs.Common.{◌≡◌, ◌+◌, rules}
use Rattle.muni_span.proofs.Holding.{sum_holds}
use Rattle.muni_span.proofs.worth.Worth.add.Goals as goal

pub returns-clause-encloses : goal.returns-clause-encloses
returns-clause-encloses c n d m e first second =
    let low : c.new.result.lo ≡ c.args.self.lo + c.args.other.lo = search rules in
    let high : c.new.result.hi ≡ c.args.self.hi + c.args.other.hi = search rules in
    rw (low, high) (sum_holds 4096 c.args.self.lo c.args.self.hi c.args.other.lo c.args.other.hi n d m e first second)
