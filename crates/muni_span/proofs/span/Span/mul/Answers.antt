use Rattle.std.proofs.Common.{◌≡◌, ◌+◌, ◌-◌, ◌*◌, ◌/◌, ◌^◌, lit<, rules}
use Rattle.muni_span.proofs.Holding.{product_holds}
use Rattle.muni_span.proofs.Quotients.{rounded_plain}
use Rattle.muni_span.proofs.span.Span.mul.Goals as goal

pub returns-clause-encloses : goal.returns-clause-encloses
returns-clause-encloses c j n d m e =
    let low : c.new.result.lo ≡ c.args.self.lo * c.args.other.lo / 2 ^ 60 = search rules in
    let high : c.new.result.hi ≡ (c.args.self.hi * c.args.other.hi + (2 ^ 60 - 1)) / 2 ^ 60 = search rules in
    product_holds (2 ^ 60) (2 ^ 60) c.args.self.lo c.args.self.hi c.args.other.lo c.args.other.hi c.new.result.lo c.new.result.hi j n d m e (lit< tt) (lit< tt)
    (rounded_plain (2 ^ 60) (c.args.self.lo * c.args.other.lo) (c.args.self.hi * c.args.other.hi) c.new.result.lo c.new.result.hi (lit< tt) low high)
