use Rattle.std.proofs.Common.{◌≡◌, ◌+◌, ◌-◌, ◌*◌, ◌/◌, ◌^◌, lit<, rules}
use Rattle.muni_span.proofs.Holding.{product_holds}
use Rattle.muni_span.proofs.Quotients.{rounded_plain}
use Rattle.muni_span.proofs.worth.Worth.scale.Goals as goal

pub returns-clause-encloses : goal.returns-clause-encloses
returns-clause-encloses c j n d m e =
    let low : c.new.result.lo ≡ c.args.self.lo * c.args.factor.lo / 2 ^ 60 = search rules in
    let high : c.new.result.hi ≡ (c.args.self.hi * c.args.factor.hi + (2 ^ 60 - 1)) / 2 ^ 60 = search rules in
    product_holds 4096 (2 ^ 60) c.args.self.lo c.args.self.hi c.args.factor.lo c.args.factor.hi c.new.result.lo c.new.result.hi j n d m e (lit< tt) (lit< tt)
    (rounded_plain (2 ^ 60) (c.args.self.lo * c.args.factor.lo) (c.args.self.hi * c.args.factor.hi) c.new.result.lo c.new.result.hi (lit< tt) low high)
