use Rattle.std.proofs.Common.{◌≡◌, ◌^◌, lit<, rules}
use Rattle.muni_span.specs.Powers.{power_low, power_high}
use Rattle.muni_span.proofs.Holding.{power_holds}
use Rattle.muni_span.proofs.PowerLaws.{IsPowerSpan, power_span_at}
use Rattle.muni_span.proofs.span.Span.power.Goals as goal

pub new-requires : goal.new-requires
new-requires c =
    let low : c.power-lo.result ≡ power_low c.args.self.lo c.args.k = search rules in
    let high : c.power-hi.result ≡ power_high c.args.self.hi c.args.k = search rules in
    record { ordered = (power_span_at c.args.self.lo c.args.self.hi c.args.k c.power-lo.result c.power-hi.result c.requires.few c.args.self.ordered c.requires.bounded low high).ordered }

law : (c : goal.After-new) → IsPowerSpan c.args.self.lo c.args.self.hi c.args.k c.new.result.lo c.new.result.hi
law c =
    let low : c.new.result.lo ≡ power_low c.args.self.lo c.args.k = search rules in
    let high : c.new.result.hi ≡ power_high c.args.self.hi c.args.k = search rules in
    power_span_at c.args.self.lo c.args.self.hi c.args.k c.new.result.lo c.new.result.hi c.requires.few c.args.self.ordered c.requires.bounded low high

pub returns-clause-below : goal.returns-clause-below
returns-clause-below c = (law c).below

pub returns-clause-above : goal.returns-clause-above
returns-clause-above c = (law c).above

pub returns-clause-encloses : goal.returns-clause-encloses
returns-clause-encloses c j n d =
    power_holds (2 ^ 60) c.args.self.lo c.args.self.hi c.args.k c.new.result.lo c.new.result.hi j n d (lit< tt) (law c).below (law c).above

pub returns-clause-width : goal.returns-clause-width
returns-clause-width c = (law c).narrow
