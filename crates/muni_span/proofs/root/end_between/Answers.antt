use Rattle.muni_span.specs.Rounding.{carry_of}
use Rattle.muni_span.proofs.RootEnds.{bracket_closed}
use Rattle.muni_span.proofs.root.end_between.Goals as goal

pub returns-clause-value : goal.returns-clause-value
returns-clause-value c = bracket_closed (carry_of c.args.rounding) c.args.v c.loop-high.low c.loop-high.high c.loop-high-test.false c.loop-high.invariant
