use Rattle.muni_span.proofs.Quotients.{ceiling_more}
use Rattle.muni_span.proofs.span.ceiling.Goals as goal

pub returns-then-floor-divisor : goal.returns-then-floor-divisor
returns-then-floor-divisor c = ceiling_more c.args.whole c.args.divisor c.args.floor c.requires.some c.requires.floor c.if-floor-divisor.true
