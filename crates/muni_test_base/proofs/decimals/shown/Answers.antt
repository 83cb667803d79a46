use Rattle.std.proofs.Common.{arith, ℤ, pos, negsuc}
use Rattle.std.proofs.lemmas.Int.{ints}
use Rattle.muni_rule.specs.Accuracy.{rounded_yield}
use Rattle.muni_rule.specs.Ranges.{IsOnePeriodYield}
use Rattle.muni_dec.specs.Ranges.{IsYield3}
use Rattle.muni_test_base.proofs.decimals.shown.Goals as goal

given-rounded : (y : ℤ) → IsOnePeriodYield y → IsYield3 (rounded_yield y)
given-rounded (pos y) given = (omega (arith, ints), omega (arith, ints))
given-rounded (negsuc less) given = (omega (arith, ints), omega (arith, ints))

pub round_yield-requires : goal.round_yield-requires
round_yield-requires c = given-rounded c.args.y c.requires
