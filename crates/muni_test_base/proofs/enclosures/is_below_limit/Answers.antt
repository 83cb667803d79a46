use Rattle.std.proofs.Common.{ℕ, ◌+◌, ◌*◌, ◌/◌, ◌%◌, ◌^◌, ◌<◌, arith, lit<}
use Rattle.std.proofs.lemmas.Bool.Decides.{nat_tests}
use Rattle.muni_span.proofs.Quotients.{by_halves}
use Rattle.muni_test_base.proofs.enclosures.is_below_limit.Goals as goal

below : (a f : ℕ) → a / 2 ^ 64 * f + a % 2 ^ 64 * f / 2 ^ 64 < 2 ^ 123 → a * f < 2 ^ 127 * 2 ^ 60
below a f less = let whole = by_halves 1 (2 ^ 64) a f 0 (lit< tt) in omega (arith, whole)

pub returns : goal.returns
returns c = λ t. below c.args.amount c.args.factor (grind (arith, nat_tests, t))
