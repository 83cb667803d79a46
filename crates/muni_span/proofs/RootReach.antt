-- The widest bracket holds the root's ends of every fraction from 0.6 to 1.03.
use Rattle.std.proofs.Common.{ℕ, ◌+◌, ◌-◌, ◌*◌, ◌^◌, ◌≤◌, arith, lit≤, lit<}
use Rattle.muni_span.specs.Powers.{power_by, power_end}
use Rattle.muni_span.specs.Roots.{IsRootBracket}

-- at the ends of the widest bracket the powers are below 0.5 and above 1.1, rounded either way
least_up : 100 * power_end (2 ^ 60 - 1) (2 ^ 60 - 2 ^ 52) 180 ≤ 50 * 2 ^ 60
unfolding power_end power_by
least_up = lit≤ tt

least_down : 100 * power_end 0 (2 ^ 60 - 2 ^ 52) 180 ≤ 50 * 2 ^ 60
unfolding power_end power_by
least_down = lit≤ tt

greatest_up : 110 * 2 ^ 60 ≤ 100 * power_end (2 ^ 60 - 1) (2 ^ 60 + 2 ^ 50) 180
unfolding power_end power_by
greatest_up = lit≤ tt

greatest_down : 110 * 2 ^ 60 ≤ 100 * power_end 0 (2 ^ 60 + 2 ^ 50) 180
unfolding power_end power_by
greatest_down = lit≤ tt

within_reach : (carry v : ℕ) → 100 * power_end carry (2 ^ 60 - 2 ^ 52) 180 ≤ 50 * 2 ^ 60 → 110 * 2 ^ 60 ≤ 100 * power_end carry (2 ^ 60 + 2 ^ 50) 180 → 50 * 2 ^ 60 ≤ 100 * v → 100 * v ≤ 103 * 2 ^ 60 → IsRootBracket carry v (2 ^ 60 - 2 ^ 52) (2 ^ 60 + 2 ^ 50)
within_reach carry v least greatest over under = record {
  ordered = lit< tt;
  within = lit≤ tt;
  under = omega arith;
  over = omega arith;
}

pub reach_up : (v : ℕ) → 50 * 2 ^ 60 ≤ 100 * v → 100 * v ≤ 103 * 2 ^ 60 → IsRootBracket (2 ^ 60 - 1) v (2 ^ 60 - 2 ^ 52) (2 ^ 60 + 2 ^ 50)
reach_up v over under = within_reach (2 ^ 60 - 1) v least_up greatest_up over under

pub reach_down : (v : ℕ) → 50 * 2 ^ 60 ≤ 100 * v → 100 * v ≤ 103 * 2 ^ 60 → IsRootBracket 0 v (2 ^ 60 - 2 ^ 52) (2 ^ 60 + 2 ^ 50)
reach_down v over under = within_reach 0 v least_down greatest_down over under
