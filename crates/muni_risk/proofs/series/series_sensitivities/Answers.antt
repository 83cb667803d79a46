use Rattle.std.proofs.Common.{◌≡◌, ℕ, ◌+◌, ◌*◌, ◌/◌, ap, ◌∙◌, subst, arith, w32, to_z, of_z}
use Rattle.std.proofs.lemmas.Int.{ints}
use Rattle.muni_rule.specs.ManyPeriods.{discount_divisor}
use Rattle.muni_multi.specs.LastStep.{discount_low, discount_high}
use Rattle.muni_risk.specs.Sums.{AreSumsFrom}
use Rattle.muni_risk.specs.declared.sums.Weight.{Weight}
use Rattle.muni_risk.specs.declared.sums.Weight.TheVariants.{One, Days, DaysTwice}
use Rattle.muni_risk.proofs.Figures.{IsNearest, duration-printed, convexity-printed}
use Rattle.muni_risk.proofs.SeriesSums.{AreSums, IsByDays, whole_end, days-by, days_twice-by, ends-most, whole-some}
use Rattle.muni_risk.proofs.Turns.{turn-fits}
use Rattle.muni_risk.proofs.series.series_sensitivities.Goals.{After-lo}
use Rattle.muni_risk.proofs.series.series_sensitivities.Goals as goal

sums : (c : After-lo) → AreSumsFrom c.args.flows.now (discount_low c.args.discount.now.y) (discount_high c.args.discount.now.y) c.first_paid-first.result c.sums_from-sums.result
sums c =
    subst (λ hi. AreSumsFrom c.args.flows.now (discount_low c.args.discount.now.y) hi c.first_paid-first.result c.sums_from-sums.result) c.half_year.ensures.hi
    (subst (λ lo. AreSumsFrom c.args.flows.now lo c.half_year.result.hi c.first_paid-first.result c.sums_from-sums.result) c.half_year.ensures.lo c.sums_from-sums.ensures.sums)

whole : (c : After-lo) → c.rounded_up-whole.result ≡ whole_end c.args.flows.now c.args.discount.now.y c.first_paid-first.result
whole c = c.rounded_up-whole.ensures ∙ ap (λ h. (h + 65535) / 65536) (sums c).one.high

known : (c : After-lo) (weight : Weight) (number : ℕ → ℕ) (most : ℕ) → IsByDays weight number most → AreSums c.args.flows.now c.args.discount.now.y c.first_paid-first.result weight number most c.rounded_up-whole.result
known c weight number most by = record {
  is = c.sums_from-sums.ensures.bounds;
  within = c.half_year.ensures.within;
  first = c.first_paid-first.ensures;
  by_days = by;
  whole_is = whole c;
}

divisor : (c : After-lo) → c.from-divisor.result ≡ discount_divisor c.args.discount.now.y
divisor c =
    let range = c.y.ensures.range in
    let cast : to_z w32 (of_z w32 c.y.result) ≡ c.y.result = omega (arith, ints, range) in
    c.from-divisor.ensures ∙ (c.divisor_of.ensures.value ∙ ap discount_divisor (cast ∙ c.y.ensures.value))

pub rounded_up-whole-requires : goal.rounded_up-whole-requires
rounded_up-whole-requires c =
    turn-fits c.args.flows.now One c.half_year.result.lo c.half_year.result.hi c.first_paid-first.result c.sums_from-sums.result.one.hi
    c.sums_from-sums.ensures.bounds c.half_year.ensures.ends (let within = c.first_paid-first.ensures.within in omega (arith, within)) c.sums_from-sums.ensures.sums.one.high

pub nearest_of_sums-requires-clause-some : goal.nearest_of_sums-requires-clause-some
nearest_of_sums-requires-clause-some c =
    (whole-some c.args.flows.now c.args.discount.now.y c.first_paid-first.result c.rounded_up-whole.result c.first_paid-first.ensures c.sums_from-sums.ensures.bounds c.half_year.ensures.within (whole c)).0

pub nearest_of_sums-requires-clause-small : goal.nearest_of_sums-requires-clause-small
nearest_of_sums-requires-clause-small c =
    (whole-some c.args.flows.now c.args.discount.now.y c.first_paid-first.result c.rounded_up-whole.result c.first_paid-first.ensures c.sums_from-sums.ensures.bounds c.half_year.ensures.within (whole c)).1

pub nearest_of_sums-requires-clause-sum : goal.nearest_of_sums-requires-clause-sum
nearest_of_sums-requires-clause-sum c =
    let most = ends-most c.args.flows.now c.args.discount.now.y c.first_paid-first.result Days (λ d. d) 18000 c.rounded_up-whole.result (known c Days (λ d. d) 18000 days-by) in
    let same = c.lo.ensures ∙ (sums c).days.low in
    omega (arith, most, same)

pub nearest_of_sums-requires-2-clause-some : goal.nearest_of_sums-requires-2-clause-some
nearest_of_sums-requires-2-clause-some c = nearest_of_sums-requires-clause-some (goal.at.nearest_of_sums-requires-2-clause-some c).After-lo

pub nearest_of_sums-requires-2-clause-small : goal.nearest_of_sums-requires-2-clause-small
nearest_of_sums-requires-2-clause-small c = nearest_of_sums-requires-clause-small (goal.at.nearest_of_sums-requires-2-clause-small c).After-lo

pub nearest_of_sums-requires-2-clause-sum : goal.nearest_of_sums-requires-2-clause-sum
nearest_of_sums-requires-2-clause-sum c =
    let at = (goal.at.nearest_of_sums-requires-2-clause-sum c).After-lo in
    let most = ends-most c.args.flows.now c.args.discount.now.y c.first_paid-first.result DaysTwice (λ d. d * (d + 180)) 327240000 c.rounded_up-whole.result (known at DaysTwice (λ d. d * (d + 180)) 327240000 days_twice-by) in
    let same = c.lo-2.ensures ∙ (sums at).days_twice.low in
    omega (arith, most, same)

pub returns-clause-duration : goal.returns-clause-duration
returns-clause-duration c =
    let at = (goal.at.returns-clause-duration c).After-lo in
    duration-printed c.args.flows.now c.args.discount.now.y c.first_paid-first.result c.rounded_up-whole.result c.nearest_of_sums.result (9 * c.from-divisor.result)
    (known at Days (λ d. d) 18000 days-by) (ap (λ v. 9 * v) (divisor at))
    (subst (λ sum. IsNearest c.nearest_of_sums.result sum c.rounded_up-whole.result 50_000_000 (9 * c.from-divisor.result)) (c.lo.ensures ∙ (sums at).days.low)
    (record { above = c.nearest_of_sums.ensures.not_far_above; below = c.nearest_of_sums.ensures.not_far_below }))

pub returns-clause-convexity : goal.returns-clause-convexity
returns-clause-convexity c =
    let at = (goal.at.returns-clause-convexity c).After-lo in
    convexity-printed c.args.flows.now c.args.discount.now.y c.first_paid-first.result c.rounded_up-whole.result c.nearest_of_sums-2.result (81 * c.from-divisor.result * c.from-divisor.result)
    (known at DaysTwice (λ d. d * (d + 180)) 327240000 days_twice-by) (ap (λ v. 81 * v * v) (divisor at))
    (subst (λ sum. IsNearest c.nearest_of_sums-2.result sum c.rounded_up-whole.result 2_500_000_000_000 (81 * c.from-divisor.result * c.from-divisor.result)) (c.lo-2.ensures ∙ (sums at).days_twice.low)
    (record { above = c.nearest_of_sums-2.ensures.not_far_above; below = c.nearest_of_sums-2.ensures.not_far_below }))
