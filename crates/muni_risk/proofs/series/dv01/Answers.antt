use Rattle.std.proofs.Common.{◌≡◌, ◌+◌, ◌-◌, ◌*◌, ◌/◌, ◌^◌, refl, sym, ap, ◌∙◌, arith}
use Rattle.muni_multi.specs.LastStep.{discount_low, discount_high, part_low, part_high}
use Rattle.muni_multi.specs.Horner.{sum_low, sum_high}
use Rattle.muni_risk.specs.Sums.{weighted}
use Rattle.muni_risk.specs.declared.sums.Weight.TheVariants.{Days}
use Rattle.muni_risk.proofs.Turns.{turn-fits, product-fits}
use Rattle.muni_risk.proofs.Dv01Ends.{AreDv01Ends, dv01-small, dv01-printed, first-small, part-small, product-small, scaled-low, scaled-high}
use Rattle.muni_risk.proofs.series.dv01.Goals.{After-scale, After-part, After-scale-settled}
use Rattle.muni_risk.proofs.series.dv01.Goals as goal

first_high : (c : After-scale) → c.scale.result.hi ≡ (sum_high (weighted Days c.args.flows.now) (discount_high c.args.discount.now.y) (c.args.flows.now.n - 0) 0 * discount_high c.args.discount.now.y + (2 ^ 60 - 1)) / 2 ^ 60
first_high c =
    scaled-high (λ s. sum_high (weighted Days c.args.flows.now) s (c.args.flows.now.n - 0) 0) c.scale.result.hi c.days_of_all-on_first.result.hi c.half_year-half_year.result.hi (discount_high c.args.discount.now.y)
    c.scale.ensures.hi c.days_of_all-on_first.ensures.high c.half_year-half_year.ensures.hi

ends : (c : After-scale-settled) → AreDv01Ends c.args.flows.now c.args.discount.now.y c.scale.result.lo c.scale.result.hi c.scale-settled.result.lo c.scale-settled.result.hi
ends c = record {
  is = c.flows_are_in_range.ensures;
  within = c.half_year-half_year.ensures.within;
  many = c.requires.many;
  half_year = record {
    low =
        scaled-low (λ r. sum_low (weighted Days c.args.flows.now) r (c.args.flows.now.n - 0) 0) c.scale.result.lo c.days_of_all-on_first.result.lo c.half_year-half_year.result.lo (discount_low c.args.discount.now.y)
        c.scale.ensures.lo c.days_of_all-on_first.ensures.low c.half_year-half_year.ensures.lo;
    high =
        scaled-high (λ s. sum_high (weighted Days c.args.flows.now) s (c.args.flows.now.n - 0) 0) c.scale.result.hi c.days_of_all-on_first.result.hi c.half_year-half_year.result.hi (discount_high c.args.discount.now.y)
        c.scale.ensures.hi c.days_of_all-on_first.ensures.high c.half_year-half_year.ensures.hi;
  };
  part = record {
    low =
        scaled-low (λ r. c.scale.result.lo) c.scale-settled.result.lo c.scale.result.lo c.part.result.lo (part_low c.args.discount.now.y c.args.flows.now.a)
        c.scale-settled.ensures.lo refl (c.part.ensures.lo ∙ ap (part_low c.args.discount.now.y) c.requires.a);
    high =
        scaled-high (λ s. c.scale.result.hi) c.scale-settled.result.hi c.scale.result.hi c.part.result.hi (part_high c.args.discount.now.y c.args.flows.now.a)
        c.scale-settled.ensures.hi refl (c.part.ensures.hi ∙ ap (part_high c.args.discount.now.y) c.requires.a);
  };
}

pub days_of_all-on_first-requires-clause-days : goal.days_of_all-on_first-requires-clause-days
days_of_all-on_first-requires-clause-days c = record {
  low = c.requires.days.low ∙ ap (λ r. sum_low (weighted Days c.args.flows.now) r (c.args.flows.now.n - c.args.first) c.args.first) (sym c.half_year-half_year.ensures.lo);
  high = c.requires.days.high ∙ ap (λ r. sum_high (weighted Days c.args.flows.now) r (c.args.flows.now.n - c.args.first) c.args.first) (sym c.half_year-half_year.ensures.hi);
}

pub scale-requires : goal.scale-requires
scale-requires c =
    let small = turn-fits c.args.flows.now Days c.half_year-half_year.result.lo c.half_year-half_year.result.hi 0 c.days_of_all-on_first.result.hi c.flows_are_in_range.ensures c.half_year-half_year.ensures.ends (omega arith) c.days_of_all-on_first.ensures.high in
    let product = product-fits c.half_year-half_year.result.lo c.half_year-half_year.result.hi c.days_of_all-on_first.result.hi c.half_year-half_year.ensures.ends small in
    omega (arith, product)

pub scale-settled-requires : goal.scale-settled-requires
scale-settled-requires c =
    let at = (goal.at.scale-settled-requires c).After-scale in
    let is = c.flows_are_in_range.ensures in
    let within = c.half_year-half_year.ensures.within in
    let first = first-small c.args.flows.now c.args.discount.now.y c.scale.result.hi is within c.requires.many (first_high at) in
    let part = part-small c.args.flows.now c.args.discount.now.y is within in
    let same : c.part.result.hi ≡ part_high c.args.discount.now.y c.args.flows.now.a = c.part.ensures.hi ∙ ap (part_high c.args.discount.now.y) c.requires.a in
    let product = product-small c.scale.result.hi c.part.result.hi first (omega (arith, part, same)) in
    omega (arith, product)

pub overflow_add-result : goal.overflow_add-result
overflow_add-result c =
    let small = dv01-small _ _ _ _ _ _ (ends (goal.at.overflow_add-result c).After-scale-settled) in
    omega (arith, small, c.lo.ensures, c.hi.ensures)

pub overflow_add-result-2 : goal.overflow_add-result-2
overflow_add-result-2 c =
    let small = dv01-small _ _ _ _ _ _ (ends (goal.at.overflow_add-result-2 c).After-scale-settled) in
    omega (arith, small, c.lo.ensures, c.hi.ensures)

pub returns : goal.returns
returns c =
    let sum : c.lo.result + c.hi.result ≡ c.scale-settled.result.lo + c.scale-settled.result.hi = omega (arith, c.lo.ensures, c.hi.ensures) in
    dv01-printed c.args.flows.now c.args.discount.now.y c.scale.result.lo c.scale.result.hi c.scale-settled.result.lo c.scale-settled.result.hi _ (ends (goal.at.returns c).After-scale-settled)
    (ap (λ z. (z + 1_296_000_000_000 * 2 ^ 44) / (2 * (1_296_000_000_000 * 2 ^ 44))) sum)
