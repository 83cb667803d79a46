use Rattle.std.proofs.Common.{◌≡◌, ◌-◌, rules, ap, ◌∙◌, arith, ℤ, w32, to_z, of_z}
use Rattle.std.proofs.lemmas.Int.{to_z-of_z}
use mir.Val.{SFits}
use Rattle.muni_span.specs.Powers.{power_low, power_high}
use Rattle.muni_span.specs.Roots.{root_low, root_high}
use Rattle.muni_multi.specs.LastStep.{discount_low, discount_high}
use Rattle.muni_multi.proofs.HornerTurns.{power-in_reach}
use Rattle.muni_multi.proofs.discount.Discount.at.Goals as goal

same-yield : (y : ℤ) → SFits w32 y → to_z w32 (of_z w32 y) ≡ y
same-yield y fits = to_z-of_z w32 y fits

pub power-part-requires-clause-bounded : goal.power-part-requires-clause-bounded
power-part-requires-clause-bounded c =
    let factor : c.recip-half_year.result.hi ≡ discount_high c.args.y = c.recip-half_year.ensures.hi ∙ ap discount_high (same-yield c.args.y c.ranges.y) in
    power-in_reach c.args.y (180 - c.args.a) c.root180.result.hi c.recip-half_year.result.hi c.requires.y (omega arith) c.root180.ensures.hi factor

pub invariant_of-result : goal.invariant_of-result
invariant_of-result c =
    let same = same-yield c.args.y c.ranges.y in
    let low : c.recip-half_year.result.lo ≡ discount_low c.args.y = c.recip-half_year.ensures.lo ∙ ap discount_low same in
    let high : c.recip-half_year.result.hi ≡ discount_high c.args.y = c.recip-half_year.ensures.hi ∙ ap discount_high same in
    let from_low : c.power-part.result.lo ≡ power_low c.root180.result.lo (180 - c.args.a) = search rules in
    let from_high : c.power-part.result.hi ≡ power_high c.root180.result.hi (180 - c.args.a) = search rules in
    rw same (record {
      within = c.requires.y;
      days = c.requires.a;
      half_year_low = low;
      half_year_high = high;
      from_low = from_low ∙ ap (λ x. power_low x (180 - c.args.a)) (c.root180.ensures.lo ∙ ap root_low low);
      from_high = from_high ∙ ap (λ x. power_high x (180 - c.args.a)) (c.root180.ensures.hi ∙ ap root_high high);
    })
