use Rattle.std.proofs.Common.{◌≡◌, true, false, Option, Some, None, refl, sym, ap, ◌∙◌, subst, arith, to_z, of_z, w64}
use Rattle.std.specs.Prelude.{MatchOption, is_some}
use Rattle.std.proofs.lemmas.Int.{ints}
use Rattle.muni_rule.specs.Ranges.{side_of, many_periods_yields}
use Rattle.muni_readings.specs.Compounded.{HasCompoundedPrice}
use Rattle.muni_readings.proofs.compounded.compounded_at_yield.Goals as goal

none-of : {A : Type 0} (side : Option A) → is_some side ≡ false → side ≡ None
none-of None none = refl
none-of (Some x) none = absurd (let never : true ≡ false = none in cc)

pub returns-in-Some : goal.returns-in-Some
returns-in-Some c =
    let payment = c.args.payment.now in
    let units = c.units.ensures.value in
    let least = c.units.ensures.range.0 in
    let most = c.units.ensures.range.1 in
    let same : to_z w64 (of_z w64 c.units.result) ≡ c.args.y = omega (arith, ints, units, least, most) in
    let none = none-of c.side_of.result (sym c.is_some.ensures ∙ c.if-is_some.false) in
    subst (λ side. MatchOption side (HasCompoundedPrice payment c.args.y c.args.answered.now.asked.now c.args.answered.now.figures.now c.with_price.result) (λ it. c.with_price.result ≡ None)) (sym none ∙ (c.side_of.ensures.side ∙ ap (side_of many_periods_yields) same))
    (record { price = Some c.in-Some.price; exact = c.in-Some.ensures.exact; has = c.with_price.ensures })
