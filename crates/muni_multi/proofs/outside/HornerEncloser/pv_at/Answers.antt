use Rattle.std.proofs.Common.{◌≡◌, ◌-◌, ◌∙◌, ap, sym, refl}
use Rattle.muni_rule.specs.Payments as rule
use Rattle.muni_span.specs.Roots.{root_low, root_high}
use Rattle.muni_multi.specs.LastStep.{discount_low, discount_high, part_low, part_high, settled_low, settled_high}
use Rattle.muni_multi.specs.Horner.{sum_low, sum_high, horner_ends}
use Rattle.muni_multi.proofs.HornerTurns.{settled-low, settled-high}
use Rattle.muni_multi.proofs.outside.HornerEncloser.pv_at.Goals as goal

low : (c : goal.After-scale) → c.scale.result.lo ≡ settled_low (sum_low (rule.payment_at c.args.flows.now) (discount_low c.args.discount.now.y) c.args.flows.now.n 0) c.args.discount.now.y c.args.flows.now.a
low c =
    let y = c.args.discount.now.y in
    let part : c.part.result.lo ≡ part_low y c.args.flows.now.a = c.part.ensures.lo ∙ ap (part_low y) c.requires.days in
    settled-low (rule.payment_at c.args.flows.now) c.args.flows.now.n (180 - c.args.flows.now.a) c.discounted_sum.result.lo c.part.result.lo (root_low (discount_low y)) c.half_year.result.lo c.scale.result.lo (discount_low y)
    c.scale.ensures.lo c.discounted_sum.ensures.lo part (ap root_low (sym c.half_year.ensures.lo)) c.half_year.ensures.lo

high : (c : goal.After-scale) → c.scale.result.hi ≡ settled_high (sum_high (rule.payment_at c.args.flows.now) (discount_high c.args.discount.now.y) c.args.flows.now.n 0) c.args.discount.now.y c.args.flows.now.a
high c =
    let y = c.args.discount.now.y in
    let part : c.part.result.hi ≡ part_high y c.args.flows.now.a = c.part.ensures.hi ∙ ap (part_high y) c.requires.days in
    settled-high (rule.payment_at c.args.flows.now) c.args.flows.now.n (180 - c.args.flows.now.a) c.discounted_sum.result.hi c.part.result.hi (root_high (discount_high y)) c.half_year.result.hi c.scale.result.hi (discount_high y)
    c.scale.ensures.hi c.discounted_sum.ensures.hi part (ap root_high (sym c.half_year.ensures.hi)) c.half_year.ensures.hi

pub returns : goal.returns
unfolding horner_ends
returns c = rw (low c, high c) refl
