use Rattle.std.proofs.Common.{◌≡◌, ◌+◌, ◌-◌, ◌*◌, ◌/◌, ◌^◌, ◌∙◌, ap, refl}
use Rattle.muni_multi.specs.Doubling.{doubling_end, doubling_ends}
use Rattle.muni_multi.specs.LastStep.{discount_low, discount_high, part_low, part_high, settled_low, settled_high}
use Rattle.muni_multi.proofs.doubling.DoublingEncloser.pv_at.Goals as goal

low : (c : goal.After-scale) → c.scale.result.lo ≡ settled_low (doubling_end 0 c.args.flows.now (discount_low c.args.discount.now.y)) c.args.discount.now.y c.args.flows.now.a
low c =
    let y = c.args.discount.now.y in
    let part : c.part.result.lo ≡ part_low y c.args.flows.now.a = c.part.ensures.lo ∙ ap (part_low y) c.requires.days in
    let sum : c.doubled_sum.result.lo ≡ doubling_end 0 c.args.flows.now (discount_low y) = c.doubled_sum.ensures.lo ∙ ap (doubling_end 0 c.args.flows.now) c.half_year.ensures.lo in
    c.scale.ensures.lo ∙ (λ i. sum i * part i / 2 ^ 60)

high : (c : goal.After-scale) → c.scale.result.hi ≡ settled_high (doubling_end (2 ^ 60 - 1) c.args.flows.now (discount_high c.args.discount.now.y)) c.args.discount.now.y c.args.flows.now.a
high c =
    let y = c.args.discount.now.y in
    let part : c.part.result.hi ≡ part_high y c.args.flows.now.a = c.part.ensures.hi ∙ ap (part_high y) c.requires.days in
    let sum : c.doubled_sum.result.hi ≡ doubling_end (2 ^ 60 - 1) c.args.flows.now (discount_high y) = c.doubled_sum.ensures.hi ∙ ap (doubling_end (2 ^ 60 - 1) c.args.flows.now) c.half_year.ensures.hi in
    c.scale.ensures.hi ∙ (λ i. (sum i * part i + (2 ^ 60 - 1)) / 2 ^ 60)

pub returns : goal.returns
unfolding doubling_ends
returns c = rw (low c, high c) refl
