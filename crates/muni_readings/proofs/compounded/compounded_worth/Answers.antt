use Rattle.std.proofs.Common.{◌≡◌, ◌*◌, ◌-◌, ◌/◌, ◌^◌, ◌+◌, ◌≤◌, ◌∙◌, ap, arith, to_z, of_z, w32}
use Rattle.std.specs.Prelude.{unsigned_abs}
use Rattle.std.proofs.lemmas.Int.{ints}
use Rattle.muni_multi.specs.LastStep.{part_low, part_high}
use Rattle.muni_readings.proofs.CompoundedLemmas.{HasWorth, has-worth}
use Rattle.muni_readings.proofs.compounded.compounded_worth.Goals as goal

worth : (c : goal.After-scale) → HasWorth c.args.payment.now c.args.y c.scale.result.lo c.scale.result.hi
worth c =
    let payment = c.args.payment.now in
    let due = unsigned_abs payment.due in
    let passed = 180 - unsigned_abs payment.left in
    let single = c.requires.single in
    let least = single.due.0 in
    let most = single.due.1 in
    let left_from = single.left.0 in
    let left_to = single.left.1 in
    let few : due ≤ 10 ^ 15 = omega (arith, ints, least, most) in
    let low : c.of.result.lo ≡ 4096 * due = (let is = c.of.ensures.lo in omega (arith, ints, is, least, most)) in
    let high : c.of.result.hi ≡ 4096 * due = (let is = c.of.ensures.hi in omega (arith, ints, is, least, most)) in
    let days : c.at.result.a ≡ passed = (let is = c.at.ensures.a in omega (arith, ints, is, left_from, left_to)) in
    let same : to_z w32 (of_z w32 c.args.y) ≡ c.args.y = omega (arith, ints) in
    let part_lo : c.part.result.lo ≡ part_low c.args.y passed = c.part.ensures.lo ∙ (ap (λ z. part_low z c.at.result.a) (c.at.ensures.y ∙ same) ∙ ap (part_low c.args.y) days) in
    let part_hi : c.part.result.hi ≡ part_high c.args.y passed = c.part.ensures.hi ∙ (ap (λ z. part_high z c.at.result.a) (c.at.ensures.y ∙ same) ∙ ap (part_high c.args.y) days) in
    has-worth payment c.args.y c.scale.result.lo c.scale.result.hi few c.requires.y
    (c.scale.ensures.lo ∙ (ap (λ n. n * c.part.result.lo / 2 ^ 60) low ∙ ap (λ n. 4096 * due * n / 2 ^ 60) part_lo))
    (c.scale.ensures.hi ∙ (ap (λ n. (n * c.part.result.hi + (2 ^ 60 - 1)) / 2 ^ 60) high ∙ ap (λ n. (4096 * due * n + (2 ^ 60 - 1)) / 2 ^ 60) part_hi))

pub returns-clause-holds : goal.returns-clause-holds
returns-clause-holds c = (worth c).holds

pub returns-clause-narrow : goal.returns-clause-narrow
returns-clause-narrow c = (worth c).narrow

pub returns-clause-small : goal.returns-clause-small
returns-clause-small c = (worth c).small
