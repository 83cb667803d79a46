use Rattle.std.proofs.Common.{◌≡◌, ◌+◌, ◌-◌, ◌*◌, ◌/◌, ◌^◌, ◌≤◌, rules}
use Rattle.muni_rule.specs.ManyPeriods.{discount_divisor}
use Rattle.muni_span.proofs.RecipLaws.{IsRecipSpan, recip_span}
use Rattle.muni_span.proofs.span.recip.Goals as goal

law : (c : goal.After-new) → IsRecipSpan (discount_divisor c.args.y) c.new.result.lo c.new.result.hi
law c =
    let low : c.new.result.lo ≡ 2000000 * 2 ^ 60 / discount_divisor c.args.y = search rules in
    let high : c.new.result.hi ≡ (2000000 * 2 ^ 60 + (discount_divisor c.args.y - 1)) / discount_divisor c.args.y = search rules in
    let least : 1949995 ≤ discount_divisor c.args.y = search rules in
    let greatest : discount_divisor c.args.y ≤ 3000005 = search rules in
    recip_span (discount_divisor c.args.y) c.new.result.lo c.new.result.hi least greatest low high

pub returns-clause-encloses : goal.returns-clause-encloses
returns-clause-encloses c = (law c).encloses

pub returns-clause-width : goal.returns-clause-width
returns-clause-width c = (law c).narrow

pub returns-clause-at_least : goal.returns-clause-at_least
returns-clause-at_least c = (law c).at_least

pub returns-clause-at_most : goal.returns-clause-at_most
returns-clause-at_most c = (law c).at_most
