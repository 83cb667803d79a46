use Rattle.std.proofs.Common.{rules, ◌≡◌, ◌+◌, ◌*◌, ◌≤◌, ◌^◌, ◌∙◌, refl, sym, ap, subst, arith}
use Rattle.std.proofs.lemmas.Bool.{leb-true}
use Rattle.muni_rule.specs.ManyPeriods.{to_come, IsWorthAtLeast}
use Rattle.muni_multi.specs.Annuity.{AnnuityView, IsWorthBelow}
use Rattle.muni_multi.specs.Discount.{Factors}
use Rattle.muni_multi.specs.LastStep.{part_low}
use Rattle.muni_multi.proofs.AnnuityLemmas.{worth-shown}
use Rattle.muni_multi.proofs.annuity.Annuity.shows.Goals as goal

pub returns-clause-shown : goal.returns-clause-shown
returns-clause-shown c = λ test.
    let series = c.args.flows.now in
    let asked = 360000 * c.args.price + 360 + series.accrued in
    let order : c.from.result * 2 ^ 68 ≤ c.from-worth.result * c.from-2.result = leb-true (c.from.result * 2 ^ 68) (c.from-worth.result * c.from-2.result) test in
    let left : c.from.result ≡ asked = search rules in
    let right : c.from-worth.result * c.from-2.result ≡ c.worth_of.result * c.lo.result = rw (c.from-worth.ensures, c.from-2.ensures) refl in
    let days : c.self-2.inside.discount.a ≡ series.a = search rules in
    let part : c.lo.result ≡ part_low c.self-2.inside.discount.y series.a = c.lo.ensures ∙ (c.part.ensures.lo ∙ ap (part_low c.self-2.inside.discount.y) days) in
    let same : c.self-2.inside.discount.y ≡ c.args.self.now.discount.y = ap (λ (it : AnnuityView). it.discount.y) c.self-2.view_is ∙ ap (λ (it : Factors). it.y) c.loop-self.invariant.same in
    subst (λ y. IsWorthAtLeast (to_come series) y asked) same
    (worth-shown series c.self-2.inside.discount.y asked c.worth_of.result c.lo.result c.accrued.ensures.bounds c.part.ensures.within part (subst (λ (it : AnnuityView). IsWorthBelow series it.discount.y c.worth_of.result) (sym c.self-2.view_is) c.worth_of.ensures) (omega (arith, order, left, right)))
