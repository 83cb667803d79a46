use Rattle.std.proofs.Common.{◌≡◌, ◌+◌, ◌*◌, ◌/◌, ◌%◌, ◌≤◌, ◌^◌, ◌∙◌, refl, ap, subst, arith}
use Rattle.std.proofs.Math.Nat.{div-mul-le_self}
use Rattle.muni_multi.specs.Annuity.{AnnuityView, IsWorthBelow, annuity}
use Rattle.muni_multi.proofs.AnnuityLemmas.{worth-below}
use Rattle.muni_multi.proofs.annuity.Annuity.worth_of.Goals as goal

pub returns : goal.returns
returns c =
    let series = c.args.flows.now in
    let of = annuity c.self.inside.discount c.self.inside.count c.self.inside.last c.self.inside.worth in
    let same : of ≡ c.args.self.now = c.self.view_is in
    let cut = c.self.inside.last / 256 in
    let most = c.first.ensures.range in
    let interest = c.from-first.ensures in
    let value = c.first.ensures.value in
    let first : c.from-first.result * 2 ^ 52 % 2 ^ 128 ≡ series.first * 2 ^ 52 = omega (arith, most, interest, value) in
    let regular : c.from.result * c.from-2.result ≡ series.regular * c.self.inside.worth = rw (c.from.ensures, c.from-2.ensures, c.regular.ensures.value) refl in
    let redemption : c.from-3.result * c.from-4.result ≡ series.redemption * cut = rw (c.from-3.ensures, c.from-4.ensures, c.redemption.ensures.value) refl in
    let all = c.from-first.result * 2 ^ 52 % 2 ^ 128 + c.from.result * c.from-2.result + c.from-3.result * c.from-4.result in
    let down : all / 2 ^ 44 * 2 ^ 44 ≤ all = div-mul-le_self all (2 ^ 44) in
    let floor : cut * 2 ^ 8 ≤ c.self.inside.last = div-mul-le_self c.self.inside.last 256 in
    subst (λ (it : AnnuityView). IsWorthBelow series it.discount.y (all / 2 ^ 44)) same
    (worth-below series of cut (all / 2 ^ 44) c.first.ensures.bounds c.self.invariant c.requires.first
    (ap (λ (it : AnnuityView). it.count + 1) same ∙ c.requires.count) floor (omega (arith, down, first, regular, redemption)))
