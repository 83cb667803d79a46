use Rattle.std.proofs.Common.{rules, ◌≡◌, ◌+◌, ◌*◌, ◌/◌, ◌≤◌, ◌^◌, ◌∙◌, ℕ, refl, arith}
use Rattle.std.proofs.Math.Nat.{div-mul-le_self}
use Rattle.muni_multi.specs.LastStep.{discount_low}
use Rattle.muni_multi.proofs.AnnuityLemmas.{grown}
use Rattle.muni_multi.proofs.annuity.Annuity.grow.Goals as goal

pub invariant_of-self : goal.invariant_of-self
invariant_of-self c =
    let low : c.lo-half_year.result ≡ discount_low c.self.inside.discount.y = c.lo-half_year.ensures ∙ c.half_year.ensures.lo in
    let product : c.from.result * c.from-2.result ≡ c.self.inside.last * c.lo-half_year.result = rw (c.from.ensures, c.from-2.ensures) refl in
    let cut : c.from.result * c.from-2.result / 2 ^ 60 * 2 ^ 60 ≤ c.from.result * c.from-2.result = div-mul-le_self (c.from.result * c.from-2.result) (2 ^ 60) in
    let least = c.min.ensures in
    let floor : c.min.result * 2 ^ 60 ≤ c.self.inside.last * c.lo-half_year.result = omega (arith, least, cut, product) in
    let eighth : c.min.result / 256 * 256 ≤ c.min.result = div-mul-le_self c.min.result 256 in
    let sum = c.saturating_add-self-inside.ensures in
    let more : c.saturating_add-self-inside.result * 2 ^ 8 ≤ c.self.inside.worth * 2 ^ 8 + c.min.result = omega (arith, sum, eighth) in
    grown c.self.inside.discount c.self.inside.count c.self.inside.last c.self.inside.worth c.lo-half_year.result c.min.result c.saturating_add-self-inside.result c.half_year.ensures.within low c.self.invariant floor more
