use Rattle.std.proofs.Common.{ℕ, ◌+◌, ◌*◌, ◌<◌, arith, ℤ}
use Rattle.muni_rule.specs.ManyPeriods.{to_come, discount_divisor}
use Rattle.muni_rule.specs.Payments.{PaymentSeries}
use Rattle.muni_rule.specs.WorthEnds.{WorthEnds, HoldsWorth, ends_of}
use Rattle.muni_rule.proofs.EnclosedLemmas.{divisor-least}
use Rattle.muni_rule.proofs.ExactLemmas.{ends-hold}
use Rattle.muni_rule.proofs.VerdictLemmas.{at_least-yes, at_least-no, more-yes, more-no}
use Rattle.muni_multi.specs.Agreement.{HoldOneWorth, NeverContradict}
use Rattle.muni_multi.proofs.laws.enclosures_agree.Goals as goal

agree : (series : PaymentSeries) (y : ℤ) (one other : WorthEnds) (price : ℕ) → HoldOneWorth series y one other → NeverContradict series y one other price
agree series y one other price hold =
    let divisor = divisor-least y hold.within in
    let some : 0 < discount_divisor y = omega (arith, divisor) in
    let first : HoldsWorth (to_come series) y (ends_of series y one) = ends-hold series y one hold.is.skip some hold.one_holds in
    let second : HoldsWorth (to_come series) y (ends_of series y other) = ends-hold series y other hold.is.skip some hold.other_holds in
    let amount = 360000 * price + series.accrued in
    record {
      at_least = λ yes no. at_least-no (to_come series) y (ends_of series y other) amount some second no (at_least-yes (to_come series) y (ends_of series y one) amount first yes);
      more = λ yes no. more-no (to_come series) y (ends_of series y other) amount second no (more-yes (to_come series) y (ends_of series y one) amount some first yes);
    }

pub returns : goal.returns
returns c = agree
