use Rattle.std.proofs.Common.{◌≡◌, None, sym, subst, arith}
use Rattle.muni_terms.specs.Check.{fault_of}
use Rattle.muni_readings.proofs.RegularLemmas.{coupon-start}
use Rattle.muni_readings.proofs.regular.regular_terms.Goals as goal

pub quasi_day-requires-clause-day : goal.quasi_day-requires-clause-day
quasi_day-requires-clause-day c =
    (coupon-start c.row-row.result.now c.in-Periodic.first (subst (λ it. fault_of it ≡ None) (sym c.row-row.ensures.value) c.row-row.ensures.passed) c.in-Periodic.is).day

pub quasi_day-requires-clause-year : goal.quasi_day-requires-clause-year
quasi_day-requires-clause-year c =
    let year = (coupon-start c.row-row.result.now c.in-Periodic.first (subst (λ it. fault_of it ≡ None) (sym c.row-row.ensures.value) c.row-row.ensures.passed) c.in-Periodic.is).year in
    omega (arith, year)
