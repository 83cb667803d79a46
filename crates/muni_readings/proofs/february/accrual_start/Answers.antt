use Rattle.std.proofs.Common.{◌≡◌, None, sym, subst, arith}
use Rattle.muni_terms.specs.Check.{fault_of}
use Rattle.muni_terms.proofs.IssueLemmas.{coupon_settled}
use Rattle.muni_readings.proofs.february.accrual_start.Goals as goal

pub coupon_start-requires-clause-day : goal.coupon_start-requires-clause-day
coupon_start-requires-clause-day c =
    (coupon_settled c.row-row.result.now c.args.issue.now c.in-Periodic.first c.args.settlement c.row-row.ensures.value (subst (λ it. fault_of it ≡ None) (sym c.row-row.ensures.value) c.row-row.ensures.passed) c.in-Periodic.is c.requires).day

pub coupon_start-requires-clause-year : goal.coupon_start-requires-clause-year
coupon_start-requires-clause-year c =
    let year = (coupon_settled c.row-row.result.now c.args.issue.now c.in-Periodic.first c.args.settlement c.row-row.ensures.value (subst (λ it. fault_of it ≡ None) (sym c.row-row.ensures.value) c.row-row.ensures.passed) c.in-Periodic.is c.requires).year in
    omega (arith, year)
