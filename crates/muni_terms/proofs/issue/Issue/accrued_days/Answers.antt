use Rattle.std.proofs.Common.{◌≡◌, arith, to_z, of_z, w32}
use Rattle.std.proofs.lemmas.Int.{ints}
use Rattle.muni_terms.proofs.IssueLemmas.{coupon_settled, note_accrued}
use Rattle.muni_terms.proofs.issue.Issue.accrued_days.Goals as goal

pub coupon_accrued_days-requires : goal.coupon_accrued_days-requires
coupon_accrued_days-requires c =
    let settled = coupon_settled c.self.inside.row c.args.self.now c.in-Periodic.first c.args.settlement c.self.view_is c.self.invariant c.in-Periodic.is c.requires in
    let year = settled.year in
    record { day = settled.day; year = omega arith; settled = settled.settled.from; start = settled.coupons.start }

pub returns-in-AtRedemption-clause-range : goal.returns-in-AtRedemption-clause-range
returns-in-AtRedemption-clause-range c =
    let accrued = note_accrued c.self.inside.row c.args.self.now c.args.settlement c.self.view_is c.self.invariant c.in-AtRedemption.is c.requires in
    let same : to_z w32 (of_z w32 c.days_by.result) ≡ c.days_by.result = omega (arith, ints) in
    rw (same, c.days_by.ensures) accrued
