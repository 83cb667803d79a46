use Rattle.std.proofs.Common.{◌≡◌, Some, refl}
use Rattle.muni_days.specs.Day.{civil}
use Rattle.muni_terms.specs.Issue.{anchor_of}
use Rattle.muni_terms.proofs.IssueLemmas.{coupon_settled, issue_payments, coupon_redemption}
use Rattle.muni_terms.proofs.issue.Issue.flows.Goals as goal

pub coupon_flows-requires : goal.coupon_flows-requires
coupon_flows-requires c =
    let row = c.self.inside.row in
    let first = c.in-Periodic.first in
    let there : anchor_of row ≡ Some (civil first) = rw c.in-Periodic.is refl in
    let settled = coupon_settled row c.args.self.now first c.args.settlement c.self.view_is c.self.invariant c.in-Periodic.is c.requires.settled in
    let payments = issue_payments row c.args.self.now (civil first) c.args.settlement c.args.redemption c.args.price c.self.view_is c.self.invariant there c.requires.settled c.requires.redeemed c.requires.later in
    record {
      redeemed = coupon_redemption row c.args.self.now first c.args.settlement c.args.redemption c.args.price c.self.view_is c.self.invariant c.in-Periodic.is c.requires.settled c.requires.redeemed payments;
      order = settled.coupons.order;
      settled = settled.settled.from;
      start = settled.coupons.start;
      few = payments.count;
      price = (payments.price_from, payments.price_to);
    }

pub zero_flows-requires : goal.zero_flows-requires
zero_flows-requires c =
    let row = c.self.inside.row in
    let there : anchor_of row ≡ Some (civil row.maturity) = rw c.in-Zero.is refl in
    let payments = issue_payments row c.args.self.now (civil row.maturity) c.args.settlement c.args.redemption c.args.price c.self.view_is c.self.invariant there c.requires.settled c.requires.redeemed c.requires.later in
    record { redeemed = payments.redeemed; few = payments.count; price = (payments.price_from, payments.price_to) }
