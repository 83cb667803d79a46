-- What follows from the tests that an issue passed.
use Rattle.std.proofs.Common.{◌≡◌, ℕ, ◌<◌, ◌≤◌, Bool, true, false, cond, not, leb, ◌&&◌, List, [], ◌∷◌, map, Option, Some, None, refl, sym, subst, arith, inl, inr, ℤ, pos, ◌≤ℤ◌}
use Rattle.std.specs.Prelude.{All, int_le, if◌then◌else◌}
use Rattle.std.specs.List.{last_or}
use Rattle.std.proofs.lemmas.List.Elements.{All-nil, All-cons, All-head, All-tail}
use Rattle.std.proofs.lemmas.Int.{ints}
use Rattle.std.proofs.lemmas.Bool.{and_parts, ltb-true, leb-true}
use Rattle.muni_rule.specs.Civil.{Civil, IsCivil, order_of, is_before, is_not_after}
use Rattle.muni_rule.specs.DayCount.{days360, days_by}
use Rattle.muni_rule.specs.declared.basis.Basis.{Basis}
use Rattle.muni_rule.specs.QuasiDates.{is_quasi_date, quasi_count}
use Rattle.muni_rule.specs.Redemptions.{CallEntry, is_certain, last_day_by}
use Rattle.muni_rule.specs.PaymentLaws.{IsSettlementDate, IsRedeemedAfter, IsCouponRedemption}
use Rattle.muni_rule.specs.Cusip.{is_cusip}
use Rattle.muni_rule.specs.Terms.{is_name, is_dated_date, is_interest_day, is_call_price}
use Rattle.muni_rule.proofs.DayCountLemmas.{days_by-not_negative, days_by-rise}
use Rattle.muni_rule.proofs.PaymentLemmas.{quasi_count-within, first-own}
use Rattle.muni_days.specs.Day.{civil}
use Rattle.muni_days.specs.declared.day.Day.{Day}
use Rattle.muni_days.proofs.CivilLemmas.{is_civil, is_of_calendar, is_of_desk}
use Rattle.muni_terms.specs.Check as Check
use Rattle.muni_terms.specs.Issue.{IsRedemption, settles, anchor_by, anchor_of, entry_of, entries_of, last_day_of}
use Rattle.muni_terms.specs.declared.row.Call.{Call}
use Rattle.muni_terms.specs.declared.row.Kind.{Kind}
use Rattle.muni_terms.specs.declared.row.Kind.TheVariants.{Periodic, Zero, AtRedemption, Discount}
use Rattle.muni_terms.specs.declared.row.IssueRow.{IssueRow}
use Rattle.muni_terms.specs.declared.row.TermsFault.{TermsFault}
use Rattle.muni_terms.specs.declared.row.TermsFault.TheVariants.{BadCusip, BadOrder, BadDay, BadCoupon, FirstTooLong, CallOffCalendar, CallsNotRising, BadCallPrice, TooLong, BadName, BadBasis}

-- a test that does not fail, and what comes after it
pub passed : {X : Type 0} (test : Bool) (fault : X) (behind : Option X) → cond (not test) (Some fault) behind ≡ None → (test ≡ true) × (behind ≡ None)
passed true fault behind none = (refl, none)
passed false fault behind none = absurd (cc)

pub neither : (fault other : Option TermsFault) → Check.first_fault fault other ≡ None → (fault ≡ None) × (other ≡ None)
neither None other none = (refl, none)
neither (Some fault) other none = absurd (cc)

-- the tests that an issue passed, as far as the payments need them
pub record IsIssue (row : IssueRow) : Type 0 where
  pub order : Check.has_order row ≡ true
  pub day : Check.has_day row ≡ true
  pub start : Check.has_short_start row ≡ true
  pub term : Check.has_short_term row ≡ true
  pub calls : Check.calls_fault row None row.calls.items ≡ None
  pub certain : Check.certain_fault row.calls.items ≡ None

early-passed : (row : IssueRow) → Check.early_fault row ≡ None → (Check.has_order row ≡ true) × (Check.has_day row ≡ true) × (Check.has_short_start row ≡ true) × (Check.has_short_term row ≡ true)
unfolding Check.early_fault
early-passed row none =
    let cusip = passed (is_cusip row.cusip) BadCusip _ none in
    let name = passed (is_name row.name.items) BadName _ cusip.1 in
    let order = passed (Check.has_order row) BadOrder _ name.1 in
    let day = passed (Check.has_day row) BadDay _ order.1 in
    let coupon = passed (Check.has_coupon row) BadCoupon _ day.1 in
    let basis = passed (Check.has_basis row) BadBasis _ coupon.1 in
    let start = passed (Check.has_short_start row) FirstTooLong _ basis.1 in
    let term = passed (Check.has_short_term row) TooLong _ start.1 in
    (order.0, day.0, start.0, term.0)

pub is_issue : (row : IssueRow) → Check.fault_of row ≡ None → IsIssue row
unfolding Check.fault_of
is_issue row none =
    let both = neither (Check.early_fault row) _ none in
    let early = early-passed row both.0 in
    let calls = neither (Check.calls_fault row None row.calls.items) (Check.certain_fault row.calls.items) both.1 in
    record { order = early.0; day = early.1; start = early.2; term = early.3; calls = calls.0; certain = calls.1 }

-- a call that passes its tests
pub record IsCall (row : IssueRow) (date : Civil) (price : ℕ) : Type 0 where
  pub on_calendar : Check.is_call_date row.kind (civil row.dated) (civil row.maturity) date ≡ true
  pub in_range : is_call_price price ≡ true

-- a call passes its tests after the call before it, and so do the calls after it
pub record IsPassed (row : IssueRow) (before : Option Day) (call : Call) (calls : List Call) : Type 0 where
  pub is_call : IsCall row (civil call.date) call.price
  pub rises : Check.rises before call.date ≡ true
  pub rest : Check.calls_fault row (Some call.date) calls ≡ None

pub is_passed : (row : IssueRow) (before : Option Day) (call : Call) (calls : List Call) → Check.calls_fault row before (call ∷ calls) ≡ None → IsPassed row before call calls
is_passed row before call calls none =
    let both = neither (Check.call_fault row before call) (Check.calls_fault row (Some call.date) calls) none in
    let on_calendar = passed (Check.is_call_date row.kind (civil row.dated) (civil row.maturity) (civil call.date)) (CallOffCalendar call.date) _ both.0 in
    let rises = passed (Check.rises before call.date) (CallsNotRising call.date) _ on_calendar.1 in
    let price = passed (is_call_price call.price) (BadCallPrice call.date) _ rises.1 in
    record { is_call = record { on_calendar = on_calendar.0; in_range = price.0 }; rises = rises.0; rest = both.1 }

-- a call that passes its tests is before maturity
pub below_maturity : (kind : Kind) (dated maturity date : Civil) → Check.is_call_date kind dated maturity date ≡ true → is_before date maturity ≡ true
below_maturity (Periodic first) dated maturity date on_calendar =
    let parts = and_parts (is_quasi_date (civil first) date) (is_before date maturity && is_not_after (civil first) date) on_calendar in
    (and_parts (is_before date maturity) (is_not_after (civil first) date) parts.1).0
below_maturity Zero dated maturity date on_calendar =
    let parts = and_parts (is_quasi_date maturity date) (is_before date maturity && is_before dated date) on_calendar in
    (and_parts (is_before date maturity) (is_before dated date) parts.1).0
below_maturity AtRedemption dated maturity date on_calendar = absurd (cc)
below_maturity Discount dated maturity date on_calendar = absurd (cc)

pub calls-below : (row : IssueRow) (before : Option Day) (calls : List Call) → Check.calls_fault row before calls ≡ None → All (λ entry. order_of entry.date < order_of (civil row.maturity)) (map entry_of calls)
calls-below row before [] none = All-nil (λ entry. order_of entry.date < order_of (civil row.maturity))
calls-below row before (call ∷ calls) none =
    let this = is_passed row before call calls none in
    let below = ltb-true (order_of (civil call.date)) (order_of (civil row.maturity)) (below_maturity row.kind (civil row.dated) (civil row.maturity) (civil call.date) this.is_call.on_calendar) in
    All-cons (λ entry. order_of entry.date < order_of (civil row.maturity)) (entry_of call) (map entry_of calls) below (calls-below row (Some call.date) calls this.rest)

-- the last of some entries is one of them
last-passes : (P : CallEntry → Type 0) (before : Option CallEntry) (entries : List CallEntry) (entry : CallEntry) → ((e : CallEntry) → before ≡ Some e → P e) → All P entries → last_or before entries ≡ Some entry → P entry
last-passes P before [] entry first all is = first entry is
last-passes P before (e ∷ entries) entry first all is =
    last-passes P (Some e) entries entry (λ other same. subst P (let both : Some e ≡ Some other = same in cc) (All-head P e entries all)) (All-tail P e entries all) is

last_day-by : (last : Option CallEntry) (maturity : Civil) → ((e : CallEntry) → last ≡ Some e → order_of e.date < order_of maturity) → order_of (last_day_by last maturity) ≤ order_of maturity
last_day-by None maturity below = omega arith
last_day-by (Some entry) maturity below =
    let less = below entry refl in
    elim (is_certain entry.term) as (λ certain. order_of (if certain then entry.date else maturity) ≤ order_of maturity) [
      | true ↦ omega arith
      | false ↦ omega arith
    ]

-- an issue is not redeemed for certain after its maturity
pub last_day-within : (row : IssueRow) → Check.calls_fault row None row.calls.items ≡ None → order_of (last_day_of row) ≤ order_of (civil row.maturity)
last_day-within row none =
    last_day-by (last_or None (entries_of row)) (civil row.maturity)
    (λ entry is. last-passes (λ e. order_of e.date < order_of (civil row.maturity)) None (entries_of row) entry (λ e never. absurd (cc)) (calls-below row None row.calls.items none) is)

-- an issue's quasi-coupon dates
pub record IsAnchor (dated maturity anchor : Civil) : Type 0 where
  pub is_date : IsCivil anchor
  pub day : anchor.day ≤ 28
  pub quasi : is_quasi_date anchor maturity ≡ true
  pub count : quasi_count anchor dated maturity ≤ 100

anchor-by_kind : (kind : Kind) (basis : Basis) (dated maturity : Day) (anchor : Civil) → anchor_by kind (civil maturity) ≡ Some anchor → Check.falls_on_day kind (civil maturity) ≡ true → Check.ends_soon kind basis (civil dated) (civil maturity) ≡ true → IsAnchor (civil dated) (civil maturity) anchor
anchor-by_kind (Periodic first) basis dated maturity anchor is_anchor day term =
    let same : civil first ≡ anchor = cc in
    let Is : Civil → Type 0 = λ it. IsAnchor (civil dated) (civil maturity) it in
    let parts = and_parts (is_interest_day (civil first)) (is_quasi_date (civil first) (civil maturity)) day in
    subst Is same (record {
      is_date = is_civil first;
      day = leb-true (civil first).day 28 parts.0;
      quasi = parts.1;
      count = leb-true (quasi_count (civil first) (civil dated) (civil maturity)) 100 term;
    })
anchor-by_kind Zero basis dated maturity anchor is_anchor day term =
    let same : civil maturity ≡ anchor = cc in
    let Is : Civil → Type 0 = λ it. IsAnchor (civil dated) (civil maturity) it in
    subst Is same (record {
      is_date = is_civil maturity;
      day = leb-true (civil maturity).day 28 day;
      quasi = first-own (civil maturity);
      count = leb-true (quasi_count (civil maturity) (civil dated) (civil maturity)) 100 term;
    })
anchor-by_kind AtRedemption basis dated maturity anchor is_anchor day term = absurd (cc)
anchor-by_kind Discount basis dated maturity anchor is_anchor day term = absurd (cc)

pub is_anchor : (row : IssueRow) (anchor : Civil) → IsIssue row → anchor_of row ≡ Some anchor → IsAnchor (civil row.dated) (civil row.maturity) anchor
is_anchor row anchor issue there = anchor-by_kind row.kind row.basis row.dated row.maturity anchor there issue.day issue.term

pub call-by_kind : (kind : Kind) (dated maturity anchor date : Civil) → anchor_by kind maturity ≡ Some anchor → Check.is_call_date kind dated maturity date ≡ true → (is_quasi_date anchor date ≡ true) × (is_before date maturity ≡ true)
call-by_kind (Periodic first) dated maturity anchor date is_anchor on_calendar =
    let same : civil first ≡ anchor = cc in
    let parts = and_parts (is_quasi_date (civil first) date) (is_before date maturity && is_not_after (civil first) date) on_calendar in
    let Is : Civil → Type 0 = λ it. is_quasi_date it date ≡ true in
    (subst Is same parts.0, (and_parts (is_before date maturity) (is_not_after (civil first) date) parts.1).0)
call-by_kind Zero dated maturity anchor date is_anchor on_calendar =
    let same : maturity ≡ anchor = cc in
    let parts = and_parts (is_quasi_date maturity date) (is_before date maturity && is_before dated date) on_calendar in
    let Is : Civil → Type 0 = λ it. is_quasi_date it date ≡ true in
    (subst Is same parts.0, (and_parts (is_before date maturity) (is_before dated date) parts.1).0)
call-by_kind AtRedemption dated maturity anchor date is_anchor on_calendar = absurd (cc)
call-by_kind Discount dated maturity anchor date is_anchor on_calendar = absurd (cc)

-- a redemption is a quasi-coupon date up to maturity, at a price in its range
pub record IsRedeemed (row : IssueRow) (anchor : Civil) (date : Day) (price : ℕ) : Type 0 where
  pub quasi : is_quasi_date anchor (civil date) ≡ true
  pub up_to : order_of (civil date) ≤ order_of (civil row.maturity)
  pub price_from : 1_000_000 ≤ price
  pub price_to : price ≤ 200_000_000

pub is_redeemed : (row : IssueRow) (anchor : Civil) (date : Day) (price : ℕ) → IsIssue row → anchor_of row ≡ Some anchor → IsRedemption row date price → IsRedeemed row anchor date price
is_redeemed row anchor date price issue there (inl at_maturity) =
    let Is : Day → Type 0 = λ it. IsRedeemed row anchor it price in
    let at_100 = at_maturity.1 in
    subst Is (sym at_maturity.0) (record { quasi = (is_anchor row anchor issue there).quasi; up_to = omega arith; price_from = omega arith; price_to = omega arith })
is_redeemed row anchor date price issue there (inr at_call) =
    let parts = call-by_kind row.kind (civil row.dated) (civil row.maturity) anchor (civil date) there at_call.0 in
    let before = ltb-true (order_of (civil date)) (order_of (civil row.maturity)) parts.1 in
    let range = and_parts (leb 1_000_000 price) (leb price 200_000_000) at_call.1 in
    record { quasi = parts.0; up_to = omega arith; price_from = leb-true 1_000_000 price range.0; price_to = leb-true price 200_000_000 range.1 }

-- a settlement
pub record IsSettled (row : IssueRow) (settlement : Day) : Type 0 where
  pub dated_year : 1902 ≤ (civil row.dated).year
  pub from : order_of (civil row.dated) ≤ order_of (civil settlement)
  pub below : order_of (civil settlement) < order_of (civil row.maturity)

pub is_settled : (row : IssueRow) (settlement : Day) → IsIssue row → settles row settlement ≡ true → IsSettled row settlement
is_settled row settlement issue settled =
    let order = and_parts (is_dated_date (civil row.dated)) (Check.are_in_order row.kind (civil row.dated) (civil row.maturity)) issue.order in
    let parts = and_parts (is_not_after (civil row.dated) (civil settlement)) (is_before (civil settlement) (last_day_of row)) settled in
    let before = ltb-true (order_of (civil settlement)) (order_of (last_day_of row)) parts.1 in
    let within = last_day-within row issue.calls in
    record {
      dated_year = leb-true 1902 (civil row.dated).year order.0;
      from = leb-true (order_of (civil row.dated)) (order_of (civil settlement)) parts.0;
      below = omega arith;
    }

-- a date that is not after another is in the same year or an earlier one
year-order : (date later : Civil) → IsCivil date → IsCivil later → order_of date ≤ order_of later → date.year ≤ later.year
year-order date later civil later_civil order = omega (arith, civil, later_civil)

pub year-settled : (row : IssueRow) (settlement : Day) → IsSettled row settlement → 1902 ≤ (civil settlement).year
year-settled row settlement settled =
    let from = settled.dated_year in
    let order = year-order (civil row.dated) (civil settlement) (is_civil row.dated) (is_civil settlement) settled.from in
    omega arith

-- what payments after a settlement up to a redemption ask for
pub record HasPayments (anchor : Civil) (settlement redemption : Day) (price : ℕ) : Type 0 where
  pub redeemed : IsRedeemedAfter anchor (civil settlement) (civil redemption)
  pub count : quasi_count anchor (civil settlement) (civil redemption) ≤ 100
  pub price_from : 1_000_000 ≤ price
  pub price_to : price ≤ 200_000_000

pub has_payments : (row : IssueRow) (anchor : Civil) (settlement redemption : Day) (price : ℕ) → IsIssue row → anchor_of row ≡ Some anchor → IsSettled row settlement → IsRedemption row redemption price → order_of (civil settlement) < order_of (civil redemption) →
    HasPayments anchor settlement redemption price
has_payments row anchor settlement redemption price issue there settled redeemed later =
    let dates = is_anchor row anchor issue there in
    let end = is_redeemed row anchor redemption price issue there redeemed in
    let last_year = (is_of_desk row.maturity).year_to in
    let from = settled.dated_year in
    let settlement_from = year-settled row settlement settled in
    let settlement_to = year-order (civil settlement) (civil redemption) (is_civil settlement) (is_civil redemption) (omega arith) in
    let redemption_to = year-order (civil redemption) (civil row.maturity) (is_civil redemption) (is_civil row.maturity) end.up_to in
    let dated_date : IsSettlementDate (civil row.dated) = record { civil = is_civil row.dated; year_from = omega arith; year_to = let up_to = year-order (civil row.dated) (civil settlement) (is_civil row.dated) (is_civil settlement) settled.from in omega arith } in
    let settlement_date : IsSettlementDate (civil settlement) = record { civil = is_civil settlement; year_from = omega arith; year_to = omega arith } in
    let redemption_date : IsSettlementDate (civil redemption) = record { civil = is_civil redemption; year_from = omega arith; year_to = omega arith } in
    let maturity_date : IsSettlementDate (civil row.maturity) = record { civil = is_civil row.maturity; year_from = omega arith; year_to = last_year } in
    let within = quasi_count-within anchor (civil row.dated) (civil settlement) (civil redemption) (civil row.maturity) dates.is_date dates.day dated_date settlement_date redemption_date maturity_date settled.from (omega arith) end.up_to in
    let most = dates.count in
    record {
      redeemed = record {
        settled = settlement_date;
        redeemed = record { anchor_civil = dates.is_date; anchor_day = dates.day; civil = is_civil redemption; year_from = omega arith; year_to = omega arith; quasi = end.quasi };
        after = later;
      };
      count = omega arith;
      price_from = end.price_from;
      price_to = end.price_to;
    }

pub int_le-true : (a b : ℤ) → int_le a b ≡ true → a ≤ℤ b
int_le-true a b test = grind (arith, ints)

-- the start of an issue with coupons
pub record HasCoupons (row : IssueRow) (first : Day) : Type 0 where
  pub order : order_of (civil row.dated) ≤ order_of (civil first)
  pub up_to : order_of (civil first) ≤ order_of (civil row.maturity)
  pub start : days360 (civil row.dated) (civil first) ≤ℤ pos 360

pub has_coupons : (row : IssueRow) (first : Day) → IsIssue row → row.kind ≡ Periodic first → HasCoupons row first
has_coupons row first issue is_periodic =
    let order = and_parts (is_dated_date (civil row.dated)) (Check.are_in_order (Periodic first) (civil row.dated) (civil row.maturity)) (rw is_periodic at issue.order) in
    let parts = and_parts (is_before (civil row.dated) (civil first)) (is_not_after (civil first) (civil row.maturity)) order.1 in
    let before = ltb-true (order_of (civil row.dated)) (order_of (civil first)) parts.0 in
    record {
      order = omega arith;
      up_to = leb-true (order_of (civil first)) (order_of (civil row.maturity)) parts.1;
      start = int_le-true (days360 (civil row.dated) (civil first)) (pos 360) (rw is_periodic at issue.start);
    }

-- an issue with coupons is not redeemed before its first interest date
first-redeemed : (row : IssueRow) (first date : Day) (price : ℕ) → IsIssue row → row.kind ≡ Periodic first → IsRedemption row date price → order_of (civil first) ≤ order_of (civil date)
first-redeemed row first date price issue is_periodic (inl at_maturity) =
    let Is : Day → Type 0 = λ it. order_of (civil first) ≤ order_of (civil it) in
    subst Is (sym at_maturity.0) (has_coupons row first issue is_periodic).up_to
first-redeemed row first date price issue is_periodic (inr at_call) =
    let on_calendar = and_parts (is_quasi_date (civil first) (civil date)) (is_before (civil date) (civil row.maturity) && is_not_after (civil first) (civil date)) (rw is_periodic at at_call.0) in
    let parts = and_parts (is_before (civil date) (civil row.maturity)) (is_not_after (civil first) (civil date)) on_calendar.1 in
    leb-true (order_of (civil first)) (order_of (civil date)) parts.1

pub has_coupon_payments : (row : IssueRow) (first settlement redemption : Day) (price : ℕ) → IsIssue row → row.kind ≡ Periodic first → IsSettled row settlement → IsRedemption row redemption price → HasPayments (civil first) settlement redemption price →
    IsCouponRedemption (civil first) (civil settlement) (civil redemption)
has_coupon_payments row first settlement redemption price issue is_periodic settled redeemed payments =
    let from = settled.dated_year in
    let year = year-order (civil row.dated) (civil first) (is_civil row.dated) (is_civil first) (has_coupons row first issue is_periodic).order in
    record { later = payments.redeemed; first_year = omega arith; first_paid = first-redeemed row first redemption price issue is_periodic redeemed }

-- the settlement of an issue with coupons
pub record IsCouponSettled (row : IssueRow) (first settlement : Day) : Type 0 where
  pub coupons : HasCoupons row first
  pub settled : IsSettled row settlement
  pub day : (civil first).day ≤ 28
  pub year : 1902 ≤ (civil settlement).year

pub coupon_settled : (row given : IssueRow) (first settlement : Day) → row ≡ given → Check.fault_of row ≡ None → row.kind ≡ Periodic first → settles given settlement ≡ true → IsCouponSettled row first settlement
coupon_settled row given first settlement same none is_periodic settles_given =
    let Settles : IssueRow → Type 0 = λ it. settles it settlement ≡ true in
    let issue = is_issue row none in
    let settled = is_settled row settlement issue (subst Settles (sym same) settles_given) in
    let there : anchor_of row ≡ Some (civil first) = rw is_periodic refl in
    record {
      coupons = has_coupons row first issue is_periodic;
      settled = settled;
      day = (is_anchor row (civil first) issue there).day;
      year = year-settled row settlement settled;
    }

-- the redemption of an issue after a settlement
pub issue_payments : (row given : IssueRow) (anchor : Civil) (settlement redemption : Day) (price : ℕ) → row ≡ given → Check.fault_of row ≡ None → anchor_of row ≡ Some anchor → settles given settlement ≡ true → IsRedemption given redemption price → order_of (civil settlement) < order_of (civil redemption) →
    HasPayments anchor settlement redemption price
issue_payments row given anchor settlement redemption price same none there settles_given redeemed_given later =
    let Settles : IssueRow → Type 0 = λ it. settles it settlement ≡ true in
    let Redeems : IssueRow → Type 0 = λ it. IsRedemption it redemption price in
    let issue = is_issue row none in
    let settled = is_settled row settlement issue (subst Settles (sym same) settles_given) in
    has_payments row anchor settlement redemption price issue there settled (subst Redeems (sym same) redeemed_given) later

pub coupon_redemption : (row given : IssueRow) (first settlement redemption : Day) (price : ℕ) → row ≡ given → Check.fault_of row ≡ None → row.kind ≡ Periodic first → settles given settlement ≡ true → IsRedemption given redemption price → HasPayments (civil first) settlement redemption price →
    IsCouponRedemption (civil first) (civil settlement) (civil redemption)
coupon_redemption row given first settlement redemption price same none is_periodic settles_given redeemed_given payments =
    let Redeems : IssueRow → Type 0 = λ it. IsRedemption it redemption price in
    let settled = (coupon_settled row given first settlement same none is_periodic settles_given).settled in
    has_coupon_payments row first settlement redemption price (is_issue row none) is_periodic settled (subst Redeems (sym same) redeemed_given) payments

at_most_by : {x y : ℤ} {most : ℤ} → x ≤ℤ y → y ≤ℤ most → x ≤ℤ most
at_most_by less most = omega (arith, ints, less, most)

-- a note accrues for two years at most
pub note_accrued : (row given : IssueRow) (settlement : Day) → row ≡ given → Check.fault_of row ≡ None → row.kind ≡ AtRedemption → settles given settlement ≡ true →
    (pos 0 ≤ℤ days_by row.basis (civil row.dated) (civil settlement)) × (days_by row.basis (civil row.dated) (civil settlement) ≤ℤ pos 720)
note_accrued row given settlement same none is_note settles_given =
    let Settles : IssueRow → Type 0 = λ it. settles it settlement ≡ true in
    let issue = is_issue row none in
    let settled = is_settled row settlement issue (subst Settles (sym same) settles_given) in
    let short = int_le-true (days_by row.basis (civil row.dated) (civil row.maturity)) (pos 720) (rw is_note at issue.term) in
    let rise = days_by-rise row.basis (civil row.dated) (civil settlement) (civil row.maturity) (is_of_calendar settlement) (is_of_calendar row.maturity) (let below = settled.below in omega arith) in
    (days_by-not_negative row.basis (civil row.dated) (civil settlement) (is_of_calendar row.dated) (is_of_calendar settlement) settled.from, at_most_by rise short)
