-- The payments up to one redemption, by those up to maturity.
use Rattle.std.proofs.Common.{◌≡◌, ℕ, ◌+◌, ◌-◌, ◌*◌, ◌/◌, ◌%◌, ◌<◌, ◌≤◌, true, eqb, Option, Some, None, refl, subst, ◌∙◌, arith, inl, inr, ℤ}
use Rattle.std.specs.Prelude.{option_map, option_and_then}
use Rattle.std.proofs.lemmas.Bool.{and_parts, cases_lt, eqb-true}
use Rattle.muni_rule.specs.Civil.{Civil, IsCivil, order_of, month_index}
use Rattle.muni_rule.specs.QuasiDates.{quasi_count, days_into_period}
use Rattle.muni_rule.specs.Accrued.{coupon_accrued_days}
use Rattle.muni_rule.specs.Payments.{PaymentSeries, coupon_numbers, zero_numbers, redemption_amount, unpaid_count}
use Rattle.muni_rule.specs.PaymentLaws.{IsSettlementDate, IsRedemptionDate, IsRedeemedAfter}
use Rattle.muni_rule.specs.Redemptions.{par_price}
use Rattle.muni_rule.proofs.PaymentLemmas.{quasi_count-redeemed, is_interest}
use Rattle.muni_days.specs.Day.{civil}
use Rattle.muni_days.specs.declared.day.Day.{Day}
use Rattle.muni_terms.specs.Check.{fault_of}
use Rattle.muni_terms.specs.Issue.{IsRedemption, settles, anchor_of, series_by, series_of}
use Rattle.muni_terms.specs.LastMonth.{IsLastMonth}
use Rattle.muni_terms.specs.declared.row.Kind.{Kind}
use Rattle.muni_terms.specs.declared.row.Kind.TheVariants.{Periodic, Zero, AtRedemption, Discount}
use Rattle.muni_terms.specs.declared.row.IssueRow.{IssueRow}
use Rattle.muni_terms.proofs.IssueLemmas.{HasPayments, issue_payments, coupon_redemption, is_issue, is_settled, is_redeemed}
use Rattle.muni_terms.proofs.LastMonthLemmas.{quasi_count-months}

-- the month of the last quasi-coupon date not after a date
last_month-in : (day rest index in_month : ℕ) → 1 ≤ day → day ≤ 28 → rest < 6 → 1 ≤ in_month → in_month ≤ 31 → 22_812 ≤ index → index < 26_400 →
    (k : ℕ) × (k % 6 ≡ rest) × (31 * k + 31 + day ≤ 31 * index + 31 + in_month) × (31 * index + 31 + in_month < 31 * k + 217 + day) × (22_800 ≤ k) × (k < 26_400)
last_month-in day rest index in_month h1 h2 h3 h4 h5 h6 h7 =
    elim (cases_lt in_month day) [
      | inl before ↦ (6 * ((index - 1 - rest) / 6) + rest, omega arith, omega arith, omega arith, omega arith, omega arith)
      | inr reached ↦ (6 * ((index - rest) / 6) + rest, omega arith, omega arith, omega arith, omega arith, omega arith)
    ]

last_month-there : (anchor date : Civil) → IsCivil anchor → anchor.day ≤ 28 → IsSettlementDate date → (k : ℕ) × IsLastMonth anchor date k
last_month-there anchor date anchor_civil small settled =
    let civil = settled.civil in
    let month_from = civil.month_from in
    let month_to = civil.month_to in
    let year_from = settled.year_from in
    let year_to = settled.year_to in
    let found = last_month-in anchor.day (month_index anchor % 6) (month_index date) date.day anchor_civil.day_from small (omega arith) civil.day_from civil.day_to (omega arith) (omega arith) in
    let order : 31 * month_index date + 31 + date.day ≡ order_of date = omega arith in
    (found.0, record { half_years = found.1; reached = rw order at found.2; next_not_reached = rw order at found.3; from = found.4; below = found.5 })

-- a quasi-coupon date has its own month
last_month-own : (anchor date : Civil) → IsRedemptionDate anchor date → IsLastMonth anchor date (month_index date)
last_month-own anchor date redeemed =
    let parts = and_parts (eqb date.day anchor.day) (eqb (month_index date % 6) (month_index anchor % 6)) redeemed.quasi in
    let day = eqb-true date.day anchor.day parts.0 in
    let month_from = redeemed.civil.month_from in
    let month_to = redeemed.civil.month_to in
    let year_from = redeemed.year_from in
    let year_to = redeemed.year_to in
    record { half_years = eqb-true (month_index date % 6) (month_index anchor % 6) parts.1; reached = omega arith; next_not_reached = omega arith; from = omega arith; below = omega arith }

half_years-add : (rest start one end : ℕ) → start % 6 ≡ rest → one % 6 ≡ rest → end % 6 ≡ rest → start < one + 6 → one < end + 6 → (end - start) / 6 ≡ (one - start) / 6 + (end - one) / 6
half_years-add rest start one end h1 h2 h3 h4 h5 = omega arith

-- the quasi-coupon dates up to a redemption, and those after it
pub quasi_count-add : (anchor settlement redemption end : Civil) → IsRedeemedAfter anchor settlement redemption → IsRedeemedAfter anchor settlement end → order_of redemption ≤ order_of end →
    quasi_count anchor settlement end ≡ quasi_count anchor settlement redemption + (month_index end - month_index redemption) / 6
quasi_count-add anchor settlement redemption end earlier later order =
    let redeemed = earlier.redeemed in
    let start = last_month-there anchor settlement redeemed.anchor_civil redeemed.anchor_day earlier.settled in
    let one = last_month-own anchor redemption redeemed in
    let last = last_month-own anchor end later.redeemed in
    let after = earlier.after in
    let after_end = later.after in
    let reached = start.1.reached in
    let one_reached = one.reached in
    let one_next = one.next_not_reached in
    let last_next = last.next_not_reached in
    rw (
      quasi_count-months anchor settlement end start.0 (month_index end) start.1 last (omega arith),
      quasi_count-months anchor settlement redemption start.0 (month_index redemption) start.1 one (omega arith),
    ) (half_years-add (month_index anchor % 6) start.0 (month_index redemption) (month_index end) start.1.half_years one.half_years last.half_years (omega arith) (omega arith))

-- numbers with another redemption
abbrev pub beside : PaymentSeries → ℕ → ℕ → PaymentSeries
beside known n price = record known { n = n; redemption = redemption_amount price }

-- those up to a redemption have all else as known
record IsBeside (anchor settlement redemption end : Civil) (price unpaid : ℕ) (known : PaymentSeries) (series : Option PaymentSeries) : Type 0 where
  pub n : known.n ≡ quasi_count anchor settlement end
  pub skip : known.skip ≡ unpaid
  pub numbers : Some (beside known (quasi_count anchor settlement redemption) price) ≡ series

coupon-beside : (dated first : Civil) (coupon : ℕ) (settlement redemption end : Civil) (price at_end : ℕ) (known : PaymentSeries) (into accrued : Option ℤ) → Some known ≡ option_and_then (λ a. option_map (coupon_numbers dated first coupon settlement end at_end a) accrued) into →
    IsBeside first settlement redemption end price (unpaid_count first settlement) known (option_and_then (λ a. option_map (coupon_numbers dated first coupon settlement redemption price a) accrued) into)
coupon-beside dated first coupon settlement redemption end price at_end known None accrued is = absurd (cc)
coupon-beside dated first coupon settlement redemption end price at_end known (Some a) None is = absurd (cc)
coupon-beside dated first coupon settlement redemption end price at_end known (Some a) (Some b) is =
    let same : known ≡ coupon_numbers dated first coupon settlement end at_end a b = cc in
    rw same (record { n = refl; skip = refl; numbers = refl })

zero-beside : (maturity settlement redemption end : Civil) (price at_end : ℕ) (known : PaymentSeries) (into : Option ℤ) → Some known ≡ option_map (zero_numbers maturity settlement end at_end) into →
    IsBeside maturity settlement redemption end price 0 known (option_map (zero_numbers maturity settlement redemption price) into)
zero-beside maturity settlement redemption end price at_end known None is = absurd (cc)
zero-beside maturity settlement redemption end price at_end known (Some a) is =
    let same : known ≡ zero_numbers maturity settlement end at_end a = cc in
    rw same (record { n = refl; skip = refl; numbers = refl })

-- the half years by which an issue is redeemed before maturity
abbrev pub half_years : IssueRow → Day → ℕ
half_years row redemption = (month_index (civil row.maturity) - month_index (civil redemption)) / 6

-- what the payments up to a redemption ask for, if those up to maturity are known
pub record HasBeside (row : IssueRow) (settlement redemption : Day) (price : ℕ) (known : PaymentSeries) : Type 0 where
  pub order : order_of (civil redemption) ≤ order_of (civil row.maturity)
  pub paid : known.skip + half_years row redemption < known.n
  pub price_from : 1_000_000 ≤ price
  pub price_to : price ≤ 200_000_000
  pub numbers : Some (beside known (known.n - half_years row redemption) price) ≡ series_of row settlement redemption price

-- both redemptions of one anchor
record AreRedeemed (row : IssueRow) (anchor : Civil) (settlement redemption : Day) (price : ℕ) : Type 0 where
  pub one : HasPayments anchor settlement redemption price
  pub up_to : order_of (civil redemption) ≤ order_of (civil row.maturity)
  pub count : quasi_count anchor (civil settlement) (civil row.maturity) ≡ quasi_count anchor (civil settlement) (civil redemption) + half_years row redemption

are_redeemed : (row : IssueRow) (anchor : Civil) (settlement redemption : Day) (price : ℕ) → fault_of row ≡ None → anchor_of row ≡ Some anchor → settles row settlement ≡ true → order_of (civil settlement) < order_of (civil redemption) → IsRedemption row redemption price →
    AreRedeemed row anchor settlement redemption price
are_redeemed row anchor settlement redemption price none there settled later redeemed =
    let issue = is_issue row none in
    let below = (is_settled row settlement issue settled).below in
    let up_to = (is_redeemed row anchor redemption price issue there redeemed).up_to in
    let one = issue_payments row row anchor settlement redemption price refl none there settled redeemed later in
    let last = issue_payments row row anchor settlement row.maturity par_price refl none there settled (inl (refl, refl)) below in
    record { one = one; up_to = up_to; count = quasi_count-add anchor (civil settlement) (civil redemption) (civil row.maturity) one.redeemed last.redeemed up_to }

joined : (row : IssueRow) (anchor : Civil) (settlement redemption : Day) (price unpaid : ℕ) (known : PaymentSeries) (series : Option PaymentSeries) → AreRedeemed row anchor settlement redemption price → IsBeside anchor (civil settlement) (civil redemption) (civil row.maturity) price unpaid known series →
    unpaid < quasi_count anchor (civil settlement) (civil redemption) → series ≡ series_of row settlement redemption price → HasBeside row settlement redemption price known
joined row anchor settlement redemption price unpaid known series dates numbers fewer is_series =
    let count = dates.count in
    let n = numbers.n in
    let skipped = numbers.skip in
    let left : quasi_count anchor (civil settlement) (civil redemption) ≡ known.n - half_years row redemption = omega arith in
    record {
      order = dates.up_to;
      paid = omega arith;
      price_from = dates.one.price_from;
      price_to = dates.one.price_to;
      numbers = rw left at numbers.numbers ∙ is_series;
    }

beside-by_kind : (row : IssueRow) (settlement redemption : Day) (price : ℕ) (known : PaymentSeries) (kind : Kind) → row.kind ≡ kind → fault_of row ≡ None → settles row settlement ≡ true → order_of (civil settlement) < order_of (civil redemption) → IsRedemption row redemption price →
    Some known ≡ series_by kind row (civil settlement) (civil row.maturity) par_price → HasBeside row settlement redemption price known
beside-by_kind row settlement redemption price known (Periodic first) is none settled later redeemed is_known =
    let there : anchor_of row ≡ Some (civil first) = rw is refl in
    let dates = are_redeemed row (civil first) settlement redemption price none there settled later redeemed in
    let coupons = coupon_redemption row row first settlement redemption price refl none is settled redeemed dates.one in
    let numbers = coupon-beside (civil row.dated) (civil first) row.coupon (civil settlement) (civil redemption) (civil row.maturity) price par_price known (days_into_period (civil first) (civil settlement)) (coupon_accrued_days (civil row.dated) (civil first) (civil settlement)) is_known in
    let fewer = (is_interest (civil first) (civil first) (civil settlement) (civil redemption) 0 coupons).fewer in
    joined row (civil first) settlement redemption price (unpaid_count (civil first) (civil settlement)) known _ dates numbers fewer (rw is refl)
beside-by_kind row settlement redemption price known Zero is none settled later redeemed is_known =
    let there : anchor_of row ≡ Some (civil row.maturity) = rw is refl in
    let dates = are_redeemed row (civil row.maturity) settlement redemption price none there settled later redeemed in
    let numbers = zero-beside (civil row.maturity) (civil settlement) (civil redemption) (civil row.maturity) price par_price known (days_into_period (civil row.maturity) (civil settlement)) is_known in
    let some = quasi_count-redeemed (civil row.maturity) (civil settlement) (civil redemption) dates.one.redeemed in
    joined row (civil row.maturity) settlement redemption price 0 known _ dates numbers (omega arith) (rw is refl)
beside-by_kind row settlement redemption price known AtRedemption is none settled later redeemed is_known = absurd (cc)
beside-by_kind row settlement redemption price known Discount is none settled later redeemed is_known = absurd (cc)

pub has_beside : (row given : IssueRow) (settlement redemption : Day) (price : ℕ) (known : PaymentSeries) → row ≡ given → fault_of row ≡ None → settles given settlement ≡ true → order_of (civil settlement) < order_of (civil redemption) → IsRedemption given redemption price →
    Some known ≡ series_of given settlement given.maturity par_price → HasBeside given settlement redemption price known
has_beside row given settlement redemption price known same none settled later redeemed is_known =
    let Passes : IssueRow → Type 0 = λ it. fault_of it ≡ None in
    beside-by_kind given settlement redemption price known given.kind refl (subst Passes same none) settled later redeemed is_known
