-- The payments at the quasi-coupon dates after a settlement.
use Rattle.std.proofs.Common.{◌≡◌, ℕ, zero, suc, ◌+◌, ◌-◌, ◌*◌, ◌/◌, ◌%◌, ◌<◌, ◌≤◌, true, eqb, ◌∷◌, ◌++◌, map, replicate, Option, Some, None, refl, ap, sym, ◌∙◌, arith, inl, inr, ℤ}
use Rattle.std.specs.Prelude.{option_map, option_and_then, unsigned_abs}
use Rattle.std.proofs.Math.Nat.{mul-le-mul_right}
use Rattle.std.specs.List.{range_with_len}
use Rattle.std.proofs.lemmas.Bool.{lt-ltb, le-ltb, eq-eqb, ne_eqb, cases_lt, and_parts, eqb-true}
use Rattle.std.proofs.lemmas.List.FromFn.{length-map-range_with_len}
use Rattle.muni_rule.specs.Civil.{Civil, IsCivil, order_of, month_index}
use Rattle.muni_rule.specs.DayCount.{days360}
use Rattle.muni_rule.specs.QuasiDates.{quasi_dates_between, quasi_count, is_quasi_date, days_into_period}
use Rattle.muni_rule.specs.Accrued.{interest, half_year_interest, coupon_accrued_days}
use Rattle.muni_rule.specs.Payments.{PaymentSeries, payments_of, interest_at, first_interest, unpaid_count, redemption_amount, add_to_last, coupon_payments, zero_payments, coupon_numbers, coupon_series, zero_numbers, zero_series}
use Rattle.muni_rule.specs.PaymentLaws.{IsSettlementDate, IsRedemptionDate, IsRedeemedAfter, IsCouponRedemption}
use Rattle.muni_rule.proofs.RangeLemmas.{map_map, map_in_three, map_zero}
use Rattle.muni_rule.proofs.QuasiDateLemmas.{date_at, IsLastAt, order_of-date_at, between-places}

-- the place of the last quasi-coupon date not after a date
pub record IsPlace (anchor date : Civil) (i : ℕ) : Type 0 where
  pub last : IsLastAt anchor.day (month_index anchor % 6) (order_of date) i
  pub from : 3_800 ≤ i
  pub below : i < 4_400

place-in_month : (day rest index in_month : ℕ) → 1 ≤ day → day ≤ 28 → rest < 6 → 1 ≤ in_month → in_month ≤ 31 → 22_812 ≤ index → index < 26_400 →
    (i : ℕ) × (IsLastAt day rest (31 * index + 31 + in_month) i) × (3_800 ≤ i) × (i < 4_400)
place-in_month day rest index in_month h1 h2 h3 h4 h5 h6 h7 =
    elim (cases_lt in_month day) [
      | inl before ↦ ((index - 1 - rest) / 6, record { reached = omega arith; next_not_reached = omega arith }, omega arith, omega arith)
      | inr reached ↦ ((index - rest) / 6, record { reached = omega arith; next_not_reached = omega arith }, omega arith, omega arith)
    ]

pub place : (anchor date : Civil) → IsCivil anchor → anchor.day ≤ 28 → IsSettlementDate date → (i : ℕ) × IsPlace anchor date i
place anchor date anchor_civil small settled =
    let civil = settled.civil in
    let month_from = civil.month_from in
    let month_to = civil.month_to in
    let year_from = settled.year_from in
    let year_to = settled.year_to in
    let found = place-in_month anchor.day (month_index anchor % 6) (month_index date) date.day anchor_civil.day_from small (omega arith) civil.day_from civil.day_to (omega arith) (omega arith) in
    let order : 31 * month_index date + 31 + date.day ≡ order_of date = omega arith in
    (found.0, record { last = rw order at found.1; from = found.2; below = found.3 })

pub quasi-parts : (anchor date : Civil) → is_quasi_date anchor date ≡ true → (date.day ≡ anchor.day) × (month_index date % 6 ≡ month_index anchor % 6)
quasi-parts anchor date quasi =
    let parts = and_parts (eqb date.day anchor.day) (eqb (month_index date % 6) (month_index anchor % 6)) quasi in
    (eqb-true date.day anchor.day parts.0, eqb-true (month_index date % 6) (month_index anchor % 6) parts.1)

-- a quasi-coupon date has the place of its own month
pub place-own : (anchor date : Civil) → IsRedemptionDate anchor date → IsPlace anchor date (month_index date / 6)
place-own anchor date redeemed =
    let parts = quasi-parts anchor date redeemed.quasi in
    let day = parts.0 in
    let rest = parts.1 in
    let month_from = redeemed.civil.month_from in
    let month_to = redeemed.civil.month_to in
    let year_from = redeemed.year_from in
    let year_to = redeemed.year_to in
    record { last = record { reached = omega arith; next_not_reached = omega arith }; from = omega arith; below = omega arith }

pub order-own : (anchor date : Civil) (j : ℕ) → IsCivil date → IsLastAt anchor.day (month_index anchor % 6) (order_of date) j → is_quasi_date anchor date ≡ true → order_of date ≡ 31 * (6 * j + month_index anchor % 6) + 31 + anchor.day
order-own anchor date j civil last quasi =
    let parts = quasi-parts anchor date quasi in
    let day = parts.0 in
    let rest = parts.1 in
    let month_from = civil.month_from in
    let reached = last.reached in
    let next = last.next_not_reached in
    omega arith

places-in_order : (anchor date later : Civil) (i j : ℕ) → IsPlace anchor date i → IsPlace anchor later j → order_of date ≤ order_of later → i ≤ j
places-in_order anchor date later i j at at_later order =
    let reached = at.last.reached in
    let next = at_later.last.next_not_reached in
    omega arith

-- a quasi-coupon date after a date has a later place
pub places-strictly : (anchor date later : Civil) (i j : ℕ) → IsCivil later → IsPlace anchor date i → IsPlace anchor later j → order_of date < order_of later → is_quasi_date anchor later ≡ true → i < j
places-strictly anchor date later i j civil at at_later order quasi =
    let reached = at.last.reached in
    let own = order-own anchor later j civil at_later.last quasi in
    omega arith

pub count-places : (anchor date later : Civil) (i j : ℕ) → IsPlace anchor date i → IsPlace anchor later j → i ≤ j → quasi_count anchor date later ≡ j - i
count-places anchor date later i j at at_later order =
    rw (between-places anchor date later i j at.last at_later.last at.from order at_later.below) (length-map-range_with_len (date_at anchor.day (month_index anchor % 6)) (i + 1) (j - i))

-- no more quasi-coupon dates are between two dates than between two that enclose them
pub quasi_count-within : (anchor start date later end : Civil) → IsCivil anchor → anchor.day ≤ 28 → IsSettlementDate start → IsSettlementDate date → IsSettlementDate later → IsSettlementDate end → order_of start ≤ order_of date → order_of date ≤ order_of later → order_of later ≤ order_of end →
    quasi_count anchor date later ≤ quasi_count anchor start end
quasi_count-within anchor start date later end anchor_civil small settled1 settled2 settled3 settled4 order1 order2 order3 =
    let at1 = place anchor start anchor_civil small settled1 in
    let at2 = place anchor date anchor_civil small settled2 in
    let at3 = place anchor later anchor_civil small settled3 in
    let at4 = place anchor end anchor_civil small settled4 in
    let le1 = places-in_order anchor start date at1.0 at2.0 at1.1 at2.1 order1 in
    let le2 = places-in_order anchor date later at2.0 at3.0 at2.1 at3.1 order2 in
    let le3 = places-in_order anchor later end at3.0 at4.0 at3.1 at4.1 order3 in
    rw (count-places anchor date later at2.0 at3.0 at2.1 at3.1 le2, count-places anchor start end at1.0 at4.0 at1.1 at4.1 (omega arith)) (omega arith)

-- the redemption itself is counted
pub quasi_count-redeemed : (anchor settlement redemption : Civil) → IsRedeemedAfter anchor settlement redemption → 1 ≤ quasi_count anchor settlement redemption
quasi_count-redeemed anchor settlement redemption later =
    let redeemed = later.redeemed in
    let at = place anchor settlement redeemed.anchor_civil redeemed.anchor_day later.settled in
    let own = place-own anchor redemption redeemed in
    let less = places-strictly anchor settlement redemption at.0 (month_index redemption / 6) redeemed.civil at.1 own later.after redeemed.quasi in
    rw (count-places anchor settlement redemption at.0 (month_index redemption / 6) at.1 own (omega arith)) (omega arith)

-- what is paid at the places before, at and after the first interest date
paid-before : (dated first : Civil) (coupon k : ℕ) → IsCivil first → k < month_index first / 6 → interest_at dated first coupon (date_at first.day (month_index first % 6) k) ≡ 0
paid-before dated first coupon k civil less =
    let month_from = civil.month_from in
    let before = lt-ltb (order_of (date_at first.day (month_index first % 6) k)) (order_of first) (omega (arith, order_of-date_at first.day (month_index first % 6) k)) in
    rw before refl

paid-first : (dated first : Civil) (coupon k : ℕ) → IsCivil first → k ≡ month_index first / 6 → interest_at dated first coupon (date_at first.day (month_index first % 6) k) ≡ interest coupon (days360 dated first)
paid-first dated first coupon k civil same =
    let month_from = civil.month_from in
    let order : order_of (date_at first.day (month_index first % 6) k) ≡ order_of first = omega (arith, order_of-date_at first.day (month_index first % 6) k) in
    let not_before = le-ltb (order_of (date_at first.day (month_index first % 6) k)) (order_of first) (omega arith) in
    let is_first = eq-eqb (order_of (date_at first.day (month_index first % 6) k)) (order_of first) order in
    rw (not_before, is_first) refl

paid-after : (dated first : Civil) (coupon k : ℕ) → IsCivil first → month_index first / 6 < k → interest_at dated first coupon (date_at first.day (month_index first % 6) k) ≡ half_year_interest coupon
paid-after dated first coupon k civil less =
    let month_from = civil.month_from in
    let order : order_of first < order_of (date_at first.day (month_index first % 6) k) = omega (arith, order_of-date_at first.day (month_index first % 6) k) in
    let not_before = le-ltb (order_of (date_at first.day (month_index first % 6) k)) (order_of first) (omega arith) in
    let not_first = ne_eqb (order_of (date_at first.day (month_index first % 6) k)) (order_of first) (λ e. omega arith) in
    rw (not_before, not_first) refl

paid-places : (dated first settlement redemption : Civil) (coupon i skipped rest : ℕ) → IsCivil first → IsPlace first settlement i → IsPlace first redemption (i + (skipped + suc rest)) →
    ((k : ℕ) → i + 1 ≤ k → k < i + 1 + skipped → k < month_index first / 6) → (paid : ℕ) → interest_at dated first coupon (date_at first.day (month_index first % 6) (i + 1 + skipped)) ≡ paid → month_index first / 6 ≤ i + 1 + skipped →
    map (interest_at dated first coupon) (quasi_dates_between first settlement redemption) ≡ replicate skipped 0 ++ paid ∷ replicate rest (half_year_interest coupon)
paid-places dated first settlement redemption coupon i skipped rest civil at at_end before paid here after =
    let at_place : ℕ → Civil = date_at first.day (month_index first % 6) in
    let count : i + (skipped + suc rest) - i ≡ skipped + suc rest = omega arith in
    let dates = between-places first settlement redemption i (i + (skipped + suc rest)) at.last at_end.last at.from (omega arith) at_end.below in
    let amounts = map_in_three (λ k. interest_at dated first coupon (at_place k)) paid (half_year_interest coupon) (i + 1) skipped rest
    (λ k from below. paid-before dated first coupon k civil (before k from below)) here (λ k less. paid-after dated first coupon k civil (omega arith)) in
    rw dates (rw count (map_map (interest_at dated first coupon) at_place (range_with_len (i + 1) (skipped + suc rest)) ∙ amounts))

-- the interest of an issue with coupons: zeros, the first interest, and then half a year's each time
pub record IsInterest (dated first settlement redemption : Civil) (coupon : ℕ) : Type 0 where
  pub fewer : unpaid_count first settlement < quasi_count first settlement redemption
  pub amounts : map (interest_at dated first coupon) (quasi_dates_between first settlement redemption)
      ≡ replicate (unpaid_count first settlement) 0 ++ first_interest dated first coupon settlement ∷ replicate (quasi_count first settlement redemption - unpaid_count first settlement - 1) (half_year_interest coupon)

pub first-own : (first : Civil) → is_quasi_date first first ≡ true
first-own first =
    let day = eq-eqb first.day first.day refl in
    let month = eq-eqb (month_index first % 6) (month_index first % 6) refl in
    rw (day, month) refl

-- interest begins in the years of the desk
pub first-year : (first settlement redemption : Civil) → IsCouponRedemption first settlement redemption → first.year ≤ 2199
first-year first settlement redemption coupon_redemption =
    let redeemed = coupon_redemption.later.redeemed in
    let order = coupon_redemption.first_paid in
    let to = redeemed.year_to in
    let month_to = redeemed.civil.month_to in
    let day_to = redeemed.civil.day_to in
    let month_from = redeemed.anchor_civil.month_from in
    let day_from = redeemed.anchor_civil.day_from in
    omega arith

first-redeemed : (first settlement redemption : Civil) → IsCouponRedemption first settlement redemption → IsRedemptionDate first first
first-redeemed first settlement redemption coupon_redemption =
    let redeemed = coupon_redemption.later.redeemed in
    record {
      anchor_civil = redeemed.anchor_civil;
      anchor_day = redeemed.anchor_day;
      civil = redeemed.anchor_civil;
      year_from = coupon_redemption.first_year;
      year_to = first-year first settlement redemption coupon_redemption;
      quasi = first-own first;
    }

pub is_interest : (dated first settlement redemption : Civil) (coupon : ℕ) → IsCouponRedemption first settlement redemption → IsInterest dated first settlement redemption coupon
is_interest dated first settlement redemption coupon coupon_redemption =
    let later = coupon_redemption.later in
    let redeemed = later.redeemed in
    let civil = redeemed.anchor_civil in
    let at = place first settlement civil redeemed.anchor_day later.settled in
    let i = at.0 in
    let j = month_index redemption / 6 in
    let f = month_index first / 6 in
    let at_end = place-own first redemption redeemed in
    let at_first = place-own first first (first-redeemed first settlement redemption coupon_redemption) in
    let less = places-strictly first settlement redemption i j redeemed.civil at.1 at_end later.after redeemed.quasi in
    let count = count-places first settlement redemption i j at.1 at_end (omega arith) in
    let first_le = places-in_order first first redemption f j at_first at_end coupon_redemption.first_paid in
    elim (cases_lt (order_of settlement) (order_of first)) [
      | inl before ↦
          let test = lt-ltb (order_of settlement) (order_of first) before in
          let first_less = places-strictly first settlement first i f civil at.1 at_first before (first-own first) in
          let unpaid = count-places first settlement first i f at.1 at_first (omega arith) in
          let end : i + ((f - i - 1) + suc (j - f)) ≡ j = omega arith in
          let rest : j - i - (f - i - 1) - 1 ≡ j - f = omega arith in
          let here : i + 1 + (f - i - 1) ≡ f = omega arith in
          let amounts = paid-places dated first settlement redemption coupon i (f - i - 1) (j - f) civil at.1 (rw end at_end) (λ k from below. omega arith)
          (interest coupon (days360 dated first)) (paid-first dated first coupon (i + 1 + (f - i - 1)) civil here) (omega arith) in
          record { fewer = rw (test, unpaid, count) (omega arith); amounts = rw test (rw (count, unpaid) (rw rest amounts)) }
      | inr reached ↦
          let test = le-ltb (order_of settlement) (order_of first) reached in
          let first_place = places-in_order first first settlement f i at_first at.1 reached in
          let end : i + (0 + suc (j - i - 1)) ≡ j = omega arith in
          let rest : j - i - 0 - 1 ≡ j - i - 1 = omega arith in
          let amounts = paid-places dated first settlement redemption coupon i 0 (j - i - 1) civil at.1 (rw end at_end) (λ k from below. absurd (omega arith))
          (half_year_interest coupon) (paid-after dated first coupon (i + 1 + 0) civil (omega arith)) (omega arith) in
          record { fewer = rw (test, count) (omega arith); amounts = rw test (rw count (rw rest amounts)) }
    ]

-- before the first interest date that date itself is counted
pub quasi_count-first : (first settlement : Civil) → IsCivil first → first.day ≤ 28 → first.year ≤ 2199 → IsSettlementDate settlement → order_of settlement < order_of first → 1 ≤ quasi_count first settlement first
quasi_count-first first settlement civil small to settled before =
    let from = settled.year_from in
    let month_from = settled.civil.month_from in
    let day_from = settled.civil.day_from in
    let month_to = civil.month_to in
    quasi_count-redeemed first settlement first (record {
      settled = settled;
      redeemed = record { anchor_civil = civil; anchor_day = small; civil = civil; year_from = omega arith; year_to = to; quasi = first-own first };
      after = before;
    })

pub coupon-payments : (dated first settlement redemption : Civil) (coupon price : ℕ) → IsCouponRedemption first settlement redemption →
    add_to_last (redemption_amount price) (replicate (unpaid_count first settlement) 0 ++ first_interest dated first coupon settlement ∷ replicate (quasi_count first settlement redemption - unpaid_count first settlement - 1) (half_year_interest coupon))
    ≡ coupon_payments dated first coupon settlement redemption price
unfolding coupon_payments
coupon-payments dated first settlement redemption coupon price redeemed = ap (add_to_last (redemption_amount price)) (sym (is_interest dated first settlement redemption coupon redeemed).amounts)

zeros-split : (count : ℕ) → 1 ≤ count → replicate {A = ℕ} count 0 ≡ 0 ∷ replicate (count - 0 - 1) 0
zeros-split zero some = elim some [ ]
zeros-split (suc count) some =
    let rest : suc count - 0 - 1 ≡ count = omega arith in
    rw rest refl

pub zero-payments : (maturity settlement redemption : Civil) (price : ℕ) → IsRedeemedAfter maturity settlement redemption →
    add_to_last (redemption_amount price) (0 ∷ replicate (quasi_count maturity settlement redemption - 0 - 1) 0) ≡ zero_payments maturity settlement redemption price
unfolding zero_payments
zero-payments maturity settlement redemption price later =
    let some = quasi_count-redeemed maturity settlement redemption later in
    ap (add_to_last (redemption_amount price)) (sym (map_zero (quasi_dates_between maturity settlement redemption) ∙ zeros-split (quasi_count maturity settlement redemption) some))

-- numbers that were computed have the form of the definition
chosen-both : {X : Type 0} (f : ℤ → ℤ → X) (one other : Option ℤ) (x : X) → option_and_then (λ a. option_map (f a) other) one ≡ Some x → (a : ℤ) × (b : ℤ) × (x ≡ f a b)
chosen-both f None other x h = absurd (cc)
chosen-both f (Some a) None x h = absurd (cc)
chosen-both f (Some a) (Some b) x h = (a, b, cc)

chosen-one : {X : Type 0} (f : ℤ → X) (one : Option ℤ) (x : X) → option_map f one ≡ Some x → (a : ℤ) × (x ≡ f a)
chosen-one f None x h = absurd (cc)
chosen-one f (Some a) x h = (a, cc)

pub coupon-series : (dated first settlement redemption : Civil) (coupon price : ℕ) (series : PaymentSeries) → IsCouponRedemption first settlement redemption → coupon_series dated first coupon settlement redemption price ≡ Some series →
    payments_of series ≡ coupon_payments dated first coupon settlement redemption price
coupon-series dated first settlement redemption coupon price series redeemed computed =
    let form = chosen-both (coupon_numbers dated first coupon settlement redemption price) (days_into_period first settlement) (coupon_accrued_days dated first settlement) series computed in
    ap payments_of form.2 ∙ coupon-payments dated first settlement redemption coupon price redeemed

pub zero-series : (maturity settlement redemption : Civil) (price : ℕ) (series : PaymentSeries) → IsRedeemedAfter maturity settlement redemption → zero_series maturity settlement redemption price ≡ Some series →
    payments_of series ≡ zero_payments maturity settlement redemption price
zero-series maturity settlement redemption price series later computed =
    let form = chosen-one (zero_numbers maturity settlement redemption price) (days_into_period maturity settlement) series computed in
    ap payments_of form.1 ∙ zero-payments maturity settlement redemption price later

pub interest_at_most : (coupon : ℕ) (days : ℤ) → coupon ≤ 300_000_000 → interest coupon days ≤ 30_000_000_000 * unsigned_abs days
interest_at_most coupon days most =
    let product : (100 * coupon) * unsigned_abs days ≤ 30_000_000_000 * unsigned_abs days = mul-le-mul_right (unsigned_abs days) (omega arith) in
    omega arith
