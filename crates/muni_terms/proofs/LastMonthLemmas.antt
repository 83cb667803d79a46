-- The quasi-coupon dates after a settlement and the days into its period, counted with months.
use Rattle.std.proofs.Common.{◌≡◌, ℕ, ◌+◌, ◌-◌, ◌*◌, ◌/◌, ◌%◌, ◌<◌, ◌≤◌, Some, refl, ap, ◌∙◌, arith, pos}
use Rattle.std.proofs.lemmas.List.FromFn.{length-map-range_with_len}
use Rattle.std.proofs.lemmas.Bool.Decides.{nat_tests}
use Rattle.std.proofs.lemmas.Int.{ints}
use Rattle.muni_rule.specs.Civil.{Civil, IsCivil, order_of, month_index, day_in_month}
use Rattle.muni_rule.specs.DayCount.{days360, first_counted, last_counted}
use Rattle.muni_rule.specs.QuasiDates.{last_quasi_date, quasi_count, days_into_period}
use Rattle.muni_rule.proofs.QuasiDateLemmas.{date_at, IsLastAt, between-places, last-place}
use Rattle.muni_terms.specs.LastMonth.{IsLastMonth}

month-last : (day rest order index : ℕ) → index % 6 ≡ rest → 31 * index + 31 + day ≤ order → order < 31 * index + 217 + day → IsLastAt day rest order (index / 6)
month-last day rest order index half_years reached next = record { reached = omega arith; next_not_reached = omega arith }

months-in_order : (day rest order later index later_index : ℕ) → index % 6 ≡ rest → later_index % 6 ≡ rest → 31 * index + 31 + day ≤ order → later < 31 * later_index + 217 + day → order ≤ later → index / 6 ≤ later_index / 6
months-in_order day rest order later index later_index h1 h2 h3 h4 h5 = omega arith

half_years-between : (rest index later : ℕ) → index % 6 ≡ rest → later % 6 ≡ rest → later / 6 - index / 6 ≡ (later - index) / 6
half_years-between rest index later h1 h2 = omega arith

pub quasi_count-months : (anchor start end : Civil) (index later : ℕ) → IsLastMonth anchor start index → IsLastMonth anchor end later → order_of start ≤ order_of end → quasi_count anchor start end ≡ (later - index) / 6
quasi_count-months anchor start end index later last_start last_end order =
    let rest = month_index anchor % 6 in
    let from = month-last anchor.day rest (order_of start) index last_start.half_years last_start.reached last_start.next_not_reached in
    let to = month-last anchor.day rest (order_of end) later last_end.half_years last_end.reached last_end.next_not_reached in
    let le = months-in_order anchor.day rest (order_of start) (order_of end) index later last_start.half_years last_end.half_years last_start.reached last_end.next_not_reached order in
    let low = last_start.from in
    let high = last_end.below in
    rw (
      between-places anchor start end (index / 6) (later / 6) from to (omega arith) le (omega arith),
      length-map-range_with_len (date_at anchor.day rest) (index / 6 + 1) (later / 6 - index / 6),
    ) (half_years-between rest index later last_start.half_years last_end.half_years)

last-month : (anchor settlement : Civil) (index : ℕ) → IsLastMonth anchor settlement index → last_quasi_date anchor settlement ≡ Some (day_in_month index anchor.day)
last-month anchor settlement index month =
    let is_last = month-last anchor.day (month_index anchor % 6) (order_of settlement) index month.half_years month.reached month.next_not_reached in
    let half_years = month.half_years in
    let low = month.from in
    let high = month.below in
    let same : 6 * (index / 6) + month_index anchor % 6 ≡ index = omega arith in
    last-place anchor settlement (index / 6) is_last (omega arith) (omega arith) ∙ rw same refl

first_counted-small : (day : ℕ) → day ≤ 28 → first_counted day ≡ day
first_counted-small day small = grind (arith, nat_tests)

last_counted-small : (first last : ℕ) → first ≤ 28 → last_counted first last ≡ last
last_counted-small first last small = grind (arith, nat_tests)

-- A by the months and days between
pub record IsIntoPeriod (anchor settlement : Civil) (days : ℕ) : Type 0 where
  pub counted : days_into_period anchor settlement ≡ Some (pos days)
  pub most : days ≤ 180

pub days_into_period-month : (anchor settlement : Civil) (index : ℕ) → IsLastMonth anchor settlement index → IsCivil anchor → anchor.day ≤ 28 → IsCivil settlement → IsIntoPeriod anchor settlement ((month_index settlement - index) * 30 + settlement.day - anchor.day)
days_into_period-month anchor settlement index month anchor_civil small civil =
    let reached = month.reached in
    let next = month.next_not_reached in
    let from = anchor_civil.day_from in
    let month_from = civil.month_from in
    let month_to = civil.month_to in
    let day_from = civil.day_from in
    let day_to = civil.day_to in
    let counted : days360 (day_in_month index anchor.day) settlement ≡ pos ((month_index settlement - index) * 30 + settlement.day - anchor.day) =
    rw (first_counted-small anchor.day small, last_counted-small anchor.day settlement.day small) (omega (arith, ints)) in
    record { counted = rw (last-month anchor settlement index month) (ap Some counted); most = omega arith }
