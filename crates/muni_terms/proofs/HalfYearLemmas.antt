-- The same day of the month so many half years later.
use Rattle.std.proofs.Common.{◌≡◌, ℕ, ◌+◌, ◌*◌, ◌/◌, ◌%◌, ◌<◌, ◌≤◌, ap, arith, ℤ, pos, ◌+ℤ◌, unsigned_abs}
use Rattle.std.proofs.lemmas.Int.{ints}
use Rattle.muni_rule.specs.Civil.{Civil, IsCivil, month_index, day_in_month, months_on}
use Rattle.muni_rule.specs.QuasiDates.{half_years_after}
use Rattle.muni_days.proofs.EarlyLemmas.{IsEarly}

-- so many months
pub months-half_years : (date : Civil) (half_years : ℕ) (months : ℤ) → months ≡ pos (6 * half_years) → months_on date months ≡ half_years_after date half_years
months-half_years date half_years months is =
    let index : unsigned_abs (pos (month_index date) +ℤ months) ≡ month_index date + 6 * half_years = omega (arith, ints, is) in
    ap (λ m. day_in_month m date.day) index

-- none
pub half_years-none : (date : Civil) (half_years : ℕ) → IsCivil date → half_years ≡ 0 → date ≡ half_years_after date half_years
half_years-none date half_years civil none =
    let low = civil.month_from in
    let high = civil.month_to in
    let year : date.year ≡ (month_index date + 6 * half_years) / 12 = omega arith in
    let month : date.month ≡ (month_index date + 6 * half_years) % 12 + 1 = omega arith in
    λ i. record { year = year i; month = month i; day = date.day }

-- it is a day of the desk
pub half_years-early : (date : Civil) (half_years : ℕ) → IsCivil date → 1900 ≤ date.year → date.day ≤ 28 → month_index date + 6 * half_years < 26_400 → IsEarly (half_years_after date half_years)
half_years-early date half_years civil from day below =
    let low = civil.month_from in
    let high = civil.month_to in
    record {
      year_from = omega arith;
      year_to = omega arith;
      month_from = omega arith;
      month_to = omega arith;
      day_from = civil.day_from;
      day_to = day;
    }
