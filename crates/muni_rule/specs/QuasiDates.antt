-- Quasi-coupon dates (SIA, Standard Securities Calculation Methods): all dates at whole multiples of
-- six months before and after an anchor, which is the first interest date, or the maturity of an
-- issue that pays no interest.
use Rattle.std.specs.Prelude.{ℕ, ◌+◌, ◌*◌, ◌%◌, ◌==◌, ◌&&◌, Bool, List, length, map, filter, Option, None, option_map, ℤ}
use Rattle.std.specs.List.{range_with_len, last_or}
use Rattle.muni_rule.specs.Civil.{Civil, month_index, day_in_month, is_before, is_not_after}
use Rattle.muni_rule.specs.DayCount.{days360}

-- the months of the desk, from January 1900 to December 2199
unfoldable pub desk_months : List ℕ
desk_months = range_with_len 22_800 3_600

-- the quasi-coupon dates of an anchor, in order of date
unfoldable pub quasi_dates : Civil → List Civil
quasi_dates anchor =
    map (λ index. day_in_month index anchor.day)
    (filter (λ index. index % 6 == month_index anchor % 6) desk_months)

-- the last of them that is not after a settlement
unfoldable pub last_quasi_date : Civil → Civil → Option Civil
last_quasi_date anchor settlement =
    last_or None (filter (λ date. is_not_after date settlement) (quasi_dates anchor))

-- those after one date and not after another
unfoldable pub quasi_dates_between : Civil → Civil → Civil → List Civil
quasi_dates_between anchor start end =
    filter (λ date. is_before start date && is_not_after date end) (quasi_dates anchor)

-- n, the number of those
abbrev pub quasi_count : Civil → Civil → Civil → ℕ
quasi_count anchor start end = length (quasi_dates_between anchor start end)

-- A, the days from the last quasi-coupon date not after a settlement up to the settlement
abbrev pub days_into_period : Civil → Civil → Option ℤ
days_into_period anchor settlement =
    option_map (λ date. days360 date settlement) (last_quasi_date anchor settlement)

-- the date so many half years after another, on the same day of the month
abbrev pub half_years_after : Civil → ℕ → Civil
half_years_after date half_years = day_in_month (month_index date + 6 * half_years) date.day

-- a date is one of them, as its day and its month tell
abbrev pub is_quasi_date : Civil → Civil → Bool
is_quasi_date anchor date =
    (date.day == anchor.day) && (month_index date % 6 == month_index anchor % 6)
