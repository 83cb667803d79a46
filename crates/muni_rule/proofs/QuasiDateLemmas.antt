-- The quasi-coupon dates of an anchor by their places: the k-th is k half years after the year 0.
use Rattle.std.proofs.Common.{◌≡◌, ℕ, ◌+◌, ◌-◌, ◌*◌, ◌%◌, ◌<◌, ◌≤◌, Bool, true, eqb, ltb, leb, ◌&&◌, min, max, map, filter, Some, None, refl, ap, ◌∙◌, arith}
use Rattle.std.specs.List.{range_with_len, last_or}
use Rattle.std.proofs.lemmas.Bool.Decides.{nat_tests}
use Rattle.muni_rule.specs.Civil.{Civil, order_of, is_before, is_not_after, month_index, day_in_month}
use Rattle.muni_rule.specs.QuasiDates.{desk_months, quasi_dates, last_quasi_date, quasi_dates_between}
use Rattle.muni_rule.proofs.RangeLemmas.{filter_between, filter_sixths, filter_map, map_map, last_of_range}

-- the date with this day at a place, if months leave `rest` when they are cut into half years
abbrev pub date_at : ℕ → ℕ → ℕ → Civil
date_at day rest k = day_in_month (6 * k + rest) day

pub order_of-date_at : (day rest k : ℕ) → order_of (date_at day rest k) ≡ 31 * (6 * k + rest) + 31 + day
order_of-date_at day rest k = omega arith

quasi_dates-between_years : (anchor : Civil) (start count : ℕ) →
    map (λ index. day_in_month index anchor.day) (filter (λ index. eqb (index % 6) (month_index anchor % 6)) (range_with_len (6 * start) (6 * count)))
    ≡ map (date_at anchor.day (month_index anchor % 6)) (range_with_len start count)
quasi_dates-between_years anchor start count =
    rw (filter_sixths (month_index anchor % 6) start count (omega arith)) (map_map (λ index. day_in_month index anchor.day) (λ k. 6 * k + month_index anchor % 6) (range_with_len start count))

pub quasi_dates-places : (anchor : Civil) → quasi_dates anchor ≡ map (date_at anchor.day (month_index anchor % 6)) (range_with_len 3_800 600)
unfolding quasi_dates desk_months
quasi_dates-places anchor = quasi_dates-between_years anchor 3_800 600

-- the date at a place is the last one not after a date, which is at `order` in the order of dates
pub record IsLastAt (day rest order k : ℕ) : Type 0 where
  pub reached : 31 * (6 * k + rest) + 31 + day ≤ order
  pub next_not_reached : order < 31 * (6 * k + rest) + 217 + day

not_after-last : (day rest order last k : ℕ) → IsLastAt day rest order last → leb (31 * (6 * k + rest) + 31 + day) order ≡ ltb k (last + 1)
not_after-last day rest order last k is_last = grind (arith, nat_tests)

after-last : (day rest order last k : ℕ) → IsLastAt day rest order last → ltb order (31 * (6 * k + rest) + 31 + day) ≡ leb (last + 1) k
after-last day rest order last k is_last = grind (arith, nat_tests)

pub between-places : (anchor start end : Civil) (i j : ℕ) → IsLastAt anchor.day (month_index anchor % 6) (order_of start) i → IsLastAt anchor.day (month_index anchor % 6) (order_of end) j → 3_800 ≤ i → i ≤ j → j < 4_400 →
    quasi_dates_between anchor start end ≡ map (date_at anchor.day (month_index anchor % 6)) (range_with_len (i + 1) (j - i))
unfolding quasi_dates_between
between-places anchor start end i j last_start last_end low le high =
    let day = anchor.day in
    let rest = month_index anchor % 6 in
    let test : ℕ → Bool = λ k. is_before start (date_at day rest k) && is_not_after (date_at day rest k) end in
    let decides : (k : ℕ) → 3_800 ≤ k → k < 3_800 + 600 → test k ≡ leb (i + 1) k && ltb k (j + 1) =
    λ k from below. rw (order_of-date_at day rest k, after-last day rest (order_of start) i k last_start, not_after-last day rest (order_of end) j k last_end) refl in
    let filtered = filter_between test (i + 1) (j + 1) 3_800 600 decides in
    let from : max 3_800 (i + 1) ≡ i + 1 = omega arith in
    let count : min (j + 1) (3_800 + 600) - (i + 1) ≡ j - i = omega arith in
    rw (quasi_dates-places anchor) (filter_map (λ date. is_before start date && is_not_after date end) (date_at day rest) (range_with_len 3_800 600) ∙ ap (map (date_at day rest)) (rw (from, count) at filtered))

last-in_range : (day rest low count i : ℕ) (settlement : Civil) → IsLastAt day rest (order_of settlement) i → low ≤ i → i < low + count →
    last_or None (filter (λ date. is_not_after date settlement) (map (date_at day rest) (range_with_len low count))) ≡ Some (date_at day rest i)
last-in_range day rest low count i settlement is_last from below =
    let test : ℕ → Bool = λ k. is_not_after (date_at day rest k) settlement in
    let decides : (k : ℕ) → low ≤ k → k < low + count → test k ≡ leb low k && ltb k (i + 1) = λ k from_low below_end.
    let holds : leb low k ≡ true = grind (arith, nat_tests) in
    rw (order_of-date_at day rest k, not_after-last day rest (order_of settlement) i k is_last, holds) refl in
    let filtered = filter_between test low (i + 1) low count decides in
    let same_start : max low low ≡ low = omega arith in
    let length_is : min (i + 1) (low + count) - low ≡ i - low + 1 = omega arith in
    let end_is : low + (i - low) ≡ i = omega arith in
    let last = last_of_range (date_at day rest) None low (i - low) in
    rw (filter_map (λ date. is_not_after date settlement) (date_at day rest) (range_with_len low count), rw (same_start, length_is) at filtered) (rw end_is at last)

pub last-place : (anchor settlement : Civil) (i : ℕ) → IsLastAt anchor.day (month_index anchor % 6) (order_of settlement) i → 3_800 ≤ i → i < 4_400 → last_quasi_date anchor settlement ≡ Some (date_at anchor.day (month_index anchor % 6) i)
unfolding last_quasi_date
last-place anchor settlement i is_last low high =
    rw (quasi_dates-places anchor) (last-in_range anchor.day (month_index anchor % 6) 3_800 600 i settlement is_last low high)
