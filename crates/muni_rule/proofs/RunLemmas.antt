-- The quasi-coupon dates from one of them on and before another: each is half a year after the one before it.
use Rattle.std.proofs.Common.{◌≡◌, ℕ, zero, suc, ◌+◌, ◌-◌, ◌*◌, ◌/◌, ◌%◌, ◌<◌, ◌≤◌, Bool, ltb, leb, ◌&&◌, min, max, ◌∷◌, map, filter, refl, sym, ap, ◌∙◌, arith}
use Rattle.std.specs.List.{range_with_len}
use Rattle.std.proofs.lemmas.Bool.Decides.{nat_tests}
use Rattle.muni_rule.specs.Civil.{Civil, order_of, is_before, is_not_after, month_index, day_in_month}
use Rattle.muni_rule.specs.QuasiDates.{quasi_dates, half_years_after}
use Rattle.muni_rule.specs.PaymentLaws.{IsRedemptionDate}
use Rattle.muni_rule.proofs.RangeLemmas.{filter_between, filter_map}
use Rattle.muni_rule.proofs.QuasiDateLemmas.{date_at, order_of-date_at, quasi_dates-places}
use Rattle.muni_rule.proofs.PaymentLemmas.{quasi-parts, place-own, order-own}

-- the place of a quasi-coupon date
record IsAt (day rest order place : ℕ) : Type 0 where
  is : order ≡ 31 * (6 * place + rest) + 31 + day
  from : 3_800 ≤ place
  below : place < 4_400

is-at : (anchor date : Civil) → IsRedemptionDate anchor date → IsAt anchor.day (month_index anchor % 6) (order_of date) (month_index date / 6)
is-at anchor date is =
    let own = place-own anchor date is in
    record { is = order-own anchor date (month_index date / 6) is.civil own.last is.quasi; from = own.from; below = own.below }

not_after-at : (day rest order place k : ℕ) → IsAt day rest order place → leb order (31 * (6 * k + rest) + 31 + day) ≡ leb place k
not_after-at day rest order place k at = let is = at.is in grind (arith, nat_tests)

before-at : (day rest order place k : ℕ) → IsAt day rest order place → ltb (31 * (6 * k + rest) + 31 + day) order ≡ ltb k place
before-at day rest order place k at = let is = at.is in grind (arith, nat_tests)

run-places : (anchor date end : Civil) → IsRedemptionDate anchor date → IsRedemptionDate anchor end → order_of date ≤ order_of end →
    filter (λ other. is_not_after date other && is_before other end) (quasi_dates anchor)
    ≡ map (date_at anchor.day (month_index anchor % 6)) (range_with_len (month_index date / 6) (month_index end / 6 - month_index date / 6))
run-places anchor date end is last order =
    let day = anchor.day in
    let rest = month_index anchor % 6 in
    let p = month_index date / 6 in
    let q = month_index end / 6 in
    let at = is-at anchor date is in
    let at_end = is-at anchor end last in
    let test : ℕ → Bool = λ k. is_not_after date (date_at day rest k) && is_before (date_at day rest k) end in
    let decides : (k : ℕ) → 3_800 ≤ k → k < 3_800 + 600 → test k ≡ leb p k && ltb k q =
    λ k from below. rw (order_of-date_at day rest k, not_after-at day rest (order_of date) p k at, before-at day rest (order_of end) q k at_end) refl in
    let filtered = filter_between test p q 3_800 600 decides in
    let low = at.from in
    let high = at_end.below in
    let from : max 3_800 p ≡ p = omega arith in
    let count : min q (3_800 + 600) - p ≡ q - p = omega arith in
    rw (quasi_dates-places anchor) (filter_map (λ other. is_not_after date other && is_before other end) (date_at day rest) (range_with_len 3_800 600) ∙ ap (map (date_at day rest)) (rw (from, count) at filtered))

map-from : {X : Type 0} (f : ℕ → X) (p start count : ℕ) → map f (range_with_len (p + start) count) ≡ map (λ k. f (p + k)) (range_with_len start count)
map-from f p start zero = refl
map-from f p start (suc count) =
    let next : p + start + 1 ≡ p + (start + 1) = omega arith in
    rw next (ap (λ items. f (p + start) ∷ items) (map-from f p (start + 1) count))

at-half_years : (anchor date : Civil) (k : ℕ) → IsRedemptionDate anchor date → date_at anchor.day (month_index anchor % 6) (month_index date / 6 + k) ≡ half_years_after date k
at-half_years anchor date k is =
    let parts = quasi-parts anchor date is.quasi in
    let rest = parts.1 in
    let index : 6 * (month_index date / 6 + k) + month_index anchor % 6 ≡ month_index date + 6 * k = omega arith in
    let day = sym parts.0 in
    λ i. day_in_month (index i) (day i)

-- the dates are those so many half years later
pub run-half_years : (anchor date end : Civil) → IsRedemptionDate anchor date → IsRedemptionDate anchor end → order_of date ≤ order_of end →
    filter (λ other. is_not_after date other && is_before other end) (quasi_dates anchor) ≡ map (half_years_after date) (range_with_len 0 ((month_index end - month_index date) / 6))
run-half_years anchor date end is last order =
    let p = month_index date / 6 in
    let rest = (quasi-parts anchor date is.quasi).1 in
    let end_rest = (quasi-parts anchor end last.quasi).1 in
    let count : month_index end / 6 - p ≡ (month_index end - month_index date) / 6 = omega arith in
    let start : p + 0 ≡ p = omega arith in
    let f = date_at anchor.day (month_index anchor % 6) in
    let moved = map-from f p 0 (month_index end / 6 - p) in
    let each = λ (k : ℕ). at-half_years anchor date k is in
    let same : map (λ k. f (p + k)) (range_with_len 0 (month_index end / 6 - p)) ≡ map (half_years_after date) (range_with_len 0 (month_index end / 6 - p)) = λ i. map (λ k. each k i) (range_with_len 0 (month_index end / 6 - p)) in
    run-places anchor date end is last order ∙ rw start at moved ∙ same ∙ ap (λ n. map (half_years_after date) (range_with_len 0 n)) count

-- a later quasi-coupon date is half a year later at least
pub half_year-later : (anchor date later : Civil) → IsRedemptionDate anchor date → IsRedemptionDate anchor later → order_of date < order_of later → month_index date + 6 ≤ month_index later
half_year-later anchor date later is also less =
    let at = (is-at anchor date is).is in
    let at_later = (is-at anchor later also).is in
    let rest = (quasi-parts anchor date is.quasi).1 in
    let later_rest = (quasi-parts anchor later also.quasi).1 in
    omega arith

-- and one that is not earlier is in no earlier month
pub months-in_order : (anchor date later : Civil) → IsRedemptionDate anchor date → IsRedemptionDate anchor later → order_of date ≤ order_of later → month_index date ≤ month_index later
months-in_order anchor date later is also less =
    let at = (is-at anchor date is).is in
    let at_later = (is-at anchor later also).is in
    let rest = (quasi-parts anchor date is.quasi).1 in
    let later_rest = (quasi-parts anchor later also.quasi).1 in
    omega arith
