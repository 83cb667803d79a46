-- The price of two payments or more falls as the yield rises.
use Rattle.std.proofs.Common.{◌≡◌, ℕ, suc, zero, ◌+◌, ◌-◌, ◌*◌, ◌^◌, ◌<◌, ◌≤◌, ◌≢◌, ◌⊎◌, ⊎_elim, inl, inr, ◌∙◌, subst, arith, lit<, refl, ℤ, pos, negsuc, ◌+ℤ◌, ◌<ℤ◌}
use Rattle.std.proofs.lemmas.Int.{ints}
use Rattle.std.proofs.lemmas.Bool.{cases_lt}
use Rattle.std.proofs.Math.Nat.{mul-le-mul_left, mul-le-mul_right, lt_of_mul-lt-mul_left, lt_of_mul-lt-mul_right, mul-lt-mul_of_pos_right, mul-lt-mul_of_pos_left, mul-pos, pow-le-pow_left, pow-lt-pow_left, one-le-pow, pow-suc}
use Rattle.std.proofs.lemmas.Nat.{mul-pow}
use Rattle.muni_rule.specs.Payments.{PaymentSeries, IsSeries, payment_at}
use Rattle.muni_rule.specs.ManyPeriods.{PeriodicPayments, to_come, discount_divisor, discounted_sum, asked_power, worth_power, IsWorthAtLeast, IsWorthMore, DirtyAtLeast, DirtyMore, AtLeast, More}
use Rattle.muni_rule.specs.PrintedYield.{Falls}
use Rattle.muni_rule.proofs.PowerLemmas.{not-zero, pow-split}
use Rattle.muni_rule.proofs.SumLemmas.{tail_sum, tail_sum-more, tail_sum-none, tail_sum-all, tail_sum-some}
use Rattle.muni_rule.proofs.SeriesLemmas.{worth_power-series, asked_power-series}
use Rattle.muni_rule.proofs.VerdictLemmas.{apart}
use Rattle.muni_rule.proofs.ManyPeriodLemmas.{payment-last_some, worth_power-some}
use Rattle.muni_rule.proofs.OutcomeLemmas.{Decided}

-- ---- the sum of the payments, counted in one power more of the divisor
weak_step : (first h v w rest_v rest_w powers_v powers_w : ℕ) → v ≤ w → rest_w * (w * powers_v) ≤ rest_v * (v * powers_w) → (first * powers_w + h * rest_w) * (w * (powers_v * v)) ≤ (first * powers_v + h * rest_v) * (v * (powers_w * w))
weak_step first h v w rest_v rest_w powers_v powers_w rises rest =
    let times : rest_w * (w * powers_v) * (h * v) ≤ rest_v * (v * powers_w) * (h * v) = mul-le-mul_right (h * v) rest in
    let wider : rest_v * (v * powers_w) * h * v ≤ rest_v * (v * powers_w) * h * w = mul-le-mul_left (rest_v * (v * powers_w) * h) rises in
    omega (arith, times, wider)

strict_step : (first h v w rest_v rest_w powers_v powers_w : ℕ) → v < w → 0 < rest_v * (v * powers_w) * h → rest_w * (w * powers_v) ≤ rest_v * (v * powers_w) → (first * powers_w + h * rest_w) * (w * (powers_v * v)) < (first * powers_v + h * rest_v) * (v * (powers_w * w))
strict_step first h v w rest_v rest_w powers_v powers_w rises some rest =
    let times : rest_w * (w * powers_v) * (h * v) ≤ rest_v * (v * powers_w) * (h * v) = mul-le-mul_right (h * v) rest in
    let wider : rest_v * (v * powers_w) * h * v < rest_v * (v * powers_w) * h * w = mul-lt-mul_of_pos_left rises some in
    omega (arith, times, wider)

sum_falls-weak : (a : ℕ → ℕ) (h v w m j : ℕ) → v ≤ w → tail_sum a h w m j * (w * v ^ m) ≤ tail_sum a h v m j * (v * w ^ m)
sum_falls-weak a h v w zero j rises = let none = tail_sum-none a h w j in rw (none) (omega arith)
sum_falls-weak a h v w (suc m) j rises =
    rw (tail_sum-more a h v m j, tail_sum-more a h w m j, pow-suc v m, pow-suc w m)
    (weak_step (a j) h v w (tail_sum a h v m (suc j)) (tail_sum a h w m (suc j)) (v ^ m) (w ^ m) rises (sum_falls-weak a h v w m (suc j) rises))

-- the first step of two payments or more is strict, as the last payment is above 0
sum_falls-strict : (a : ℕ → ℕ) (h v w m j : ℕ) → 0 < h → 0 < v → v < w → 0 < a (suc j + m) → tail_sum a h w (suc (suc m)) j * (w * v ^ suc (suc m)) < tail_sum a h v (suc (suc m)) j * (v * w ^ suc (suc m))
sum_falls-strict a h v w m j some_h some_v rises last =
    let rest : 0 < tail_sum a h v (suc m) (suc j) = tail_sum-some a h v m (suc j) some_h last in
    let powers : 0 < v * w ^ suc m = mul-pos some_v (one-le-pow (suc m) w (omega arith)) in
    rw (tail_sum-more a h v (suc m) j, tail_sum-more a h w (suc m) j, pow-suc v (suc m), pow-suc w (suc m))
    (strict_step (a j) h v w (tail_sum a h v (suc m) (suc j)) (tail_sum a h w (suc m) (suc j)) (v ^ suc m) (w ^ suc m) rises (mul-pos (mul-pos rest powers) some_h) (sum_falls-weak a h v w (suc m) (suc j) (omega arith)))

cancelled : (sum_v sum_w v w powers_v powers_w : ℕ) → sum_w * (w * (powers_v * v)) < sum_v * (v * (powers_w * w)) → sum_w * powers_v < sum_v * powers_w
cancelled sum_v sum_w v w powers_v powers_w less =
    let turned : v * w * (sum_w * powers_v) < v * w * (sum_v * powers_w) = omega (arith, less) in
    lt_of_mul-lt-mul_left (v * w) turned

sum_falls : (a : ℕ → ℕ) (h v w n : ℕ) → 2 ≤ n → 0 < h → 0 < v → v < w → 0 < a (n - 1) → discounted_sum a h w n * v ^ (n - 1) < discounted_sum a h v n * w ^ (n - 1)
sum_falls a h v w zero many some_h some_v rises last = absurd (omega arith)
sum_falls a h v w (suc zero) many some_h some_v rises last = absurd (omega arith)
sum_falls a h v w (suc (suc m)) many some_h some_v rises last =
    let place : suc (suc m) - 1 ≡ suc 0 + m = omega arith in
    let above : 0 < a (suc 0 + m) = subst (λ k. 0 < a k) place last in
    let less : tail_sum a h w (suc (suc m)) 0 * (w * (v ^ suc m * v)) < tail_sum a h v (suc (suc m)) 0 * (v * (w ^ suc m * w)) = rw (← pow-suc v (suc m), ← pow-suc w (suc m)) (sum_falls-strict a h v w m 0 some_h some_v rises above) in
    let all : tail_sum a h w (suc (suc m)) 0 * v ^ suc m < tail_sum a h v (suc (suc m)) 0 * w ^ suc m = cancelled (tail_sum a h v (suc (suc m)) 0) (tail_sum a h w (suc (suc m)) 0) v w (v ^ suc m) (w ^ suc m) less in
    let exponent : suc (suc m) - 1 ≡ suc m = omega arith in
    rw (exponent, ← tail_sum-all a h w (suc (suc m)), ← tail_sum-all a h v (suc (suc m))) all

-- ---- its powers
joined : (x sum_v sum_w half powers_v part_v powers_w part_w : ℕ) → 0 < half * part_v → part_v ≤ part_w → sum_w * powers_v < sum_v * powers_w → x * (powers_w * part_w) ≤ sum_w * half → x * (powers_v * part_v) < sum_v * half
joined x sum_v sum_w half powers_v part_v powers_w part_w some rises falls asked =
    let one : x * (powers_w * part_w) * (powers_v * part_v) ≤ sum_w * half * (powers_v * part_v) = mul-le-mul_right (powers_v * part_v) asked in
    let two : sum_w * powers_v * (half * part_v) < sum_v * powers_w * (half * part_v) = mul-lt-mul_of_pos_right falls some in
    let three : sum_v * powers_w * half * part_v ≤ sum_v * powers_w * half * part_w = mul-le-mul_left (sum_v * powers_w * half) rises in
    let all : x * (powers_v * part_v) * (powers_w * part_w) < sum_v * half * (powers_w * part_w) = omega (arith, one, two, three) in
    lt_of_mul-lt-mul_right (powers_w * part_w) all

power_falls : (k m e x v w sum_v sum_w h : ℕ) → k ≢ 0 → 0 < h → 0 < v → v ≤ w → sum_w * v ^ m < sum_v * w ^ m → x * w ^ (m * k + e) ≤ sum_w ^ k * h ^ e → x * v ^ (m * k + e) < sum_v ^ k * h ^ e
power_falls k m e x v w sum_v sum_w h many some_h some_v rises falls asked =
    let raised : (sum_w * v ^ m) ^ k < (sum_v * w ^ m) ^ k = pow-lt-pow_left falls many in
    let split : sum_w ^ k * (v ^ m) ^ k < sum_v ^ k * (w ^ m) ^ k = rw (mul-pow sum_w (v ^ m) k, mul-pow sum_v (w ^ m) k) at raised in
    let parts : x * ((w ^ m) ^ k * w ^ e) ≤ sum_w ^ k * h ^ e = rw (pow-split w m k e) at asked in
    rw (pow-split v m k e)
    (joined x (sum_v ^ k) (sum_w ^ k) (h ^ e) ((v ^ m) ^ k) (v ^ e) ((w ^ m) ^ k) (w ^ e) (mul-pos (one-le-pow e h some_h) (one-le-pow e v some_v)) (pow-le-pow_left rises e) split parts)

-- ---- the payments of a series
-- a lower yield has a lower divisor, or both have none
divisor-rises : (y z : ℤ) → y <ℤ z → (discount_divisor y < discount_divisor z) ⊎ (discount_divisor y ≡ 0)
divisor-rises (pos m) (pos n) less = inl (omega (arith, ints))
divisor-rises (pos m) (negsuc n) less = absurd (omega (arith, ints))
divisor-rises (negsuc m) (pos n) less = inl (omega (arith, ints))
divisor-rises (negsuc m) (negsuc n) less =
    let order : n < m = omega (arith, ints) in
    ⊎_elim
    (λ (above : m < 1999999). inl (omega (arith, order, above)))
    (λ (none : 1999999 ≤ m). inr (omega (arith, none)))
    (cases_lt m 1999999)

-- at no divisor nothing is asked for
asked-none : (v e x : ℕ) → v ≡ 0 → 0 < e → x * v ^ e ≡ 0
asked-none v zero x none some = absurd (omega arith)
asked-none v (suc e) x none some = rw (none, pow-suc 0 e) (omega arith)

none-asked : (series : PaymentSeries) (y : ℤ) (x : ℕ) → IsSeries series → 2 ≤ series.n → discount_divisor y ≡ 0 → asked_power (to_come series) y x ≡ 0
none-asked series y x is many none = asked_power-series series y x is.skip ∙ asked-none (discount_divisor y) ((series.n - 1) * 180 + (180 - series.a)) (x ^ 180) none (omega arith)

falls-strict : (series : PaymentSeries) (y z : ℤ) (x : ℕ) → IsSeries series → 2 ≤ series.n → 0 < discount_divisor y → discount_divisor y < discount_divisor z → asked_power (to_come series) z x ≤ worth_power (to_come series) z → asked_power (to_come series) y x < worth_power (to_come series) y
falls-strict series y z x is many some rises asked =
    let at : x ^ 180 * discount_divisor z ^ ((series.n - 1) * 180 + (180 - series.a)) ≤ discounted_sum (payment_at series) 2000000 (discount_divisor z) series.n ^ 180 * 2000000 ^ (180 - series.a) = rw (asked_power-series series z x is.skip, worth_power-series series z is.skip) at asked in
    rw (asked_power-series series y x is.skip, worth_power-series series y is.skip)
    (power_falls 180 (series.n - 1) (180 - series.a) (x ^ 180) (discount_divisor y) (discount_divisor z) (discounted_sum (payment_at series) 2000000 (discount_divisor y) series.n) (discounted_sum (payment_at series) 2000000 (discount_divisor z) series.n) 2000000
    not-zero (lit< tt) some (omega arith) (sum_falls (payment_at series) 2000000 (discount_divisor y) (discount_divisor z) series.n many (lit< tt) some rises (payment-last_some series is)) at)

zero_or_some : (v : ℕ) → (v ≡ 0) ⊎ (0 < v)
zero_or_some zero = inl refl
zero_or_some (suc v) = inr (omega arith)

worth-falls : (series : PaymentSeries) (y z : ℤ) (x : ℕ) → IsSeries series → 2 ≤ series.n → y <ℤ z → IsWorthAtLeast (to_come series) z x → IsWorthMore (to_come series) y x
worth-falls series y z x is many less at =
    let none-more : discount_divisor y ≡ 0 → IsWorthMore (to_come series) y x = λ none. record { more = rw (none-asked series y x is many none) (worth_power-some series y is) } in
    ⊎_elim
    (λ (rises : discount_divisor y < discount_divisor z). ⊎_elim
    none-more
    (λ (some : 0 < discount_divisor y). record { more = falls-strict series y z x is many some rises at.at_least })
    (zero_or_some (discount_divisor y)))
    none-more
    (divisor-rises y z less)

-- ---- the price
dirty-more : (bond : PeriodicPayments) (y amount : ℤ) → DirtyMore bond y amount → DirtyAtLeast bond y amount
dirty-more bond y (pos x) more = let strict = more.more in record { at_least = omega (arith, strict) }
dirty-more bond y (negsuc x) more = tt

dirty-falls : (series : PaymentSeries) (y z amount : ℤ) → IsSeries series → 2 ≤ series.n → y <ℤ z → DirtyAtLeast (to_come series) z amount → DirtyMore (to_come series) y amount
dirty-falls series y z (pos x) is many less at = worth-falls series y z x is many less at
dirty-falls series y z (negsuc x) is many less at = tt

pub many_periods-fall : (series : PaymentSeries) (amount : ℤ) → IsSeries series → 2 ≤ series.n → Falls (λ y. AtLeast (to_come series) y amount) (λ y. More (to_come series) y amount)
many_periods-fall series amount is many = record {
  more = λ y more. dirty-more (to_come series) y (amount +ℤ pos series.accrued) more;
  lower = λ y z less at. dirty-falls series y z (amount +ℤ pos series.accrued) is many less at;
}

dirty-at_least_decided : (bond : PeriodicPayments) (y amount : ℤ) → Decided (DirtyAtLeast bond y amount)
dirty-at_least_decided bond y (pos x) =
    ⊎_elim
    (λ (less : worth_power bond y < asked_power bond y x). inr (λ at. apart _ _ less at.at_least))
    (λ (order : asked_power bond y x ≤ worth_power bond y). inl (record { at_least = order }))
    (cases_lt (worth_power bond y) (asked_power bond y x))
dirty-at_least_decided bond y (negsuc x) = inl tt

dirty-more_decided : (bond : PeriodicPayments) (y amount : ℤ) → Decided (DirtyMore bond y amount)
dirty-more_decided bond y (pos x) =
    ⊎_elim
    (λ (less : asked_power bond y x < worth_power bond y). inl (record { more = less }))
    (λ (order : worth_power bond y ≤ asked_power bond y x). inr (λ more. apart _ _ more.more order))
    (cases_lt (asked_power bond y x) (worth_power bond y))
dirty-more_decided bond y (negsuc x) = inl tt

pub at_least-decided : (bond : PeriodicPayments) (y amount : ℤ) → Decided (AtLeast bond y amount)
at_least-decided bond y amount = dirty-at_least_decided bond y (amount +ℤ pos bond.accrued)

pub more-decided : (bond : PeriodicPayments) (y amount : ℤ) → Decided (More bond y amount)
more-decided bond y amount = dirty-more_decided bond y (amount +ℤ pos bond.accrued)
