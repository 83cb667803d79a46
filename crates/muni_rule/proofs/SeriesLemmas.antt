-- The payments that the numbers of a series mean, place by place.
use Rattle.std.proofs.Common.{◌≡◌, ℕ, suc, zero, ◌+◌, ◌-◌, ◌*◌, ◌^◌, ◌<◌, List, [], ◌∷◌, ◌++◌, length, replicate, slice_index_or, false, true, eqb, inl, inr, refl, sym, ap, ◌∙◌, arith}
use Rattle.std.proofs.lemmas.Bool.{cases_lt}
use Rattle.std.proofs.lemmas.Bool.Decides.{nat_tests}
use Rattle.std.proofs.lemmas.List.{length-append, length-replicate, get_or-replicate}
use Rattle.std.specs.Prelude.{ℤ}
use Rattle.muni_rule.specs.Payments.{PaymentSeries, payments_of, payment_at, add_to_last}
use Rattle.muni_rule.specs.PaymentLaws.{interest_at_place, PaymentsAreByPlace}
use Rattle.muni_rule.specs.ManyPeriods.{to_come, discount_divisor, discounted_sum, whole_sum, worth_power, asked_power}

add_to_last-length : (amount : ℕ) (payments : List ℕ) → length (add_to_last amount payments) ≡ length payments
add_to_last-length amount [] = refl
add_to_last-length amount (payment ∷ []) = refl
add_to_last-length amount (payment ∷ next ∷ rest) = ap suc (add_to_last-length amount (next ∷ rest))

add_to_last-early : (amount : ℕ) (payments : List ℕ) (k : ℕ) → k + 1 < length payments → slice_index_or (add_to_last amount payments) k 0 ≡ slice_index_or payments k 0
add_to_last-early amount [] k early = absurd (omega arith)
add_to_last-early amount (payment ∷ []) k early = absurd (omega arith)
add_to_last-early amount (payment ∷ next ∷ rest) zero early = refl
add_to_last-early amount (payment ∷ next ∷ rest) (suc k) early = add_to_last-early amount (next ∷ rest) k (omega arith)

add_to_last-last : (amount : ℕ) (payments : List ℕ) (k : ℕ) → k + 1 ≡ length payments → slice_index_or (add_to_last amount payments) k 0 ≡ slice_index_or payments k 0 + amount
add_to_last-last amount [] k last = absurd (omega arith)
add_to_last-last amount (payment ∷ []) zero last = refl
add_to_last-last amount (payment ∷ []) (suc k) last = absurd (omega arith)
add_to_last-last amount (payment ∷ next ∷ rest) zero last = absurd (omega arith)
add_to_last-last amount (payment ∷ next ∷ rest) (suc k) last = add_to_last-last amount (next ∷ rest) k (omega arith)

next_place : (skip first regular k : ℕ) → interest_at_place skip first regular k ≡ interest_at_place (suc skip) first regular (suc k)
next_place skip first regular k = grind (arith, nat_tests)

first_place : (skip first regular : ℕ) → 0 ≡ interest_at_place (suc skip) first regular 0
first_place skip first regular = grind (arith, nat_tests)

later_place : (first regular k : ℕ) → interest_at_place 0 first regular (suc k) ≡ regular
later_place first regular k = grind (arith, nat_tests)

pub interest-places : (skip later first regular k : ℕ) → k < skip + suc later → slice_index_or (replicate skip 0 ++ first ∷ replicate later regular) k 0 ≡ interest_at_place skip first regular k
interest-places zero later first regular zero within = refl
interest-places zero later first regular (suc k) within = get_or-replicate later k regular 0 (omega arith) ∙ sym (later_place first regular k)
interest-places (suc skip) later first regular zero within = first_place skip first regular
interest-places (suc skip) later first regular (suc k) within = interest-places skip later first regular k (omega arith) ∙ next_place skip first regular k

pub interest-count : (skip later first regular : ℕ) → length (replicate skip 0 ++ first ∷ replicate later regular) ≡ skip + suc later
interest-count skip later first regular =
    let none : length {A = ℕ} (replicate skip 0) ≡ skip = length-replicate skip 0 in
    let rest : length (replicate later regular) ≡ later = length-replicate later regular in
    length-append (replicate skip 0) (first ∷ replicate later regular) ∙ rw (none, rest) refl

pub payments-count : (series : PaymentSeries) → series.skip < series.n → length (payments_of series) ≡ series.n
payments-count series some =
    let count : series.skip + suc (series.n - series.skip - 1) ≡ series.n = omega arith in
    add_to_last-length series.redemption (replicate series.skip 0 ++ series.first ∷ replicate (series.n - series.skip - 1) series.regular)
    ∙ (interest-count series.skip (series.n - series.skip - 1) series.first series.regular ∙ count)

pub payment-early : (series : PaymentSeries) (k : ℕ) → series.skip < series.n → k + 1 < series.n → payment_at series k ≡ interest_at_place series.skip series.first series.regular k
payment-early series k some early =
    let count = interest-count series.skip (series.n - series.skip - 1) series.first series.regular in
    add_to_last-early series.redemption (replicate series.skip 0 ++ series.first ∷ replicate (series.n - series.skip - 1) series.regular) k (omega (arith, count))
    ∙ interest-places series.skip (series.n - series.skip - 1) series.first series.regular k (omega arith)

pub payment-last : (series : PaymentSeries) (k : ℕ) → series.skip < series.n → k + 1 ≡ series.n → payment_at series k ≡ interest_at_place series.skip series.first series.regular k + series.redemption
payment-last series k some last =
    let count = interest-count series.skip (series.n - series.skip - 1) series.first series.regular in
    add_to_last-last series.redemption (replicate series.skip 0 ++ series.first ∷ replicate (series.n - series.skip - 1) series.regular) k (omega (arith, count))
    ∙ ap (λ x. x + series.redemption) (interest-places series.skip (series.n - series.skip - 1) series.first series.regular k (omega arith))

-- the sum over the list is that over the places of the series
pub whole_sum-series : (series : PaymentSeries) (y : ℤ) → series.skip < series.n → whole_sum (to_come series) y ≡ discounted_sum (payment_at series) 2000000 (discount_divisor y) series.n
whole_sum-series series y some = ap (λ n. discounted_sum (payment_at series) 2000000 (discount_divisor y) n) (payments-count series some)

pub worth_power-series : (series : PaymentSeries) (y : ℤ) → series.skip < series.n → worth_power (to_come series) y ≡ discounted_sum (payment_at series) 2000000 (discount_divisor y) series.n ^ 180 * 2000000 ^ (180 - series.a)
worth_power-series series y some = ap (λ t. t ^ 180 * 2000000 ^ (180 - series.a)) (whole_sum-series series y some)

pub asked_power-series : (series : PaymentSeries) (y : ℤ) (x : ℕ) → series.skip < series.n → asked_power (to_come series) y x ≡ x ^ 180 * discount_divisor y ^ ((series.n - 1) * 180 + (180 - series.a))
asked_power-series series y x some = ap (λ n. x ^ 180 * discount_divisor y ^ ((n - 1) * 180 + (180 - series.a))) (payments-count series some)

-- each payment by its place
pub payment-place : PaymentsAreByPlace
payment-place series k some within =
    elim (cases_lt (k + 1) series.n) [
      | inl early ↦
          let test : eqb (k + 1) series.n ≡ false = grind (arith, nat_tests) in
          rw test (payment-early series k some early ∙ omega arith)
      | inr last ↦
          let test : eqb (k + 1) series.n ≡ true = grind (arith, nat_tests) in
          rw test (payment-last series k some (omega arith))
    ]
