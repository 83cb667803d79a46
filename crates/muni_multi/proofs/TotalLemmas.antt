-- The sum of all payments, by the numbers of their series.
use Rattle.std.proofs.Common.{◌≡◌, ℕ, suc, zero, ◌+◌, ◌-◌, ◌*◌, ◌<◌, ◌≤◌, refl, sym, ap, ◌∙◌, subst, arith, ⊎_elim}
use Rattle.std.proofs.lemmas.Bool.{cases_lt}
use Rattle.std.proofs.lemmas.Bool.Decides.{nat_tests}
use Rattle.muni_rule.specs.ManyPeriods.{sum_to}
use Rattle.muni_rule.specs.Payments.{PaymentSeries, payment_at}
use Rattle.muni_rule.specs.PaymentLaws.{interest_at_place}
use Rattle.muni_rule.proofs.SumLemmas.{sum_to-more, sum_to-none, sum_to-same}
use Rattle.muni_rule.proofs.SeriesLemmas.{payment-early, payment-last}

place-none : (skip first regular k : ℕ) → k < skip → interest_at_place skip first regular k ≡ 0
place-none skip first regular k before = grind (arith, nat_tests)

place-first : (skip first regular k : ℕ) → k ≡ skip → interest_at_place skip first regular k ≡ first
place-first skip first regular k here = grind (arith, nat_tests)

place-later : (skip first regular k : ℕ) → skip < k → interest_at_place skip first regular k ≡ regular
place-later skip first regular k past = grind (arith, nat_tests)

-- before interest is first paid it is nothing, and from then on the first and regular ones
interest-none : (skip first regular m : ℕ) → m ≤ skip → sum_to (interest_at_place skip first regular) m ≡ 0
interest-none skip first regular zero before = sum_to-none (interest_at_place skip first regular)
interest-none skip first regular (suc m) before =
    let rest = interest-none skip first regular m (omega arith) in
    let here = place-none skip first regular m (omega arith) in
    let more = sum_to-more (interest_at_place skip first regular) m in
    omega (arith, more, rest, here)

interest-sum : (skip first regular m : ℕ) → skip < m → sum_to (interest_at_place skip first regular) m ≡ first + (m - 1 - skip) * regular
interest-sum skip first regular zero past = absurd (omega arith)
interest-sum skip first regular (suc m) past =
    let more = sum_to-more (interest_at_place skip first regular) m in
    ⊎_elim
    (λ (later : skip < m).
    let rest = interest-sum skip first regular m later in
    let here = place-later skip first regular m later in
    let count : suc m - 1 - skip ≡ suc (m - 1 - skip) = omega arith in
    rw count (omega (arith, more, rest, here)))
    (λ (order : m ≤ skip).
    let rest = interest-none skip first regular m order in
    let here = place-first skip first regular m (omega arith) in
    let count : suc m - 1 - skip ≡ 0 = omega arith in
    rw count (omega (arith, more, rest, here)))
    (cases_lt skip m)

last-sum : (series : PaymentSeries) (m : ℕ) → series.skip < series.n → series.n ≡ suc m → sum_to (payment_at series) (suc m) ≡ sum_to (interest_at_place series.skip series.first series.regular) (suc m) + series.redemption
last-sum series m some count =
    let interest = interest_at_place series.skip series.first series.regular in
    let rest = sum_to-same (payment_at series) interest m (λ k less. payment-early series k some (omega (arith, count))) in
    let last = payment-last series m some (omega (arith, count)) in
    let all = sum_to-more (payment_at series) m in
    let more = sum_to-more interest m in
    omega (arith, rest, last, all, more)

pub payments-sum : (series : PaymentSeries) → series.skip < series.n → series.first + (series.n - 1 - series.skip) * series.regular + series.redemption ≡ sum_to (payment_at series) series.n
payments-sum series some =
    let m = series.n - 1 in
    let count : series.n ≡ suc m = omega arith in
    let last = last-sum series m some count in
    let sum = interest-sum series.skip series.first series.regular series.n some in
    let same = ap (λ n. sum_to (interest_at_place series.skip series.first series.regular) n) count in
    let all = ap (λ n. sum_to (payment_at series) n) count in
    omega (arith, last, sum, same, all)
