-- The sum from the last payment to the first, turn by turn.
use Rattle.std.proofs.Common.{◌≡◌, ℕ, suc, ◌+◌, ◌-◌, ◌*◌, ◌/◌, ◌^◌, ◌<◌, ◌≤◌, refl, sym, ap, ◌∙◌, subst, ⊎_elim, arith}
use Rattle.std.proofs.Math.Nat.{mul-le-mul}
use Rattle.std.proofs.lemmas.Bool.{cases_lt}
use Rattle.muni_rule.specs.Payments.{PaymentSeries, IsSeries, payment_at}
use Rattle.muni_rule.proofs.SeriesLemmas.{payment-last}
use Rattle.muni_span.specs.Ends.{Ends}
use Rattle.muni_multi.specs.Horner.{sum_low, sum_high, AreDiscountEnds}
use Rattle.muni_multi.specs.HornerLaws.{sum_low-more, sum_high-more}
use Rattle.muni_multi.proofs.HornerTurns.{factor-small}
use Rattle.muni_risk.specs.Sums.{weighted, IsSumFrom}
use Rattle.muni_risk.specs.declared.sums.Weight.{Weight}
use Rattle.muni_risk.proofs.SeriesSums.{sum-fits}

-- no payments have no sum
sum_low-none : (a : ℕ → ℕ) (r j : ℕ) → sum_low a r 0 j ≡ 0
unfolding sum_low
sum_low-none a r j = refl

sum_high-none : (a : ℕ → ℕ) (r j : ℕ) → sum_high a r 0 j ≡ 0
unfolding sum_high
sum_high-none a r j = refl

pub no-payments : (weight : Weight) (series : PaymentSeries) (lo hi place : ℕ) (sum : Ends) → place ≡ series.n → sum.lo ≡ 0 → sum.hi ≡ 0 → IsSumFrom weight series lo hi place sum
no-payments weight series lo hi place sum end low high =
    let none : series.n - place ≡ 0 = omega arith in
    record {
      low = low ∙ sym (ap (λ m. sum_low (weighted weight series) lo m place) none ∙ sum_low-none (weighted weight series) lo place);
      high = high ∙ sym (ap (λ m. sum_high (weighted weight series) hi m place) none ∙ sum_high-none (weighted weight series) hi place);
    }

-- one payment more
pub next-low : (a : ℕ → ℕ) (r n k lo next : ℕ) → k < n → lo ≡ sum_low a r (n - (k + 1)) (k + 1) → next ≡ lo * r / 2 ^ 60 + 4096 * a k → next ≡ sum_low a r (n - k) k
next-low a r n k lo next less later is =
    let count : suc (n - (k + 1)) ≡ n - k = omega arith in
    let place : k + 1 ≡ suc k = omega arith in
    is ∙ (ap (λ x. x * r / 2 ^ 60 + 4096 * a k) (later ∙ ap (λ j. sum_low a r (n - (k + 1)) j) place)
    ∙ (sym (sum_low-more a r (n - (k + 1)) k) ∙ ap (λ m. sum_low a r m k) count))

pub next-high : (a : ℕ → ℕ) (r n k hi next : ℕ) → k < n → hi ≡ sum_high a r (n - (k + 1)) (k + 1) → next ≡ (hi * r + (2 ^ 60 - 1)) / 2 ^ 60 + 4096 * a k → next ≡ sum_high a r (n - k) k
next-high a r n k hi next less later is =
    let count : suc (n - (k + 1)) ≡ n - k = omega arith in
    let place : k + 1 ≡ suc k = omega arith in
    is ∙ (ap (λ x. (x * r + (2 ^ 60 - 1)) / 2 ^ 60 + 4096 * a k) (later ∙ ap (λ j. sum_high a r (n - (k + 1)) j) place)
    ∙ (sym (sum_high-more a r (n - (k + 1)) k) ∙ ap (λ m. sum_high a r m k) count))

-- every sum on the way fits
some-fits : (series : PaymentSeries) (weight : Weight) (lo hi k sum : ℕ) → IsSeries series → AreDiscountEnds lo hi → k < series.n → sum ≡ sum_high (weighted weight series) hi (series.n - k) k → sum < 2 ^ 125
some-fits series weight lo hi k sum is ends less same =
    let fits = sum-fits series ends.y weight k is ends.within less in
    subst (λ x. x < 2 ^ 125) (sym (same ∙ ap (λ h. sum_high (weighted weight series) h (series.n - k) k) ends.high)) fits

pub turn-fits : (series : PaymentSeries) (weight : Weight) (lo hi k sum : ℕ) → IsSeries series → AreDiscountEnds lo hi → k ≤ series.n → sum ≡ sum_high (weighted weight series) hi (series.n - k) k → sum < 2 ^ 125
turn-fits series weight lo hi k sum is ends within same =
    ⊎_elim
    (λ (less : k < series.n). some-fits series weight lo hi k sum is ends less same)
    (λ (end : series.n ≤ k). let none : series.n - k ≡ 0 = omega arith in
    let zero : sum ≡ 0 = same ∙ (ap (λ m. sum_high (weighted weight series) hi m k) none ∙ sum_high-none (weighted weight series) hi k) in
    omega (arith, zero))
    (cases_lt k series.n)

-- and may be multiplied by the discount factor
pub product-fits : (lo hi sum : ℕ) → AreDiscountEnds lo hi → sum < 2 ^ 125 → sum * hi < 2 ^ 187
product-fits lo hi sum ends less =
    let factor = factor-small lo hi ends in
    let under : sum ≤ 2 ^ 125 = omega arith in
    let over : hi ≤ 2 ^ 61 = omega (arith, factor) in
    let product : sum * hi ≤ 2 ^ 125 * 2 ^ 61 = mul-le-mul under over in
    omega (arith, product)

-- one more payment of 0
pub none-more : (a : ℕ → ℕ) (k p : ℕ) → p ≡ a k → p ≤ 0 → ((i : ℕ) → i < k → a i ≡ 0) → (i : ℕ) → i < k + 1 → a i ≡ 0
none-more a k p is none before i less =
    ⊎_elim
    (λ (sooner : i < k). before i sooner)
    (λ (later : k ≤ i). let same : i ≡ k = omega arith in ap a same ∙ (sym is ∙ omega arith))
    (cases_lt i k)

-- the last payment is not 0
pub last-paid : (series : PaymentSeries) (last : ℕ) → IsSeries series → last ≡ series.n - 1 → 1 ≤ payment_at series last
last-paid series last is same =
    let some = is.n_from in
    let payment = payment-last series last is.skip (omega arith) in
    let redemption = is.redemption_from in
    omega (arith, payment, redemption)
