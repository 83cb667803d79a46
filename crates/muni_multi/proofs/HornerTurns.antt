-- The sum from the last payment to the first, turn by turn.
use Rattle.std.proofs.Common.{◌≡◌, ℕ, suc, ◌+◌, ◌-◌, ◌*◌, ◌/◌, ◌^◌, ◌<◌, ◌≤◌, refl, sym, ap, ◌∙◌, subst, arith, ℤ}
use Rattle.muni_rule.specs.Payments.{PaymentSeries, IsSeries, payment_at}
use Rattle.muni_rule.specs.ManyPeriods.{discount_divisor}
use Rattle.muni_rule.specs.Ranges.{IsManyPeriodsBoundary}
use Rattle.muni_span.specs.Powers.{power_low, power_high}
use Rattle.muni_span.specs.Roots.{root_low, root_high}
use Rattle.muni_span.proofs.FactorSteps.{root-in_reach}
use Rattle.muni_multi.specs.LastStep.{discount_low, discount_high}
use Rattle.muni_multi.specs.Horner.{sum_low, sum_high, AreDiscountEnds}
use Rattle.muni_multi.specs.HornerLaws.{sum_low-more, sum_high-more, sum_low-one, sum_high-one, sum-fits, discount-is}

-- at place k, before the payment of the place before it is added
pub turn-low : (a : ℕ → ℕ) (r n k p lo next : ℕ) → 1 ≤ k → k ≤ n → p ≡ a (k - 1) → lo ≡ sum_low a r (n - k) k → next ≡ lo * r / 2 ^ 60 + 4096 * p → next ≡ sum_low a r (n - (k - 1)) (k - 1)
turn-low a r n k p lo next some within payment so_far is =
    let count : n - (k - 1) ≡ suc (n - k) = omega arith in
    let place : suc (k - 1) ≡ k = omega arith in
    is ∙ (ap (λ x. lo * r / 2 ^ 60 + 4096 * x) payment ∙ (ap (λ x. x * r / 2 ^ 60 + 4096 * a (k - 1)) (so_far ∙ ap (λ x. sum_low a r (n - k) x) (sym place))
    ∙ (sym (sum_low-more a r (n - k) (k - 1)) ∙ ap (λ x. sum_low a r x (k - 1)) (sym count))))

pub turn-high : (a : ℕ → ℕ) (r n k p hi next : ℕ) → 1 ≤ k → k ≤ n → p ≡ a (k - 1) → hi ≡ sum_high a r (n - k) k → next ≡ (hi * r + (2 ^ 60 - 1)) / 2 ^ 60 + 4096 * p → next ≡ sum_high a r (n - (k - 1)) (k - 1)
turn-high a r n k p hi next some within payment so_far is =
    let count : n - (k - 1) ≡ suc (n - k) = omega arith in
    let place : suc (k - 1) ≡ k = omega arith in
    is ∙ (ap (λ x. (hi * r + (2 ^ 60 - 1)) / 2 ^ 60 + 4096 * x) payment ∙ (ap (λ x. (x * r + (2 ^ 60 - 1)) / 2 ^ 60 + 4096 * a (k - 1)) (so_far ∙ ap (λ x. sum_high a r (n - k) x) (sym place))
    ∙ (sym (sum_high-more a r (n - k) (k - 1)) ∙ ap (λ x. sum_high a r x (k - 1)) (sym count))))

-- the last payment alone
pub last-low : (a : ℕ → ℕ) (r n last p lo : ℕ) → 1 ≤ n → last ≡ n - 1 → p ≡ a last → lo ≡ 4096 * p → lo ≡ sum_low a r (n - last) last
last-low a r n last p lo some is payment low =
    let count : n - last ≡ 1 = omega arith in
    low ∙ (ap (λ x. 4096 * x) payment ∙ (sym (sum_low-one a r last) ∙ ap (λ x. sum_low a r x last) (sym count)))

pub last-high : (a : ℕ → ℕ) (r n last p hi : ℕ) → 1 ≤ n → last ≡ n - 1 → p ≡ a last → hi ≡ 4096 * p → hi ≡ sum_high a r (n - last) last
last-high a r n last p hi some is payment high =
    let count : n - last ≡ 1 = omega arith in
    high ∙ (ap (λ x. 4096 * x) payment ∙ (sym (sum_high-one a r last) ∙ ap (λ x. sum_high a r x last) (sym count)))

-- every sum on the way fits
pub turn-fits : (series : PaymentSeries) (lo hi k sum : ℕ) → IsSeries series → AreDiscountEnds lo hi → k < series.n → sum ≡ sum_high (payment_at series) hi (series.n - k) k → sum < 2 ^ 64
turn-fits series lo hi k sum is ends less same =
    let fits = sum-fits series ends.y k is ends.within less in
    subst (λ x. x < 2 ^ 64) (sym (same ∙ ap (λ h. sum_high (payment_at series) h (series.n - k) k) ends.high)) fits

pub factor-small : (lo hi : ℕ) → AreDiscountEnds lo hi → 10000 * hi ≤ 10257 * 2 ^ 60
factor-small lo hi ends =
    let most = (discount-is ends.y ends.within).at_most in
    subst (λ h. 10000 * h ≤ 10257 * 2 ^ 60) (sym ends.high) most

-- the worth at the settlement, from what each call gives
pub settled-low : (a : ℕ → ℕ) (n k sum part root factor lo y : ℕ) → lo ≡ sum * part / 2 ^ 60 → sum ≡ sum_low a factor n 0 → part ≡ power_low root k → root ≡ root_low factor → factor ≡ y → lo ≡ sum_low a y n 0 * power_low (root_low y) k / 2 ^ 60
settled-low a n k sum part root factor lo y last summed powered rooted given = rw (last, summed, powered, rooted, given) refl

pub settled-high : (a : ℕ → ℕ) (n k sum part root factor hi y : ℕ) → hi ≡ (sum * part + (2 ^ 60 - 1)) / 2 ^ 60 → sum ≡ sum_high a factor n 0 → part ≡ power_high root k → root ≡ root_high factor → factor ≡ y → hi ≡ (sum_high a y n 0 * power_high (root_high y) k + (2 ^ 60 - 1)) / 2 ^ 60
settled-high a n k sum part root factor hi y last summed powered rooted given = rw (last, summed, powered, rooted, given) refl

-- the power of the root's upper end is in reach
pub power-in_reach : (y : ℤ) (e root factor : ℕ) → IsManyPeriodsBoundary y → e ≤ 180 → root ≡ root_high factor → factor ≡ discount_high y → root ^ e ≤ 15 * (2 ^ 60) ^ e
power-in_reach y e root factor within few rooted given =
    subst (λ x. x ^ e ≤ 15 * (2 ^ 60) ^ e) (sym (rooted ∙ ap root_high given)) (root-in_reach (discount_divisor y) (discount_low y) (discount_high y) e (discount-is y within) few)
