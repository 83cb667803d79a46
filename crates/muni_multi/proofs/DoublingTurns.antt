-- The sum by doubling, turn by turn.
use Rattle.std.proofs.Common.{◌≡◌, ℕ, suc, zero, ◌+◌, ◌-◌, ◌*◌, ◌/◌, ◌^◌, ◌<◌, ◌≤◌, refl, sym, ap, ◌∙◌, subst, arith}
use Rattle.std.proofs.Math.Nat.{pow-suc, mul-le-mul_left, div-mul-le_self}
use Rattle.std.proofs.lemmas.Nat.{shr-shr, pow_pos}
use Rattle.muni_rule.specs.ManyPeriods.{discount_divisor}
use Rattle.muni_rule.specs.Payments.{PaymentSeries, IsSeries}
use Rattle.muni_span.specs.Powers.{product_end, power_end, power_high}
use Rattle.muni_span.proofs.DoublingSteps.{discount-in_reach}
use Rattle.muni_span.proofs.FactorSteps.{IsDiscount}
use Rattle.muni_span.proofs.Quotients.{quotient_is}
use Rattle.muni_span.proofs.Squaring.{IsPowerOf, power_end-some, power_end-none}
use Rattle.muni_multi.specs.Doubling.{scaled_end, level_from_half, level_by, level_end, paid_end, doubling_end}
use Rattle.muni_multi.specs.DoublingLaws.{level_by-first, level_by-more, level_end-some, level-fits, factor-fits, sum-fits}
use Rattle.muni_multi.specs.Horner.{AreDiscountEnds}
use Rattle.muni_multi.specs.HornerLaws.{discount-is}

-- ---- what the places of a count mean
pub halved : (n place : ℕ) → 0 < place → n / 2 ^ (place - 1) / 2 ≡ n / 2 ^ place
halved n place pos =
    let one : place - 1 + 1 ≡ place = omega arith in
    shr-shr n (place - 1) 1 ∙ ap (λ i. n / 2 ^ i) one

pub places-few : (n place : ℕ) → n ≤ 99 → n / 2 ^ place ≤ 99
places-few n place few =
    let under : n / 2 ^ place * 2 ^ place ≤ n = div-mul-le_self n (2 ^ place) in
    let some : 1 ≤ 2 ^ place = pow_pos place in
    let whole : n / 2 ^ place * 1 ≤ n / 2 ^ place * 2 ^ place = mul-le-mul_left (n / 2 ^ place) some in
    omega arith

-- `level` is the end of m payments, whatever number of steps above its places is allowed
pub record IsLevelOf (carry p x m level : ℕ) : Type 0 where
  pub some : 1 ≤ m
  pub value : (f : ℕ) → m < 2 ^ suc f → level ≡ level_by carry p x f m

-- the topmost place alone means one payment
pub first-turn : (carry p x n place level : ℕ) → 2 ^ place ≤ n → n < 2 * 2 ^ place → level ≡ 4096 * p → IsLevelOf carry p x (n / 2 ^ place) level
first-turn carry p x n place level least most is =
    let one : n / 2 ^ place ≡ 1 = quotient_is n (2 ^ place) 1 (pow_pos place) (omega arith) (omega arith) in
    record { some = omega arith; value = λ f few. is ∙ sym (level_by-first carry p x f (n / 2 ^ place) (omega arith)) }

next-value : (carry p x m half : ℕ) → IsLevelOf carry p x (m / 2) half → (f : ℕ) → m < 2 ^ suc f → level_from_half carry p x m half ≡ level_by carry p x f m
next-value carry p x m half is zero few =
    let two : 2 ^ suc 0 ≡ 2 = refl in
    let some : 1 ≤ m / 2 = is.some in
    absurd (omega arith)
next-value carry p x m half is (suc f) few =
    let double : 2 ^ suc (suc f) ≡ 2 ^ suc f * 2 = pow-suc 2 (suc f) in
    let some : 1 ≤ m / 2 = is.some in
    ap (level_from_half carry p x m) (is.value f (omega arith)) ∙ sym (level_by-more carry p x f m (omega arith))

-- one place more
pub next-turn : (carry p x n place half level : ℕ) → 0 < place → IsLevelOf carry p x (n / 2 ^ place) half → level ≡ level_from_half carry p x (n / 2 ^ (place - 1)) half → IsLevelOf carry p x (n / 2 ^ (place - 1)) level
next-turn carry p x n place half level pos is now =
    let reached : IsLevelOf carry p x (n / 2 ^ (place - 1) / 2) half = subst (λ (i : ℕ). IsLevelOf carry p x i half) (sym (halved n place pos)) is in
    let some : 1 ≤ n / 2 ^ (place - 1) / 2 = reached.some in
    record { some = omega arith; value = λ f few. now ∙ next-value carry p x (n / 2 ^ (place - 1)) half reached f few }

-- with all places it is the whole run
pub last-turn : (carry p x n place level : ℕ) → n < 128 → place ≡ 0 → IsLevelOf carry p x (n / 2 ^ place) level → level ≡ level_end carry p x n
last-turn carry p x n place level few last is =
    let whole : n / 2 ^ place ≡ n = rw last (omega arith) in
    let done : IsLevelOf carry p x n level = subst (λ (k : ℕ). IsLevelOf carry p x k level) whole is in
    let some : 1 ≤ n = done.some in
    done.value 6 few ∙ sym (level_end-some carry p x n some)

-- ---- every end fits
pub discount-at : (lo hi : ℕ) (ends : AreDiscountEnds lo hi) → IsDiscount (discount_divisor ends.y) lo hi
discount-at lo hi ends = rw (ends.low, ends.high) (discount-is ends.y ends.within)

pub half-fits : (p lo hi m low high : ℕ) → AreDiscountEnds lo hi → p ≤ 5400000000000 → m ≤ 99 → IsLevelOf 0 p lo m low → IsLevelOf (2 ^ 60 - 1) p hi m high → (low ≤ high) × (high ≤ 2 ^ 66)
half-fits p lo hi m low high ends amount few below above =
    let level = level-fits p (discount_divisor ends.y) lo hi 6 m (discount-at lo hi ends) amount below.some (omega arith) few in
    rw (below.value 6 (omega arith), above.value 6 (omega arith)) level

pub factor-at : (carry x k factor : ℕ) → k ≤ 99 → IsPowerOf (product_end carry) x k factor → factor ≡ power_end carry x k
factor-at carry x k factor few is = is.value 7 (omega arith) ∙ sym (power_end-some carry x k is.some)

pub power-fits : (lo hi k : ℕ) → AreDiscountEnds lo hi → k ≤ 99 → power_high hi k ≤ 15 * 2 ^ 60
power-fits lo hi k ends few = factor-fits (discount_divisor ends.y) lo hi k (discount-at lo hi ends) few

pub power-reach : (lo hi k : ℕ) → AreDiscountEnds lo hi → k ≤ 99 → hi ^ k ≤ 15 * (2 ^ 60) ^ k
power-reach lo hi k ends few = discount-in_reach hi k few (discount-at lo hi ends).at_most

-- if no payment comes before the first interest
pub no-skip : (carry : ℕ) (series : PaymentSeries) (x m paid : ℕ) → carry < 2 ^ 60 → series.skip ≡ 0 → m ≡ series.n - 1 - series.skip → paid ≡ paid_end carry series x m → paid ≡ doubling_end carry series x
unfolding doubling_end
no-skip carry series x m paid small none count is =
    let one : power_end carry x series.skip ≡ 2 ^ 60 = ap (power_end carry x) none ∙ power_end-none carry x in
    let whole : paid ≡ scaled_end carry paid (2 ^ 60) = omega (arith, small) in
    whole ∙ (λ i. scaled_end carry ((is ∙ ap (paid_end carry series x) count) i) (sym one i))

pub doubling-fits : (series : PaymentSeries) (lo hi : ℕ) → IsSeries series → AreDiscountEnds lo hi → doubling_end (2 ^ 60 - 1) series hi < 2 ^ 64
doubling-fits series lo hi is ends = rw ends.high (sum-fits series ends.y is ends.within)
