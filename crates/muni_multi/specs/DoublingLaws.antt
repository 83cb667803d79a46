-- The laws of the sum by doubling, proved over its ends.
use Rattle.std.proofs.Common.{◌≡◌, ℕ, suc, zero, ◌+◌, ◌-◌, ◌*◌, ◌/◌, ◌%◌, ◌^◌, ◌<◌, ◌≤◌, ◌≢◌, ◌⊎◌, length, refl, sym, ap, ◌∙◌, subst, ⊎_elim, add-one, arith, lit≤, lit<, eqb, leb, true, false, ℤ}
use Rattle.std.proofs.lemmas.Bool.Decides.{nat_tests}
use Rattle.std.proofs.Math.Nat.{mul-le-mul, mul-le-mul_left, mul-le-mul_right, le_of_mul-le-mul_right, pow-le-pow_left, one-le-pow, pow-suc, pow-zero}
use Rattle.std.proofs.lemmas.Nat.{pow-add}
use Rattle.muni_rule.specs.Payments.{PaymentSeries, IsSeries, payments_of, payment_at}
use Rattle.muni_rule.specs.PaymentLaws.{interest_at_place}
use Rattle.muni_rule.specs.ManyPeriods.{to_come, discount_divisor, whole_sum}
use Rattle.muni_rule.specs.Ranges.{IsManyPeriodsBoundary}
use Rattle.muni_rule.specs.WorthEnds.{HoldsWorth, IsNarrow}
use Rattle.muni_rule.proofs.SumLemmas.{tail_sum, tail_sum-more, tail_sum-none, tail_sum-one, tail_sum-all}
use Rattle.muni_rule.proofs.SeriesLemmas.{payment-early, payment-last, payments-count, whole_sum-series}
use Rattle.muni_rule.proofs.PowerLemmas.{pow-one}
use Rattle.muni_rule.proofs.EnclosedLemmas.{divisor-least}
use Rattle.muni_span.specs.Powers.{power_low, power_high}
use Rattle.muni_span.proofs.Quotients.{IsRounded, rounded}
use Rattle.muni_span.proofs.Squaring.{even_or_odd, one_or_more}
use Rattle.muni_span.proofs.SumSteps.{bound-end}
use Rattle.muni_span.proofs.FactorSteps.{IsDiscount}
use Rattle.muni_span.proofs.DoublingSteps.{IsDiscountPower, discount_power-is, joined-below, joined-above, scaled-gap, scaled-small, scaled-narrow, doubled-small, doubled-narrow, more-small, more-narrow}
use Rattle.muni_multi.specs.LastStep.{discount_low, discount_high, HoldsSum}
use Rattle.muni_multi.specs.Horner.{sum_high}
use Rattle.muni_multi.specs.HornerLaws.{discount-is, sums-narrow, sums-limit, last_step-encloses}
use Rattle.muni_multi.specs.Doubling.{scaled_end, doubled_end, level_from_half, level_by, level_end, paid_end, doubling_end, doubling_ends}

-- ---- sums of payments
split-step : (aj vm vk hm h tm tk whole rest first hs : ℕ) → whole ≡ aj * (vm * vk) + h * rest → rest ≡ tm * vk + hm * tk → first ≡ aj * vm + h * tm → hs ≡ hm * h → whole ≡ first * vk + hs * tk
split-step aj vm vk hm h tm tk whole rest first hs e1 e2 e3 e4 = rw (e1, e2, e3, e4) (omega arith)

-- two runs of payments, one after the other
tail-split : (a : ℕ → ℕ) (h v m k j : ℕ) → tail_sum a h v (m + k) j ≡ tail_sum a h v m j * v ^ k + h ^ m * tail_sum a h v k (j + m)
tail-split a h v zero k j =
    let count : zero + k ≡ k = omega arith in
    let place : j + zero ≡ j = omega arith in
    let none : tail_sum a h v 0 j ≡ 0 = tail_sum-none a h v j in
    let one : h ^ 0 ≡ 1 = pow-zero h in
    rw (count, place, none, one) (omega arith)
tail-split a h v (suc m) k j =
    let count : suc m + k ≡ suc (m + k) = omega arith in
    let place : j + suc m ≡ suc j + m = omega arith in
    ap (λ x. tail_sum a h v x j) count
    ∙ split-step (a j) (v ^ m) (v ^ k) (h ^ m) h (tail_sum a h v m (suc j)) (tail_sum a h v k (suc j + m))
    (tail_sum a h v (suc (m + k)) j) (tail_sum a h v (m + k) (suc j)) (tail_sum a h v (suc m) j) (h ^ suc m)
    (tail_sum-more a h v (m + k) j ∙ ap (λ x. a j * x + h * tail_sum a h v (m + k) (suc j)) (pow-add v m k))
    (tail-split a h v m k (suc j)) (tail_sum-more a h v m j) (pow-suc h m)
    ∙ ap (λ x. tail_sum a h v (suc m) j * v ^ k + h ^ suc m * tail_sum a h v k x) (sym place)

-- equal payments make equal sums
tail-same : (a b : ℕ → ℕ) (h v m i j : ℕ) → ((k : ℕ) → k < m → a (i + k) ≡ b (j + k)) → tail_sum a h v m i ≡ tail_sum b h v m j
tail-same a b h v zero i j same = tail_sum-none a h v i ∙ sym (tail_sum-none b h v j)
tail-same a b h v (suc m) i j same =
    let here : i + 0 ≡ i = omega arith in
    let there : j + 0 ≡ j = omega arith in
    let first : a i ≡ b j = sym (ap a here) ∙ (same 0 (omega arith) ∙ ap b there) in
    let rest : tail_sum a h v m (suc i) ≡ tail_sum b h v m (suc j) = tail-same a b h v m (suc i) (suc j)
    (λ k less. let x : i + suc k ≡ suc i + k = omega arith in let y : j + suc k ≡ suc j + k = omega arith in sym (ap a x) ∙ (same (suc k) (omega arith) ∙ ap b y)) in
    tail_sum-more a h v m i ∙ (ap (λ x. x * v ^ m + h * tail_sum a h v m (suc i)) first ∙ (ap (λ x. b j * v ^ m + h * x) rest ∙ sym (tail_sum-more b h v m j)))

tail-nothing : (h v m j : ℕ) → tail_sum (λ _. 0) h v m j ≡ 0
tail-nothing h v zero j = tail_sum-none (λ _. 0) h v j
tail-nothing h v (suc m) j =
    let rest = tail-nothing h v m (suc j) in
    let more = tail_sum-more (λ _. 0) h v m j in
    rw (more, rest) (omega arith)

-- an amount that is paid with the last payment
last-step : (x y r s hm h p z : ℕ) → x ≡ p + h * r → y ≡ p + h * s → r ≡ s + hm * z → x ≡ y + hm * h * z
last-step x y r s hm h p z e1 e2 e3 = rw (e1, e2, e3) (omega arith)

tail-last : (a b : ℕ → ℕ) (h v z m j : ℕ) → ((k : ℕ) → k < m → a (j + k) ≡ b (j + k)) → a (j + m) ≡ b (j + m) + z → tail_sum a h v (suc m) j ≡ tail_sum b h v (suc m) j + h ^ m * z
tail-last a b h v z zero j same last =
    let here : j + 0 ≡ j = omega arith in
    let at : a j ≡ b j + z = subst (λ (x : ℕ). a x ≡ b x + z) here last in
    let one : h ^ 0 ≡ 1 = pow-zero h in
    let left = tail_sum-one a h v j in
    let right = tail_sum-one b h v j in
    rw (left, right, one, at) (omega arith)
tail-last a b h v z (suc m) j same last =
    let here : j + 0 ≡ j = omega arith in
    let first : a j ≡ b j = subst (λ (x : ℕ). a x ≡ b x) here (same 0 (omega arith)) in
    let end : j + suc m ≡ suc j + m = omega arith in
    let rest : tail_sum a h v (suc m) (suc j) ≡ tail_sum b h v (suc m) (suc j) + h ^ m * z = tail-last a b h v z m (suc j)
    (λ k less. let x : j + suc k ≡ suc j + k = omega arith in subst (λ (i : ℕ). a i ≡ b i) x (same (suc k) (omega arith)))
    (subst (λ (i : ℕ). a i ≡ b i + z) end last) in
    let power : h ^ suc m ≡ h ^ m * h = pow-suc h m in
    subst (λ p. tail_sum a h v (suc (suc m)) j ≡ tail_sum b h v (suc (suc m)) j + p * z) (sym power)
    (last-step (tail_sum a h v (suc (suc m)) j) (tail_sum b h v (suc (suc m)) j) (tail_sum a h v (suc m) (suc j)) (tail_sum b h v (suc m) (suc j)) (h ^ m) h (b j * v ^ suc m) z
    (tail_sum-more a h v (suc m) j ∙ ap (λ x. x * v ^ suc m + h * tail_sum a h v (suc m) (suc j)) first) (tail_sum-more b h v (suc m) j) rest)

-- equal payments from any place on
abbrev pub equal_sum : ℕ → ℕ → ℕ → ℕ
equal_sum p v m = tail_sum (λ _. p) 2000000 v m 0

pub equal-split : (p v m k : ℕ) → equal_sum p v (m + k) ≡ equal_sum p v m * v ^ k + 2000000 ^ m * equal_sum p v k
equal-split p v m k =
    tail-split (λ _. p) 2000000 v m k 0 ∙ ap (λ x. equal_sum p v m * v ^ k + 2000000 ^ m * x) (tail-same (λ _. p) (λ _. p) 2000000 v k (0 + m) 0 (λ _ _. refl))

-- the first interest, m regular payments after it, and the redemption with the last of them
abbrev pub paid_sum : PaymentSeries → ℕ → ℕ → ℕ
paid_sum series v m = series.first * v ^ m + 2000000 * equal_sum series.regular v m + 2000000 ^ m * series.redemption

paid-is : (series : PaymentSeries) (v m : ℕ) → IsSeries series → series.skip + suc m ≡ series.n → tail_sum (payment_at series) 2000000 v (suc m) series.skip ≡ paid_sum series v m
paid-is series v m is end =
    let interest = interest_at_place series.skip series.first series.regular in
    let here : series.skip + 0 ≡ series.skip = omega arith in
    let first : interest series.skip ≡ series.first = grind (arith, nat_tests) in
    let later : tail_sum interest 2000000 v m (suc series.skip) ≡ equal_sum series.regular v m
    = tail-same interest (λ _. series.regular) 2000000 v m (suc series.skip) 0 (λ k less. let after : interest (suc series.skip + k) ≡ series.regular = grind (arith, nat_tests) in after) in
    let whole : tail_sum interest 2000000 v (suc m) series.skip ≡ series.first * v ^ m + 2000000 * equal_sum series.regular v m
    = tail_sum-more interest 2000000 v m series.skip ∙ (ap (λ x. x * v ^ m + 2000000 * tail_sum interest 2000000 v m (suc series.skip)) first ∙ ap (λ x. series.first * v ^ m + 2000000 * x) later) in
    tail-last (payment_at series) interest 2000000 v series.redemption m series.skip
    (λ k less. payment-early series (series.skip + k) is.skip (omega arith))
    (payment-last series (series.skip + m) is.skip (omega arith))
    ∙ ap (λ x. x + 2000000 ^ m * series.redemption) whole

pub whole-is : (series : PaymentSeries) (v m : ℕ) → IsSeries series → series.skip + suc m ≡ series.n → tail_sum (payment_at series) 2000000 v series.n 0 ≡ 2000000 ^ series.skip * paid_sum series v m
whole-is series v m is end =
    let interest = interest_at_place series.skip series.first series.regular in
    let none : tail_sum (payment_at series) 2000000 v series.skip 0 ≡ 0
    = tail-same (payment_at series) (λ _. 0) 2000000 v series.skip 0 0
    (λ k less.
    let before : interest (0 + k) ≡ 0 = grind (arith, nat_tests) in
    payment-early series (0 + k) is.skip (omega arith) ∙ before)
    ∙ tail-nothing 2000000 v series.skip 0 in
    let place : 0 + series.skip ≡ series.skip = omega arith in
    ap (λ n. tail_sum (payment_at series) 2000000 v n 0) (sym end)
    ∙ (tail-split (payment_at series) 2000000 v series.skip (suc m) 0
    ∙ (ap (λ x. x * v ^ suc m + 2000000 ^ series.skip * tail_sum (payment_at series) 2000000 v (suc m) (0 + series.skip)) none
    ∙ (ap (λ x. 0 * v ^ suc m + 2000000 ^ series.skip * x) (ap (λ x. tail_sum (payment_at series) 2000000 v (suc m) x) place ∙ paid-is series v m is end)
    ∙ omega arith)))

-- ---- one product
round-of : (lo hi rl rh : ℕ) → IsRounded (2 ^ 60) (lo * rl) (hi * rh) (scaled_end 0 lo rl) (scaled_end (2 ^ 60 - 1) hi rh)
round-of lo hi rl rh = rounded (2 ^ 60) (lo * rl) (hi * rh) (lit< tt)

ordered-product : (lo hi rl rh : ℕ) → lo ≤ hi → rl ≤ rh → scaled_end 0 lo rl ≤ scaled_end (2 ^ 60 - 1) hi rh
ordered-product lo hi rl rh order factors =
    let round = round-of lo hi rl rh in
    let product : lo * rl ≤ hi * rh = mul-le-mul order factors in
    let under = round.floor_under in
    let over = round.ceiling_over in
    let all : scaled_end 0 lo rl * 2 ^ 60 ≤ scaled_end (2 ^ 60 - 1) hi rh * 2 ^ 60 = omega (arith, product, under, over) in
    le_of_mul-le-mul_right all (lit< tt)

gap-of : (lo hi rl rh : ℕ) → lo ≤ hi → rl ≤ rh → (hi - lo) * (rh - rl) ≤ 2 ^ 60 → (scaled_end (2 ^ 60 - 1) hi rh - scaled_end 0 lo rl) * 2 ^ 60 ≤ lo * (rh - rl) + (hi - lo) * rl + 3 * 2 ^ 60
gap-of lo hi rl rh order factors thin =
    let round = round-of lo hi rl rh in
    let top : lo + (hi - lo) ≡ hi = omega arith in
    let wide : rl + (rh - rl) ≡ rh = omega arith in
    let product : (lo + (hi - lo)) * (rl + (rh - rl)) ≡ hi * rh = rw (top, wide) refl in
    let near = round.ceiling_near in
    scaled-gap (2 ^ 60) lo (hi - lo) rl (rh - rl) (scaled_end 0 lo rl) (scaled_end (2 ^ 60 - 1) hi rh) thin round.floor_near (omega (arith, product, near))

grown : (k : ℕ) → 10000 ^ k ≤ 10257 ^ k
grown k = pow-le-pow_left (lit≤ tt) k

-- ---- a run of equal payments
record IsLevel (p v m lo hi : ℕ) : Type 0 where
  below : lo * v ^ m ≤ 4096 * (equal_sum p v m * v)
  above : 4096 * (equal_sum p v m * v) ≤ hi * v ^ m
  ordered : lo ≤ hi
  small : lo * 10000 ^ m ≤ 22118400000000000 * m * 10257 ^ m
  narrow : (hi - lo) * 10000 ^ m ≤ 2 * (m * m) * 10257 ^ m

level-thin : (m d e : ℕ) → m ≤ 99 → d * 10000 ^ m ≤ 2 * (m * m) * 10257 ^ m → e ≤ 4752 → d * e ≤ 2 ^ 60
level-thin m d e few narrow less =
    let square : m * m ≤ 99 * 99 = mul-le-mul few few in
    let wide : 2 * (m * m) * 10257 ^ m ≤ 19602 * 10257 ^ m = mul-le-mul_right (10257 ^ m) (let twice : 2 * (m * m) ≤ 19602 = omega arith in twice) in
    let top : d ≤ 2 ^ 18 = bound-end 10000 10257 19602 (2 ^ 18) d m 99 (lit< tt) (lit≤ tt) few (omega (arith, narrow, wide)) (lit≤ tt) in
    let product : d * e ≤ 2 ^ 18 * 4752 = mul-le-mul top less in
    omega (arith, product)

no-level : (p v : ℕ) → IsLevel p v 0 0 0
no-level p v = record { below = omega arith; above = (let none = tail_sum-none (λ _. p) 2000000 v 0 in rw none (omega arith)); ordered = omega arith; small = omega arith; narrow = omega arith }

one-level : (p v : ℕ) → 4096 * p ≤ 22118400000000000 → IsLevel p v 1 (4096 * p) (4096 * p)
one-level p v few =
    let sum : equal_sum p v 1 ≡ p = tail_sum-one (λ _. p) 2000000 v 0 in
    let none : 4096 * p - 4096 * p ≡ 0 = omega arith in
    record {
      below = rw (sum, pow-one v) (omega arith);
      above = rw (sum, pow-one v) (omega arith);
      ordered = omega arith;
      small = omega arith;
      narrow = rw none (omega arith);
    }

sum-gap : (a b c d : ℕ) → a ≤ b → c ≤ d → (b + d) - (a + c) ≡ b - a + (d - c)
sum-gap a b c d one other = omega arith

double-level : (p v r s h lo hi : ℕ) → IsDiscount v r s → 1 ≤ h → h ≤ 49 → IsLevel p v h lo hi → IsLevel p v (h + h) (lo + scaled_end 0 lo (power_low r h)) (hi + scaled_end (2 ^ 60 - 1) hi (power_high s h))
double-level p v r s h lo hi discount some few half =
    let power : IsDiscountPower v h (power_low r h) (power_high s h) = discount_power-is v r s h discount (omega arith) in
    let low = power_low r h in
    let high = power_high s h in
    let a = 10000 ^ h in
    let b = 10257 ^ h in
    let round = round-of lo hi low high in
    let order : scaled_end 0 lo low ≤ scaled_end (2 ^ 60 - 1) hi high = ordered-product lo hi low high half.ordered power.ordered in
    let wide : high - low ≤ 48 * h = (let near = power.narrow in omega (arith, near)) in
    let gap = gap-of lo hi low high half.ordered power.ordered (level-thin h (hi - lo) (high - low) (omega arith) half.narrow (omega arith)) in
    let share : 22118400000000000 * h * (high - low) ≤ 22118400000000000 * h * (48 * h) = mul-le-mul_left (22118400000000000 * h) wide in
    let product = scaled-small (2 ^ 60) lo low (scaled_end 0 lo low) (22118400000000000 * h) a b a b (lit< tt) round.floor_under half.small power.small in
    let width = scaled-narrow (2 ^ 60) lo (hi - lo) low (high - low) (scaled_end (2 ^ 60 - 1) hi high - scaled_end 0 lo low) (22118400000000000 * h) (2 * (h * h)) (h * h) a b a b (lit< tt) gap half.small (omega (arith, share)) half.narrow power.small (grown h) (grown h) in
    let sum = equal-split p v h h in
    record {
      below = rw sum (joined-below (2 ^ 60) v 4096 h h lo lo low (scaled_end 0 lo low) (equal_sum p v h) (equal_sum p v h) (2000000 ^ h) (lit< tt) round.floor_under power.below half.below half.below);
      above = rw sum (joined-above (2 ^ 60) v 4096 h h hi hi high (scaled_end (2 ^ 60 - 1) hi high) (equal_sum p v h) (equal_sum p v h) (2000000 ^ h) (lit< tt) round.ceiling_over power.above half.above half.above);
      ordered = (let one = half.ordered in omega (arith, one, order));
      small = rw (pow-add 10000 h h, pow-add 10257 h h) (doubled-small lo (scaled_end 0 lo low) h a b half.small product (grown h));
      narrow = rw (pow-add 10000 h h, pow-add 10257 h h, sum-gap lo hi (scaled_end 0 lo low) (scaled_end (2 ^ 60 - 1) hi high) half.ordered order)
          (doubled-narrow (hi - lo) (scaled_end (2 ^ 60 - 1) hi high - scaled_end 0 lo low) h a b some half.narrow width (grown h));
    }

once-small : (v r s : ℕ) → IsDiscount v r s → r * 10000 ≤ 10257 * 2 ^ 60
once-small v r s discount = let order = discount.ordered in let most = discount.at_most in omega (arith, order, most)

-- half a year more, before a payment is added in front
later-width : (p v r s m lo hi : ℕ) → IsDiscount v r s → m ≤ 99 → IsLevel p v m lo hi → (scaled_end (2 ^ 60 - 1) hi s - scaled_end 0 lo r) * (10000 ^ m * 10000) ≤ (m + 2 * (m * m) + 3) * (10257 ^ m * 10257)
later-width p v r s m lo hi discount few rest =
    let thin : s - r ≤ 1 = (let near = discount.narrow in omega (arith, near)) in
    let gap = gap-of lo hi r s rest.ordered discount.ordered (level-thin m (hi - lo) (s - r) few rest.narrow (omega arith)) in
    let share : 22118400000000000 * m * (s - r) ≤ 22118400000000000 * m * 1 = mul-le-mul_left (22118400000000000 * m) thin in
    scaled-narrow (2 ^ 60) lo (hi - lo) r (s - r) (scaled_end (2 ^ 60 - 1) hi s - scaled_end 0 lo r) (22118400000000000 * m) (2 * (m * m)) m (10000 ^ m) (10257 ^ m) 10000 10257 (lit< tt) gap rest.small (omega (arith, share)) rest.narrow (once-small v r s discount) (grown m) (lit≤ tt)

later-small : (p v r s m lo hi : ℕ) → IsDiscount v r s → IsLevel p v m lo hi → scaled_end 0 lo r * (10000 ^ m * 10000) ≤ 22118400000000000 * m * (10257 ^ m * 10257)
later-small p v r s m lo hi discount rest =
    scaled-small (2 ^ 60) lo r (scaled_end 0 lo r) (22118400000000000 * m) (10000 ^ m) (10257 ^ m) 10000 10257 (lit< tt) (round-of lo hi r s).floor_under rest.small (once-small v r s discount)

-- one payment of z in front
front-below : (z p v r s m lo hi : ℕ) → IsDiscount v r s → IsLevel p v m lo hi → (4096 * z + scaled_end 0 lo r) * v ^ (1 + m) ≤ 4096 * ((z * v ^ m + 2000000 * equal_sum p v m) * v)
front-below z p v r s m lo hi discount rest =
    joined-below (2 ^ 60) v 4096 1 m (4096 * z) lo r (scaled_end 0 lo r) z (equal_sum p v m) 2000000 (lit< tt) (round-of lo hi r s).floor_under
    (rw (pow-one v) discount.below) (rw (pow-one v) (omega arith)) rest.below

front-above : (z p v r s m lo hi : ℕ) → IsDiscount v r s → IsLevel p v m lo hi → 4096 * ((z * v ^ m + 2000000 * equal_sum p v m) * v) ≤ (4096 * z + scaled_end (2 ^ 60 - 1) hi s) * v ^ (1 + m)
front-above z p v r s m lo hi discount rest =
    joined-above (2 ^ 60) v 4096 1 m (4096 * z) hi s (scaled_end (2 ^ 60 - 1) hi s) z (equal_sum p v m) 2000000 (lit< tt) (round-of lo hi r s).ceiling_over
    (rw (pow-one v) discount.above) (rw (pow-one v) (omega arith)) rest.above

add-gap : (a b c : ℕ) → (a + c) - (b + c) ≡ a - b
add-gap a b c = omega arith

more-level : (p v r s m lo hi : ℕ) → IsDiscount v r s → 4096 * p ≤ 22118400000000000 → 1 ≤ m → m ≤ 98 → IsLevel p v m lo hi → IsLevel p v (m + 1) (scaled_end 0 lo r + 4096 * p) (scaled_end (2 ^ 60 - 1) hi s + 4096 * p)
more-level p v r s m lo hi discount payment some few rest =
    let turned : 1 + m ≡ m + 1 = omega arith in
    let next : m + 1 ≡ suc m = add-one m in
    let left : 10000 ^ (m + 1) ≡ 10000 ^ m * 10000 = ap (λ n. 10000 ^ n) next ∙ pow-suc 10000 m in
    let right : 10257 ^ (m + 1) ≡ 10257 ^ m * 10257 = ap (λ n. 10257 ^ n) next ∙ pow-suc 10257 m in
    let low = scaled_end 0 lo r in
    let high = scaled_end (2 ^ 60 - 1) hi s in
    let order : low ≤ high = ordered-product lo hi r s rest.ordered discount.ordered in
    let sum : equal_sum p v (m + 1) ≡ p * v ^ m + 2000000 * equal_sum p v m = ap (equal_sum p v) next ∙ (tail_sum-more (λ _. p) 2000000 v m 0 ∙ ap (λ x. p * v ^ m + 2000000 * x) (tail-same (λ _. p) (λ _. p) 2000000 v m 1 0 (λ _ _. refl))) in
    let below = front-below p p v r s m lo hi discount rest in
    let above = front-above p p v r s m lo hi discount rest in
    let below_at : (4096 * p + low) * v ^ (m + 1) ≤ 4096 * ((p * v ^ m + 2000000 * equal_sum p v m) * v) = subst (λ n. (4096 * p + low) * v ^ n ≤ 4096 * ((p * v ^ m + 2000000 * equal_sum p v m) * v)) turned below in
    let above_at : 4096 * ((p * v ^ m + 2000000 * equal_sum p v m) * v) ≤ (4096 * p + high) * v ^ (m + 1) = subst (λ n. 4096 * ((p * v ^ m + 2000000 * equal_sum p v m) * v) ≤ (4096 * p + high) * v ^ n) turned above in
    record {
      below = rw sum (omega (arith, below_at));
      above = rw sum (omega (arith, above_at));
      ordered = omega (arith, order);
      small = rw (left, right) (more-small low (4096 * p) m (10000 ^ m) (10257 ^ m) 10000 10257 (later-small p v r s m lo hi discount rest) payment (grown m) (lit≤ tt));
      narrow = rw (left, right, add-gap high low (4096 * p)) (more-narrow m (10257 ^ m * 10257) ((high - low) * (10000 ^ m * 10000)) some (later-width p v r s m lo hi discount (omega arith) rest));
    }

-- the runs that the code goes through
pub level_by-first : (carry p x f m : ℕ) → m ≤ 1 → level_by carry p x f m ≡ 4096 * p
unfolding level_by
level_by-first carry p x zero m one = refl
level_by-first carry p x (suc f) m one = let t : leb m 1 ≡ true = grind (arith, nat_tests) in rw t refl

pub level_by-more : (carry p x f m : ℕ) → 2 ≤ m → level_by carry p x (suc f) m ≡ level_from_half carry p x m (level_by carry p x f (m / 2))
unfolding level_by
level_by-more carry p x f m more = let t : leb m 1 ≡ false = grind (arith, nat_tests) in rw t refl

pub from_half-even : (carry p x m half : ℕ) → m % 2 ≡ 0 → level_from_half carry p x m half ≡ doubled_end carry x m half
from_half-even carry p x m half even = let t : eqb (m % 2) 0 ≡ true = grind (arith, nat_tests) in rw t refl

pub from_half-odd : (carry p x m half : ℕ) → m % 2 ≢ 0 → level_from_half carry p x m half ≡ scaled_end carry (doubled_end carry x m half) x + 4096 * p
from_half-odd carry p x m half odd = let t : eqb (m % 2) 0 ≡ false = grind (arith, nat_tests) in rw t refl

same-level : (p v m n lo hi lo' hi' : ℕ) → m ≡ n → lo ≡ lo' → hi ≡ hi' → IsLevel p v m lo' hi' → IsLevel p v n lo hi
same-level p v m n lo hi lo' hi' count low high is =
    subst (λ (k : ℕ). IsLevel p v k lo hi) count (rw (low, high) is)

half-level : (p v r s m lo hi : ℕ) → IsDiscount v r s → 4096 * p ≤ 22118400000000000 → 2 ≤ m → m ≤ 99 → IsLevel p v (m / 2) lo hi → IsLevel p v m (level_from_half 0 p r m lo) (level_from_half (2 ^ 60 - 1) p s m hi)
half-level p v r s m lo hi discount payment more few half =
    let both = double-level p v r s (m / 2) lo hi discount (omega arith) (omega arith) half in
    ⊎_elim
    (λ even. same-level p v (m / 2 + m / 2) m (level_from_half 0 p r m lo) (level_from_half (2 ^ 60 - 1) p s m hi) (doubled_end 0 r m lo) (doubled_end (2 ^ 60 - 1) s m hi)
    (omega arith) (from_half-even 0 p r m lo even) (from_half-even (2 ^ 60 - 1) p s m hi even) both)
    (λ odd. same-level p v (m / 2 + m / 2 + 1) m (level_from_half 0 p r m lo) (level_from_half (2 ^ 60 - 1) p s m hi)
    (scaled_end 0 (doubled_end 0 r m lo) r + 4096 * p) (scaled_end (2 ^ 60 - 1) (doubled_end (2 ^ 60 - 1) s m hi) s + 4096 * p)
    (omega arith) (from_half-odd 0 p r m lo odd) (from_half-odd (2 ^ 60 - 1) p s m hi odd)
    (more-level p v r s (m / 2 + m / 2) (doubled_end 0 r m lo) (doubled_end (2 ^ 60 - 1) s m hi) discount payment (omega arith) (omega arith) both))
    (even_or_odd m)

level-is : (p v r s : ℕ) → IsDiscount v r s → 4096 * p ≤ 22118400000000000 → (f m : ℕ) → 1 ≤ m → m < 2 ^ suc f → m ≤ 99 → IsLevel p v m (level_by 0 p r f m) (level_by (2 ^ 60 - 1) p s f m)
level-is p v r s discount payment zero m some less few =
    let two : 2 ^ suc 0 ≡ 2 = refl in
    same-level p v 1 m (level_by 0 p r 0 m) (level_by (2 ^ 60 - 1) p s 0 m) (4096 * p) (4096 * p) (omega arith) (level_by-first 0 p r 0 m (omega arith)) (level_by-first (2 ^ 60 - 1) p s 0 m (omega arith)) (one-level p v payment)
level-is p v r s discount payment (suc f) m some less few =
    let double : 2 ^ suc (suc f) ≡ 2 ^ suc f * 2 = pow-suc 2 (suc f) in
    ⊎_elim
    (λ one. same-level p v 1 m (level_by 0 p r (suc f) m) (level_by (2 ^ 60 - 1) p s (suc f) m) (4096 * p) (4096 * p) (omega arith) (level_by-first 0 p r (suc f) m one) (level_by-first (2 ^ 60 - 1) p s (suc f) m one) (one-level p v payment))
    (λ more. rw (level_by-more 0 p r f m more, level_by-more (2 ^ 60 - 1) p s f m more)
    (half-level p v r s m (level_by 0 p r f (m / 2)) (level_by (2 ^ 60 - 1) p s f (m / 2)) discount payment more few
    (level-is p v r s discount payment f (m / 2) (omega arith) (omega arith) (omega arith))))
    (one_or_more m)

none_or_some : (m : ℕ) → (m ≡ 0) ⊎ (1 ≤ m)
none_or_some m = grind arith

pub level_end-none : (carry p x : ℕ) → level_end carry p x 0 ≡ 0
unfolding level_end
level_end-none carry p x = refl

pub level_end-some : (carry p x m : ℕ) → 1 ≤ m → level_end carry p x m ≡ level_by carry p x 6 m
unfolding level_end
level_end-some carry p x m some = let t : eqb m 0 ≡ false = grind (arith, nat_tests) in rw t refl

level_end-is : (p v r s m : ℕ) → IsDiscount v r s → 4096 * p ≤ 22118400000000000 → m ≤ 99 → IsLevel p v m (level_end 0 p r m) (level_end (2 ^ 60 - 1) p s m)
level_end-is p v r s m discount payment few =
    ⊎_elim
    (λ none. same-level p v 0 m (level_end 0 p r m) (level_end (2 ^ 60 - 1) p s m) 0 0 (sym none) (ap (level_end 0 p r) none ∙ level_end-none 0 p r) (ap (level_end (2 ^ 60 - 1) p s) none ∙ level_end-none (2 ^ 60 - 1) p s) (no-level p v))
    (λ some. rw (level_end-some 0 p r m some, level_end-some (2 ^ 60 - 1) p s m some) (level-is p v r s discount payment 6 m some (omega arith) few))
    (none_or_some m)

-- ---- all that is paid
record IsPaid (t v m lo hi : ℕ) : Type 0 where
  below : lo * v ^ (1 + m) ≤ 4096 * (t * v)
  above : 4096 * (t * v) ≤ hi * v ^ (1 + m)
  ordered : lo ≤ hi
  small : lo * (10000 ^ m * 10000) ≤ 22118400000000000 * (m + 16) * (10257 ^ m * 10257)
  narrow : (hi - lo) * (10000 ^ m * 10000) ≤ (2 * (m * m) + 17 * m + 6) * (10257 ^ m * 10257)

-- the redemption, discounted by m half-years
redeemed-below : (u v b p q t hm vm : ℕ) → 0 < u → q * u ≤ b * p → p * vm ≤ hm * u → b ≡ 4096 * t → q * (v * vm) ≤ 4096 * (hm * t * v)
redeemed-below u v b p q t hm vm pos round power is =
    let one : q * u * (v * vm) ≤ b * p * (v * vm) = mul-le-mul_right (v * vm) round in
    let two : p * vm * (b * v) ≤ hm * u * (b * v) = mul-le-mul_right (b * v) power in
    let all : q * (v * vm) * u ≤ b * hm * v * u = omega arith in
    let most : q * (v * vm) ≤ b * hm * v = le_of_mul-le-mul_right all pos in
    let same : b * hm * v ≡ 4096 * t * hm * v = ap (λ x. x * hm * v) is in
    omega arith

redeemed-above : (u v b p q t hm vm : ℕ) → 0 < u → b * p ≤ q * u → hm * u ≤ p * vm → b ≡ 4096 * t → 4096 * (hm * t * v) ≤ q * (v * vm)
redeemed-above u v b p q t hm vm pos round power is =
    let one : b * p * (v * vm) ≤ q * u * (v * vm) = mul-le-mul_right (v * vm) round in
    let two : hm * u * (b * v) ≤ p * vm * (b * v) = mul-le-mul_right (b * v) power in
    let all : b * hm * v * u ≤ q * (v * vm) * u = omega arith in
    let least : b * hm * v ≤ q * (v * vm) = le_of_mul-le-mul_right all pos in
    let same : b * hm * v ≡ 4096 * t * hm * v = ap (λ x. x * hm * v) is in
    omega arith

redeemed-narrow : (m b e g d : ℕ) → b ≤ 300000000000000000 → e ≤ 48 * m → d ≡ 0 → g * 2 ^ 60 ≤ b * e + d + 3 * 2 ^ 60 → g ≤ 16 * m + 3
redeemed-narrow m b e g d few wide none gap =
    let product : b * e ≤ 300000000000000000 * (48 * m) = mul-le-mul few wide in
    let all : g * 2 ^ 60 ≤ (16 * m + 3) * 2 ^ 60 = omega arith in
    le_of_mul-le-mul_right all (lit< tt)

paid-ends : (series : PaymentSeries) (v r s m : ℕ) → IsSeries series → IsDiscount v r s → m ≤ 99 → IsPaid (paid_sum series v m) v m (paid_end 0 series r m) (paid_end (2 ^ 60 - 1) series s m)
paid-ends series v r s m is discount few =
    let regular = is.regular in
    let payment : 4096 * series.regular ≤ 22118400000000000 = omega (arith, regular) in
    let first = is.first in
    let redemption = is.redemption_to in
    let level = level_end-is series.regular v r s m discount payment few in
    let lo = level_end 0 series.regular r m in
    let hi = level_end (2 ^ 60 - 1) series.regular s m in
    let power : IsDiscountPower v m (power_low r m) (power_high s m) = discount_power-is v r s m discount few in
    let low = power_low r m in
    let high = power_high s m in
    let amount = 4096 * series.redemption in
    let later_low = scaled_end 0 lo r in
    let later_high = scaled_end (2 ^ 60 - 1) hi s in
    let back_low = scaled_end 0 amount low in
    let back_high = scaled_end (2 ^ 60 - 1) amount high in
    let round = round-of amount amount low high in
    let a = 10000 ^ m * 10000 in
    let b = 10257 ^ m * 10257 in
    let less : 10000 ^ m ≤ 10257 ^ m = grown m in
    let rise : a ≤ b = mul-le-mul less (lit≤ tt) in
    let order : later_low ≤ later_high = ordered-product lo hi r s level.ordered discount.ordered in
    let back_order : back_low ≤ back_high = ordered-product amount amount low high (omega arith) power.ordered in
    let none : amount - amount ≡ 0 = omega arith in
    let no_gap : (amount - amount) * (high - low) ≤ 2 ^ 60 = rw none (omega arith) in
    let wide : high - low ≤ 48 * m = (let near = power.narrow in omega (arith, near)) in
    let back_gap = gap-of amount amount low high (omega arith) power.ordered no_gap in
    let nothing : (amount - amount) * low ≡ 0 = rw none (omega arith) in
    let back_width : back_high - back_low ≤ 16 * m + 3 = redeemed-narrow m amount (high - low) (back_high - back_low) ((amount - amount) * low) (omega (arith, redemption)) wide nothing back_gap in
    let width = later-width series.regular v r s m lo hi discount few level in
    let small = later-small series.regular v r s m lo hi discount level in
    let back_small : back_low * (1 * 10000 ^ m) ≤ 300000000000000000 * (1 * 10257 ^ m)
    = scaled-small (2 ^ 60) amount low back_low 300000000000000000 1 1 (10000 ^ m) (10257 ^ m) (lit< tt) round.floor_under (omega (arith, redemption)) power.small in
    let front = front-below series.first series.regular v r s m lo hi discount level in
    let front_above = front-above series.first series.regular v r s m lo hi discount level in
    let joined : v ^ (1 + m) ≡ v * v ^ m = pow-add v 1 m ∙ ap (λ x. x * v ^ m) (pow-one v) in
    let redeemed : back_low * (v * v ^ m) ≤ 4096 * (2000000 ^ m * series.redemption * v)
    = redeemed-below (2 ^ 60) v amount low back_low series.redemption (2000000 ^ m) (v ^ m) (lit< tt) round.floor_under power.below refl in
    let redeemed_above : 4096 * (2000000 ^ m * series.redemption * v) ≤ back_high * (v * v ^ m)
    = redeemed-above (2 ^ 60) v amount high back_high series.redemption (2000000 ^ m) (v ^ m) (lit< tt) round.ceiling_over power.above refl in
    let front_at : (4096 * series.first + later_low) * (v * v ^ m) ≤ 4096 * ((series.first * v ^ m + 2000000 * equal_sum series.regular v m) * v) = subst (λ x. (4096 * series.first + later_low) * x ≤ 4096 * ((series.first * v ^ m + 2000000 * equal_sum series.regular v m) * v)) joined front in
    let front_above_at : 4096 * ((series.first * v ^ m + 2000000 * equal_sum series.regular v m) * v) ≤ (4096 * series.first + later_high) * (v * v ^ m) = subst (λ x. 4096 * ((series.first * v ^ m + 2000000 * equal_sum series.regular v m) * v) ≤ (4096 * series.first + later_high) * x) joined front_above in
    let first_small : 4096 * series.first * a ≤ 44236800000000000 * b = mul-le-mul (omega (arith, first)) rise in
    let back_later : back_low * (1 * 10000 ^ m) * 10000 ≤ 300000000000000000 * (1 * 10257 ^ m) * 10257 = mul-le-mul back_small (lit≤ tt) in
    let back_wide : (back_high - back_low) * a ≤ (16 * m + 3) * b = mul-le-mul back_width rise in
    let gaps : later_high + 4096 * series.first + back_high - (later_low + 4096 * series.first + back_low) ≡ later_high - later_low + (back_high - back_low) = omega (arith, order, back_order) in
    record {
      below = rw joined (omega (arith, front_at, redeemed));
      above = rw joined (omega (arith, front_above_at, redeemed_above));
      ordered = omega (arith, order, back_order);
      small = omega (arith, small, first_small, back_later);
      narrow = rw gaps (omega (arith, width, back_wide));
    }

-- ---- on the day of the first payment
record IsDoubled (t v n lo hi : ℕ) : Type 0 where
  below : lo * v ^ n ≤ 4096 * (t * v)
  above : 4096 * (t * v) ≤ hi * v ^ n
  ordered : lo ≤ hi
  narrow : hi ≤ lo + 2 ^ 19

nothing-before : (u v b k n q p t hk : ℕ) → (0 + q) * v ^ n ≤ 4096 * ((0 * b + hk * t) * v) → q * v ^ n ≤ 4096 * (hk * t * v)
nothing-before u v b k n q p t hk all = omega arith

nothing-before-above : (v b n q t hk : ℕ) → 4096 * ((0 * b + hk * t) * v) ≤ (0 + q) * v ^ n → 4096 * (hk * t * v) ≤ q * v ^ n
nothing-before-above v b n q t hk all = omega arith

paid-thin : (m d e : ℕ) → m ≤ 99 → d * (10000 ^ m * 10000) ≤ (2 * (m * m) + 17 * m + 6) * (10257 ^ m * 10257) → e ≤ 4752 → d * e ≤ 2 ^ 60
paid-thin m d e few narrow less =
    let square : m * m ≤ 99 * 99 = mul-le-mul few few in
    let next : m + 1 ≡ suc m = add-one m in
    let left : 10000 ^ (m + 1) ≡ 10000 ^ m * 10000 = ap (λ n. 10000 ^ n) next ∙ pow-suc 10000 m in
    let right : 10257 ^ (m + 1) ≡ 10257 ^ m * 10257 = ap (λ n. 10257 ^ n) next ∙ pow-suc 10257 m in
    let share : (2 * (m * m) + 17 * m + 6) * (10257 ^ m * 10257) ≤ 21300 * (10257 ^ m * 10257) = mul-le-mul_right (10257 ^ m * 10257) (omega (arith, square, few)) in
    let all : d * (10000 ^ m * 10000) ≤ 21300 * (10257 ^ m * 10257) = omega (arith, narrow, share) in
    let top : d ≤ 2 ^ 19 = bound-end 10000 10257 21300 (2 ^ 19) d (m + 1) 100 (lit< tt) (lit≤ tt) (omega arith) (rw (left, right) all) (lit≤ tt) in
    let product : d * e ≤ 2 ^ 19 * 4752 = mul-le-mul top less in
    omega (arith, product)

end-narrow : (m k g : ℕ) → k + suc m ≤ 100 → g * (10000 ^ m * 10000 * 10000 ^ k) ≤ ((m + 16) * k + (2 * (m * m) + 17 * m + 6) + 3) * (10257 ^ m * 10257 * 10257 ^ k) → g ≤ 2 ^ 19
end-narrow m k g few narrow =
    let short : m ≤ 99 = omega arith in
    let back : m + 16 ≤ 115 = omega arith in
    let front : k ≤ 99 = omega arith in
    let square : m * m ≤ 99 * 99 = mul-le-mul short short in
    let product : (m + 16) * k ≤ 115 * 99 = mul-le-mul back front in
    let left : 10000 ^ (k + suc m) ≡ 10000 ^ k * (10000 ^ m * 10000) = pow-add 10000 k (suc m) ∙ ap (λ x. 10000 ^ k * x) (pow-suc 10000 m) in
    let right : 10257 ^ (k + suc m) ≡ 10257 ^ k * (10257 ^ m * 10257) = pow-add 10257 k (suc m) ∙ ap (λ x. 10257 ^ k * x) (pow-suc 10257 m) in
    let share : ((m + 16) * k + (2 * (m * m) + 17 * m + 6) + 3) * (10257 ^ m * 10257 * 10257 ^ k) ≤ 33000 * (10257 ^ m * 10257 * 10257 ^ k) = mul-le-mul_right (10257 ^ m * 10257 * 10257 ^ k) (omega (arith, square, product, few)) in
    let all : g * (10000 ^ k * (10000 ^ m * 10000)) ≤ 33000 * (10257 ^ k * (10257 ^ m * 10257)) = omega (arith, narrow, share) in
    bound-end 10000 10257 33000 (2 ^ 19) g (k + suc m) 100 (lit< tt) (lit≤ tt) few (rw (left, right) all) (lit≤ tt)

doubled-ends : (series : PaymentSeries) (v r s k m n : ℕ) → IsSeries series → IsDiscount v r s → k + suc m ≡ n → n ≤ 100 → IsDoubled (2000000 ^ k * paid_sum series v m) v n (scaled_end 0 (paid_end 0 series r m) (power_low r k)) (scaled_end (2 ^ 60 - 1) (paid_end (2 ^ 60 - 1) series s m) (power_high s k))
doubled-ends series v r s k m n is discount end most =
    let few : m ≤ 99 = omega arith in
    let low = power_low r k in
    let high = power_high s k in
    let lo = paid_end 0 series r m in
    let hi = paid_end (2 ^ 60 - 1) series s m in
    let paid = paid-ends series v r s m is discount few in
    let power : IsDiscountPower v k low high = discount_power-is v r s k discount (omega arith) in
    let round = round-of lo hi low high in
    let wide : high - low ≤ 48 * k = (let near = power.narrow in omega (arith, near)) in
    let gap = gap-of lo hi low high paid.ordered power.ordered (paid-thin m (hi - lo) (high - low) few paid.narrow (omega arith)) in
    let share : 22118400000000000 * (m + 16) * (high - low) ≤ 22118400000000000 * (m + 16) * (48 * k) = mul-le-mul_left (22118400000000000 * (m + 16)) wide in
    let rise : 10000 ^ m * 10000 ≤ 10257 ^ m * 10257 = mul-le-mul (grown m) (lit≤ tt) in
    let width = scaled-narrow (2 ^ 60) lo (hi - lo) low (high - low) (scaled_end (2 ^ 60 - 1) hi high - scaled_end 0 lo low) (22118400000000000 * (m + 16)) (2 * (m * m) + 17 * m + 6) ((m + 16) * k)
    (10000 ^ m * 10000) (10257 ^ m * 10257) (10000 ^ k) (10257 ^ k) (lit< tt) gap paid.small (omega (arith, share)) paid.narrow power.small rise (grown k) in
    let order : scaled_end 0 lo low ≤ scaled_end (2 ^ 60 - 1) hi high = ordered-product lo hi low high paid.ordered power.ordered in
    let thin : scaled_end (2 ^ 60 - 1) hi high - scaled_end 0 lo low ≤ 2 ^ 19 = end-narrow m k (scaled_end (2 ^ 60 - 1) hi high - scaled_end 0 lo low) (omega arith) width in
    let count : k + (1 + m) ≡ n = omega arith in
    let t = paid_sum series v m in
    let below = joined-below (2 ^ 60) v 4096 k (1 + m) 0 lo low (scaled_end 0 lo low) 0 t (2000000 ^ k) (lit< tt) round.floor_under power.below (omega arith) paid.below in
    let above = joined-above (2 ^ 60) v 4096 k (1 + m) 0 hi high (scaled_end (2 ^ 60 - 1) hi high) 0 t (2000000 ^ k) (lit< tt) round.ceiling_over power.above (omega arith) paid.above in
    record {
      below = nothing-before (2 ^ 60) v (v ^ (1 + m)) k n (scaled_end 0 lo low) low t (2000000 ^ k) (subst (λ x. (0 + scaled_end 0 lo low) * v ^ x ≤ 4096 * ((0 * v ^ (1 + m) + 2000000 ^ k * t) * v)) count below);
      above = nothing-before-above v (v ^ (1 + m)) n (scaled_end (2 ^ 60 - 1) hi high) t (2000000 ^ k) (subst (λ x. 4096 * ((0 * v ^ (1 + m) + 2000000 ^ k * t) * v) ≤ (0 + scaled_end (2 ^ 60 - 1) hi high) * v ^ x) count above);
      ordered = order;
      narrow = omega (arith, order, thin);
    }

-- one power of v less
less-below : (v n lo t : ℕ) → 0 < v → 1 ≤ n → lo * v ^ n ≤ 4096 * (t * v) → lo * v ^ (n - 1) ≤ 4096 * t
less-below v n lo t pos some all =
    let next : suc (n - 1) ≡ n = omega arith in
    let power : v ^ n ≡ v ^ (n - 1) * v = ap (λ x. v ^ x) (sym next) ∙ pow-suc v (n - 1) in
    let at : lo * (v ^ (n - 1) * v) ≤ 4096 * (t * v) = rw power at all in
    let times : lo * v ^ (n - 1) * v ≤ 4096 * t * v = omega (arith, at) in
    le_of_mul-le-mul_right times pos

less-above : (v n hi t : ℕ) → 0 < v → 1 ≤ n → 4096 * (t * v) ≤ hi * v ^ n → 4096 * t ≤ hi * v ^ (n - 1)
less-above v n hi t pos some all =
    let next : suc (n - 1) ≡ n = omega arith in
    let power : v ^ n ≡ v ^ (n - 1) * v = ap (λ x. v ^ x) (sym next) ∙ pow-suc v (n - 1) in
    let at : 4096 * (t * v) ≤ hi * (v ^ (n - 1) * v) = rw power at all in
    let times : 4096 * t * v ≤ hi * v ^ (n - 1) * v = omega (arith, at) in
    le_of_mul-le-mul_right times pos

lower-end : (v n lo hi t : ℕ) → 0 < v → lo * v ^ n ≤ t → t ≤ hi * v ^ n → lo ≤ hi
lower-end v n lo hi t pos under over =
    let all : lo * v ^ n ≤ hi * v ^ n = omega arith in
    le_of_mul-le-mul_right all (one-le-pow n v pos)

doubling-is : (series : PaymentSeries) (y : ℤ) → IsSeries series → IsManyPeriodsBoundary y → IsDoubled (whole_sum (to_come series) y) (discount_divisor y) series.n (doubling_end 0 series (discount_low y)) (doubling_end (2 ^ 60 - 1) series (discount_high y))
unfolding doubling_end
doubling-is series y is within =
    let skip = is.skip in
    let v = discount_divisor y in
    let m = series.n - 1 - series.skip in
    let end : series.skip + suc m ≡ series.n = omega arith in
    let worth : 2000000 ^ series.skip * paid_sum series v m ≡ whole_sum (to_come series) y
    = sym (whole-is series v m is end) ∙ (tail_sum-all (payment_at series) 2000000 v series.n ∙ sym (whole_sum-series series y is.skip)) in
    subst (λ t. IsDoubled t v series.n (scaled_end 0 (paid_end 0 series (discount_low y) m) (power_low (discount_low y) series.skip)) (scaled_end (2 ^ 60 - 1) (paid_end (2 ^ 60 - 1) series (discount_high y) m) (power_high (discount_high y) series.skip)))
    worth (doubled-ends series v (discount_low y) (discount_high y) series.skip m series.n is (discount-is y within) end is.n_to)

doubling-holds : (series : PaymentSeries) (y : ℤ) → IsSeries series → IsManyPeriodsBoundary y → HoldsSum (to_come series) y (doubling_end 0 series (discount_low y)) (doubling_end (2 ^ 60 - 1) series (discount_high y))
doubling-holds series y is within =
    let sum = doubling-is series y is within in
    let divisor = divisor-least y within in
    let some = is.n_from in
    let v = discount_divisor y in
    let t = whole_sum (to_come series) y in
    let lo = doubling_end 0 series (discount_low y) in
    let hi = doubling_end (2 ^ 60 - 1) series (discount_high y) in
    let count : length (payments_of series) ≡ series.n = payments-count series is.skip in
    record {
      below = subst (λ n. lo * v ^ (n - 1) ≤ 4096 * t) (sym count) (less-below v series.n lo t (omega (arith, divisor)) (omega (arith, some)) sum.below);
      above = subst (λ n. 4096 * t ≤ hi * v ^ (n - 1)) (sym count) (less-above v series.n hi t (omega (arith, divisor)) (omega (arith, some)) sum.above);
    }

pub sum-fits : (series : PaymentSeries) (y : ℤ) → IsSeries series → IsManyPeriodsBoundary y → doubling_end (2 ^ 60 - 1) series (discount_high y) < 2 ^ 64
sum-fits series y is within =
    let holds = doubling-holds series y is within in
    let other = sums-narrow series y is within in
    let limit = sums-limit series y is within in
    let divisor = divisor-least y within in
    let narrow = (doubling-is series y is within).narrow in
    let lo = doubling_end 0 series (discount_low y) in
    let high = sum_high (payment_at series) (discount_high y) series.n 0 in
    let under : lo ≤ high = lower-end (discount_divisor y) (length (payments_of series) - 1) lo high (4096 * whole_sum (to_come series) y) (omega (arith, divisor)) holds.below other.holds.above in
    omega (arith, under, limit, narrow)

-- ---- both laws
doubling-settled : (series : PaymentSeries) (y : ℤ) → IsSeries series → IsManyPeriodsBoundary y → HoldsWorth (to_come series) y (doubling_ends series y) × IsNarrow (doubling_ends series y)
unfolding doubling_ends
doubling-settled series y is within =
    let sum = doubling-is series y is within in
    let settled = last_step-encloses series y (doubling_end 0 series (discount_low y)) (doubling_end (2 ^ 60 - 1) series (discount_high y)) is within
    (doubling-holds series y is within) sum.ordered (sum-fits series y is within) sum.narrow in
    (settled.holds, settled.narrow)

pub doubling-encloses : (series : PaymentSeries) (y : ℤ) → IsSeries series → 2 ≤ series.n → IsManyPeriodsBoundary y → HoldsWorth (to_come series) y (doubling_ends series y)
doubling-encloses series y is many within = (doubling-settled series y is within).0

pub doubling-narrow : (series : PaymentSeries) (y : ℤ) → IsSeries series → 2 ≤ series.n → IsManyPeriodsBoundary y → IsNarrow (doubling_ends series y)
doubling-narrow series y is many within = (doubling-settled series y is within).1

-- the sum of a run fits
pub level-fits : (p v r s f m : ℕ) → IsDiscount v r s → p ≤ 5400000000000 → 1 ≤ m → m < 2 ^ suc f → m ≤ 99 → (level_by 0 p r f m ≤ level_by (2 ^ 60 - 1) p s f m) × (level_by (2 ^ 60 - 1) p s f m ≤ 2 ^ 66)
level-fits p v r s f m discount payment some less few =
    let level = level-is p v r s discount (omega arith) f m some less few in
    let lo = level_by 0 p r f m in
    let share : 22118400000000000 * m * 10257 ^ m ≤ 22118400000000000 * 99 * 10257 ^ m = mul-le-mul_right (10257 ^ m) (mul-le-mul_left 22118400000000000 few) in
    let small = level.small in
    let top : lo ≤ 2 ^ 65 = bound-end 10000 10257 (22118400000000000 * 99) (2 ^ 65) lo m 99 (lit< tt) (lit≤ tt) few (omega (arith, small, share)) (lit≤ tt) in
    let thin = level-thin m (level_by (2 ^ 60 - 1) p s f m - lo) 1 few level.narrow (lit≤ tt) in
    (level.ordered, omega (arith, top, thin))

-- and so does a power of the discount factor
pub factor-fits : (v r s k : ℕ) → IsDiscount v r s → k ≤ 99 → power_high s k ≤ 15 * 2 ^ 60
factor-fits v r s k discount few =
    let power : IsDiscountPower v k (power_low r k) (power_high s k) = discount_power-is v r s k discount few in
    let small = power.small in
    let top : power_low r k ≤ 13 * 2 ^ 60 = bound-end 10000 10257 (2 ^ 60) (13 * 2 ^ 60) (power_low r k) k 99 (lit< tt) (lit≤ tt) few (omega (arith, small)) (lit≤ tt) in
    let near = power.narrow in
    omega (arith, top, near)
