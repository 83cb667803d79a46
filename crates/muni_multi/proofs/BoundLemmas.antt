-- A worth is below 2^53, whatever encloses it, and its ends are in order.
use Rattle.std.proofs.Common.{◌≡◌, ℕ, ◌+◌, ◌-◌, ◌*◌, ◌/◌, ◌^◌, ◌<◌, ◌≤◌, ◌≢◌, length, sym, ap, ◌∙◌, subst, arith, lit<, ℤ}
use Rattle.std.proofs.Math.Nat.{div-mul-le_self, mul-le-mul, mul-le-mul_left, mul-le-mul_right, le_of_mul-le-mul_right, pow-le-pow_left, one-le-pow}
use Rattle.std.proofs.lemmas.Nat.{pow-add, mul-pow, div_below, le-div}
use Rattle.muni_rule.specs.Payments.{PaymentSeries, IsSeries, payments_of, payment_at}
use Rattle.muni_rule.specs.ManyPeriods.{to_come, discount_divisor, sum_to, whole_sum, worth_power, asked_power}
use Rattle.muni_rule.specs.Ranges.{IsManyPeriodsBoundary}
use Rattle.muni_rule.specs.WorthEnds.{WorthEnds, HoldsWorth, IsNarrow, short_worth, ends_of}
use Rattle.muni_rule.proofs.PowerLemmas.{not-zero, pow-split, power-order}
use Rattle.muni_rule.proofs.ExactLemmas.{by-cases}
use Rattle.muni_rule.proofs.EnclosedLemmas.{IsEnclosed, enclosed-holds, divisor-least}
use Rattle.muni_multi.specs.Bounds.{AreBounded}
use Rattle.muni_multi.specs.LastStep.{discount_high}
use Rattle.muni_multi.specs.Horner.{sum_high}
use Rattle.muni_multi.specs.HornerLaws.{sums-narrow}

-- the payments are worth less than 2^52 on the day of the first
sum-small : (series : PaymentSeries) (y : ℤ) → IsSeries series → IsManyPeriodsBoundary y → whole_sum (to_come series) y ≤ 2 ^ 52 * discount_divisor y ^ (length (payments_of series) - 1)
sum-small series y is within =
    let sum = sums-narrow series y is within in
    let limit = sum.below_limit in
    let above = sum.holds.above in
    let times : sum_high (payment_at series) (discount_high y) series.n 0 * discount_divisor y ^ (length (payments_of series) - 1) ≤ 2 ^ 64 * discount_divisor y ^ (length (payments_of series) - 1)
    = mul-le-mul_right (discount_divisor y ^ (length (payments_of series) - 1)) (omega (arith, limit)) in
    omega (arith, above, times)

two-powers : (e k : ℕ) → e ≤ k → 2 ^ e ≤ 2 ^ k
two-powers e k less =
    let split : e + (k - e) ≡ k = omega arith in
    let some : 1 ≤ 2 ^ (k - e) = one-le-pow (k - e) 2 (lit< tt) in
    let power : 2 ^ k ≡ 2 ^ e * 2 ^ (k - e) = ap (λ n. 2 ^ n) (sym split) ∙ pow-add 2 e (k - e) in
    let times : 2 ^ e * 1 ≤ 2 ^ e * 2 ^ (k - e) = mul-le-mul_left (2 ^ e) some in
    omega (arith, power, times)

-- and at the settlement at most twice as much
settled-small : (c h v t m k e : ℕ) → e ≤ k → h ≤ 2 * v → t ≤ c * v ^ m → t ^ k * h ^ e ≤ (c * 2) ^ k * v ^ (m * k + e)
settled-small c h v t m k e few rate small =
    let sum : t ^ k ≤ c ^ k * (v ^ m) ^ k = rw (← mul-pow c (v ^ m) k) (pow-le-pow_left small k) in
    let factor : h ^ e ≤ 2 ^ e * v ^ e = rw (← mul-pow 2 v e) (pow-le-pow_left rate e) in
    let more : 2 ^ e * v ^ e ≤ 2 ^ k * v ^ e = mul-le-mul_right (v ^ e) (two-powers e k few) in
    let twice : h ^ e ≤ 2 ^ k * v ^ e = omega arith in
    let both : t ^ k * h ^ e ≤ c ^ k * (v ^ m) ^ k * (2 ^ k * v ^ e) = mul-le-mul sum twice in
    rw (pow-split v m k e, mul-pow c 2 k) (omega (arith, both))

end-small : (lo unit c k power worth : ℕ) → k ≢ 0 → 0 < power → lo ^ k * power ≤ unit ^ k * worth → worth ≤ c ^ k * power → lo ≤ unit * c
end-small lo unit c k power worth many some law small =
    let times : unit ^ k * worth ≤ unit ^ k * (c ^ k * power) = mul-le-mul_left (unit ^ k) small in
    let all : lo ^ k * power ≤ unit ^ k * c ^ k * power = omega (arith, law, times) in
    let raised : lo ^ k ≤ unit ^ k * c ^ k = le_of_mul-le-mul_right all some in
    power-order lo (unit * c) k many (rw (mul-pow unit c k) raised)

low-small : (series : PaymentSeries) (y : ℤ) (ends : WorthEnds) → IsSeries series → IsManyPeriodsBoundary y → HoldsWorth (to_come series) y ends → ends.lo ≤ ends.unit * 2 ^ 53
low-small series y ends is within holds =
    let least = divisor-least y within in
    let some : 0 < discount_divisor y ^ ((length (payments_of series) - 1) * 180 + (180 - series.a)) = one-le-pow ((length (payments_of series) - 1) * 180 + (180 - series.a)) (discount_divisor y) (omega (arith, least)) in
    let worth : worth_power (to_come series) y ≤ (2 ^ 52 * 2) ^ 180 * discount_divisor y ^ ((length (payments_of series) - 1) * 180 + (180 - series.a))
    = settled-small (2 ^ 52) 2000000 (discount_divisor y) (whole_sum (to_come series) y) (length (payments_of series) - 1) 180 (180 - series.a) (omega arith) (omega (arith, least)) (sum-small series y is within) in
    let small : ends.lo ≤ ends.unit * (2 ^ 52 * 2) = end-small ends.lo ends.unit (2 ^ 52 * 2) 180 (discount_divisor y ^ ((length (payments_of series) - 1) * 180 + (180 - series.a))) (worth_power (to_come series) y) not-zero some holds.below worth in
    omega (arith, small)

through : (a b c : ℕ) → a ≤ b → b ≤ c → a ≤ c
through a b c first second = omega arith

ends-ordered : (series : PaymentSeries) (y : ℤ) (ends : WorthEnds) → 0 < discount_divisor y → HoldsWorth (to_come series) y ends → ends.lo ≤ ends.hi
ends-ordered series y ends some holds =
    let power : 0 < discount_divisor y ^ ((length (payments_of series) - 1) * 180 + (180 - series.a)) = one-le-pow ((length (payments_of series) - 1) * 180 + (180 - series.a)) (discount_divisor y) some in
    power-order ends.lo ends.hi 180 not-zero (le_of_mul-le-mul_right (through (asked_power (to_come series) y ends.lo) (ends.unit ^ 180 * worth_power (to_come series) y) (asked_power (to_come series) y ends.hi) holds.below holds.above) power)

same-narrow : (top unit : ℕ) → top ≤ top + 360 * unit
same-narrow top unit = omega arith

ends-narrow : (series : PaymentSeries) (y : ℤ) (enclosure : WorthEnds) → IsNarrow enclosure → (ends_of series y enclosure).hi ≤ (ends_of series y enclosure).lo + 360 * (ends_of series y enclosure).unit
ends-narrow series y enclosure narrow =
    by-cases series y enclosure (λ ends. ends.hi ≤ ends.lo + 360 * ends.unit)
    (λ _. same-narrow (sum_to (payment_at series) series.n) 1)
    (λ _. same-narrow (series.redemption + series.accrued) 1)
    (λ _. same-narrow (short_worth series (discount_divisor y)).lo (short_worth series (discount_divisor y)).unit)
    (λ _. let weak : enclosure.hi ≤ enclosure.lo + 360 * enclosure.unit = omega (arith, narrow) in weak)

known-bounded : (series : PaymentSeries) (y : ℤ) (enclosure : WorthEnds) → IsManyPeriodsBoundary y → IsEnclosed series y enclosure → AreBounded (ends_of series y enclosure)
known-bounded series y enclosure within given =
    let holds = enclosed-holds series y enclosure given in
    record {
      some = holds.some;
      ordered = ends-ordered series y (ends_of series y enclosure) given.divisor holds;
      small = low-small series y (ends_of series y enclosure) given.series_is within holds;
      narrow = ends-narrow series y enclosure given.narrow;
    }

pub are-bounded : (series : PaymentSeries) (y : ℤ) (enclosure : WorthEnds) (ends : WorthEnds) → ends ≡ ends_of series y enclosure → IsManyPeriodsBoundary y → IsEnclosed series y enclosure → AreBounded ends
are-bounded series y enclosure ends is within given = subst (λ x. AreBounded x) (sym is) (known-bounded series y enclosure within given)

pub high-small : (ends : WorthEnds) → AreBounded ends → ends.hi / ends.unit < 35000000000000000
high-small ends known =
    let some = known.some in
    let small = known.small in
    let narrow = known.narrow in
    div_below ends.hi ends.unit 35000000000000000 some (omega arith)

pub low-fits : (ends : WorthEnds) → AreBounded ends → ends.lo / ends.unit < 2 ^ 64
low-fits ends known =
    let some = known.some in
    let small = known.small in
    div_below ends.lo ends.unit (2 ^ 64) some (omega arith)

pub quotients-ordered : (ends : WorthEnds) → AreBounded ends → ends.lo / ends.unit ≤ ends.hi / ends.unit
quotients-ordered ends known =
    let floor : ends.lo / ends.unit * ends.unit ≤ ends.lo = div-mul-le_self ends.lo ends.unit in
    let order = known.ordered in
    le-div (ends.lo / ends.unit) ends.hi ends.unit known.some (omega arith)
