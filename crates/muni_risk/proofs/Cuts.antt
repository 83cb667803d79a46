-- Sums that are cut off to fit, and the nearest quotient of what is left.
use Rattle.std.proofs.Common.{◌≡◌, ℕ, suc, zero, ◌+◌, ◌-◌, ◌*◌, ◌/◌, ◌^◌, ◌<◌, ◌≤◌, sym, ap, ◌∙◌, ⊎_elim, arith, lit<}
use Rattle.std.proofs.Math.Nat.{mul-le-mul, mul-le-mul_left, mul-le-mul_right, le_of_mul-le-mul_right, lt_of_mul-lt-mul_right, mul-pos, one-le-pow, div-mul-le_self, lt-div-mul-add, pow-zero}
use Rattle.std.proofs.lemmas.Bool.{cases_lt}
use Rattle.std.proofs.lemmas.Nat.{pow-add}

-- a unit in which a number has at most 54 binary places
pub record IsUnit (number unit : ℕ) : Type 0 where
  pub small : number < 2 ^ 54 * unit
  pub fine : 2 ^ 53 * (unit - 1) ≤ number
  pub fits : unit < 2 ^ 101

unit-few : (number top shift : ℕ) → top ≤ 53 → 2 ^ top ≤ 2 ^ 53 → number < 2 * 2 ^ top → shift ≡ top - 53 → IsUnit number (2 ^ shift)
unit-few number top shift few power over is =
    let zero_shift : shift ≡ 0 = omega (arith, is, few) in
    let none : 2 ^ shift ≡ 1 = ap (λ n. 2 ^ n) zero_shift ∙ pow-zero 2 in
    record { small = omega (arith, none, power, over); fine = omega (arith, none); fits = omega (arith, none) }

unit-more : (number top shift : ℕ) → 53 + shift ≡ top → 2 ^ top ≤ number → number < 2 * 2 ^ top → number < 2 ^ 100 → IsUnit number (2 ^ shift)
unit-more number top shift is under over most =
    let split : 2 ^ top ≡ 2 ^ 53 * 2 ^ shift = ap (λ n. 2 ^ n) (sym is) ∙ pow-add 2 53 shift in
    record { small = omega (arith, split, over); fine = omega (arith, split, under); fits = omega (arith, split, under, most) }

power-few : (top : ℕ) → top ≤ 53 → 2 ^ top ≤ 2 ^ 53
power-few top few =
    let split : 2 ^ top * 2 ^ (53 - top) ≡ 2 ^ 53 = sym (pow-add 2 top (53 - top)) ∙ ap (λ n. 2 ^ n) (let sum : top + (53 - top) ≡ 53 = omega arith in sum) in
    let some : 0 < 2 ^ (53 - top) = one-le-pow (53 - top) 2 (lit< tt) in
    let more : 2 ^ top * 1 ≤ 2 ^ top * 2 ^ (53 - top) = mul-le-mul_left (2 ^ top) some in
    omega (arith, split, more)

pub unit-is : (number top shift : ℕ) → 2 ^ top ≤ number → number < 2 * 2 ^ top → number < 2 ^ 100 → shift ≡ top - 53 → IsUnit number (2 ^ shift)
unit-is number top shift under over most is =
    ⊎_elim
    (λ (more : 53 < top). unit-more number top shift (omega (arith, is)) under over most)
    (λ (few : top ≤ 53). unit-few number top shift few (power-few top few) over is)
    (cases_lt 53 top)

-- a sum rounded down to a unit and another one up, where e is one less than the unit
pub record AreCut (unit e sum whole cut cut_whole : ℕ) : Type 0 where
  pub some : 0 < unit
  pub unit_is : unit ≡ e + 1
  pub fine : 2 ^ 53 * e ≤ whole
  pub small : whole < 2 ^ 54 * unit
  pub under : cut * unit ≤ sum
  pub near : sum ≤ cut * unit + e
  pub over : whole ≤ cut_whole * unit
  pub over_near : cut_whole * unit ≤ whole + e

pub are-cut : (unit sum whole : ℕ) → 0 < unit → 2 ^ 53 * (unit - 1) ≤ whole → whole < 2 ^ 54 * unit → AreCut unit (unit - 1) sum whole (sum / unit) ((whole + (unit - 1)) / unit)
are-cut unit sum whole some fine small =
    let one : sum / unit * unit ≤ sum = div-mul-le_self sum unit in
    let two : sum < sum / unit * unit + unit = lt-div-mul-add some in
    let three : (whole + (unit - 1)) / unit * unit ≤ whole + (unit - 1) = div-mul-le_self (whole + (unit - 1)) unit in
    let four : whole + (unit - 1) < (whole + (unit - 1)) / unit * unit + unit = lt-div-mul-add some in
    record {
      some = some;
      unit_is = omega arith;
      fine = fine;
      small = small;
      under = one;
      near = omega (arith, two);
      over = omega (arith, four);
      over_near = three;
    }

pub cut-most : (unit e sum whole cut cut_whole most : ℕ) → AreCut unit e sum whole cut cut_whole → sum ≤ most * whole → cut ≤ most * cut_whole
cut-most unit e sum whole cut cut_whole most are times =
    let under = are.under in
    let one : most * whole ≤ most * (cut_whole * unit) = mul-le-mul_left most are.over in
    let all : cut * unit ≤ most * cut_whole * unit = omega (arith, under, one, times) in
    le_of_mul-le-mul_right all are.some

pub whole-few : (unit e sum whole cut cut_whole : ℕ) → AreCut unit e sum whole cut cut_whole → cut_whole ≤ 2 ^ 54
whole-few unit e sum whole cut cut_whole are =
    let near = are.over_near in
    let small = are.small in
    let is = are.unit_is in
    let all : cut_whole * unit < (2 ^ 54 + 1) * unit = omega (arith, near, small, is) in
    let less : cut_whole < 2 ^ 54 + 1 = lt_of_mul-lt-mul_right unit all in
    omega (arith, less)

pub whole-some : (unit e sum whole cut cut_whole : ℕ) → AreCut unit e sum whole cut cut_whole → 0 < whole → 0 < cut_whole
whole-some unit e sum whole cut zero are some = let over = are.over in absurd (omega (arith, over, some))
whole-some unit e sum whole cut (suc cut_whole) are some = omega arith

-- the products fit
pub fits : (cut whole by over : ℕ) → cut ≤ 327240000 * whole → whole ≤ 2 ^ 54 → by ≤ 2500000000000 → over ≤ 2 ^ 50 → 2 * (cut * by) + whole * over < 2 ^ 127
fits cut whole by over times few by_few over_few =
    let cut_few : cut ≤ 327240000 * 2 ^ 54 = omega arith in
    let one : cut * by ≤ 327240000 * 2 ^ 54 * 2500000000000 = mul-le-mul cut_few by_few in
    let two : whole * over ≤ 2 ^ 54 * 2 ^ 50 = mul-le-mul few over_few in
    omega (arith, one, two)

pub small : (cut whole by over : ℕ) → cut ≤ 327240000 * whole → 0 < whole → 0 < over → by ≤ 3 * over → cut * by < 2 ^ 62 * (whole * over)
small cut whole by over times some over_some near =
    let one : cut * by ≤ 327240000 * whole * (3 * over) = mul-le-mul times near in
    let two : 0 < whole * over = mul-pos some over_some in
    omega (arith, one, two)

-- the nearest quotient of what is left is nearly that of the sums
pub nearest-above : (f unit e sum whole cut cut_whole by over : ℕ) → AreCut unit e sum whole cut cut_whole → 2 * f * (cut_whole * over) ≤ 2 * (cut * by) + cut_whole * over → 2 * f * (whole * over) ≤ 2 * (sum * by) + whole * over
nearest-above zero unit e sum whole cut cut_whole by over are nearest = omega arith
nearest-above (suc f) unit e sum whole cut cut_whole by over are nearest =
    let one : (2 * suc f * (cut_whole * over)) * unit ≤ (2 * (cut * by) + cut_whole * over) * unit = mul-le-mul_right unit nearest in
    let two : cut * unit * by ≤ sum * by = mul-le-mul_right by are.under in
    let three : whole * (over * (2 * f + 1)) ≤ cut_whole * unit * (over * (2 * f + 1)) = mul-le-mul_right (over * (2 * f + 1)) are.over in
    omega (arith, one, two, three)

pub nearest-below : (f unit e sum whole cut cut_whole by over : ℕ) → AreCut unit e sum whole cut cut_whole → 2 * (cut * by) ≤ 2 * f * (cut_whole * over) + cut_whole * over
    → 2 ^ 53 * (2 * (sum * by)) ≤ (2 ^ 53 + 1) * (2 * f * (whole * over) + whole * over) + 2 * (whole * by)
nearest-below f unit e sum whole cut cut_whole by over are nearest =
    let one : (2 * (cut * by)) * unit ≤ (2 * f * (cut_whole * over) + cut_whole * over) * unit = mul-le-mul_right unit nearest in
    let two : sum * by ≤ (cut * unit + e) * by = mul-le-mul_right by are.near in
    let three : cut_whole * unit * (over * (2 * f + 1)) ≤ (whole + e) * (over * (2 * f + 1)) = mul-le-mul_right (over * (2 * f + 1)) are.over_near in
    let four : 2 ^ 53 * e * by ≤ whole * by = mul-le-mul_right by are.fine in
    let five : 2 ^ 53 * e * (over * (2 * f + 1)) ≤ whole * (over * (2 * f + 1)) = mul-le-mul_right (over * (2 * f + 1)) are.fine in
    omega (arith, one, two, three, four, five)
