-- The days left times the yield, in their ranges.
use Rattle.std.proofs.Common.{ℕ, suc, ◌*◌, ◌<◌, ◌≤◌, ℤ, pos, negsuc, neg_ℤ, ◌+ℤ◌, ◌*ℤ◌, ◌≤ℤ◌, ◌<ℤ◌, arith}
use Rattle.std.proofs.Math.Nat.{mul-le-mul}
use Rattle.std.proofs.lemmas.Int.{ints}
use Rattle.muni_rule.specs.DayCount.{year_of}
use Rattle.muni_rule.specs.PrintedYield.{boundary}
use Rattle.muni_rule.specs.declared.basis.Basis.{Basis}
use Rattle.muni_rule.specs.declared.basis.Basis.TheVariants.{Thirty360, Actual365}
use Rattle.muni_simple.specs.declared.single.Shape1.{Shape1}
use Rattle.muni_simple.specs.declared.single.Shape1.TheVariants.{OnePeriod, AtRedemption}
use Rattle.muni_simple.specs.Single.{IsGivenYield, most_left}
use Rattle.muni_simple.specs.Yields.{least_printed}
use Rattle.muni_simple.specs.GrowthLaw.{GrowthIsAboveZero}

-- a product of magnitudes stays below that of their bounds
change-within : (left most_left most_below most_above : ℕ) (y : ℤ) → left ≤ most_left → negsuc most_below ≤ℤ y → y ≤ℤ pos most_above → (neg_ℤ (pos (most_left * suc most_below)) ≤ℤ (pos left *ℤ y)) × ((pos left *ℤ y) ≤ℤ pos (most_left * most_above))
change-within left most below above (pos n) h low high =
    let product : left * n ≤ most * above = mul-le-mul h (omega (arith, ints)) in
    (omega (arith, ints), omega (arith, ints))
change-within left most below above (negsuc n) h low high =
    let product : left * suc n ≤ most * suc below = mul-le-mul h (omega (arith, ints)) in
    (omega (arith, ints), omega (arith, ints))

-- one, as growths are counted
pub one-within : (basis : Basis) → (360_000_000 ≤ year_of basis * 1_000_000) × (year_of basis * 1_000_000 ≤ 365_000_000)
one-within Thirty360 = (omega arith, omega arith)
one-within Actual365 = (omega arith, omega arith)

-- one and the yield of the days left stay above zero
pub growth-within : (basis : Basis) (shape : Shape1) (left y : ℤ) → pos 0 ≤ℤ left → left ≤ℤ pos (most_left shape) → IsGivenYield shape y → (pos 36_000_000 ≤ℤ (pos (year_of basis * 1_000_000) +ℤ (left *ℤ y))) × ((pos (year_of basis * 1_000_000) +ℤ (left *ℤ y)) ≤ℤ pos 7_600_000_000)
growth-within basis OnePeriod (pos left) y low high given =
    let year = one-within basis in
    let c = change-within left 180 899_999 9_999_990 y (omega (arith, ints)) given.0 given.1 in
    (omega (arith, ints), omega (arith, ints))
growth-within basis AtRedemption (pos left) y low high given =
    let year = one-within basis in
    let c = change-within left 720 449_999 9_999_990 y (omega (arith, ints)) given.0 given.1 in
    (omega (arith, ints), omega (arith, ints))
growth-within basis shape (negsuc left) y low high given = absurd (omega (arith, ints))

-- from a least yield on, a growth is not below that of the most days
growth-from : (one left most_left below : ℕ) (y : ℤ) → left ≤ most_left → most_left * suc below < one → negsuc below ≤ℤ y → pos 0 <ℤ (pos one +ℤ (pos left *ℤ y))
growth-from one left most below (pos n) few small low = omega (arith, ints)
growth-from one left most below (negsuc n) few small low =
    let product : left * suc n ≤ most * suc below = mul-le-mul few (omega (arith, ints)) in
    omega (arith, ints)

growth-left : (basis : Basis) (shape : Shape1) (left y : ℤ) → pos 0 ≤ℤ left → left ≤ℤ pos (most_left shape) → boundary (least_printed shape) ≤ℤ y → pos 0 <ℤ (pos (year_of basis * 1_000_000) +ℤ (left *ℤ y))
growth-left basis OnePeriod (pos left) y from few least = (let year = one-within basis in growth-from (year_of basis * 1_000_000) left 180 900_004 y (omega (arith, ints)) (omega arith) least)
growth-left basis AtRedemption (pos left) y from few least = (let year = one-within basis in growth-from (year_of basis * 1_000_000) left 720 450_004 y (omega (arith, ints)) (omega arith) least)
growth-left basis shape (negsuc left) y from few least = absurd (omega (arith, ints))

pub growth-above : GrowthIsAboveZero
growth-above shape payment y from few least = growth-left payment.basis shape payment.left y from few least
