-- What verdicts tell of a price.
use Rattle.std.proofs.Common.{◌≡◌, ℕ, ◌+◌, ◌-◌, ◌*◌, ◌^◌, ◌<◌, ◌≤◌, refl, arith, Bool, true, false, ℤ, pos, negsuc, ◌+ℤ◌, ◌-ℤ◌}
use Rattle.std.specs.Prelude.{nat_lt, nat_le, if◌then◌else◌, length}
use Rattle.std.proofs.Math.Nat.{one-le-pow}
use Rattle.std.proofs.lemmas.Int.{ints}
use Rattle.std.proofs.lemmas.Bool.{leb-true, leb-false, ltb-true, ltb-false}
use Rattle.muni_rule.specs.ManyPeriods.{PeriodicPayments, discount_divisor, asked_power, worth_power, IsWorthAtLeast, IsWorthMore, DirtyAtLeast}
use Rattle.muni_rule.specs.Doubt.{IsNear}
use Rattle.muni_rule.specs.WorthEnds.{WorthEnds, HoldsWorth, IsNarrow, exactly}
use Rattle.muni_rule.specs.Verdicts.{at_least_verdict, more_verdict}
use Rattle.muni_rule.specs.declared.verdict.Verdict.TheVariants.{Yes, No, Unsure}
use Rattle.muni_rule.proofs.PowerLemmas.{not-zero, reached-power, passed-power, missed-power, not_passed-power}

-- which test gave a verdict
pub yes-test : (a b : Bool) → (if a then Yes else (if b then No else Unsure)) ≡ Yes → a ≡ true
yes-test true b said = refl
yes-test false true said = cc
yes-test false false said = cc

pub no-test : (a b : Bool) → (if a then Yes else (if b then No else Unsure)) ≡ No → b ≡ true
no-test true b said = cc
no-test false true said = refl
no-test false false said = cc

pub unsure-test : (a b : Bool) → (if a then Yes else (if b then No else Unsure)) ≡ Unsure → (a ≡ false) × (b ≡ false)
unsure-test true b said = cc
unsure-test false true said = cc
unsure-test false false said = (refl, refl)

-- how often the divisor is in the power that is asked for
abbrev discounts : PeriodicPayments → ℕ
discounts bond = (length bond.payments - 1) * 180 + (180 - bond.a)

-- a power that is asked for is that of x times one that is above 0
discounted-some : (bond : PeriodicPayments) (y : ℤ) → 0 < discount_divisor y → 0 < discount_divisor y ^ discounts bond
discounted-some bond y some = one-le-pow (discounts bond) (discount_divisor y) some

pub apart : (a b : ℕ) → a < b → b ≤ a → ⊥
apart a b less order = omega arith

-- the comparisons that ends decide
pub reached-by : (bond : PeriodicPayments) (y : ℤ) (ends : WorthEnds) (x : ℕ) → HoldsWorth bond y ends → x * ends.unit ≤ ends.lo → IsWorthAtLeast bond y x
reached-by bond y ends x holds over = record { at_least = reached-power ends.unit 180 x ends.lo (discount_divisor y ^ discounts bond) (worth_power bond y) holds.some over holds.below }

pub missed-by : (bond : PeriodicPayments) (y : ℤ) (ends : WorthEnds) (x : ℕ) → 0 < discount_divisor y → HoldsWorth bond y ends → ends.hi < x * ends.unit → worth_power bond y < asked_power bond y x
missed-by bond y ends x some holds under = missed-power ends.unit 180 x ends.hi (discount_divisor y ^ discounts bond) (worth_power bond y) not-zero (discounted-some bond y some) under holds.above

pub passed-by : (bond : PeriodicPayments) (y : ℤ) (ends : WorthEnds) (x : ℕ) → 0 < discount_divisor y → HoldsWorth bond y ends → x * ends.unit < ends.lo → IsWorthMore bond y x
passed-by bond y ends x some holds over = record { more = passed-power ends.unit 180 x ends.lo (discount_divisor y ^ discounts bond) (worth_power bond y) not-zero (discounted-some bond y some) over holds.below }

pub not_passed-by : (bond : PeriodicPayments) (y : ℤ) (ends : WorthEnds) (x : ℕ) → HoldsWorth bond y ends → ends.hi ≤ x * ends.unit → worth_power bond y ≤ asked_power bond y x
not_passed-by bond y ends x holds under = not_passed-power ends.unit 180 x ends.hi (discount_divisor y ^ discounts bond) (worth_power bond y) holds.some under holds.above

pub not_reached : (bond : PeriodicPayments) (y : ℤ) (ends : WorthEnds) (x : ℕ) → 0 < discount_divisor y → HoldsWorth bond y ends → ends.hi < x * ends.unit → IsWorthAtLeast bond y x → ⊥
not_reached bond y ends x some holds under reached = apart (worth_power bond y) (asked_power bond y x) (missed-by bond y ends x some holds under) reached.at_least

pub not_passed : (bond : PeriodicPayments) (y : ℤ) (ends : WorthEnds) (x : ℕ) → HoldsWorth bond y ends → ends.hi ≤ x * ends.unit → IsWorthMore bond y x → ⊥
not_passed bond y ends x holds under passed = apart (asked_power bond y x) (worth_power bond y) passed.more (not_passed-by bond y ends x holds under)

-- Yes and No of either question are true
pub at_least-yes : (bond : PeriodicPayments) (y : ℤ) (ends : WorthEnds) (x : ℕ) → HoldsWorth bond y ends → at_least_verdict ends x ≡ Yes → IsWorthAtLeast bond y x
at_least-yes bond y ends x holds said =
    let test = yes-test (nat_le (x * ends.unit) ends.lo) (nat_lt ends.hi (x * ends.unit)) said in
    reached-by bond y ends x holds (leb-true (x * ends.unit) ends.lo test)

pub at_least-no : (bond : PeriodicPayments) (y : ℤ) (ends : WorthEnds) (x : ℕ) → 0 < discount_divisor y → HoldsWorth bond y ends → at_least_verdict ends x ≡ No → IsWorthAtLeast bond y x → ⊥
at_least-no bond y ends x some holds said =
    let test = no-test (nat_le (x * ends.unit) ends.lo) (nat_lt ends.hi (x * ends.unit)) said in
    not_reached bond y ends x some holds (ltb-true ends.hi (x * ends.unit) test)

pub more-yes : (bond : PeriodicPayments) (y : ℤ) (ends : WorthEnds) (x : ℕ) → 0 < discount_divisor y → HoldsWorth bond y ends → more_verdict ends x ≡ Yes → IsWorthMore bond y x
more-yes bond y ends x some holds said =
    let test = yes-test (nat_lt (x * ends.unit) ends.lo) (nat_le ends.hi (x * ends.unit)) said in
    passed-by bond y ends x some holds (ltb-true (x * ends.unit) ends.lo test)

pub more-no : (bond : PeriodicPayments) (y : ℤ) (ends : WorthEnds) (x : ℕ) → HoldsWorth bond y ends → more_verdict ends x ≡ No → IsWorthMore bond y x → ⊥
more-no bond y ends x holds said =
    let test = no-test (nat_lt (x * ends.unit) ends.lo) (nat_le ends.hi (x * ends.unit)) said in
    not_passed bond y ends x holds (leb-true ends.hi (x * ends.unit) test)

-- ends that are equal leave nothing open
pub exactly-sure : (top unit x : ℕ) → at_least_verdict (exactly top unit) x ≡ Unsure → ⊥
exactly-sure top unit x said =
    let tests = unsure-test (nat_le (x * unit) top) (nat_lt top (x * unit)) said in
    let less = leb-false (x * unit) top tests.0 in
    let order = ltb-false top (x * unit) tests.1 in
    omega (arith, less, order)

pub exactly-sure_more : (top unit x : ℕ) → more_verdict (exactly top unit) x ≡ Unsure → ⊥
exactly-sure_more top unit x said =
    let tests = unsure-test (nat_lt (x * unit) top) (nat_le top (x * unit)) said in
    let order = ltb-false (x * unit) top tests.0 in
    let less = leb-false top (x * unit) tests.1 in
    omega (arith, order, less)

-- an amount that ends hold is near
below-near : (bond : PeriodicPayments) (y z : ℤ) → ((x : ℕ) → z ≡ pos x → IsWorthAtLeast bond y x) → DirtyAtLeast bond y z
below-near bond y (pos x) at = at x refl
below-near bond y (negsuc x) at = tt

near-at : (bond : PeriodicPayments) (y : ℤ) (ends : WorthEnds) (amount : ℕ) → 0 < discount_divisor y → HoldsWorth bond y ends → ((x : ℕ) → x + 360 ≡ amount + bond.accrued → x * ends.unit ≤ ends.lo) → ends.hi < (amount + 360 + bond.accrued) * ends.unit → IsNear bond y (pos amount)
near-at bond y ends amount some holds low high = record {
  not_far_below = below-near bond y ((pos amount -ℤ pos 360) +ℤ pos bond.accrued) (λ x same. reached-by bond y ends x holds (low x (omega (arith, ints, same))));
  not_far_above = not_reached bond y ends (amount + 360 + bond.accrued) some holds high;
}

pub near : (bond : PeriodicPayments) (y : ℤ) (ends : WorthEnds) (amount : ℕ) → 0 < discount_divisor y → HoldsWorth bond y ends → IsNarrow ends → ends.lo ≤ (amount + bond.accrued) * ends.unit → (amount + bond.accrued) * ends.unit ≤ ends.hi → IsNear bond y (pos amount)
near bond y ends amount some holds narrow under over =
    near-at bond y ends amount some holds
    (λ x same. let over_it : (x + 360) * ends.unit ≤ ends.hi = rw same over in omega (arith, narrow, over_it))
    (omega (arith, narrow, under))

pub unsure-near : (bond : PeriodicPayments) (y : ℤ) (ends : WorthEnds) (amount : ℕ) → 0 < discount_divisor y → HoldsWorth bond y ends → IsNarrow ends → at_least_verdict ends (amount + bond.accrued) ≡ Unsure → IsNear bond y (pos amount)
unsure-near bond y ends amount some holds narrow said =
    let x = amount + bond.accrued in
    let tests = unsure-test (nat_le (x * ends.unit) ends.lo) (nat_lt ends.hi (x * ends.unit)) said in
    let less = leb-false (x * ends.unit) ends.lo tests.0 in
    let order = ltb-false ends.hi (x * ends.unit) tests.1 in
    near bond y ends amount some holds narrow (omega (arith, less)) order

pub unsure-near_more : (bond : PeriodicPayments) (y : ℤ) (ends : WorthEnds) (amount : ℕ) → 0 < discount_divisor y → HoldsWorth bond y ends → IsNarrow ends → more_verdict ends (amount + bond.accrued) ≡ Unsure → IsNear bond y (pos amount)
unsure-near_more bond y ends amount some holds narrow said =
    let x = amount + bond.accrued in
    let tests = unsure-test (nat_lt (x * ends.unit) ends.lo) (nat_le ends.hi (x * ends.unit)) said in
    let order = ltb-false (x * ends.unit) ends.lo tests.0 in
    let less = leb-false ends.hi (x * ends.unit) tests.1 in
    near bond y ends amount some holds narrow order (omega (arith, less))
