-- Two numbers on either side of zero are equal or not, and one is less than the other or not.
use Rattle.std.proofs.Common.{◌≡◌, ◌≢◌, ◌⊎◌, inl, inr, refl, arith, Bool, true, false, ℤ, ◌<ℤ◌, ◌≤ℤ◌, int_lt}
use Rattle.std.specs.Ordering.{int_eq}
use Rattle.std.proofs.lemmas.Int.{ints}
use Rattle.std.proofs.lemmas.Bool.Decides.{Decides-int_eq}

pub int_eq-same : (a b : ℤ) → a ≡ b → int_eq a b ≡ true
int_eq-same a b same = (Decides-int_eq a b).1 same

other-by : (a b : ℤ) (test : Bool) → int_eq a b ≡ test → a ≢ b → int_eq a b ≡ false
other-by a b true is other = absurd (other ((Decides-int_eq a b).0 is))
other-by a b false is other = is

pub int_eq-other : (a b : ℤ) → a ≢ b → int_eq a b ≡ false
int_eq-other a b other = other-by a b (int_eq a b) refl other

equal-by : (a b : ℤ) (test : Bool) → int_eq a b ≡ test → (a ≡ b) ⊎ (a ≢ b)
equal-by a b true is = inl ((Decides-int_eq a b).0 is)
equal-by a b false is = inr (λ same. let test = int_eq-same a b same in cc)

pub equal_or_not : (a b : ℤ) → (a ≡ b) ⊎ (a ≢ b)
equal_or_not a b = equal-by a b (int_eq a b) refl

less-by : (a b : ℤ) (test : Bool) → int_lt a b ≡ test → (a <ℤ b) ⊎ (b ≤ℤ a)
less-by a b true is = inl (grind (arith, ints))
less-by a b false is = inr (grind (arith, ints))

pub less_or_not : (a b : ℤ) → (a <ℤ b) ⊎ (b ≤ℤ a)
less_or_not a b = less-by a b (int_lt a b) refl
