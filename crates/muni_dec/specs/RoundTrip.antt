-- What is written as a text is read from it again.
use Rattle.std.specs.Prelude.{◌≡◌, ℕ, ◌^◌, ◌<◌, ◌≤◌, decimal, Ok, ℤ, unsigned_abs}
use Rattle.muni_dec.specs.Decimal.{reading, signed_reading, digits_reading, decimal_text, signed_text}

-- decimals from 0 up
abbrev pub DecimalsAreReadAgain : Type 0
DecimalsAreReadAgain =
    (places units : ℕ) → 1 ≤ places → units < 2 ^ 64
    → reading places (decimal_text places units) ≡ Ok units

-- and on either side of zero
abbrev pub SignedAreReadAgain : Type 0
SignedAreReadAgain =
    (places : ℕ) (units : ℤ) → 1 ≤ places → unsigned_abs units < 2 ^ 64
    → signed_reading places (signed_text places units) ≡ Ok units

-- whole numbers in digits alone
abbrev pub DigitsAreReadAgain : Type 0
DigitsAreReadAgain = (number : ℕ) → number < 2 ^ 64 → digits_reading (decimal number) ≡ Ok number
