-- The format of decimals in its own words: what they are written of, their bytes and their value.
use Rattle.std.specs.Prelude.{◌≡◌, ℕ, ◌+◌, ◌-◌, ◌*◌, ◌^◌, ◌≤◌, ◌↔◌, Bool, if◌then◌else◌, List, [], ◌∷◌, ◌++◌, length, Option, Some, None, Ok, ℤ, pos, neg_ℤ, ⊤}
use Rattle.std.specs.Str.Parse.{IsNumeral, digits_value}
use Rattle.muni_dec.specs.Decimal.{reading, signed_reading}

-- a decimal without its sign: the digits before the point, and those after it, if there is one
pub record Magnitude : Type 0 where
  pub whole : List ℕ
  pub fraction : Option (List ℕ)

-- a point and the digits after it
abbrev pub fraction_bytes : Option (List ℕ) → List ℕ
fraction_bytes None = []
fraction_bytes (Some digits) = 46 ∷ digits

-- the bytes of a decimal without its sign
abbrev pub magnitude_bytes : Magnitude → List ℕ
magnitude_bytes m = m.whole ++ fraction_bytes m.fraction

-- one digit or more, and at most so many
abbrev pub IsFraction : ℕ → Option (List ℕ) → Type 0
IsFraction places None = ⊤
IsFraction places (Some digits) = IsNumeral 10 digits × (length digits ≤ places)

-- the digits before the point are one or more, those after it one or more and at most so many
pub record IsMagnitude (places : ℕ) (m : Magnitude) : Type 0 where
  pub whole : IsNumeral 10 m.whole
  pub fraction : IsFraction places m.fraction

-- what the digits after the point write, in units of the last of so many places
abbrev pub fraction_units : ℕ → Option (List ℕ) → ℕ
fraction_units places None = 0
fraction_units places (Some digits) = digits_value 10 digits * 10 ^ (places - length digits)

-- the value of a decimal without its sign, in units of the last of so many places
abbrev pub magnitude_units : ℕ → Magnitude → ℕ
magnitude_units places m = digits_value 10 m.whole * 10 ^ places + fraction_units places m.fraction

-- the text is that of an unsigned decimal with this value
pub record WritesDecimal (places : ℕ) (text : List ℕ) (units : ℕ) : Type 0 where
  pub magnitude : Magnitude
  pub valid : IsMagnitude places magnitude
  pub bytes : text ≡ magnitude_bytes magnitude
  pub value : units ≡ magnitude_units places magnitude

-- the text is that of a decimal that may begin with a minus sign, with this value
pub record WritesSigned (places : ℕ) (text : List ℕ) (units : ℤ) : Type 0 where
  pub negative : Bool
  pub magnitude : Magnitude
  pub valid : IsMagnitude places magnitude
  pub bytes : text ≡ (if negative then 45 ∷ magnitude_bytes magnitude else magnitude_bytes magnitude)
  pub value : units ≡ (if negative then neg_ℤ (pos (magnitude_units places magnitude))
      else pos (magnitude_units places magnitude))

-- a text is read as the number that it writes, and exactly the decimals are read
abbrev pub ReadsDecimals : Type 0
ReadsDecimals =
    (places : ℕ) (text : List ℕ) (units : ℕ)
    → (reading places text ≡ Ok units) ↔ WritesDecimal places text units

-- the same of decimals that may begin with a minus sign
abbrev pub ReadsSigned : Type 0
ReadsSigned =
    (places : ℕ) (text : List ℕ) (units : ℤ)
    → (signed_reading places text ≡ Ok units) ↔ WritesSigned places text units
