-- Where a text leaves its format, in the format's own words. `IsText` is about the texts of the format.
use Rattle.std.specs.Prelude.{◌≡◌, ◌≢◌, ℕ, ◌+◌, ◌≤◌, ◌↔◌, List, [], take, Ok, Err, ℤ}
use Rattle.std.specs.Str.Parse.{IsNumeral, digits_value}
use Rattle.muni_dec.specs.Decimal.{reading, signed_reading, digits_reading}
use Rattle.muni_dec.specs.Grammar.{WritesDecimal, WritesSigned}
use Rattle.muni_dec.specs.declared.fault.DecFault.{DecFault}
use Rattle.muni_dec.specs.declared.fault.DecFault.TheVariants.{Empty, NotADigit, TooManyDecimals}

-- Some text of the format has the first so many bytes of this one. If this one has fewer, it is
-- that text.
pub record GoesOn (IsText : List ℕ → Type 0) (text : List ℕ) (count : ℕ) : Type 0 where
  pub other : List ℕ
  pub valid : IsText other
  pub same : take count other ≡ take count text

-- The first place whose byte continues no text of the format. After the last byte, the text ends
-- where no text of the format does.
pub record LeavesAt (IsText : List ℕ → Type 0) (text : List ℕ) (place : ℕ) : Type 0 where
  pub before : GoesOn IsText text place
  pub not_here : ¬ (GoesOn IsText text (place + 1))

-- the texts of decimals without a sign, with at most so many places
abbrev pub IsDecimal : ℕ → List ℕ → Type 0
IsDecimal places text = (units : ℕ) × WritesDecimal places text units

-- and of those that may begin with a minus sign
abbrev pub IsSignedDecimal : ℕ → List ℕ → Type 0
IsSignedDecimal places text = (units : ℤ) × WritesSigned places text units

-- Each fault comes exactly where it says. `IsLonger` is about the texts of the format that has one
-- place more: there a decimal too many would be right, and another byte would not.
pub record TellsFaults (IsText IsLonger : List ℕ → Type 0) (text : List ℕ) (Is : DecFault → Type 0) : Type 0 where
  pub empty : Is Empty ↔ (text ≡ [])
  pub not_a_digit : (place : ℕ) → Is (NotADigit place)
      ↔ ((text ≢ []) × LeavesAt IsText text place × LeavesAt IsLonger text place)
  pub too_many : (place : ℕ) → Is (TooManyDecimals place)
      ↔ (LeavesAt IsText text place × GoesOn IsLonger text (place + 1))

-- of decimals without a sign
abbrev pub TellsDecimalFaults : Type 0
TellsDecimalFaults =
    (places : ℕ) (text : List ℕ) → 1 ≤ places
    → TellsFaults (IsDecimal places) (IsDecimal (places + 1)) text
    (λ fault. reading places text ≡ Err fault)

-- of decimals that may begin with a minus sign
abbrev pub TellsSignedFaults : Type 0
TellsSignedFaults =
    (places : ℕ) (text : List ℕ) → 1 ≤ places
    → TellsFaults (IsSignedDecimal places) (IsSignedDecimal (places + 1)) text
    (λ fault. signed_reading places text ≡ Err fault)

-- and of digits alone, which are read as the number that they write
abbrev pub ReadsDigits : Type 0
ReadsDigits =
    (text : List ℕ) (number : ℕ)
    → (digits_reading text ≡ Ok number) ↔ (IsNumeral 10 text × (number ≡ digits_value 10 text))

abbrev pub TellsDigitFaults : Type 0
TellsDigitFaults =
    (text : List ℕ)
    → TellsFaults (IsNumeral 10) (IsNumeral 10) text (λ fault. digits_reading text ≡ Err fault)
