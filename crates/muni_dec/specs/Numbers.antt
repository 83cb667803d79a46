-- The format of whole numbers in its own words.
use Rattle.std.specs.Prelude.{◌≡◌, ℕ, ◌^◌, ◌<◌, ◌≤◌, ◌↔◌, List, ◌++◌, length, replicate, decimal, Some}
use Rattle.muni_dec.specs.Digits.{number_reading}

-- the text is the number in decimal digits, after any zeros, in at most so many digits in all
pub record WritesNumber (most_digits : ℕ) (text : List ℕ) (number : ℕ) : Type 0 where
  pub zeros : ℕ
  pub bytes : text ≡ replicate zeros 48 ++ decimal number
  pub few : length text ≤ most_digits

-- exactly the texts of the numbers in a range are read, each as the number that it writes
abbrev pub ReadsNumbers : Type 0
ReadsNumbers =
    (most_digits least greatest : ℕ) → greatest < 2 ^ 64 → (text : List ℕ) (number : ℕ)
    → (number_reading most_digits least greatest text ≡ Some number)
    ↔ (WritesNumber most_digits text number × ((least ≤ number) × (number ≤ greatest)))
