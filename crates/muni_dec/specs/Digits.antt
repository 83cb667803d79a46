-- Digits, as decimals and dates read and write them.
use Rattle.std.specs.Prelude.{ℕ, zero, suc, ◌+◌, ◌/◌, ◌%◌, Bool, not, ◌&&◌, nat_lt, nat_le, if◌then◌else◌, Option, Some, None, List, [], ◌∷◌, ◌++◌, length}
use Rattle.std.specs.List.{list_all, position_or_len}
use Rattle.std.specs.Char.{is_ascii_digit}
use Rattle.std.specs.Str.Parse.{digits_value}

-- one digit or more, and nothing else
abbrev pub are_digits : List ℕ → Bool
are_digits text = nat_lt 0 (length text) && list_all is_ascii_digit text

-- the place of the first byte that is no digit, or the length if there is none
abbrev pub digits_end : List ℕ → ℕ
digits_end text = position_or_len (λ b. not (is_ascii_digit b)) text

-- the number that digits write
abbrev pub number : List ℕ → ℕ
number text = digits_value 10 text

-- the number that a text writes in at most so many digits, if it lies in a range
abbrev pub number_reading : ℕ → ℕ → ℕ → List ℕ → Option ℕ
number_reading most_digits least greatest text =
    if nat_le (length text) most_digits && (are_digits text
    && (nat_le least (number text) && nat_le (number text) greatest))
    then Some (number text) else None

-- the last so many digits of a number, with the zeros before it
abbrev pub last_digits : ℕ → ℕ → List ℕ
last_digits zero n = []
last_digits (suc count) n = last_digits count (n / 10) ++ (48 + n % 10) ∷ []
