-- CUSIP numbers: eight digits and letters, and a check digit (ANSI X9.6, without its three signs).
use Rattle.std.specs.Prelude.{ℕ, ◌+◌, ◌-◌, ◌*◌, ◌/◌, ◌%◌, ◌==◌, ◌&&◌, ◌||◌, Bool, if◌then◌else◌, List, [], ◌∷◌, take, slice_index}
use Rattle.std.specs.List.{list_all}
use Rattle.std.specs.Char.{is_ascii_digit, is_ascii_uppercase}

-- a digit, or a letter from A to Z
abbrev pub is_cusip_character : ℕ → Bool
is_cusip_character character = is_ascii_digit character || is_ascii_uppercase character

-- a digit's own value, and 10 for A up to 35 for Z
abbrev pub character_value : ℕ → ℕ
character_value character =
    if is_ascii_digit character then character - 48 else character - 55

-- the sum of the two digits of a number below 100
abbrev pub digit_sum : ℕ → ℕ
digit_sum n = n / 10 + n % 10

-- the digits of all values in a sum, if each second value is doubled first; places count from 0
abbrev pub check_sum : ℕ → List ℕ → ℕ
check_sum place [] = 0
check_sum place (character ∷ rest) =
    digit_sum (character_value character * (1 + place % 2)) + check_sum (place + 1) rest

-- the digit that fills the sum up to a whole multiple of ten
abbrev pub check_digit : List ℕ → ℕ
check_digit characters = (10 - check_sum 0 characters % 10) % 10

-- eight such characters and their check digit
abbrev pub is_cusip : List ℕ → Bool
is_cusip text =
    list_all is_cusip_character (take 8 text)
    && (slice_index text 8 == 48 + check_digit (take 8 text))
