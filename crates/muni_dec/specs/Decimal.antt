-- Decimals, read and written: digits, and optionally a point and at most so many digits. Numbers are
-- in units of the last of these places.
use Rattle.std.specs.Prelude.{ℕ, ◌+◌, ◌-◌, ◌*◌, ◌^◌, ◌/◌, ◌==◌, nat_lt, if◌then◌else◌, List, [], ◌∷◌, ◌++◌, length, take, drop, slice_index, position, decimal, Option, Some, None, Result, Ok, Err, ℤ, pos, negsuc, neg_ℤ, unsigned_abs}
use Rattle.muni_dec.specs.Digits.{are_digits, digits_end, number, last_digits}
use Rattle.muni_dec.specs.declared.fault.DecFault.{DecFault}
use Rattle.muni_dec.specs.declared.fault.DecFault.TheVariants.{Empty, NotADigit, TooManyDecimals, OutOfRange}

-- the units that a whole part and a fraction write
abbrev pub units_of : ℕ → List ℕ → List ℕ → ℕ
units_of places whole fraction =
    number whole * 10 ^ places + number fraction * 10 ^ (places - length fraction)

-- a text with no point
abbrev pub whole_reading : ℕ → List ℕ → Result ℕ DecFault
whole_reading places text =
    if are_digits text then Ok (number text * 10 ^ places) else Err (NotADigit (digits_end text))

-- a whole part, and the text after its point, which has a place of its own
abbrev pub fraction_reading : ℕ → List ℕ → List ℕ → ℕ → Result ℕ DecFault
fraction_reading places whole fraction at =
    if nat_lt places (digits_end fraction) then Err (TooManyDecimals (at + places))
    else (if are_digits fraction then Ok (units_of places whole fraction)
    else Err (NotADigit (at + digits_end fraction)))

-- a text with its first point at a place, or with none
abbrev pub reading_at : ℕ → List ℕ → Option ℕ → Result ℕ DecFault
reading_at places text None = whole_reading places text
reading_at places text (Some point) =
    if are_digits (take point text)
    then fraction_reading places (take point text) (drop (point + 1) text) (point + 1)
    else Err (NotADigit (digits_end (take point text)))

-- What a text without a sign says: its units, or the first fault in it. That is the place of the
-- first byte with which no decimal goes on, or of the first decimal too many.
unfoldable pub reading : ℕ → List ℕ → Result ℕ DecFault
reading places text =
    if length text == 0 then Err Empty else reading_at places text (position (λ b. b == 46) text)

-- what a text of digits alone says
abbrev pub digits_reading : List ℕ → Result ℕ DecFault
digits_reading text = if length text == 0 then Err Empty else whole_reading 0 text

-- the place of a fault, if it has one
abbrev pub place_of : DecFault → ℕ
place_of (NotADigit at) = at
place_of (TooManyDecimals at) = at
place_of _ = 0

-- what follows a minus sign, with places counted from the sign; a digit has to come next
abbrev pub behind_sign : Result ℕ DecFault → Result ℤ DecFault
behind_sign (Ok units) = Ok (neg_ℤ (pos units))
behind_sign (Err Empty) = Err (NotADigit 1)
behind_sign (Err (NotADigit at)) = Err (NotADigit (at + 1))
behind_sign (Err (TooManyDecimals at)) = Err (TooManyDecimals (at + 1))
behind_sign (Err OutOfRange) = Err OutOfRange

-- the same with no sign
abbrev pub without_sign : Result ℕ DecFault → Result ℤ DecFault
without_sign (Ok units) = Ok (pos units)
without_sign (Err fault) = Err fault

-- what a text says that may begin with a minus sign
unfoldable pub signed_reading : ℕ → List ℕ → Result ℤ DecFault
signed_reading places text =
    if slice_index text 0 == 45 then behind_sign (reading places (drop 1 text))
    else without_sign (reading places text)

-- a number of units as a decimal with all its places
abbrev pub decimal_text : ℕ → ℕ → List ℕ
decimal_text places units = decimal (units / 10 ^ places) ++ 46 ∷ last_digits places units

-- a minus sign before a number below zero
abbrev pub sign_text : ℤ → List ℕ
sign_text (pos units) = []
sign_text (negsuc less) = 45 ∷ []

-- a number of units on either side of zero as a decimal with all its places
abbrev pub signed_text : ℕ → ℤ → List ℕ
signed_text places units = sign_text units ++ decimal_text places (unsigned_abs units)
