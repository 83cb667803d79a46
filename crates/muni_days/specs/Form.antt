-- Texts of the form 2024-02-29, whether or not there is such a day.
use Rattle.std.specs.Prelude.{◌==◌, ◌&&◌, Bool, if◌then◌else◌, ℕ, List, length, take, drop, slice_index, Option, Some, None}
use Rattle.muni_rule.specs.Civil.{Civil}
use Rattle.muni_dec.specs.Digits.{are_digits, number}

-- four digits, a dash, two digits, a dash and two digits
abbrev pub has_form : List ℕ → Bool
has_form text =
    (length text == 10) && ((slice_index text 4 == 45) && ((slice_index text 7 == 45)
    && (are_digits (take 4 text)
    && (are_digits (take 2 (drop 5 text)) && are_digits (take 2 (drop 8 text))))))

-- the numbers of a text of that form
abbrev pub numbers : List ℕ → Civil
numbers text = record {
  year = number (take 4 text);
  month = number (take 2 (drop 5 text));
  day = number (take 2 (drop 8 text));
}

-- the number that digits write, if there is nothing else
abbrev pub digits_reading : List ℕ → Option ℕ
digits_reading text = if are_digits text then Some (number text) else None

-- the numbers of a text, if it has that form
abbrev pub numbers_reading : List ℕ → Option (ℕ × ℕ × ℕ)
numbers_reading text =
    if has_form text then Some ((numbers text).year, (numbers text).month, (numbers text).day)
    else None
