-- The fields of a body, and what stands at the front of bytes.
use Rattle.std.specs.Prelude.{ℕ, List, [], ◌∷◌, ◌++◌, length, take, get_or, Option}
use Rattle.std.specs.Option.{option_and_then}
use Rattle.muni_rule.specs.Civil.{Civil}
use Rattle.muni_days.specs.Day.{if_day}
use Rattle.muni_days.specs.declared.day.Day.{Day}
use Rattle.muni_journal_record.specs.Words.{two, number_of_2, front, byte_front}

-- a day: two bytes of its year, one of its month and one of its day
abbrev pub day_bytes : Day → List ℕ
day_bytes day = two day.year ++ day.month ∷ day.day ∷ []

abbrev pub date_of : List ℕ → Civil
date_of bytes = record { year = number_of_2 (take 2 bytes); month = get_or bytes 2 0; day = get_or bytes 3 0 }

abbrev pub day_of : List ℕ → Option Day
day_of bytes = if_day (date_of bytes)

-- a text: a byte of its length, and the text
abbrev pub text_bytes : List ℕ → List ℕ
text_bytes text = length text ∷ text

abbrev pub text_front : List ℕ → Option (List ℕ × List ℕ)
text_front bytes = option_and_then (λ count. front count.0 count.1) (byte_front bytes)
