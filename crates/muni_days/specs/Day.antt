-- Days as the rules see them, and as texts name them.
use Rattle.std.specs.Prelude.{ℕ, ◌+◌, ◌*◌, Bool, true, false, ◌≡◌, refl, List, ◌∷◌, ◌++◌, Option, Some, None, Result, Err, ok_or}
use Rattle.muni_rule.specs.Civil.{Civil, order_of}
use Rattle.muni_dec.specs.Digits.{last_digits}
use Rattle.muni_days.specs.Calendar.{is_day}
use Rattle.muni_days.specs.Form.{numbers_reading}
use Rattle.muni_days.specs.declared.day.Day.{Day}
use Rattle.muni_days.specs.declared.day.DayFault.{DayFault}
use Rattle.muni_days.specs.declared.day.DayFault.TheVariants.{Form, NoSuchDay}

-- the day as three numbers
abbrev pub civil : Day → Civil
civil day = record { year = day.year; month = day.month; day = day.day }

-- the place of a day in the order of days
abbrev pub place_of : Day → ℕ
place_of day = order_of (civil day)

-- a number that rises with the place, and is read at once
abbrev pub rank_of : Day → ℕ
rank_of day = day.year * 65_536 + day.month * 256 + day.day

-- the day of three numbers that are a day
abbrev pub day_of : (date : Civil) → is_day date ≡ true → Day
day_of date real = record {
  year = date.year;
  month = date.month;
  day = date.day;
  real = real;
}

-- the day of three numbers, by whether they are one
abbrev pub day_by : (date : Civil) (test : Bool) → is_day date ≡ test → Option Day
day_by date true real = Some (day_of date real)
day_by date false unreal = None

-- the day of three numbers, if they are one
unfoldable pub if_day : Civil → Option Day
if_day date = day_by date (is_day date) refl

-- what the numbers of a text say, if it has the form of a day
abbrev pub reading_of : Option (ℕ × ℕ × ℕ) → Result Day DayFault
reading_of None = Err Form
reading_of (Some date) =
    ok_or (if_day (record { year = date.0; month = date.1; day = date.2 })) NoSuchDay

-- what a text says: a day, or that it is not of the form, or that it is no day
abbrev pub day_reading : List ℕ → Result Day DayFault
day_reading text = reading_of (numbers_reading text)

-- a date as text, in the form of a day
abbrev pub day_text : Civil → List ℕ
day_text date =
    last_digits 4 date.year ++ 45 ∷ (last_digits 2 date.month ++ 45 ∷ last_digits 2 date.day)
