-- What days are, and the texts that name them, in the calendar's and the format's own words.
use Rattle.std.specs.Prelude.{◌≡◌, ◌≢◌, true, ℕ, ◌<◌, ◌⊎◌, ◌↔◌, List, Ok, Err}
use Rattle.muni_rule.specs.Civil.{Civil}
use Rattle.muni_days.specs.declared.day.Day.{Day}
use Rattle.muni_days.specs.declared.day.DayFault.TheVariants.{Form, NoSuchDay}
use Rattle.muni_days.specs.Calendar.{is_day}
use Rattle.muni_days.specs.Day.{civil, place_of, day_reading, day_text}

-- one date is before another: its year is, or in one year its month, or in one month its day
abbrev pub IsEarlierDate : Civil → Civil → Type 0
IsEarlierDate date other =
    (date.year < other.year)
    ⊎ ((date.year ≡ other.year) × ((date.month < other.month)
    ⊎ ((date.month ≡ other.month) × (date.day < other.day))))

-- every day is one of the calendar's, in the years of the desk
abbrev pub DaysAreReal : Type 0
DaysAreReal = (day : Day) → is_day (civil day) ≡ true

-- days of one year, month and day are one day
abbrev pub DaysAreDates : Type 0
DaysAreDates = (day other : Day) → (day ≡ other) ↔ (civil day ≡ civil other)

-- and their order is that of their dates
abbrev pub DaysAreInOrder : Type 0
DaysAreInOrder =
    (day other : Day) → (place_of day < place_of other) ↔ IsEarlierDate (civil day) (civil other)

-- the text is four digits, a dash, two digits, a dash and two digits, whether or not these are a day
pub record IsFormed (text : List ℕ) : Type 0 where
  pub date : Civil
  pub year : date.year < 10_000
  pub month : date.month < 100
  pub day : date.day < 100
  pub bytes : text ≡ day_text date

-- a text is read as a day exactly if it is that day's ten bytes
abbrev pub ReadsDays : Type 0
ReadsDays = (text : List ℕ) (day : Day) → (day_reading text ≡ Ok day) ↔ (text ≡ day_text (civil day))

-- it is refused for its form exactly if it is not of that form
abbrev pub RefusesOtherForms : Type 0
RefusesOtherForms = (text : List ℕ) → (day_reading text ≡ Err Form) ↔ (¬ (IsFormed text))

-- and for the calendar exactly if it is of that form and the text of no day
abbrev pub RefusesOtherDates : Type 0
RefusesOtherDates =
    (text : List ℕ)
    → (day_reading text ≡ Err NoSuchDay)
    ↔ (IsFormed text × ((day : Day) → text ≢ day_text (civil day)))
