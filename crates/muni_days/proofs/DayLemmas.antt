-- Which numbers are a day, and that days of one date are one day.
use Rattle.std.proofs.Common.{◌≡◌, ◌==◌, Bool, true, false, Some, None, refl, subst, ap, arith}
use Rattle.std.proofs.lemmas.Bool.Decides.{Decides-eqb, Decides-like}
use Rattle.std.specs.Bool.{Decides}
use denote.Struct.Props.{props}
use Rattle.muni_rule.specs.Civil.{Civil, IsCivil, order_of}
use Rattle.muni_days.specs.declared.day.Day.{Day}
use Rattle.muni_days.specs.Calendar.{is_day}
use Rattle.muni_days.specs.Day.{civil, place_of, day_of, day_by, if_day}
use Rattle.muni_days.proofs.CivilLemmas.{is_civil}

-- that a date is a day can be known in one way only
one_day : (date : Civil) (real other : is_day date ≡ true) → day_of date real ≡ day_of date other
one_day date real other =
    let one : IsProp (is_day date ≡ true) = hlevel props in
    ap (day_of date) (one real other)

-- days of one date are one day
pub same_date : (day other : Day) → civil day ≡ civil other → day ≡ other
same_date day other same =
    let Is : Civil → Type 0 = λ date. (real : is_day date ≡ true) → day ≡ day_of date real in
    let own : Is (civil day) = λ real. one_day (civil day) day.real real in
    subst Is same own other.real

-- dates at one place in the order of dates are one date
same_place : (date other : Civil) → IsCivil date → IsCivil other → order_of date ≡ order_of other → date ≡ other
same_place date other civil other_civil same =
    let year : date.year ≡ other.year = omega (arith, civil, other_civil) in
    let month : date.month ≡ other.month = omega (arith, civil, other_civil) in
    let day : date.day ≡ other.day = omega (arith, civil, other_civil) in
    λ i. record { year = year i; month = month i; day = day i }

-- days at one place in the order of days are one day
pub same_day : (day other : Day) → place_of day ≡ place_of other → day ≡ other
same_day day other same = same_date day other (same_place (civil day) (civil other) (is_civil day) (is_civil other) same)

-- `==` on days says whether they are one day
pub day_decides : (day other : Day) → Decides (place_of day == place_of other) (day ≡ other)
day_decides day other =
    Decides-like (place_of day == place_of other)
    (same_day day other)
    (ap place_of)
    (Decides-eqb (place_of day) (place_of other))

-- these three numbers are a day, or they are none
found_by : (date : Civil) (test : Bool) (is : is_day date ≡ test) (real : is_day date ≡ true) → Some (day_of date real) ≡ day_by date test is
found_by date true is real = ap Some (one_day date real is)
found_by date false is real = absurd (cc)

pub day_found : (date : Civil) (real : is_day date ≡ true) → Some (day_of date real) ≡ if_day date
unfolding if_day
day_found date real = found_by date (is_day date) refl real

missing_by : (date : Civil) (test : Bool) (is : is_day date ≡ test) → is_day date ≡ false → None ≡ day_by date test is
missing_by date true is unreal = absurd (cc)
missing_by date false is unreal = refl

pub day_missing : (date : Civil) → is_day date ≡ false → None ≡ if_day date
unfolding if_day
day_missing date unreal = missing_by date (is_day date) refl unreal
