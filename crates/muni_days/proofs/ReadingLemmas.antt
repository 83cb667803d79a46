-- What a text is read as.
use Rattle.std.proofs.Common.{◌≡◌, ◌≢◌, cond, ℕ, Bool, true, false, List, Option, Some, None, Result, Ok, Err, ok_or, refl, sym, ap, ◌∙◌, arith}
use Rattle.muni_rule.specs.Civil.{Civil}
use Rattle.muni_days.specs.declared.day.Day.{Day}
use Rattle.muni_days.specs.declared.day.DayFault.{DayFault}
use Rattle.muni_days.specs.declared.day.DayFault.TheVariants.{Form, NoSuchDay}
use Rattle.muni_days.specs.Calendar.{is_day}
use Rattle.muni_days.specs.Form.{has_form, numbers}
use Rattle.muni_days.specs.Day.{civil, day_of, day_by, if_day, day_reading, day_text}
use Rattle.muni_days.specs.Laws.{IsFormed}
use Rattle.muni_days.proofs.CivilLemmas.{is_of_desk}
use Rattle.muni_days.proofs.DayLemmas.{same_date, day_found}
use Rattle.muni_days.proofs.TextLemmas.{text-numbers, is_formed, has_form-text, numbers-text}

-- what is read of a text, by whether it has the form and by the day that its numbers are
abbrev reading_by : Bool → Option Day → Result Day DayFault
reading_by form day = cond form (ok_or day NoSuchDay) (Err Form)

reading-by : (text : List ℕ) (form : Bool) → has_form text ≡ form → day_reading text ≡ reading_by form (if_day (numbers text))
reading-by text true is = rw is refl
reading-by text false is = rw is refl

-- a day's own numbers
if_day-own : (day : Day) → if_day (civil day) ≡ Some day
if_day-own day = sym (day_found (civil day) day.real) ∙ ap Some (same_date (day_of (civil day) day.real) day refl)

found-date : (date : Civil) (test : Bool) (is : is_day date ≡ test) (day : Day) → day_by date test is ≡ Some day → civil day ≡ date
found-date date true is day found = let same : day_of date is ≡ day = cc in ap civil (sym same)
found-date date false is day found = absurd (cc)

if_day-date : (date : Civil) (day : Day) → if_day date ≡ Some day → civil day ≡ date
unfolding if_day
if_day-date date day found = found-date date (is_day date) refl day found

-- the text of a day
pub text-read : (text : List ℕ) (day : Day) → text ≡ day_text (civil day) → day_reading text ≡ Ok day
text-read text day is =
    let desk = is_of_desk day in
    let year = desk.year_to in
    let month = desk.civil.month_to in
    let number = desk.civil.day_to in
    let form : has_form text ≡ true = ap has_form is ∙ has_form-text (civil day) in
    let date : numbers text ≡ civil day = ap numbers is ∙ numbers-text (civil day) (omega arith) (omega arith) (omega arith) in
    reading-by text true form ∙ ap (reading_by true) (ap if_day date ∙ if_day-own day)

-- a text that is read as a day
read_as : (text : List ℕ) (form : Bool) (found : Option Day) (day : Day) → has_form text ≡ form → if_day (numbers text) ≡ found → day_reading text ≡ Ok day → text ≡ day_text (civil day)
read_as text true (Some other) day is found read =
    let one : Ok other ≡ Ok day = sym (reading-by text true is ∙ ap (reading_by true) found) ∙ read in
    let same : other ≡ day = cc in
    text-numbers text is ∙ ap day_text (sym (if_day-date (numbers text) day (found ∙ ap Some same)))
read_as text true None day is found read =
    absurd (let never : Err NoSuchDay ≡ Ok day = sym (reading-by text true is ∙ ap (reading_by true) found) ∙ read in cc)
read_as text false found day is other read =
    absurd (let never : Err Form ≡ Ok day = sym (reading-by text false is) ∙ read in cc)

pub read-text : (text : List ℕ) (day : Day) → day_reading text ≡ Ok day → text ≡ day_text (civil day)
read-text text day read = read_as text (has_form text) (if_day (numbers text)) day refl refl read

-- a text of the form
formed-form : (text : List ℕ) → IsFormed text → has_form text ≡ true
formed-form text formed = ap has_form formed.bytes ∙ has_form-text formed.date

ok_or-form : (found : Option Day) → ok_or found NoSuchDay ≢ Err Form
ok_or-form (Some day) is = cc
ok_or-form None is = cc

pub formed-not_form : (text : List ℕ) → day_reading text ≡ Err Form → ¬ (IsFormed text)
formed-not_form text refused formed =
    ok_or-form (if_day (numbers text)) (sym (reading-by text true (formed-form text formed)) ∙ refused)

form_by : (text : List ℕ) (form : Bool) → has_form text ≡ form → ¬ (IsFormed text) → day_reading text ≡ Err Form
form_by text true is other = absurd (other (is_formed text is))
form_by text false is other = reading-by text false is

pub other-form : (text : List ℕ) → ¬ (IsFormed text) → day_reading text ≡ Err Form
other-form text other = form_by text (has_form text) refl other

-- a text of the form that is no day's
missing_by : (text : List ℕ) (form : Bool) → has_form text ≡ form → day_reading text ≡ Err NoSuchDay → IsFormed text
missing_by text true is refused = is_formed text is
missing_by text false is refused =
    absurd (let never : Err Form ≡ Err NoSuchDay = sym (reading-by text false is) ∙ refused in cc)

pub missing-formed : (text : List ℕ) → day_reading text ≡ Err NoSuchDay → IsFormed text
missing-formed text refused = missing_by text (has_form text) refl refused

pub missing-text : (text : List ℕ) → day_reading text ≡ Err NoSuchDay → (day : Day) → text ≢ day_text (civil day)
missing-text text refused day is = let never : Ok day ≡ Err NoSuchDay = sym (text-read text day is) ∙ refused in cc

missing_as : (text : List ℕ) (found : Option Day) → IsFormed text → if_day (numbers text) ≡ found → ((day : Day) → text ≢ day_text (civil day)) → day_reading text ≡ Err NoSuchDay
missing_as text (Some day) formed is none =
    absurd (none day (read-text text day (reading-by text true (formed-form text formed) ∙ ap (reading_by true) is)))
missing_as text None formed is none = reading-by text true (formed-form text formed) ∙ ap (reading_by true) is

pub none-missing : (text : List ℕ) → IsFormed text → ((day : Day) → text ≢ day_text (civil day)) → day_reading text ≡ Err NoSuchDay
none-missing text formed none = missing_as text (if_day (numbers text)) formed refl none
