-- What is said of stated figures.
use Rattle.std.specs.Prelude.{◌≡◌, List, [], ◌∷◌, MatchBool, Option, Some, None}
use Rattle.muni_terms.specs.declared.row.IssueRow.{IssueRow}
use Rattle.muni_msg.specs.declared.asked.Asked.{Asked}
use Rattle.muni_msg.specs.declared.figures.Figures.{Figures}
use Rattle.muni_readings.specs.OtherTerms.{Ends}
use Rattle.muni_readings.specs.Readings.{IsBy}
use Rattle.muni_readings.specs.Stated.{is_given, first_difference}
use Rattle.muni_readings.specs.declared.checked.Checked.{Checked}
use Rattle.muni_readings.specs.declared.checked.Checked.TheVariants.{Right, Differs}
use Rattle.muni_readings.specs.declared.reading.Reading.{Reading}
use Rattle.muni_readings.specs.declared.reading.Reading.TheVariants as reading
use Rattle.muni_readings.specs.declared.stated.Field.{Field}
use Rattle.muni_readings.specs.declared.stated.Stated.{Stated}

-- the readings in the order in which they are tried
abbrev pub readings : List Reading
readings =
    reading.Maturity ∷ reading.FirstCall ∷ reading.Rounded ∷ reading.Compounded
    ∷ reading.February ∷ reading.Gross ∷ reading.Regular ∷ []

-- what figures each reading gives
abbrev pub Gives : Type 1
Gives = Reading → Option Figures → Type 0

-- the first of some readings whose figures have what is stated of a field, if there is one
abbrev pub IsFirstOf : Gives → Field → Stated → List Reading → Option Reading → Type 0
IsFirstOf By which stated [] first = first ≡ None
IsFirstOf By which stated (reading ∷ rest) first =
    (theirs : Option Figures) × By reading theirs
    × MatchBool (is_given theirs which stated) (first ≡ Some reading)
    (IsFirstOf By which stated rest first)

-- the first of all
abbrev pub IsFirstReading : Ends → IssueRow → Asked → Figures → Field → Stated → Option Reading → Type 0
IsFirstReading ends row asked figures field stated first =
    IsFirstOf (IsBy ends row asked figures) field stated readings first

-- the field that is named, if one is
abbrev pub field_of : Checked → Option Field
field_of Right = None
field_of (Differs field reading) = Some field

-- the reading that is named is the first
abbrev pub NamesReading : Ends → IssueRow → Asked → Figures → Stated → Checked → Type 0
NamesReading ends row asked figures stated Right = first_difference figures stated ≡ None
NamesReading ends row asked figures stated (Differs field reading) =
    IsFirstReading ends row asked figures field stated reading
