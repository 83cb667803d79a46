-- The whole answer to an input, and its first part.
use Rattle.std.specs.Prelude.{◌≡◌, ◌+◌, ⊤, ℕ, Bool, if◌then◌else◌, List, [], ◌∷◌, ◌++◌, Option, Result, Ok, Err, IfSome}
use Rattle.muni_keep.specs.Tables.{Tables}
use Rattle.muni_import.specs.declared.row.RowFault.{RowFault}
use Rattle.muni_import.specs.declared.row.RowFault.TheVariants.{FieldCount}
use Rattle.muni_check_rows.specs.Columns.{columns_in}
use Rattle.muni_check_rows.specs.Line.{names_line, said_lines, total_line, unseen_lines}
use Rattle.muni_check_rows.specs.Rows.{named_by, named_in}
use Rattle.muni_check_rows.specs.Said.{IsToldOf, Judging}
use Rattle.muni_check_rows.specs.Tallies.{are_all_right, tally_of}
use Rattle.muni_check.specs.Named.{Places, again_of, came_after, no_places}
use Rattle.muni_check.specs.Unseen.{unseen_in}
use Rattle.muni_msg.specs.declared.column.Column.{Column}
use Rattle.muni_check.specs.declared.command.CheckEnd.{CheckEnd}
use Rattle.muni_check.specs.declared.command.CheckEnd.TheVariants.{AllRight, NotAllRight, BadNames}
use Rattle.muni_check_rows.specs.declared.said.CheckSaid.{CheckSaid}

-- what rows are judged by: the rules, the desk whose trades they name, if any, and what is kept, if it is exposed
pub record Over : Type 1 where
  pub judging : Judging
  pub desk : Option (List ℕ)
  pub told : Option Tables

-- What is said of rows in columns, whose places are counted on: each is judged by itself, but that one whose reference
-- came before is told so.
abbrev pub AreTold : Over → List Column → Places → (place : ℕ) → List (List (List ℕ)) → List CheckSaid → Type 0
AreTold over columns came place [] [] = ⊤
AreTold over columns came place [] (one ∷ said) = ⊥
AreTold over columns came place (row ∷ rows) [] = ⊥
AreTold over columns came place (row ∷ rows) (one ∷ said) =
    IsToldOf over.judging over.desk over.told columns (again_of came (named_in columns row)) row one
    × AreTold over columns (came_after over.desk came place (named_in columns row)) (place + 1) rows said

-- rows in columns are judged, and these are their lines
pub record AreChecked (over : Over) (columns : List Column) (rows : List (List (List ℕ))) (said : List CheckSaid) (lines : List ℕ) : Type 0 where
  pub each : AreTold over columns no_places 1 rows said
  pub written : lines ≡ said_lines 1 said

-- the references of live trades of the desk for which no row came
abbrev pub AreUnseen : Over → (named unseen : List (List ℕ)) → Type 0
AreUnseen over named unseen = IfSome over.told (λ tables. unseen ≡ unseen_in tables over.desk named)

abbrev pub end_of : Bool → CheckEnd
end_of all_right = if all_right then AllRight else NotAllRight

-- The answer to rows: a line on each, one on each live trade of the desk for which none came, and the total.
pub record IsAnswerToRows (over : Over) (columns : List Column) (rows : List (List (List ℕ))) (end : CheckEnd) (text : List ℕ) : Type 0 where
  pub said : List CheckSaid
  pub lines : List ℕ
  pub checked : AreChecked over columns rows said lines
  pub unseen : List (List ℕ)
  pub are_unseen : AreUnseen over (named_by columns rows) unseen
  pub written : text ≡ lines ++ unseen_lines unseen ++ total_line (tally_of said unseen)
  pub ended : end ≡ end_of (are_all_right (tally_of said unseen))

-- an input whose first line does not name columns is answered by the place of the name alone
abbrev pub IsAnswerIn : Over → Result (List Column) RowFault → (rows : List (List (List ℕ))) → CheckEnd → List ℕ → Type 0
IsAnswerIn over (Ok columns) rows end text = IsAnswerToRows over columns rows end text
IsAnswerIn over (Err fault) rows end text = (end ≡ BadNames) × (text ≡ names_line fault)

-- The answer to the records of an input, of which the first names the columns.
abbrev pub IsAnswer : Over → (records : List (List (List ℕ))) → CheckEnd → List ℕ → Type 0
IsAnswer over [] end text = (end ≡ BadNames) × (text ≡ names_line FieldCount)
IsAnswer over (names ∷ rows) end text = IsAnswerIn over (columns_in names) rows end text
