-- What is answered to a check of one row.
use Rattle.std.specs.Prelude.{◌≡◌, ℕ, List, Option}
use Rattle.muni_keep.specs.Tables.{Tables}
use Rattle.muni_check_rows.specs.Said.{Judging}
use Rattle.muni_check.specs.One.{IsRowLine}
use Rattle.muni_wire.specs.Answer.{success}
use Rattle.muni_wire.specs.HttpStatus.{code}
use Rattle.muni_wire.specs.declared.status.HttpStatus.TheVariants.{Success}
use Rattle.muni_wire_body.specs.Stated.{RowTexts}
use Rattle.muni_desk_serve.specs.Answer.{Answer}

-- the line that the command `check` writes for the row, by the tables if they are exposed
abbrev pub IsLineOf : Judging → Option Tables → RowTexts → List ℕ → Type 0
IsLineOf judging told row line =
    IsRowLine (record { judging = judging; desk = row.desk; told = told }) row.columns row.fields line

-- the answer with a line
abbrev pub line_answer : List ℕ → Answer
line_answer line = record { status = code Success; bytes = success line }

-- the answer with the line of the row
abbrev pub IsCheckAnswer : Judging → Option Tables → RowTexts → Answer → Type 0
IsCheckAnswer judging told row answer =
    (line : List ℕ) × IsLineOf judging told row line × (answer ≡ line_answer line)
