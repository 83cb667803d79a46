-- The line of one row by itself.
use Rattle.std.specs.Prelude.{◌≡◌, ℕ, List, [], ◌∷◌, ◌++◌, None}
use Rattle.muni_msg.specs.declared.column.Column.{Column}
use Rattle.muni_check_rows.specs.Line.{said_line, total_line, unseen_lines}
use Rattle.muni_check_rows.specs.Said.{IsToldOf}
use Rattle.muni_check_rows.specs.declared.said.CheckSaid.{CheckSaid}
use Rattle.muni_check_rows.specs.declared.tally.Tally.{Tally}
use Rattle.muni_check.specs.Answer.{IsAnswer, Over}
use Rattle.muni_check.specs.declared.command.CheckEnd.{CheckEnd}

-- what is said of a row, as the line of the first row of an input
pub record IsRowLine (over : Over) (columns : List Column) (fields : List (List ℕ)) (line : List ℕ) : Type 0 where
  pub said : CheckSaid
  pub told : IsToldOf over.judging over.desk over.told columns None fields said
  pub written : line ≡ said_line 1 said

-- The answer to an input of names and one row has the line of this row, then those of trades for which none came, and
-- the total.
pub record AnswersWithLine (over : Over) (columns : List Column) (names fields : List (List ℕ)) (end : CheckEnd) (text line : List ℕ) : Type 0 where
  pub answer : IsAnswer over (names ∷ fields ∷ []) end text
  pub row : IsRowLine over columns fields line
  pub unseen : List (List ℕ)
  pub tally : Tally
  pub split : text ≡ line ++ unseen_lines unseen ++ total_line tally
