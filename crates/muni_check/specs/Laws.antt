-- Laws of checks.
use Rattle.std.specs.Prelude.{◌≡◌, true, false, ℕ, ℤ, List, [], ◌∷◌, ◌++◌, length, map, Contains, Option, Some, Ok}
use Rattle.std.specs.FinMap.{entries}
use Rattle.muni_rule.specs.Payments.{PaymentSeries}
use Rattle.muni_rule.specs.WorthEnds.{WorthEnds}
use Rattle.muni_msg.specs.declared.command.Line.{Line}
use Rattle.muni_keep.specs.Tables.{Tables, line}
use Rattle.muni_keep.specs.Trades.{own}
use Rattle.muni_check.specs.Answer.{IsAnswer, IsAnswerToRows, Over}
use Rattle.muni_check.specs.Judging.{over}
use Rattle.muni_check_rows.specs.Columns.{columns_in}
use Rattle.muni_check_rows.specs.Line.{said_lines, total_line, unseen_lines}
use Rattle.muni_check_rows.specs.Tallies.{tally_of}
use Rattle.muni_check.specs.One.{AnswersWithLine, IsRowLine}
use Rattle.muni_check.specs.Unseen.{is_live, is_named, unseen_in}
use Rattle.muni_msg.specs.declared.column.Column.{Column}
use Rattle.muni_check.specs.declared.command.CheckEnd.{CheckEnd}
use Rattle.muni_check_rows.specs.declared.said.CheckSaid.{CheckSaid}

-- a text has a line on each row, then the lines of trades for which none came, and the total
pub record HasLines (rows : List (List (List ℕ))) (text : List ℕ) : Type 0 where
  pub said : List CheckSaid
  pub unseen : List (List ℕ)
  pub one_each : length said ≡ length rows
  pub written : text ≡ said_lines 1 said ++ unseen_lines unseen ++ total_line (tally_of said unseen)

abbrev pub EachRowHasALine : Type 0
EachRowHasALine =
    (ends : PaymentSeries → ℤ → WorthEnds) (desk : Option (List ℕ)) (told : Option Tables) (columns : List Column) (rows : List (List (List ℕ))) (end : CheckEnd) (text : List ℕ)
    → IsAnswerToRows (over ends desk told) columns rows end text → HasLines rows text

-- a live trade is told if no row names it
abbrev pub UnseenTradesAreTold : Type 0
UnseenTradesAreTold =
    (tables : Tables) (desk : List ℕ) (named : List (List ℕ)) (trade : Line)
    → Contains (map line (entries (own desk tables.desks))) trade
    → is_live trade.version.act ≡ true → is_named named trade.reference ≡ false
    → Contains (unseen_in tables (Some desk) named) trade.reference

-- Of an input of names and one row each answer has a line that the row may have by itself, and each such line an answer.
pub record AnswersAndLinesAgree (over : Over) (columns : List Column) (names fields : List (List ℕ)) : Type 0 where
  pub lines : (end : CheckEnd) (text : List ℕ) → IsAnswer over (names ∷ fields ∷ []) end text
      → (line : List ℕ) × AnswersWithLine over columns names fields end text line
  pub answers : (line : List ℕ) → IsRowLine over columns fields line
      → (end : CheckEnd) × (text : List ℕ) × AnswersWithLine over columns names fields end text line

abbrev pub OneRowHasTheSameLine : Type 0
OneRowHasTheSameLine =
    (ends : PaymentSeries → ℤ → WorthEnds) (desk : Option (List ℕ)) (told : Option Tables) (columns : List Column) (names fields : List (List ℕ))
    → columns_in names ≡ Ok columns → AnswersAndLinesAgree (over ends desk told) columns names fields
