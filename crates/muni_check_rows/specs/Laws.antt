-- Laws of what is said of rows.
use Rattle.std.specs.Prelude.{◌≡◌, ◌↔◌, ℕ, ℤ, List, Option, Some, None, Ok, IfSome}
use Rattle.muni_rule.specs.Payments.{PaymentSeries}
use Rattle.muni_rule.specs.WorthEnds.{WorthEnds}
use Rattle.muni_terms.specs.declared.row.IssueRow.{IssueRow}
use Rattle.muni_msg.specs.declared.asked.Asked.{Asked}
use Rattle.muni_msg.specs.declared.figures.Figures.{Figures}
use Rattle.muni_msg.specs.declared.version.Version.{Version}
use Rattle.muni_keep.specs.Tables.{Tables, issue_numbered}
use Rattle.muni_answer.specs.Answers.{IsRightAnswer}
use Rattle.muni_msg.specs.declared.column.Column.{Column}
use Rattle.muni_readings.specs.Stated.{first_difference}
use Rattle.muni_readings.specs.declared.reading.Reading.{Reading}
use Rattle.muni_readings.specs.declared.stated.Field.{Field}
use Rattle.muni_readings.specs.declared.stated.Stated.{Stated}
use Rattle.muni_check_rows.specs.Judging.{rule}
use Rattle.muni_check_rows.specs.Other.{other_in_issue, other_in_trade}
use Rattle.muni_check_rows.specs.Rows.{trade_row_in}
use Rattle.muni_check_rows.specs.Said.{IsJudgedBy, IsSaidOfTradeRow}
use Rattle.muni_check_rows.specs.declared.row.TradeRow.{TradeRow}
use Rattle.muni_check_rows.specs.declared.said.CheckSaid.TheVariants.{Right, Differs}

-- the stated figures are those of the rule, which has figures here
pub record AreRight (ends : PaymentSeries → ℤ → WorthEnds) (issue : IssueRow) (asked : Asked) (stated : Stated) : Type 0 where
  pub figures : Figures
  pub right : IsRightAnswer ends issue asked (Ok figures)
  pub same : first_difference figures stated ≡ None

-- `right` is said exactly of these
abbrev pub RightIsExact : Type 0
RightIsExact =
    (ends : PaymentSeries → ℤ → WorthEnds) (issue : IssueRow) (asked : Asked) (stated : Stated)
    → IsJudgedBy (rule ends) issue asked stated Right ↔ AreRight ends issue asked stated

-- a stated figure is not that of the rule, and no field before it is another
pub record IsFirstOther (ends : PaymentSeries → ℤ → WorthEnds) (issue : IssueRow) (asked : Asked) (stated : Stated) (which : Field) (figures : Figures) : Type 0 where
  pub right : IsRightAnswer ends issue asked (Ok figures)
  pub first : first_difference figures stated ≡ Some which

abbrev pub TheFirstDifferenceIsTold : Type 0
TheFirstDifferenceIsTold =
    (ends : PaymentSeries → ℤ → WorthEnds) (issue : IssueRow) (asked : Asked) (stated shown : Stated) (which : Field) (figures : Figures) (reading : Option Reading)
    → IsJudgedBy (rule ends) issue asked stated (Differs which figures shown reading)
    → IsFirstOther ends issue asked stated which figures

-- A row states of a trade what is kept, also of its issue, and figures that are those of the rule.
pub record IsOurs (ends : PaymentSeries → ℤ → WorthEnds) (told : Option Tables) (version : Version) (row : TradeRow) : Type 0 where
  pub trade : other_in_trade version.terms.asked row.texts ≡ None
  pub issue : IssueRow
  pub kept : IfSome told (λ tables. Some issue ≡ issue_numbered tables version.terms.asked.cusip version.issue_number)
  pub terms : other_in_issue issue row.terms ≡ None
  pub figures : AreRight ends issue version.terms.asked row.stated

abbrev pub RightIsOurTrade : Type 0
RightIsOurTrade =
    (ends : PaymentSeries → ℤ → WorthEnds) (told : Option Tables) (columns : List Column) (fields : List (List ℕ)) (version : Version)
    → IsSaidOfTradeRow (rule ends) told columns fields version (trade_row_in columns fields version.terms.asked) Right
    → (row : TradeRow) × (trade_row_in columns fields version.terms.asked ≡ Ok row) × IsOurs ends told version row
