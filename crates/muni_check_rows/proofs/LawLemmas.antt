-- What holds of every row of an issue.
use Rattle.std.proofs.Common.{◌≡◌, ℕ, ℤ, List, Bool, true, false, Option, Some, None, Result, Ok, Err, refl, sym, subst}
use Rattle.std.specs.Prelude.{IfSome}
use Rattle.muni_rule.specs.Payments.{PaymentSeries}
use Rattle.muni_rule.specs.WorthEnds.{WorthEnds}
use Rattle.muni_terms.specs.declared.row.IssueRow.{IssueRow}
use Rattle.muni_msg.specs.declared.asked.Asked.{Asked}
use Rattle.muni_msg.specs.declared.figures.Figures.{Figures}
use Rattle.muni_msg.specs.declared.refusal.Refusal.{Refusal}
use Rattle.muni_msg.specs.declared.refusal.Refusal.TheVariants as refusal
use Rattle.muni_readings.specs.declared.checked.Checked.TheVariants as checked
use Rattle.muni_readings.specs.declared.reading.Reading.{Reading}
use Rattle.muni_readings.specs.declared.stated.Field.{Field}
use Rattle.muni_readings.specs.declared.stated.Stated.{Stated}
use Rattle.muni_check_rows.specs.Judging.{rule}
use Rattle.muni_msg.specs.declared.version.Version.{Version}
use Rattle.muni_keep.specs.Tables.{issue_numbered}
use Rattle.muni_keep.specs.Tables.{Tables}
use Rattle.muni_import.specs.declared.row.RowFault.{RowFault}
use Rattle.muni_msg.specs.declared.column.Column.{Column}
use Rattle.muni_check_rows.specs.Laws.{AreRight, IsFirstOther, IsOurs}
use Rattle.muni_check_rows.specs.Other.{OtherTerm, other_in_issue, other_in_trade}
use Rattle.muni_check_rows.specs.Rows.{states_nothing, trade_row_in}
use Rattle.muni_check_rows.specs.Said.{IsComparedOfTrade, IsComparedWith, IsJudgedBy, IsJudgedOfTrade, IsOtherOr, IsSaidOfTradeRow, refused_said}
use Rattle.muni_check_rows.specs.declared.row.TradeRow.{TradeRow}
use Rattle.muni_check_rows.specs.declared.said.CheckSaid.{CheckSaid}
use Rattle.muni_check_rows.specs.declared.said.CheckSaid.TheVariants as outcome

-- no refusal is right, and none is a difference
abbrev IsNoFigure : CheckSaid → Type 0
IsNoFigure outcome.Right = ⊥
IsNoFigure (outcome.Differs which figures stated reading) = ⊥
IsNoFigure (outcome.Undecided which) = Unit {0}
IsNoFigure (outcome.Refused number) = Unit {0}
IsNoFigure (outcome.Missing reference) = Unit {0}
IsNoFigure (outcome.OtherTerm other) = Unit {0}
IsNoFigure (outcome.Again first) = Unit {0}
IsNoFigure outcome.Nothing = Unit {0}
IsNoFigure (outcome.Bad fault) = Unit {0}

refused-none : (why : Refusal) → IsNoFigure (refused_said why)
refused-none refusal.UnknownIssue = tt
refused-none refusal.UnknownTrade = tt
refused-none (refusal.Conflict kept) = tt
refused-none (refusal.BadTerms fault) = tt
refused-none refusal.SettleOutside = tt
refused-none (refusal.GivenOutOfRange range) = tt
refused-none (refusal.YieldBelow date) = tt
refused-none refusal.YieldAbove = tt
refused-none (refusal.NoTime date) = tt
refused-none (refusal.Undecided date boundary) = tt
refused-none refusal.Canceled = tt
refused-none (refusal.WrongNumber next) = tt
refused-none refusal.VersionsFull = tt
refused-none refusal.DeskFull = tt
refused-none refusal.WrongBasis = tt

-- `right` is said of right figures
right-by : (ends : PaymentSeries → ℤ → WorthEnds) (issue : IssueRow) (asked : Asked) (stated : Stated) (answer : Result Figures Refusal) → (rule ends).Prices issue asked answer
    → IsComparedWith (rule ends) issue asked stated answer outcome.Right → AreRight ends issue asked stated
right-by ends issue asked stated (Ok figures) priced (checked.Right, compared, is) = record { figures = figures; right = priced; same = sym compared.field }
right-by ends issue asked stated (Ok figures) priced (checked.Differs which reading, compared, is) = absurd (cc is)
right-by ends issue asked stated (Err why) priced is = absurd (subst IsNoFigure (sym is) (refused-none why))

pub right-only : (ends : PaymentSeries → ℤ → WorthEnds) (issue : IssueRow) (asked : Asked) (stated : Stated) → IsJudgedBy (rule ends) issue asked stated outcome.Right → AreRight ends issue asked stated
right-only ends issue asked stated (answer, priced, compared) = right-by ends issue asked stated answer priced compared

pub right-if : (ends : PaymentSeries → ℤ → WorthEnds) (issue : IssueRow) (asked : Asked) (stated : Stated) → AreRight ends issue asked stated → IsJudgedBy (rule ends) issue asked stated outcome.Right
right-if ends issue asked stated are =
    (Ok are.figures, are.right, (checked.Right, record { field = sym are.same; reading = are.same }, refl))

-- a difference is the first
differs-by : (ends : PaymentSeries → ℤ → WorthEnds) (issue : IssueRow) (asked : Asked) (stated shown : Stated) (which : Field) (figures : Figures) (reading : Option Reading) (answer : Result Figures Refusal)
    → (rule ends).Prices issue asked answer → IsComparedWith (rule ends) issue asked stated answer (outcome.Differs which figures shown reading) → IsFirstOther ends issue asked stated which figures
differs-by ends issue asked stated shown which figures reading (Ok found) priced (checked.Right, compared, is) = absurd (cc is)
differs-by ends issue asked stated shown which figures reading (Ok found) priced (checked.Differs field by, compared, is) =
    let same : which ≡ field = cc is in
    let these : figures ≡ found = cc is in
    rw (same, these) record { right = priced; first = sym compared.field }
differs-by ends issue asked stated shown which figures reading (Err why) priced is = absurd (subst IsNoFigure (sym is) (refused-none why))

pub differs-first : (ends : PaymentSeries → ℤ → WorthEnds) (issue : IssueRow) (asked : Asked) (stated shown : Stated) (which : Field) (figures : Figures) (reading : Option Reading)
    → IsJudgedBy (rule ends) issue asked stated (outcome.Differs which figures shown reading) → IsFirstOther ends issue asked stated which figures
differs-first ends issue asked stated shown which figures reading (answer, priced, compared) =
    differs-by ends issue asked stated shown which figures reading answer priced compared

-- ---- of a kept trade
figures-ours : (ends : PaymentSeries → ℤ → WorthEnds) (told : Option Tables) (version : Version) (row : TradeRow) (trade : other_in_trade version.terms.asked row.texts ≡ None)
    (found : Option IssueRow) → IfSome told (λ tables. found ≡ issue_numbered tables version.terms.asked.cusip version.issue_number)
    → IsJudgedOfTrade (rule ends) version.terms.asked row found outcome.Right → IsOurs ends told version row
figures-ours ends told version row trade None kept is = absurd (subst IsNoFigure (sym is) tt)
figures-ours ends told version row trade (Some issue) kept is = terms-ours (other_in_issue issue row.terms) refl is
  where
    terms-ours : (other : Option OtherTerm) → other_in_issue issue row.terms ≡ other → IsOtherOr other (IsJudgedBy (rule ends) issue version.terms.asked row.stated) outcome.Right
        → IsOurs ends told version row
    terms-ours (Some other) same is = absurd (cc is)
    terms-ours None same judged = record {
      trade = trade;
      issue = issue;
      kept = kept;
      terms = same;
      figures = right-only ends issue version.terms.asked row.stated judged;
    }

compared-ours : (ends : PaymentSeries → ℤ → WorthEnds) (told : Option Tables) (version : Version) (row : TradeRow) (nothing : Bool) → other_in_trade version.terms.asked row.texts ≡ None
    → IsComparedOfTrade (rule ends) told version row nothing outcome.Right → IsOurs ends told version row
compared-ours ends told version row true trade is = absurd (cc is)
compared-ours ends told version row false trade (found, kept, judged) = figures-ours ends told version row trade found kept judged

trade-ours : (ends : PaymentSeries → ℤ → WorthEnds) (told : Option Tables) (version : Version) (row : TradeRow) (nothing : Bool) (other : Option OtherTerm) → other_in_trade version.terms.asked row.texts ≡ other
    → IsOtherOr other (IsComparedOfTrade (rule ends) told version row nothing) outcome.Right → IsOurs ends told version row
trade-ours ends told version row nothing (Some other) same is = absurd (cc is)
trade-ours ends told version row nothing None same is = compared-ours ends told version row nothing same is

pub right-ours : (ends : PaymentSeries → ℤ → WorthEnds) (told : Option Tables) (columns : List Column) (fields : List (List ℕ)) (version : Version) (read : Result TradeRow RowFault)
    → trade_row_in columns fields version.terms.asked ≡ read
    → IsSaidOfTradeRow (rule ends) told columns fields version read outcome.Right
    → (row : TradeRow) × (trade_row_in columns fields version.terms.asked ≡ Ok row) × IsOurs ends told version row
right-ours ends told columns fields version (Err fault) same is = absurd (cc is)
right-ours ends told columns fields version (Ok row) same is =
    (row, same, trade-ours ends told version row (states_nothing columns fields row.stated) (other_in_trade version.terms.asked row.texts) refl is)
