-- What is said of a row.
use Rattle.std.specs.Prelude.{◌≡◌, ℕ, Bool, true, false, List, Option, Some, None, Result, Ok, Err, IfSome}
use Rattle.muni_terms.specs.Check.{checked}
use Rattle.muni_terms.specs.declared.disclosure.Boundary.{Boundary}
use Rattle.muni_terms.specs.declared.disclosure.Boundary.TheVariants as boundary
use Rattle.muni_terms.specs.declared.row.IssueRow.{IssueRow}
use Rattle.muni_terms.specs.declared.row.TermsFault.{TermsFault}
use Rattle.muni_msg.specs.Refusal.{number_of}
use Rattle.muni_msg.specs.declared.asked.Asked.{Asked}
use Rattle.muni_msg.specs.declared.figures.Figures.{Figures}
use Rattle.muni_msg.specs.declared.refusal.Refusal.{Refusal}
use Rattle.muni_msg.specs.declared.refusal.Refusal.TheVariants as refusal
use Rattle.muni_msg.specs.declared.version.Act.{Act}
use Rattle.muni_msg.specs.declared.version.Act.TheVariants.{Entered, Corrected, Canceled}
use Rattle.muni_msg.specs.declared.version.Version.{Version}
use Rattle.muni_keep.specs.Tables.{Tables, issue_at, issue_numbered, last_at}
use Rattle.muni_import.specs.declared.row.RowFault.{RowFault}
use Rattle.muni_readings.specs.declared.stated.Field.{Field}
use Rattle.muni_readings.specs.declared.stated.Field.TheVariants as field
use Rattle.muni_readings.specs.declared.stated.Stated.{Stated}
use Rattle.muni_readings.specs.declared.checked.Checked.{Checked}
use Rattle.muni_readings.specs.declared.checked.Checked.TheVariants as checked
use Rattle.muni_check_rows.specs.Other.{OtherTerm, other_in_issue, other_in_trade}
use Rattle.muni_check_rows.specs.Rows.{reference_in, row_in, states_nothing, trade_row_in}
use Rattle.muni_check_rows.specs.StatedFigures.{has_figure}
use Rattle.muni_msg.specs.declared.column.Column.{Column}
use Rattle.muni_check_rows.specs.declared.row.CheckRow.{CheckRow}
use Rattle.muni_check_rows.specs.declared.row.TradeRow.{TradeRow}
use Rattle.muni_check_rows.specs.declared.said.CheckSaid.{CheckSaid}
use Rattle.muni_check_rows.specs.declared.said.CheckSaid.TheVariants as outcome

-- how figures are found, and how stated ones are compared with them
pub record Judging : Type 1 where
  pub Prices : IssueRow → Asked → Result Figures Refusal → Type 0
  pub Compares : IssueRow → Asked → Figures → Stated → Checked → Type 0

-- which figure a rule leaves undecided
abbrev pub undecided_field : Boundary → Field
undecided_field (boundary.Price units) = field.Price
undecided_field (boundary.Yield units) = field.Yield

-- what is said if no figures can be had
abbrev pub refused_said : Refusal → CheckSaid
refused_said (refusal.Undecided date at) = outcome.Undecided (undecided_field at)
refused_said other = outcome.Refused (number_of other)

-- what is said of stated figures beside the right ones
abbrev pub compared_said : Figures → Stated → Checked → CheckSaid
compared_said figures stated checked.Right = outcome.Right
compared_said figures stated (checked.Differs which reading) = outcome.Differs which figures stated reading

-- stated figures are compared with those that are found, if any are
abbrev pub IsComparedWith : Judging → IssueRow → Asked → Stated → Result Figures Refusal → CheckSaid → Type 0
IsComparedWith judging issue asked stated (Ok figures) said =
    (found : Checked) × judging.Compares issue asked figures stated found
    × (said ≡ compared_said figures stated found)
IsComparedWith judging issue asked stated (Err why) said = said ≡ refused_said why

-- a row of an issue
abbrev pub IsJudgedBy : Judging → IssueRow → Asked → Stated → CheckSaid → Type 0
IsJudgedBy judging issue asked stated said =
    (answer : Result Figures Refusal) × judging.Prices issue asked answer
    × IsComparedWith judging issue asked stated answer said

-- a row with terms of its own, if they pass
abbrev pub IsJudgedByTerms : Judging → Asked → Stated → Result IssueRow TermsFault → CheckSaid → Type 0
IsJudgedByTerms judging asked stated (Ok issue) said = IsJudgedBy judging issue asked stated said
IsJudgedByTerms judging asked stated (Err fault) said = said ≡ refused_said (refusal.BadTerms fault)

-- a row of an issue that is kept, or of none
abbrev pub IsJudgedByKept : Judging → Asked → Stated → Option IssueRow → CheckSaid → Type 0
IsJudgedByKept judging asked stated (Some issue) said = IsJudgedBy judging issue asked stated said
IsJudgedByKept judging asked stated None said = said ≡ refused_said refusal.UnknownIssue

-- What a store keeps, as far as it is exposed, and else what it was found to keep.
abbrev pub ByKept : {A : Type 0} → Option Tables → (Tables → A) → (A → Type 0) → Type 0
ByKept {A} told kept Is = (found : A) × IfSome told (λ tables. found ≡ kept tables) × Is found

-- ---- a row by itself
-- it goes by the terms that it states, and else by the last ones that are kept for its CUSIP
abbrev pub IsJudged : Judging → Option Tables → Asked → Stated → Option IssueRow → CheckSaid → Type 0
IsJudged judging told asked stated (Some terms) said = IsJudgedByTerms judging asked stated (checked terms) said
IsJudged judging told asked stated None said =
    ByKept told (λ tables. issue_at tables asked.cusip) (λ kept. IsJudgedByKept judging asked stated kept said)

-- one that states no figure states nothing
abbrev pub IsCompared : Judging → Option Tables → CheckRow → (has_figure : Bool) → CheckSaid → Type 0
IsCompared judging told row true said = IsJudged judging told row.asked row.stated row.terms said
IsCompared judging told row false said = said ≡ outcome.Nothing

-- one that reads, or one that does not
abbrev pub IsSaidOfRow : Judging → Option Tables → Result CheckRow RowFault → CheckSaid → Type 0
IsSaidOfRow judging told (Ok row) said = IsCompared judging told row (has_figure row.stated) said
IsSaidOfRow judging told (Err fault) said = said ≡ outcome.Bad fault

-- ---- a row of a trade
-- a term is another than the kept one, or something else is said
abbrev pub IsOtherOr : Option OtherTerm → (CheckSaid → Type 0) → CheckSaid → Type 0
IsOtherOr (Some other) Is said = said ≡ outcome.OtherTerm other
IsOtherOr None Is said = Is said

-- the terms of its issue come before the figures, which are those of the kept trade
abbrev pub IsJudgedOfTrade : Judging → (kept : Asked) → TradeRow → Option IssueRow → CheckSaid → Type 0
IsJudgedOfTrade judging kept row (Some issue) said =
    IsOtherOr (other_in_issue issue row.terms) (IsJudgedBy judging issue kept row.stated) said
IsJudgedOfTrade judging kept row None said = said ≡ refused_said refusal.UnknownIssue

-- a trade is judged by the terms by which it was figured, whatever came later
abbrev pub IsComparedOfTrade : Judging → Option Tables → Version → TradeRow → (nothing : Bool) → CheckSaid → Type 0
IsComparedOfTrade judging told version row true said = said ≡ outcome.Nothing
IsComparedOfTrade judging told version row false said =
    ByKept told (λ tables. issue_numbered tables version.terms.asked.cusip version.issue_number)
    (λ issue. IsJudgedOfTrade judging version.terms.asked row issue said)

-- the terms of the trade come first
abbrev pub IsSaidOfTradeRow : Judging → Option Tables → List Column → List (List ℕ) → Version → Result TradeRow RowFault → CheckSaid → Type 0
IsSaidOfTradeRow judging told columns fields version (Ok row) said =
    IsOtherOr (other_in_trade version.terms.asked row.texts)
    (IsComparedOfTrade judging told version row (states_nothing columns fields row.stated)) said
IsSaidOfTradeRow judging told columns fields version (Err fault) said = said ≡ outcome.Bad fault

-- the last version of a trade that is not canceled
abbrev pub if_live : Act → Version → Option Version
if_live Entered version = Some version
if_live Corrected version = Some version
if_live Canceled version = None

abbrev pub live_by : Option (ℕ × Version) → Option Version
live_by None = None
live_by (Some last) = if_live last.1.act last.1

-- a row of a trade that is live, or of one that is missing
abbrev pub IsSaidOfTrade : Judging → Option Tables → List Column → List (List ℕ) → (reference : List ℕ) → Option Version → CheckSaid → Type 0
IsSaidOfTrade judging told columns fields reference (Some version) said =
    IsSaidOfTradeRow judging told columns fields version (trade_row_in columns fields version.terms.asked) said
IsSaidOfTrade judging told columns fields reference None said = said ≡ outcome.Missing reference

-- a row whose reference came before, or one whose reference is the first of its kind
abbrev pub IsSaidByReference : Judging → (desk : List ℕ) → Option Tables → List Column → List (List ℕ) → (reference : List ℕ) → (again : Option ℕ) → CheckSaid → Type 0
IsSaidByReference judging desk told columns fields reference (Some first) said = said ≡ outcome.Again first
IsSaidByReference judging desk told columns fields reference None said =
    ByKept told (λ tables. last_at tables (record { desk = desk; reference = reference }))
    (λ last. IsSaidOfTrade judging told columns fields reference (live_by last) said)

-- ---- any row
-- it names a trade only if it is of a desk and has a reference
abbrev pub IsSaidByName : Judging → (desk : Option (List ℕ)) → Option Tables → List Column → List (List ℕ) → Option (List ℕ) → (again : Option ℕ) → CheckSaid → Type 0
IsSaidByName judging (Some desk) told columns fields (Some reference) again said =
    IsSaidByReference judging desk told columns fields reference again said
IsSaidByName judging (Some desk) told columns fields None again said =
    IsSaidOfRow judging told (row_in columns fields) said
IsSaidByName judging None told columns fields reference again said =
    IsSaidOfRow judging told (row_in columns fields) said

abbrev pub IsSaidAfter : Judging → (desk : Option (List ℕ)) → Option Tables → List Column → List (List ℕ) → Result (Option (List ℕ)) RowFault → (again : Option ℕ) → CheckSaid → Type 0
IsSaidAfter judging desk told columns fields (Ok reference) again said =
    IsSaidByName judging desk told columns fields reference again said
IsSaidAfter judging desk told columns fields (Err fault) again said = said ≡ outcome.Bad fault

-- What is said of a row, by the row, by what is kept, and by the place of an earlier row with its reference if there is
-- one.
abbrev pub IsToldOf : Judging → (desk : Option (List ℕ)) → Option Tables → List Column → (again : Option ℕ) → List (List ℕ) → CheckSaid → Type 0
IsToldOf judging desk told columns again fields said =
    IsSaidAfter judging desk told columns fields (reference_in columns fields) again said
