-- The terms that a row states beside those that are kept.
use Rattle.std.specs.Prelude.{ℕ, if◌then◌else◌, List, [], ◌∷◌, drop, Option, Some, None}
use Rattle.std.specs.Str.{bytes_eq}
use Rattle.muni_terms.specs.declared.row.IssueRow.{IssueRow}
use Rattle.muni_msg.specs.declared.asked.Asked.{Asked}
use Rattle.muni_export.specs.Rows.{issue_terms_fields, terms_fields}
use Rattle.muni_msg.specs.declared.column.Column.{Column}
use Rattle.muni_msg.specs.declared.column.Column.TheVariants as column

-- a stated term that is another than the kept one, with the texts of both as an export writes them
pub record OtherTerm : Type 0 where
  pub column : Column
  pub ours : List ℕ
  pub theirs : List ℕ

abbrev pub other_term : Column → (ours theirs : List ℕ) → OtherTerm
other_term this ours theirs = record { column = this; ours = ours; theirs = theirs }

-- the first of the texts in some columns that is another
abbrev pub first_other : List Column → (ours theirs : List (List ℕ)) → Option OtherTerm
first_other [] ours theirs = None
first_other (this ∷ more) [] theirs = None
first_other (this ∷ more) (one ∷ ours) [] = None
first_other (this ∷ more) (one ∷ ours) (other ∷ theirs) =
    if bytes_eq one other then first_other more ours theirs else Some (other_term this one other)

-- the columns of the terms of a trade, and of those of its issue, in the order in which an export has them
abbrev pub trade_columns : List Column
trade_columns =
    column.Cusip ∷ column.Side ∷ column.Par ∷ column.Settle ∷ column.Basis ∷ column.Value ∷ column.Fee ∷ []

abbrev pub issue_columns : List Column
issue_columns =
    column.Kind ∷ column.Dated ∷ column.First ∷ column.Maturity ∷ column.Coupon ∷ column.Calls
    ∷ column.DayCount ∷ []

-- the texts of the terms of an issue without its name, which is no column
abbrev pub issue_texts : IssueRow → List (List ℕ)
issue_texts issue = drop 1 (issue_terms_fields issue)

-- the first term of a trade that is another than the kept one
abbrev pub other_in_trade : (kept : Asked) → (theirs : List (List ℕ)) → Option OtherTerm
other_in_trade kept theirs = first_other trade_columns (terms_fields kept) theirs

-- the first term of its issue that is another, if a row states any
abbrev pub other_in_issue : (kept : IssueRow) → (stated : Option IssueRow) → Option OtherTerm
other_in_issue kept None = None
other_in_issue kept (Some stated) = first_other issue_columns (issue_texts kept) (issue_texts stated)
