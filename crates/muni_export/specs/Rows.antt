-- The rows of an export: their fields, and their texts.
use Rattle.std.specs.Prelude.{ℕ, ◌==◌, if◌then◌else◌, List, [], ◌∷◌, ◌++◌, codes, decimal, Option, Some, None}
use Rattle.csv.specs.Writing.{default_writer, row_text}
use Rattle.muni_dec.specs.Values.{coupon_text, fee_text}
use Rattle.muni_days.specs.Day.{civil, day_text}
use Rattle.muni_terms.specs.declared.row.IssueRow.{IssueRow}
use Rattle.muni_msg.specs.declared.asked.Asked.{Asked}
use Rattle.muni_msg.specs.declared.command.Key.{Key}
use Rattle.muni_msg.specs.declared.version.Act.{Act}
use Rattle.muni_msg.specs.declared.version.Act.TheVariants.{Entered, Corrected, Canceled}
use Rattle.muni_msg.specs.declared.version.Version.{Version}
use Rattle.muni_store_rows.specs.Calls.{calls_text}
use Rattle.muni_store_rows.specs.Issue.{first_text}
use Rattle.muni_export.specs.Words.{kind_word, days_word, side_word, basis_word, value_text}

-- the terms of an issue: NAME, KIND, DATED, FIRST, MATURITY, COUPON, CALLS and DAYS
unfoldable pub issue_terms_fields : IssueRow → List (List ℕ)
issue_terms_fields issue =
    issue.name.items
    ∷ kind_word issue.kind
    ∷ day_text (civil issue.dated)
    ∷ first_text issue.kind
    ∷ day_text (civil issue.maturity)
    ∷ coupon_text issue.coupon
    ∷ calls_text issue.calls.items
    ∷ days_word issue.basis
    ∷ []

-- the first terms of an issue: CUSIP and the terms
abbrev pub first_terms_fields : IssueRow → List (List ℕ)
first_terms_fields issue = codes "issue" ∷ issue.cusip ∷ issue_terms_fields issue

-- later ones: CUSIP, NUMBER and the terms
abbrev pub amendment_fields : ℕ → IssueRow → List (List ℕ)
amendment_fields number issue =
    codes "amend" ∷ issue.cusip ∷ decimal number ∷ issue_terms_fields issue

-- an issue by its terms with a number
abbrev pub issue_fields : ℕ → IssueRow → List (List ℕ)
issue_fields number issue =
    if number == 1 then first_terms_fields issue else amendment_fields number issue

-- the terms of a trade: CUSIP, SIDE, PAR, SETTLE, BASIS, VALUE and FEE
unfoldable pub terms_fields : Asked → List (List ℕ)
terms_fields asked =
    asked.cusip
    ∷ side_word asked.side
    ∷ decimal asked.par
    ∷ day_text (civil asked.settle)
    ∷ basis_word asked.given
    ∷ value_text asked.given
    ∷ fee_text asked.fee
    ∷ []

-- the number of the terms of the issue of a trade, if it is written: ISSUE
abbrev pub issue_number_fields : Option ℕ → List (List ℕ)
issue_number_fields None = []
issue_number_fields (Some number) = decimal number ∷ []

-- a trade as it was entered: DESK, REFERENCE, the terms, and perhaps ISSUE
abbrev pub trade_fields : Key → Asked → Option ℕ → List (List ℕ)
trade_fields key asked issue_number =
    codes "trade" ∷ key.desk ∷ key.reference
    ∷ terms_fields asked ++ issue_number_fields issue_number

-- a correction: DESK, REFERENCE, NUMBER, the terms, and perhaps ISSUE
abbrev pub correction_fields : Key → ℕ → Asked → Option ℕ → List (List ℕ)
correction_fields key number asked issue_number =
    codes "correct" ∷ key.desk ∷ key.reference ∷ decimal number
    ∷ terms_fields asked ++ issue_number_fields issue_number

-- a cancel: DESK, REFERENCE and NUMBER
abbrev pub cancel_fields : Key → ℕ → List (List ℕ)
cancel_fields key number = codes "cancel" ∷ key.desk ∷ key.reference ∷ decimal number ∷ []

-- a version, by what made it
abbrev pub fields_by : Act → Key → ℕ → Asked → Option ℕ → List (List ℕ)
fields_by Entered key number asked issue_number = trade_fields key asked issue_number
fields_by Corrected key number asked issue_number = correction_fields key number asked issue_number
fields_by Canceled key number asked issue_number = cancel_fields key number

abbrev pub version_fields : Key → ℕ → Version → Option ℕ → List (List ℕ)
version_fields key number version issue_number =
    fields_by version.act key number version.terms.asked issue_number

-- fields as a line of CSV
unfoldable pub row : List (List ℕ) → List ℕ
row fields = row_text default_writer fields

abbrev pub issue_row : ℕ → IssueRow → List ℕ
issue_row number issue = row (issue_fields number issue)

abbrev pub version_row : Key → ℕ → Version → Option ℕ → List ℕ
version_row key number version issue_number = row (version_fields key number version issue_number)
