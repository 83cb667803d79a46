-- What is read from the rows of the tables.
use Rattle.std.specs.Prelude.{ℕ, Bool, ℤ, pos, List, [], Option, is_some, option_map}
use Rattle.std.specs.Result.{result_ok}
use Rattle.std.specs.Char.{is_ascii_alphanumeric}
use Rattle.sqlite_value.specs.declared.value.Value.{Value}
use Rattle.sqlite_value.specs.declared.value.Value.TheVariants.{Int, Text}
use Rattle.sqlite_value.specs.Order.{column}
use Rattle.muni_terms.specs.declared.row.IssueRow.{IssueRow}
use Rattle.muni_msg.specs.declared.command.Key.{Key}
use Rattle.muni_msg.specs.declared.version.Version.{Version}
use Rattle.muni_msg.specs.NameReading.{name_reading}
use Rattle.muni_msg.specs.Names.{is_desk_letter}
use Rattle.muni_store_rows.specs.Issue as issues
use Rattle.muni_store_rows.specs.Version as versions

abbrev pub text_of : Value → List ℕ
text_of (Text bytes) = bytes
text_of _ = []

abbrev pub number_of : Value → ℤ
number_of (Int number) = number
number_of _ = pos 0

-- the text and the number in a column
abbrev pub text_in : List Value → ℕ → List ℕ
text_in row at = text_of (column row at)

abbrev pub number_in : List Value → ℕ → ℤ
number_in row at = number_of (column row at)

-- the reference in a column, if it is one
abbrev pub reference_at : List Value → ℕ → Option (List ℕ)
reference_at row at = result_ok (name_reading is_ascii_alphanumeric 20 (text_in row at))

abbrev pub reference_in : List Value → Option (List ℕ)
reference_in row = reference_at row 0

-- the name of a desk in a row, if it is one
abbrev pub desk_in : List Value → Option (List ℕ)
desk_in row = result_ok (name_reading is_desk_letter 16 (text_in row 0))

-- the number and the terms of the issue in a row, if there are such
abbrev pub numbered_in : List Value → Option (ℕ × IssueRow)
numbered_in row = issues.numbered_of (record {
  number = number_in row 1;
  terms = record {
    cusip = text_in row 0;
    name = text_in row 2;
    kind = number_in row 3;
    dated = text_in row 4;
    first = text_in row 5;
    maturity = text_in row 6;
    coupon = number_in row 7;
    calls = text_in row 8;
    basis = number_in row 9;
  };
})

-- the terms alone
abbrev pub issue_in : List Value → Option IssueRow
issue_in row = option_map (λ found. found.1) (numbered_in row)

-- the same with its CUSIP
abbrev pub issue_entry_in : List Value → Option (List ℕ × IssueRow)
issue_entry_in row = option_map (λ issue. (issue.cusip, issue)) (issue_in row)

-- the columns of a version in a row, with a fee, a commission and the number of the terms of the issue
abbrev pub asked_columns : List Value → ℤ → versions.AskedColumns
asked_columns row fee = record {
  cusip = text_in row 4;
  side = number_in row 5;
  par = number_in row 6;
  settle = text_in row 7;
  basis = number_in row 8;
  value = number_in row 9;
  fee = fee;
}

abbrev pub figure_columns : List Value → ℤ → versions.FigureColumns
figure_columns row commission = record {
  price = number_in row 10;
  yld = number_in row 11;
  redemption = text_in row 12;
  at_price = number_in row 13;
  label = number_in row 14;
  days = number_in row 15;
  principal = number_in row 16;
  accrued = number_in row 17;
  total = number_in row 18;
  commission = commission;
}

abbrev pub trade_columns : List Value → (fee commission issue : ℤ) → versions.Columns
trade_columns row fee commission issue = record {
  desk = text_in row 0;
  reference = text_in row 1;
  number = number_in row 2;
  act = number_in row 3;
  asked = asked_columns row fee;
  figures = figure_columns row commission;
  issue = issue;
}

-- the trade, the number and the version in a row, if there are such
abbrev pub trade_in : List Value → Option (Key × ℕ × Version)
trade_in row = versions.trade_of (trade_columns row (number_in row 19) (number_in row 20) (number_in row 21))

-- whether a row of the table that had no column for the number of the terms is that of a version
abbrev pub is_trade_2 : List Value → Bool
is_trade_2 row = is_some (versions.trade_of (trade_columns row (number_in row 19) (number_in row 20) (pos 1)))

-- whether a row of the table that had no columns for a fee and a commission either is that of a version
abbrev pub is_trade_1 : List Value → Bool
is_trade_1 row = is_some (versions.trade_of (trade_columns row (pos 0) (pos 0) (pos 1)))

abbrev pub version_in : List Value → Option Version
version_in row = option_map (λ trade. trade.2) (trade_in row)

abbrev pub last_in : List Value → Option (ℕ × Version)
last_in row = option_map (λ trade. (trade.1, trade.2)) (trade_in row)
