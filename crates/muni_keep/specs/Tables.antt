-- The tables of the desk: two finite maps, of its issues and of its trades.
use Rattle.std.specs.Prelude.{ℕ, ◌-◌, ◌^◌, min, List, map, reverse, take, slice_get, Option, refl}
use Rattle.std.specs.Option.{option_map, option_and_then}
use Rattle.std.specs.Coded.{Coded, code_by, coded×, coded_ℕ, coded_list}
use Rattle.std.specs.FinMap.{FinMap, empty, get, insert, len, entries, code as map_code}
use Rattle.muni_terms.specs.contracts.issue.Issue.{the_row as issue_row}
use Rattle.muni_terms.specs.declared.row.IssueRow.{IssueRow}
use Rattle.muni_msg.specs.declared.command.Key.{Key}
use Rattle.muni_msg.specs.declared.command.Line.{Line}
use Rattle.muni_msg.specs.declared.version.Version.{Version}
use Rattle.muni_msg.specs.contracts.version.Version.{the_row as version_row}
use Rattle.muni_keep.specs.History.{History, history_code, count, version_in, grown}
use Rattle.muni_keep.specs.Trades.{by_bytes, Desks, desks_code, own, past, trades_past, put}

-- the terms of issues by CUSIP and number
abbrev pub Issues : Type 0
Issues = FinMap by_bytes (History IssueRow)

-- the terms of issues by CUSIP and number, and the versions of trades by desk, reference and number
pub record Tables : Type 0 where
  pub issues : Issues
  pub desks : Desks Version

-- how these are stored
abbrev pub issues_code : Coded Issues
issues_code = map_code (coded_list coded_ℕ) (history_code issue_row.coded)

abbrev pub tables_code : Coded Tables
tables_code =
    code_by (Issues × Desks Version) (coded× issues_code (desks_code version_row.coded)) (λ tables. (tables.issues, tables.desks)) (λ pair. record { issues = pair.0; desks = pair.1 }) (λ _. refl)

-- nothing is kept
abbrev pub no_tables : Tables
no_tables = record { issues = empty; desks = empty }

-- the terms of the issue of a CUSIP, if any are kept
abbrev pub issue_history : Tables → List ℕ → Option (History IssueRow)
issue_history tables cusip = get tables.issues cusip

-- the last terms of the issue of a CUSIP among issues
abbrev pub last_terms : Issues → List ℕ → Option IssueRow
last_terms issues cusip = option_map (λ history. history.last) (get issues cusip)

-- those with a number
abbrev pub numbered_terms : Issues → List ℕ → ℕ → Option IssueRow
numbered_terms issues cusip number = option_and_then (λ history. version_in history number) (get issues cusip)

-- the last ones, with their number
abbrev pub counted_terms : Issues → List ℕ → Option (ℕ × IssueRow)
counted_terms issues cusip = option_map (λ history. (count history, history.last)) (get issues cusip)

-- the issue of a CUSIP by its last terms, if it is kept
abbrev pub issue_at : Tables → List ℕ → Option IssueRow
issue_at tables cusip = last_terms tables.issues cusip

-- the issue of a CUSIP by its terms with this number, if they are kept
abbrev pub issue_numbered : Tables → List ℕ → ℕ → Option IssueRow
issue_numbered tables cusip number = numbered_terms tables.issues cusip number

-- the issue of a CUSIP by its last terms, with their number, if it is kept
abbrev pub last_issue : Tables → List ℕ → Option (ℕ × IssueRow)
last_issue tables cusip = counted_terms tables.issues cusip

-- the versions of a trade, if any is kept
abbrev pub trade_at : Tables → Key → Option (History Version)
trade_at tables key = get (own key.desk tables.desks) key.reference

-- the version of a trade with this number, if it is kept
abbrev pub version_at : Tables → Key → ℕ → Option Version
version_at tables key number =
    option_and_then (λ history. version_in history number) (trade_at tables key)

-- the last version of a trade, with its number, if any is kept
abbrev pub last_at : Tables → Key → Option (ℕ × Version)
last_at tables key = option_map (λ history. (count history, history.last)) (trade_at tables key)

-- how many trades a desk has, as far as 32 bits count
abbrev pub trade_count : Tables → List ℕ → ℕ
trade_count tables desk = min (len (own desk tables.desks)) (2 ^ 32 - 1)

-- a trade with its last version
abbrev pub line : List ℕ × History Version → Line
line trade = record { reference = trade.0; number = count trade.1; version = trade.1.last }

-- the first 50 trades of a desk after a reference, if one is given
abbrev pub page_at : Tables → List ℕ → Option (List ℕ) → List Line
page_at tables desk after = map line (take 50 (trades_past after (own desk tables.desks)))

-- the last 50 trades of a desk, or all if it has fewer
abbrev pub latest_at : Tables → List ℕ → List Line
latest_at tables desk = map line (reverse (take 50 (reverse (entries (own desk tables.desks)))))

-- the reference before those, if the desk has more
abbrev pub before_latest : Tables → List ℕ → Option (List ℕ)
before_latest tables desk =
    option_map (λ trade. trade.0) (slice_get (reverse (entries (own desk tables.desks))) 50)

-- the first issue after a CUSIP, if one is given, with its CUSIP and its last terms
abbrev pub issue_past : Tables → Option (List ℕ) → Option (List ℕ × IssueRow)
issue_past tables after = option_map (λ issue. (issue.0, issue.1.last)) (slice_get (past after tables.issues) 0)

-- the first desk after another, if one is given
abbrev pub desk_past : Tables → Option (List ℕ) → Option (List ℕ)
desk_past tables after = option_map (λ entry. entry.0) (slice_get (past after tables.desks) 0)

-- with the next terms of an issue
abbrev pub with_issue : IssueRow → Tables → Tables
with_issue issue tables =
    record tables { issues = insert tables.issues issue.cusip (grown (get tables.issues issue.cusip) issue) }

-- with the next version of a trade
abbrev pub with_version : Key → Version → Tables → Tables
with_version key version tables =
    record tables { desks = put key.desk key.reference version tables.desks }
