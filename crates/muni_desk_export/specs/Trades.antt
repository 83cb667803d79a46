-- The trades of a desk, as they are written.
use Rattle.std.specs.Prelude.{◌≡◌, ℕ, ◌+◌, ◌==◌, if◌then◌else◌, Bool, true, false, is_none, List, [], ◌∷◌, ◌++◌, map, Option, Some, None}
use Rattle.std.specs.List.{AllByRecursion, flat_map}
use Rattle.std.specs.FinMap.{entries}
use Rattle.muni_terms.specs.declared.row.IssueRow.{IssueRow}
use Rattle.muni_msg.specs.declared.command.Key.{Key}
use Rattle.muni_msg.specs.declared.command.Line.{Line}
use Rattle.muni_msg.specs.declared.version.Version.{Version}
use Rattle.muni_keep.specs.History.{History, versions}
use Rattle.muni_keep.specs.Tables.{Tables, last_issue, trade_at, line}
use Rattle.muni_keep.specs.Trades.{own, trades_past}
use Rattle.muni_export.specs.Rows.{version_row}
use Rattle.muni_export.specs.List.{list_line}
use Rattle.muni_desk_import.specs.Confirm.{confirmed}
use Rattle.muni_desk_export.specs.declared.trades.Style.{Style}
use Rattle.muni_desk_export.specs.declared.trades.Style.TheVariants as style

-- a desk's trade with this reference
abbrev pub key_of : List ℕ → List ℕ → Key
key_of desk reference = record { desk = desk; reference = reference }

-- the number of the terms by which a version was figured, unless they are the last ones of its issue
abbrev pub unless_last : Option (ℕ × IssueRow) → ℕ → Option ℕ
unless_last None number = Some number
unless_last (Some last) number = if number == last.0 then None else Some number

abbrev pub written_number : Tables → Version → Option ℕ
written_number tables version =
    unless_last (last_issue tables version.terms.asked.cusip) version.issue_number

-- the row of a version, with that number
abbrev pub version_text : Tables → Key → ℕ → Version → List ℕ
version_text tables key number version = version_row key number version (written_number tables version)

-- the rows of versions, whose numbers are counted on from one
abbrev pub version_rows : Tables → Key → ℕ → List Version → List ℕ
version_rows tables key number [] = []
version_rows tables key number (version ∷ more) =
    version_text tables key number version ++ version_rows tables key (number + 1) more

-- all versions of a trade, or all terms of an issue, if it is kept
abbrev pub kept_versions : {V : Type 0} → Option (History V) → List V
kept_versions None = []
kept_versions (Some history) = versions history

abbrev pub versions_at : Tables → Key → List Version
versions_at tables key = kept_versions (trade_at tables key)

-- their rows
abbrev pub trade_rows : Tables → Key → List ℕ
trade_rows tables key = version_rows tables key 1 (versions_at tables key)

-- what stands between the confirmations of two trades: an empty line
abbrev pub separator : Bool → List ℕ
separator true = []
separator false = 10 ∷ []

-- the text of a trade, which is the first of its desk or not
abbrev pub trade_text : Tables → Style → Bool → List ℕ → Line → List ℕ
trade_text tables style.Rows is_first desk trade = trade_rows tables (key_of desk trade.reference)
trade_text tables style.Line is_first desk trade = list_line trade
trade_text tables style.Confirmation is_first desk trade =
    separator is_first ++ (confirmed tables (key_of desk trade.reference)).text

-- the texts of trades, the first of which is the first of its desk or not
abbrev pub trade_texts : Tables → Style → Bool → List ℕ → List Line → List ℕ
trade_texts tables style is_first desk [] = []
trade_texts tables style is_first desk (trade ∷ more) =
    trade_text tables style is_first desk trade ++ trade_texts tables style false desk more

-- the same for rows, for lines and for confirmations
abbrev pub rows_of : Tables → List ℕ → List Line → List ℕ
rows_of tables desk trades = trade_texts tables style.Rows false desk trades

abbrev pub lines_of : List Line → List ℕ
lines_of trades = flat_map list_line trades

abbrev pub confirmations_of : Tables → Bool → List ℕ → List Line → List ℕ
confirmations_of tables is_first desk trades = trade_texts tables style.Confirmation is_first desk trades

-- the trades of a desk, each with its last version, in the order of their references
abbrev pub lines_of_desk : Tables → List ℕ → List Line
lines_of_desk tables desk = map line (entries (own desk tables.desks))

-- the texts of a desk's trades after a reference, if one is given, in the order of their references
abbrev pub trades_left : Tables → Style → List ℕ → Option (List ℕ) → List ℕ
trades_left tables style desk after =
    trade_texts tables style (is_none after) desk (map line (trades_past after (own desk tables.desks)))

-- a line has the last version of a trade that is kept
pub record IsLineOf (tables : Tables) (key : Key) (trade : Line) : Type 0 where
  pub history : History Version
  pub kept : trade_at tables key ≡ Some history
  pub is : trade ≡ line (key.reference, history)

-- so does each of the lines of a desk
abbrev pub AreOf : Tables → List ℕ → List Line → Type 0
AreOf tables desk trades = AllByRecursion (λ trade. IsLineOf tables (key_of desk trade.reference) trade) trades
