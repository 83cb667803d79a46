-- An export of everything: the commands that its rows are, and its text.
use Rattle.std.specs.Prelude.{ℕ, ◌+◌, List, [], ◌∷◌, ◌++◌, map}
use Rattle.std.specs.List.{flat_map}
use Rattle.std.specs.FinMap.{entries}
use Rattle.muni_terms.specs.declared.row.IssueRow.{IssueRow}
use Rattle.muni_msg.specs.declared.command.Command.{Command}
use Rattle.muni_msg.specs.declared.command.Command.TheVariants.{AddIssue, Amend, Enter, Correct, Cancel, Confirm, Quote, List as ListTrades}
use Rattle.muni_msg.specs.declared.command.Key.{Key}
use Rattle.muni_msg.specs.declared.version.Version.{Version}
use Rattle.muni_keep.specs.History.{History, versions}
use Rattle.muni_keep.specs.Tables.{Tables}
use Rattle.muni_keep.specs.Trades.{Trades}
use Rattle.muni_export.specs.Laws.{command_of, issue_command, rows_text}
use Rattle.muni_export.specs.Rows.{amendment_fields, cancel_fields, correction_fields, first_terms_fields, trade_fields}
use Rattle.muni_desk_export.specs.Trades.{written_number}

-- the commands that bring terms of an issue, whose numbers are counted on
abbrev pub terms_commands : ℕ → List IssueRow → List Command
terms_commands number [] = []
terms_commands number (issue ∷ more) = issue_command number issue ∷ terms_commands (number + 1) more

-- those of all terms of an issue
abbrev pub issue_commands : List ℕ × History IssueRow → List Command
issue_commands issue = terms_commands 1 (versions issue.1)

-- the commands that bring versions, whose numbers are counted on, each by the number of the terms of its issue if
-- they are not the last ones
abbrev pub version_commands : Tables → Key → ℕ → List Version → List Command
version_commands tables key number [] = []
version_commands tables key number (version ∷ more) =
    command_of key number version (written_number tables version)
    ∷ version_commands tables key (number + 1) more

-- those of a desk's trade with this reference
abbrev pub trade_commands : Tables → List ℕ → List ℕ × History Version → List Command
trade_commands tables desk trade =
    version_commands tables (record { desk = desk; reference = trade.0 }) 1 (versions trade.1)

-- those of all trades of a desk, in the order of their references
abbrev pub desk_commands : Tables → List ℕ × Trades Version → List Command
desk_commands tables desk = flat_map (trade_commands tables desk.0) (entries desk.1)

-- all issues in the order of their CUSIPs, and after them the trades of all desks
abbrev pub export_commands : Tables → List Command
export_commands tables =
    flat_map issue_commands (entries tables.issues)
    ++ flat_map (desk_commands tables) (entries tables.desks)

-- the fields of the row that brings a command; an export has no row for the others
abbrev pub fields_of : Command → List (List ℕ)
fields_of (AddIssue issue) = first_terms_fields issue
fields_of (Amend number issue) = amendment_fields number issue
fields_of (Enter key terms issue_number) = trade_fields key terms.asked issue_number
fields_of (Correct key number terms issue_number) = correction_fields key number terms.asked issue_number
fields_of (Cancel key number) = cancel_fields key number
fields_of (Confirm key) = []
fields_of (Quote asked shown) = []
fields_of (ListTrades desk after) = []

abbrev pub export_text : Tables → List ℕ
export_text tables = rows_text (map fields_of (export_commands tables))
