-- What holds of the rows of exports.
use Rattle.std.specs.Prelude.{◌≡◌, ◌≤◌, ◌==◌, if◌then◌else◌, ℕ, Bool, true, false, List, [], ◌∷◌, map, Option, IfSome}
use Rattle.std.specs.Char.{is_ascii_alphabetic}
use Rattle.std.specs.List.{flat_map, list_all}
use Rattle.muni_rule.specs.Cusip.{is_cusip_character}
use Rattle.muni_terms.specs.declared.row.IssueRow.{IssueRow}
use Rattle.muni_import.specs.Row.{row_of}
use Rattle.muni_import.specs.Rows.{rows_of}
use Rattle.muni_msg.specs.declared.asked.Terms.{Terms}
use Rattle.muni_msg.specs.declared.command.Command.{Command}
use Rattle.muni_msg.specs.declared.command.Command.TheVariants.{AddIssue, Amend, Enter, Correct, Cancel}
use Rattle.muni_msg.specs.declared.command.Key.{Key}
use Rattle.muni_msg.specs.declared.version.Act.{Act}
use Rattle.muni_msg.specs.declared.version.Act.TheVariants.{Entered, Corrected, Canceled}
use Rattle.muni_msg.specs.declared.version.Version.{Version}
use Rattle.muni_export.specs.Rows.{row}

-- the command that brings the terms of an issue with a number
abbrev pub issue_command : ℕ → IssueRow → Command
issue_command number issue = if number == 1 then AddIssue issue else Amend number issue

-- the command that brings a version, with the number of the terms of its issue if that is written
abbrev pub command_by : Act → Key → ℕ → Terms → Option ℕ → Command
command_by Entered key number terms issue_number = Enter key terms issue_number
command_by Corrected key number terms issue_number = Correct key number terms issue_number
command_by Canceled key number terms issue_number = Cancel key number

abbrev pub command_of : Key → ℕ → Version → Option ℕ → Command
command_of key number version issue_number =
    command_by version.act key number version.terms issue_number

-- a row can say the version: its number and that of the terms of its issue have nine digits at most, and
-- its CUSIP is of digits and capital letters
pub record IsWritable (number : ℕ) (version : Version) (issue_number : Option ℕ) : Type 0 where
  pub number_fits : number ≤ 999_999_999
  pub issue_number_fits : IfSome issue_number (λ terms. terms ≤ 999_999_999)
  pub cusip_reads : list_all is_cusip_character version.terms.asked.cusip ≡ true

-- rows one after another
abbrev pub rows_text : List (List (List ℕ)) → List ℕ
rows_text rows = flat_map row rows

-- the first field of the first of these rows begins with a letter, as the name of each row of an export
-- does; so their text begins with no byte order mark
abbrev pub begins_with_letter : List (List (List ℕ)) → Bool
begins_with_letter [] = true
begins_with_letter ([] ∷ rows) = false
begins_with_letter (([] ∷ fields) ∷ rows) = false
begins_with_letter (((byte ∷ bytes) ∷ fields) ∷ rows) = is_ascii_alphabetic byte

-- rows of fields are read from their text, each as its fields say
abbrev pub RowsAreReadAgain : Type 0
RowsAreReadAgain =
    (rows : List (List (List ℕ)))
    → begins_with_letter rows ≡ true → rows_of (rows_text rows) ≡ map row_of rows
