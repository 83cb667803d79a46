-- What holds of exports.
use Rattle.std.specs.Prelude.{◌≡◌, ◌≤◌, ℕ, List, map, Ok, Err}
use Rattle.std.specs.List.{AllByRecursion}
use Rattle.muni_msg.specs.declared.command.Command.{Command}
use Rattle.muni_msg.specs.declared.command.Reply.{Reply}
use Rattle.muni_keep.specs.Tables.{Tables, no_tables}
use Rattle.muni_book_step.specs.Accepted.{IsAccepted}
use Rattle.muni_book_step.specs.Runs.{Runs}
use Rattle.muni_book_step.specs.Sound.{HasAtMost, HaveAtMost}
use Rattle.muni_book_step.specs.Step.{Rules}
use Rattle.muni_import.specs.Report.{Said}
use Rattle.muni_import.specs.Row.{row_of}
use Rattle.muni_import.specs.Rows.{rows_of}
use Rattle.muni_book.specs.RunLaws.{Ends}
use Rattle.muni_book.specs.Rules.{book_rules}
use Rattle.muni_desk_import.specs.Import.{Imports}
use Rattle.muni_desk_export.specs.Export.{export_commands, export_text, fields_of}
use Rattle.muni_desk_export.specs.Part.{part_of}

-- a row is taken if it is added, amended or confirmed
abbrev pub IsTaken : Said → Type 0
IsTaken (Ok reply) = IsAccepted reply
IsTaken (Err fault) = ⊥

-- The rows of an export, imported into empty tables, give the tables that were exported. Each is taken.
pub record IsImportedAgain (rules : Rules) (tables : Tables) : Type 0 where
  pub said : List Said
  pub imports : Imports rules no_tables (map Ok (export_commands tables)) said tables
  pub taken : AllByRecursion IsTaken said

-- So it is with all tables to which commands lead from empty ones, if the import lets a desk have as many trades
-- as each of theirs has.
abbrev pub ExportsAreImportedAgain : Type 0
ExportsAreImportedAgain =
    (limit most : ℕ) (ends : Ends) (tables : Tables) (commands : List Command) (replies : List Reply)
    → limit ≤ 100_000_000 → Runs (book_rules limit ends) no_tables commands replies tables
    → HaveAtMost most tables → IsImportedAgain (book_rules most ends) tables

-- the limit of those commands is enough
abbrev pub OwnLimitIsEnough : Type 0
OwnLimitIsEnough =
    (limit : ℕ) (ends : Ends) (tables : Tables) (commands : List Command) (replies : List Reply)
    → Runs (book_rules limit ends) no_tables commands replies tables → HaveAtMost limit tables

-- The rows of a desk's export, imported into empty tables, give that desk as it was and the issues that it names with
-- all their terms, and nothing else, if the import lets a desk have as many trades.
abbrev pub DesksAreImportedAgain : Type 0
DesksAreImportedAgain =
    (limit most : ℕ) (ends : Ends) (tables : Tables) (desk : List ℕ) (commands : List Command)
    (replies : List Reply)
    → limit ≤ 100_000_000 → Runs (book_rules limit ends) no_tables commands replies tables
    → HasAtMost most desk tables → IsImportedAgain (book_rules most ends) (part_of desk tables)

-- a row is read as the command that it is of
abbrev pub IsReadAgain : Command → Type 0
IsReadAgain command = row_of (fields_of command) ≡ Ok command

-- if each row of an export is, its text is read as its commands
abbrev pub ExportsAreReadAgain : Type 0
ExportsAreReadAgain =
    (tables : Tables) → AllByRecursion IsReadAgain (export_commands tables)
    → rows_of (export_text tables) ≡ map Ok (export_commands tables)
