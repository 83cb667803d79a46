-- Commands that were accepted, and what is kept for them.
use Rattle.std.specs.Prelude.{◌≡◌, ℕ, ⊤, true, Some, Ok}
use Rattle.muni_terms.specs.Check.{checked}
use Rattle.muni_terms.specs.declared.row.IssueRow.{IssueRow}
use Rattle.muni_msg.specs.declared.command.Command.{Command}
use Rattle.muni_msg.specs.declared.command.Command.TheVariants as command
use Rattle.muni_msg.specs.declared.command.Key.{Key}
use Rattle.muni_msg.specs.declared.command.Reply.{Reply}
use Rattle.muni_msg.specs.declared.command.Reply.TheVariants.{Added, Amended, Quoted, Listed, Confirmed, Refused}
use Rattle.muni_msg.specs.declared.version.Act.TheVariants.{Corrected, Canceled}
use Rattle.muni_msg.specs.declared.version.Version.{Version}
use Rattle.muni_keep.specs.Tables.{Tables, issue_numbered, version_at}
use Rattle.muni_book_step.specs.Plan.{is_chosen}

-- a command that asks to keep something
abbrev pub AsksToKeep : Command → Type 0
AsksToKeep (command.AddIssue row) = ⊤
AsksToKeep (command.Amend number row) = ⊤
AsksToKeep (command.Enter key terms chosen) = ⊤
AsksToKeep (command.Correct key number terms chosen) = ⊤
AsksToKeep (command.Cancel key number) = ⊤
AsksToKeep (command.Confirm key) = ⊥
AsksToKeep (command.Quote asked shown) = ⊥
AsksToKeep (command.List desk after) = ⊥

-- it is accepted by this reply
abbrev pub IsAccepted : Reply → Type 0
IsAccepted (Added cusip) = ⊤
IsAccepted (Amended cusip number) = ⊤
IsAccepted (Quoted issue asked figures shown) = ⊥
IsAccepted (Listed lines) = ⊥
IsAccepted (Confirmed issue key number version) = ⊤
IsAccepted (Refused why) = ⊥

-- a version with this number is kept, and the reply confirms it with the terms of its issue by which it was figured
pub record IsConfirmed (tables : Tables) (key : Key) (number : ℕ) (reply : Reply) : Type 0 where
  pub issue : IssueRow
  pub version : Version
  pub version_kept : version_at tables key number ≡ Some version
  pub issue_kept : issue_numbered tables version.terms.asked.cusip version.issue_number ≡ Some issue
  pub confirmed : reply ≡ Confirmed issue key number version

-- what the command asks to keep is kept, and the reply says so
abbrev pub IsKept : Tables → Command → Reply → Type 0
IsKept tables (command.AddIssue row) reply =
    (issue : IssueRow) × (checked row ≡ Ok issue)
    × (issue_numbered tables issue.cusip 1 ≡ Some issue) × (reply ≡ Added issue.cusip)
IsKept tables (command.Amend number row) reply =
    (issue : IssueRow) × (checked row ≡ Ok issue)
    × (issue_numbered tables issue.cusip number ≡ Some issue) × (reply ≡ Amended issue.cusip number)
IsKept tables (command.Enter key terms chosen) reply =
    (confirmed : IsConfirmed tables key 1 reply)
    × (confirmed.version.terms ≡ terms) × (is_chosen chosen confirmed.version.issue_number ≡ true)
IsKept tables (command.Correct key number terms chosen) reply =
    (confirmed : IsConfirmed tables key number reply)
    × (confirmed.version.terms ≡ terms) × (is_chosen chosen confirmed.version.issue_number ≡ true)
    × (confirmed.version.act ≡ Corrected)
IsKept tables (command.Cancel key number) reply =
    (confirmed : IsConfirmed tables key number reply) × (confirmed.version.act ≡ Canceled)
IsKept tables (command.Confirm key) reply = ⊥
IsKept tables (command.Quote asked shown) reply = ⊥
IsKept tables (command.List desk after) reply = ⊥
