-- What is kept stays, and a command that was accepted acts once.
use Rattle.std.specs.Prelude.{◌≡◌, ℕ, List, Option, Some, None}
use Rattle.muni_terms.specs.declared.row.IssueRow.{IssueRow}
use Rattle.muni_msg.specs.declared.command.Command.{Command}
use Rattle.muni_msg.specs.declared.command.Key.{Key}
use Rattle.muni_msg.specs.declared.command.Reply.{Reply}
use Rattle.muni_msg.specs.declared.version.Version.{Version}
use Rattle.muni_keep.specs.Tables.{Tables, issue_numbered, version_at}
use Rattle.muni_book_step.specs.Accepted.{AsksToKeep, IsAccepted, IsConfirmed}
use Rattle.muni_book_step.specs.Runs.{Runs}
use Rattle.muni_book_step.specs.Step.{Rules, Entry, IsStepOver, after}

-- The terms of each issue and each version that are kept before are kept after, under their numbers.
pub record Keeps (old new : Tables) : Type 0 where
  pub issues : (cusip : List ℕ) (number : ℕ) (issue : IssueRow)
      → issue_numbered old cusip number ≡ Some issue → issue_numbered new cusip number ≡ Some issue
  pub versions : (key : Key) (number : ℕ) (version : Version)
      → version_at old key number ≡ Some version → version_at new key number ≡ Some version

-- a run changes and removes nothing
abbrev pub RunsKeep : Rules → Type 0
RunsKeep rules =
    (old new : Tables) (commands : List Command) (replies : List Reply)
    → Runs rules old commands replies new → Keeps old new

-- What confirms a version confirms it after any run: by the same terms of its issue, whatever terms came later.
abbrev pub ConfirmationsStay : Rules → Type 0
ConfirmationsStay rules =
    (old new : Tables) (commands : List Command) (replies : List Reply) (key : Key) (number : ℕ) (reply : Reply)
    → Runs rules old commands replies new → IsConfirmed old key number reply → IsConfirmed new key number reply

-- A command that asks to keep something and was accepted is sent again after any run: it is answered
-- by an equal reply, and adds nothing.
abbrev pub CommandsActOnce : Rules → Type 0
CommandsActOnce rules =
    (old new : Tables) (command : Command) (first again : Reply) (entry other : Option Entry)
    (commands : List Command) (replies : List Reply)
    → AsksToKeep command → IsAccepted first
    → IsStepOver rules old command (record { reply = first; entry = entry })
    → Runs rules (after entry old) commands replies new
    → IsStepOver rules new command (record { reply = again; entry = other })
    → (again ≡ first) × (other ≡ None)
