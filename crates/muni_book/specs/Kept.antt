-- When something is kept: always if it has its reason, and never again if it is kept already.
use Rattle.std.specs.Prelude.{◌≡◌, ◌⊎◌, ℕ, Option, Some}
use Rattle.muni_terms.specs.declared.row.IssueRow.{IssueRow}
use Rattle.muni_msg.specs.declared.command.Command.{Command}
use Rattle.muni_msg.specs.declared.command.Key.{Key}
use Rattle.muni_msg.specs.declared.command.Reply.{Reply}
use Rattle.muni_msg.specs.declared.command.Reply.TheVariants.{Added, Amended}
use Rattle.muni_msg.specs.declared.version.Version.{Version}
use Rattle.muni_keep.specs.Tables.{Tables}
use Rattle.muni_book_step.specs.Accepted.{AsksToKeep, IsAccepted, IsKept}
use Rattle.muni_book_step.specs.Reasons.{IsNewIssue, IsAmendment, IsReasonFor}
use Rattle.muni_book_step.specs.Runs.{IsRefusal}
use Rattle.muni_book_step.specs.Step.{Rules, Entry, NewIssue, Outcome, answered, kept, IsStepOver}

-- a command that asks to keep something is accepted, or it is refused
abbrev pub AreAcceptedOrRefused : Rules → Type 0
AreAcceptedOrRefused rules =
    (tables : Tables) (asked : Command) (reply : Reply) (entry : Option Entry) → AsksToKeep asked
    → IsStepOver rules tables asked (record { reply = reply; entry = entry })
    → IsAccepted reply ⊎ IsRefusal reply

-- a new issue that has its reason is kept
abbrev pub ReasonedIssuesAreKept : Rules → Type 0
ReasonedIssuesAreKept rules =
    (tables : Tables) (asked : Command) (issue : IssueRow) (outcome : Outcome)
    → IsNewIssue tables asked issue → IsStepOver rules tables asked outcome
    → outcome ≡ record { reply = Added issue.cusip; entry = Some (NewIssue issue) }

-- and so are the next terms of one
abbrev pub ReasonedAmendmentsAreKept : Rules → Type 0
ReasonedAmendmentsAreKept rules =
    (tables : Tables) (asked : Command) (number : ℕ) (issue : IssueRow) (outcome : Outcome)
    → IsAmendment tables asked number issue → IsStepOver rules tables asked outcome
    → outcome ≡ record { reply = Amended issue.cusip number; entry = Some (NewIssue issue) }

-- and so is a version: a new trade, a correction or a cancel
abbrev pub ReasonedVersionsAreKept : Rules → Type 0
ReasonedVersionsAreKept rules =
    (tables : Tables) (asked : Command) (issue : IssueRow) (key : Key) (number : ℕ) (version : Version)
    (outcome : Outcome)
    → IsReasonFor rules tables asked issue key number version → IsStepOver rules tables asked outcome
    → outcome ≡ kept issue key number version

-- What is kept is answered again, and nothing is added, whatever led to the tables.
abbrev pub KeptIsAnsweredAgain : Rules → Type 0
KeptIsAnsweredAgain rules =
    (tables : Tables) (asked : Command) (first : Reply) (outcome : Outcome) → IsKept tables asked first
    → IsStepOver rules tables asked outcome → outcome ≡ answered first
