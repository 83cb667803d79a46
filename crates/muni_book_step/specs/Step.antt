-- One step of the book, over the issues and over the trades of the desk that sent the command.
use Rattle.std.specs.Prelude.{◌≡◌, ℕ, ⊤, List, Option, Some, None, Result, Ok, Err}
use Rattle.std.specs.FinMap.{empty}
use Rattle.muni_terms.specs.declared.row.IssueRow.{IssueRow}
use Rattle.muni_msg.specs.declared.asked.Asked.{Asked}
use Rattle.muni_msg.specs.declared.asked.Terms.{Terms}
use Rattle.muni_msg.specs.declared.command.Command.{Command}
use Rattle.muni_msg.specs.declared.command.Command.TheVariants as command
use Rattle.muni_msg.specs.declared.command.Key.{Key}
use Rattle.muni_msg.specs.declared.command.Reply.{Reply}
use Rattle.muni_msg.specs.declared.command.Reply.TheVariants.{Added, Amended, Quoted, Confirmed, Refused}
use Rattle.muni_msg.specs.declared.figures.Figures.{Figures}
use Rattle.muni_msg.specs.declared.refusal.Refusal.{Refusal}
use Rattle.muni_msg.specs.declared.shown.Shown.{Shown}
use Rattle.muni_msg.specs.declared.version.Act.{Act}
use Rattle.muni_msg.specs.declared.version.Version.{Version}
use Rattle.muni_keep.specs.History.{next_number}
use Rattle.muni_keep.specs.Tables.{Tables, Issues, issue_history, trade_at, with_issue, with_version}
use Rattle.muni_keep.specs.Trades.{Trades, own}
use Rattle.muni_book_step.specs.declared.plan.Plan.{Plan}
use Rattle.muni_book_step.specs.declared.plan.Plan.TheVariants.{Answer, Quote, KeepIssue, KeepAmendment, KeepVersion, KeepPriced}
use Rattle.muni_book_step.specs.Plan.{plan_of}

-- what is kept more: the next terms of an issue, or the next version of a trade
pub data Entry : Type 0 where
  NewIssue : IssueRow → Entry
  NewVersion : Key → Version → Entry

-- the reply to a command, and the one entry that is made for it, if any is
pub record Outcome : Type 0 where
  pub reply : Reply
  pub entry : Option Entry

-- which figures, or which refusal, may be answered to what is asked of an issue
abbrev pub Pricing : Type 1
Pricing = IssueRow → Asked → Result Figures Refusal → Type 0

-- what steps go by: how many trades a desk may have, and what may be answered
pub record Rules : Type 1 where
  pub limit : ℕ
  pub prices : Pricing

-- it is answered, and nothing is kept
abbrev pub answered : Reply → Outcome
answered reply = record { reply = reply; entry = None }

-- the figures of a quote are answered with what was asked, and of which issue
abbrev pub quoted : IssueRow → Asked → Shown → Result Figures Refusal → Outcome
quoted issue asked shown (Ok figures) = answered (Quoted issue asked figures shown)
quoted issue asked shown (Err why) = answered (Refused why)

-- a version is kept and confirmed
abbrev pub kept : IssueRow → Key → ℕ → Version → Outcome
kept issue key number version =
    record { reply = Confirmed issue key number version; entry = Some (NewVersion key version) }

-- a version is kept with the figures of its terms, if they have some
abbrev pub priced : IssueRow → (issue_number : ℕ) → Key → ℕ → Act → Terms → Result Figures Refusal → Outcome
priced issue issue_number key number act terms (Ok figures) =
    kept issue key number (record { act = act; terms = terms; issue_number = issue_number; figures = figures })
priced issue issue_number key number act terms (Err why) = answered (Refused why)

-- what comes of a plan
abbrev pub IsOutcome : Pricing → Plan → Outcome → Type 0
IsOutcome Prices (Answer reply) outcome = outcome ≡ answered reply
IsOutcome Prices (Quote issue asked shown) outcome =
    (answer : Result Figures Refusal) × Prices issue asked answer × (outcome ≡ quoted issue asked shown answer)
IsOutcome Prices (KeepIssue issue) outcome =
    outcome ≡ record { reply = Added issue.cusip; entry = Some (NewIssue issue) }
IsOutcome Prices (KeepAmendment number issue) outcome =
    outcome ≡ record { reply = Amended issue.cusip number; entry = Some (NewIssue issue) }
IsOutcome Prices (KeepVersion issue key number version) outcome =
    outcome ≡ kept issue key number version
IsOutcome Prices (KeepPriced issue issue_number key number act terms) outcome =
    (answer : Result Figures Refusal) × Prices issue terms.asked answer
    × (outcome ≡ priced issue issue_number key number act terms answer)

-- One step: it sees nothing but the issues and the trades of the command's own desk.
abbrev pub IsStep : Rules → Issues → Trades Version → Command → Outcome → Type 0
IsStep rules issues own command outcome =
    IsOutcome rules.prices (plan_of rules.limit issues own command) outcome

-- the desk that a command names
abbrev pub desk_of : Command → Option (List ℕ)
desk_of (command.AddIssue row) = None
desk_of (command.Amend number row) = None
desk_of (command.Enter key terms chosen) = Some key.desk
desk_of (command.Correct key number terms chosen) = Some key.desk
desk_of (command.Cancel key number) = Some key.desk
desk_of (command.Confirm key) = Some key.desk
desk_of (command.Quote asked shown) = None
desk_of (command.List desk after) = Some desk

-- the trades of that desk
abbrev pub own_of : Option (List ℕ) → Tables → Trades Version
own_of None tables = empty
own_of (Some desk) tables = own desk tables.desks

-- a step over tables
abbrev pub IsStepOver : Rules → Tables → Command → Outcome → Type 0
IsStepOver rules tables command outcome =
    IsStep rules tables.issues (own_of (desk_of command) tables) command outcome

-- the tables with an entry more
abbrev pub after : Option Entry → Tables → Tables
after None tables = tables
after (Some (NewIssue issue)) tables = with_issue issue tables
after (Some (NewVersion key version)) tables = with_version key version tables

-- what is to be kept can be: an issue that is new, the next terms of one, or the next version of a trade
abbrev pub CanKeep : Tables → Plan → Type 0
CanKeep tables (Answer reply) = ⊤
CanKeep tables (Quote issue asked shown) = ⊤
CanKeep tables (KeepIssue issue) = 1 ≡ next_number (issue_history tables issue.cusip)
CanKeep tables (KeepAmendment number issue) = number ≡ next_number (issue_history tables issue.cusip)
CanKeep tables (KeepVersion issue key number version) = number ≡ next_number (trade_at tables key)
CanKeep tables (KeepPriced issue issue_number key number act terms) = number ≡ next_number (trade_at tables key)
