-- Plans that are carried out.
use Rattle.std.specs.Prelude.{◌≡◌, ℕ, Option, Some}
use Rattle.std.specs.Option.{option_map}
use Rattle.muni_terms.specs.declared.row.IssueRow.{IssueRow}
use Rattle.muni_msg.specs.declared.command.Key.{Key}
use Rattle.muni_msg.specs.declared.command.Reply.{Reply}
use Rattle.muni_msg.specs.declared.command.Reply.TheVariants.{Added, Amended, Confirmed}
use Rattle.muni_msg.specs.declared.version.Version.{Version}
use Rattle.muni_keep.specs.Tables.{Tables, with_issue, with_version}
use Rattle.muni_book_step.specs.declared.plan.Plan.{Plan}
use Rattle.muni_book_step.specs.Step.{Pricing, Entry, IsOutcome, after}

-- the issue is kept and answered
abbrev pub KeepsIssue : IssueRow → Option Tables → Option Tables → Reply → Type 0
KeepsIssue issue old new reply =
    (reply ≡ Added issue.cusip) × (new ≡ option_map (with_issue issue) old)

-- the terms are kept and answered with their number
abbrev pub KeepsAmendment : ℕ → IssueRow → Option Tables → Option Tables → Reply → Type 0
KeepsAmendment number issue old new reply =
    (reply ≡ Amended issue.cusip number) × (new ≡ option_map (with_issue issue) old)

-- the version is kept and confirmed
abbrev pub KeepsVersion : IssueRow → Key → ℕ → Version → Option Tables → Option Tables → Reply → Type 0
KeepsVersion issue key number version old new reply =
    (reply ≡ Confirmed issue key number version) × (new ≡ option_map (with_version key version) old)

-- the reply to a plan, and the tables that are exposed after it
abbrev pub IsCarriedOut : Pricing → Plan → Tables → Reply → Option Tables → Type 0
IsCarriedOut Prices plan old reply told =
    (entry : Option Entry) × IsOutcome Prices plan (record { reply = reply; entry = entry })
    × (told ≡ Some (after entry old))
