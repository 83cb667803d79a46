-- What is said to whom asks for the confirmation of a trade.
use Rattle.std.specs.Prelude.{ℕ, List, Option, Some, None}
use Rattle.muni_keep.specs.Tables.{Tables, last_at}
use Rattle.muni_book_step.specs.Plan.{issue_of}
use Rattle.muni_terms.specs.declared.row.IssueRow.{IssueRow}
use Rattle.muni_msg.specs.declared.command.Key.{Key}
use Rattle.muni_msg.specs.declared.refusal.Refusal.TheVariants.{UnknownIssue, UnknownTrade}
use Rattle.muni_msg.specs.declared.version.Version.{Version}
use Rattle.muni_confirm.specs.Confirmation.{confirmation_text}
use Rattle.muni_confirm.specs.Refusal.{refusal_text}
use Rattle.muni_desk_import.specs.declared.confirmations.Answered.{Answered}
use Rattle.muni_desk_import.specs.declared.confirmations.Answered.TheVariants.{Confirmed, Refused}

-- what is written, and its text
pub record Answer : Type 0 where
  pub answered : Answered
  pub text : List ℕ

-- of a version that is kept, by whether the terms of its issue by which it was figured are kept too
abbrev pub of_version : Key → ℕ → Version → Option IssueRow → Answer
of_version key number version None =
    record { answered = Refused; text = refusal_text UnknownIssue }
of_version key number version (Some issue) =
    record { answered = Confirmed; text = confirmation_text issue key number version }

-- of the last version that is kept, if any is
abbrev pub of_last : Tables → Key → Option (ℕ × Version) → Answer
of_last tables key None = record { answered = Refused; text = refusal_text UnknownTrade }
of_last tables key (Some last) =
    of_version key last.0 last.1 (issue_of tables.issues last.1)

-- the confirmation of the last version of a trade, or why there is none
unfoldable pub confirmed : Tables → Key → Answer
confirmed tables key = of_last tables key (last_at tables key)
