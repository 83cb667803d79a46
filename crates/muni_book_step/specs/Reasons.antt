-- Why something is kept: the rules of the book in the words of the trade.
use Rattle.std.specs.Prelude.{◌≡◌, ◌⊎◌, ℕ, ◌+◌, nat_le, false, Option, Some, None, Ok}
use Rattle.muni_terms.specs.Check.{checked}
use Rattle.muni_terms.specs.declared.row.IssueRow.{IssueRow}
use Rattle.muni_msg.specs.declared.asked.Terms.{Terms}
use Rattle.muni_msg.specs.declared.command.Command.{Command}
use Rattle.muni_msg.specs.declared.command.Command.TheVariants as command
use Rattle.muni_msg.specs.declared.command.Key.{Key}
use Rattle.muni_msg.specs.declared.command.Reply.{Reply}
use Rattle.muni_msg.specs.declared.command.Reply.TheVariants.{Added, Amended, Confirmed}
use Rattle.muni_msg.specs.declared.version.Act.{Act}
use Rattle.muni_msg.specs.declared.version.Act.TheVariants.{Entered, Corrected}
use Rattle.muni_msg.specs.declared.version.Version.{Version}
use Rattle.muni_keep.specs.Tables.{Tables, issue_history, last_issue, version_at, last_at}
use Rattle.muni_keep.specs.Trades.{own}
use Rattle.muni_book_step.specs.Accepted.{AsksToKeep, IsAccepted, IsKept}
use Rattle.muni_book_step.specs.Plan.{issue_of, terms_for, is_full, is_canceled, cancel_of}
use Rattle.muni_book_step.specs.Step.{Rules, Entry, NewIssue, NewVersion}

-- an issue that passes its checks, and is new
pub record IsNewIssue (tables : Tables) (asked : Command) (issue : IssueRow) : Type 0 where
  pub row : IssueRow
  pub command : asked ≡ command.AddIssue row
  pub passed : checked row ≡ Ok issue
  pub is_new : issue_history tables issue.cusip ≡ None

-- the next terms of an issue that is kept and has fewer than 99, which pass their checks
pub record IsAmendment (tables : Tables) (asked : Command) (number : ℕ) (issue : IssueRow) : Type 0 where
  pub row : IssueRow
  pub command : asked ≡ command.Amend number row
  pub passed : checked row ≡ Ok issue
  pub last : ℕ × IssueRow
  pub last_is : last_issue tables issue.cusip ≡ Some last
  pub number_is : number ≡ last.0 + 1
  pub room : nat_le 99 last.0 ≡ false

-- the first version of a trade that is new, of a desk that has room
pub record IsNewTrade
    (limit : ℕ) (tables : Tables) (asked : Command) (issue : IssueRow) (issue_number : ℕ) (key : Key)
    (number : ℕ) (act : Act) (terms : Terms) : Type 0 where
  pub chosen : Option ℕ
  pub command : asked ≡ command.Enter key terms chosen
  pub number_is : number ≡ 1
  pub act_is : act ≡ Entered
  pub issue_is : terms_for tables.issues terms.asked.cusip chosen ≡ Ok (issue_number, issue)
  pub is_new : version_at tables key 1 ≡ None
  pub room : is_full limit (own key.desk tables.desks) ≡ false

-- a live trade, with the number of its next version
pub record IsLive (tables : Tables) (key : Key) (number : ℕ) (last : ℕ × Version) : Type 0 where
  pub last_is : last_at tables key ≡ Some last
  pub live : is_canceled last.1.act ≡ false
  pub number_is : number ≡ last.0 + 1

-- a correction of a live trade that has fewer than 99 versions
pub record IsCorrection
    (tables : Tables) (asked : Command) (issue : IssueRow) (issue_number : ℕ) (key : Key) (number : ℕ)
    (act : Act) (terms : Terms) : Type 0 where
  pub chosen : Option ℕ
  pub command : asked ≡ command.Correct key number terms chosen
  pub act_is : act ≡ Corrected
  pub issue_is : terms_for tables.issues terms.asked.cusip chosen ≡ Ok (issue_number, issue)
  pub last : ℕ × Version
  pub is_live : IsLive tables key number last
  pub room : nat_le 99 last.0 ≡ false

-- the cancel of a live trade, with the terms and figures of its last version
pub record IsCancel
    (tables : Tables) (asked : Command) (issue : IssueRow) (key : Key) (number : ℕ)
    (version : Version) : Type 0 where
  pub command : asked ≡ command.Cancel key number
  pub last : ℕ × Version
  pub is_live : IsLive tables key number last
  pub issue_is : issue_of tables.issues last.1 ≡ Some issue
  pub version_is : version ≡ cancel_of last.1

-- A version is kept for a cancel, or with the figures of its terms for an entry or a correction.
abbrev pub IsReasonFor : Rules → Tables → Command → IssueRow → Key → ℕ → Version → Type 0
IsReasonFor rules tables asked issue key number version =
    IsCancel tables asked issue key number version
    ⊎ ((IsNewTrade rules.limit tables asked issue version.issue_number key number version.act version.terms
    ⊎ IsCorrection tables asked issue version.issue_number key number version.act version.terms)
    × rules.prices issue version.terms.asked (Ok version.figures))

-- An entry has its reason, and the reply has it. If there is no entry, a command that is accepted has
-- been kept before.
abbrev pub IsReasoned : Rules → Tables → Command → Reply → Option Entry → Type 0
IsReasoned rules tables asked reply None =
    AsksToKeep asked → IsAccepted reply → IsKept tables asked reply
IsReasoned rules tables asked reply (Some (NewIssue issue)) =
    (IsNewIssue tables asked issue × (reply ≡ Added issue.cusip))
    ⊎ ((number : ℕ) × IsAmendment tables asked number issue × (reply ≡ Amended issue.cusip number))
IsReasoned rules tables asked reply (Some (NewVersion key version)) =
    (issue : IssueRow) × (number : ℕ) × (reply ≡ Confirmed issue key number version)
    × IsReasonFor rules tables asked issue key number version
