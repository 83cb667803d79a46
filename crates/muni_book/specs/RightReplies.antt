-- Over sound tables each reply carries figures that are right.
use Rattle.std.specs.Prelude.{◌≡◌, ◌≤◌, ℕ, ⊤, List, All, Option, Some, None}
use Rattle.muni_terms.specs.Check.{fault_of}
use Rattle.muni_terms.specs.declared.row.IssueRow.{IssueRow}
use Rattle.muni_msg.specs.declared.command.Command.{Command}
use Rattle.muni_msg.specs.declared.command.Key.{Key}
use Rattle.muni_msg.specs.declared.command.Line.{Line}
use Rattle.muni_msg.specs.declared.command.Reply.{Reply}
use Rattle.muni_msg.specs.declared.command.Reply.TheVariants.{Added, Amended, Quoted, Listed, Confirmed, Refused}
use Rattle.muni_msg.specs.declared.version.Version.{Version}
use Rattle.muni_keep.specs.Tables.{Tables, issue_numbered, version_at, last_at, page_at}
use Rattle.muni_book_step.specs.Plan.{issue_of}
use Rattle.muni_book_step.specs.Runs.{Runs}
use Rattle.muni_book_step.specs.Sound.{Rightness, IsSound}
use Rattle.muni_book_step.specs.Step.{Rules, Entry, IsStepOver, after}

-- The version with this number is kept, and the terms of its issue by which it was figured, which pass every test. The
-- figures of the version are right by them.
pub record IsKeptRight (AreRight : Rightness) (tables : Tables) (issue : IssueRow) (key : Key) (number : ℕ) (version : Version) : Type 0 where
  pub version_kept : version_at tables key number ≡ Some version
  pub issue_kept : issue_of tables.issues version ≡ Some issue
  pub own_issue : issue.cusip ≡ version.terms.asked.cusip
  pub passed : fault_of issue ≡ None
  pub right : AreRight issue version.terms.asked version.figures

-- terms of an issue that are kept under some number
abbrev pub AreTermsOf : Tables → (cusip : List ℕ) → IssueRow → Type 0
AreTermsOf tables cusip issue = (number : ℕ) × (issue_numbered tables cusip number ≡ Some issue)

-- What a reply confirms is kept, and its figures are right, as are those of a quote. A list has lines of its own.
abbrev pub IsRightReply : Rightness → Tables → Reply → Type 0
IsRightReply AreRight tables (Added cusip) = ⊤
IsRightReply AreRight tables (Amended cusip number) = ⊤
IsRightReply AreRight tables (Quoted issue asked figures shown) =
    AreTermsOf tables asked.cusip issue × AreRight issue asked figures
IsRightReply AreRight tables (Listed lines) = ⊤
IsRightReply AreRight tables (Confirmed issue key number version) =
    IsKeptRight AreRight tables issue key number version
IsRightReply AreRight tables (Refused why) = ⊤

-- so is each reply of a step, in the tables after it
abbrev pub StepsConfirmRight : Rules → Rightness → Type 0
StepsConfirmRight rules AreRight =
    rules.limit ≤ 100_000_000 → (old : Tables) (command : Command) (reply : Reply) (entry : Option Entry) → IsSound AreRight old
    → IsStepOver rules old command (record { reply = reply; entry = entry })
    → IsRightReply AreRight (after entry old) reply

-- and each reply of a run, in the tables at its end
abbrev pub RunsConfirmRight : Rules → Rightness → Type 0
RunsConfirmRight rules AreRight =
    rules.limit ≤ 100_000_000 → (old new : Tables) (commands : List Command) (replies : List Reply) → IsSound AreRight old
    → Runs rules old commands replies new → All (IsRightReply AreRight new) replies

-- each version that is kept has right figures
abbrev pub VersionsAreRight : Rightness → Type 0
VersionsAreRight AreRight =
    (tables : Tables) (key : Key) (number : ℕ) (version : Version) → IsSound AreRight tables
    → version_at tables key number ≡ Some version
    → (issue : IssueRow) × IsKeptRight AreRight tables issue key number version

-- of each trade that is kept, the last version is one with right figures
abbrev pub LastsAreRight : Rightness → Type 0
LastsAreRight AreRight =
    (tables : Tables) (key : Key) (number : ℕ) (version : Version) → IsSound AreRight tables
    → last_at tables key ≡ Some (number, version)
    → (issue : IssueRow) × IsKeptRight AreRight tables issue key number version

-- a line of a list is the last version of its trade, with right figures
abbrev pub IsRightLine : Rightness → Tables → (desk : List ℕ) → Line → Type 0
IsRightLine AreRight tables desk line =
    (issue : IssueRow)
    × IsKeptRight AreRight tables issue (record { desk = desk; reference = line.reference }) line.number line.version

abbrev pub PagesAreRight : Rightness → Type 0
PagesAreRight AreRight =
    (tables : Tables) (desk : List ℕ) (from : Option (List ℕ)) → IsSound AreRight tables
    → All (IsRightLine AreRight tables desk) (page_at tables desk from)
