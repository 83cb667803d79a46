-- Sound tables.
use Rattle.std.specs.Prelude.{◌≡◌, ◌⊎◌, ℕ, ◌≤◌, ⊤, false, List, [], ◌∷◌, All, Some, None}
use Rattle.std.specs.FinMap.{len}
use Rattle.muni_terms.specs.Check.{fault_of}
use Rattle.muni_terms.specs.declared.row.IssueRow.{IssueRow}
use Rattle.muni_msg.specs.declared.asked.Asked.{Asked}
use Rattle.muni_msg.specs.declared.command.Key.{Key}
use Rattle.muni_msg.specs.declared.figures.Figures.{Figures}
use Rattle.muni_msg.specs.declared.version.Act.TheVariants.{Entered, Corrected, Canceled}
use Rattle.muni_msg.specs.declared.version.Version.{Version}
use Rattle.muni_keep.specs.History.{History, versions, count}
use Rattle.muni_keep.specs.Tables.{Tables, Issues, issue_history, trade_at}
use Rattle.muni_keep.specs.Trades.{own}
use Rattle.muni_book_step.specs.Plan.{issue_of, is_canceled, cancel_of}

-- which figures are right for what is asked of an issue
abbrev pub Rightness : Type 1
Rightness = IssueRow → Asked → Figures → Type 0

-- the terms of its issue by which a version was figured are kept, and its figures are right
pub record IsRightVersion (AreRight : Rightness) (issues : Issues) (version : Version) : Type 0 where
  pub issue : IssueRow
  pub kept : issue_of issues version ≡ Some issue
  pub right : AreRight issue version.terms.asked version.figures

-- A version after another corrects it, or cancels it with the same terms and figures.
abbrev pub Follows : Version → Version → Type 0
Follows before version = (version.act ≡ Corrected) ⊎ (version ≡ cancel_of before)

-- Versions after another. Nothing follows a cancel.
abbrev pub AreFollowing : Version → List Version → Type 0
AreFollowing before [] = ⊤
AreFollowing before (version ∷ rest) =
    (is_canceled before.act ≡ false) × Follows before version × AreFollowing version rest

-- The first version enters the trade.
abbrev pub AreVersions : List Version → Type 0
AreVersions [] = ⊥
AreVersions (first ∷ rest) = (first.act ≡ Entered) × AreFollowing first rest

-- A trade has at most 99 versions, and one cancel more.
pub record IsSoundTrade (AreRight : Rightness) (issues : Issues) (history : History Version) : Type 0 where
  pub few : (count history ≤ 99) ⊎ ((count history ≤ 100) × (history.last.act ≡ Canceled))
  pub acts : AreVersions (versions history)
  pub right : All (IsRightVersion AreRight issues) (versions history)

-- An issue is kept under its own CUSIP, and it passes every test of its terms.
pub record IsSoundIssue (cusip : List ℕ) (issue : IssueRow) : Type 0 where
  pub own_cusip : issue.cusip ≡ cusip
  pub passed : fault_of issue ≡ None

-- And so do all its terms, of which there are at most 99.
pub record AreSoundTerms (cusip : List ℕ) (history : History IssueRow) : Type 0 where
  pub few : count history ≤ 99
  pub each : All (IsSoundIssue cusip) (versions history)

-- a desk has at most so many trades
abbrev pub HasAtMost : ℕ → List ℕ → Tables → Type 0
HasAtMost most desk tables = len (own desk tables.desks) ≤ most

-- and so has each
abbrev pub HaveAtMost : ℕ → Tables → Type 0
HaveAtMost most tables = (desk : List ℕ) → HasAtMost most desk tables

-- Each issue and each trade is sound, and a desk has at most 100,000,000 trades.
pub record IsSound (AreRight : Rightness) (tables : Tables) : Type 0 where
  pub issues : (cusip : List ℕ) (history : History IssueRow) → issue_history tables cusip ≡ Some history
      → AreSoundTerms cusip history
  pub trades : (key : Key) (history : History Version) → trade_at tables key ≡ Some history
      → IsSoundTrade AreRight tables.issues history
  pub few : HaveAtMost 100_000_000 tables
