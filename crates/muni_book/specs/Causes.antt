-- Why a command is refused. A cause says what is wrong with a command, and that nothing before it in this order
-- is. Of an issue: its terms; for an amendment an issue that is not kept; other terms under the same number; its 99
-- terms; a number that is not the next one. Of a trade: one that is not kept; other contents under the same number; a
-- canceled one; its 99 versions; a number that is not the next one; an issue that is not kept, or not by the terms that
-- are chosen; a full desk; and at last the figures.
use Rattle.std.specs.Prelude.{◌≡◌, ◌≢◌, ◌⊎◌, ℕ, ◌+◌, ◌-◌, ◌^◌, ◌≤◌, ◌<◌, ⊤, true, min, List, Option, Some, None, Ok, Err}
use Rattle.std.specs.FinMap.{len}
use Rattle.muni_terms.specs.Check.{checked}
use Rattle.muni_terms.specs.declared.row.IssueRow.{IssueRow}
use Rattle.muni_msg.specs.declared.asked.Asked.{Asked}
use Rattle.muni_msg.specs.declared.asked.Terms.{Terms}
use Rattle.muni_msg.specs.declared.command.Command.{Command}
use Rattle.muni_msg.specs.declared.command.Command.TheVariants as command
use Rattle.muni_msg.specs.declared.command.Key.{Key}
use Rattle.muni_msg.specs.declared.command.Reply.TheVariants.{Refused}
use Rattle.muni_msg.specs.declared.refusal.Refusal.{Refusal}
use Rattle.muni_msg.specs.declared.refusal.Refusal.TheVariants.{UnknownIssue, UnknownTrade, Conflict, BadTerms, SettleOutside, GivenOutOfRange, YieldBelow, YieldAbove, NoTime, Undecided, Canceled, WrongNumber, VersionsFull, DeskFull, WrongBasis}
use Rattle.muni_msg.specs.declared.version.Act.{Act}
use Rattle.muni_msg.specs.declared.version.Act.TheVariants as act
use Rattle.muni_msg.specs.declared.version.Kept.TheVariants as kept
use Rattle.muni_msg.specs.declared.version.Version.{Version}
use Rattle.muni_msg.specs.declared.shown.Shown.{Shown}
use Rattle.muni_keep.specs.Tables.{Tables, issue_at, issue_numbered, last_issue, version_at, last_at}
use Rattle.muni_keep.specs.Trades.{own}
use Rattle.muni_book_step.specs.Plan.{issue_of, terms_for, is_chosen}
use Rattle.muni_book_step.specs.Reasons.{IsNewTrade, IsLive, IsCorrection}
use Rattle.muni_book_step.specs.Step.{Rules, Entry, Outcome, answered, IsStepOver}

-- ---- what a command asks for
-- to keep terms of an issue, under a number
abbrev pub AsksForTerms : Command → ℕ → IssueRow → Type 0
AsksForTerms asked number row =
    ((asked ≡ command.AddIssue row) × (number ≡ 1)) ⊎ (asked ≡ command.Amend number row)

-- a correction or a cancel of a trade, under a number
abbrev pub AsksToChange : Command → Key → ℕ → Type 0
AsksToChange asked key number =
    ((terms : Terms) × (chosen : Option ℕ) × (asked ≡ command.Correct key number terms chosen)) ⊎ (asked ≡ command.Cancel key number)

-- a command that needs a trade which is kept
abbrev pub AsksForTrade : Command → Key → Type 0
AsksForTrade asked key =
    ((number : ℕ) × AsksToChange asked key number) ⊎ (asked ≡ command.Confirm key)

-- a command that asks to keep a version under a number
abbrev pub AsksForVersion : Command → Key → ℕ → Type 0
AsksForVersion asked key number =
    ((terms : Terms) × (chosen : Option ℕ) × (asked ≡ command.Enter key terms chosen) × (number ≡ 1)) ⊎ AsksToChange asked key number

-- a version is what it asks to keep
abbrev pub IsAsked : Command → Version → Type 0
IsAsked (command.AddIssue row) version = ⊥
IsAsked (command.Amend number row) version = ⊥
IsAsked (command.Enter key terms chosen) version =
    (version.terms ≡ terms) × (is_chosen chosen version.issue_number ≡ true)
IsAsked (command.Correct key number terms chosen) version =
    (version.act ≡ act.Corrected) × (version.terms ≡ terms) × (is_chosen chosen version.issue_number ≡ true)
IsAsked (command.Cancel key number) version = version.act ≡ act.Canceled
IsAsked (command.Confirm key) version = ⊥
IsAsked (command.Quote asked shown) version = ⊥
IsAsked (command.List desk after) version = ⊥

-- a version that is kept is what it asks to keep
pub record IsSentAgain (tables : Tables) (asked : Command) (version : Version) : Type 0 where
  pub key : Key
  pub number : ℕ
  pub asks : AsksForVersion asked key number
  pub version_kept : version_at tables key number ≡ Some version
  pub is_asked : IsAsked asked version

-- a change of a trade with this last version, which has none under the number
pub record IsNewChange (tables : Tables) (asked : Command) (key : Key) (number : ℕ) (last : ℕ × Version) : Type 0 where
  pub asks : AsksToChange asked key number
  pub last_is : last_at tables key ≡ Some last
  pub is_new : version_at tables key number ≡ None

-- A correction has room in a trade of less than 99 versions, and a cancel always.
abbrev pub HasRoom : Command → ℕ → Type 0
HasRoom (command.AddIssue row) count = ⊤
HasRoom (command.Amend number row) count = count < 99
HasRoom (command.Enter key terms chosen) count = ⊤
HasRoom (command.Correct key number terms chosen) count = count < 99
HasRoom (command.Cancel key number) count = ⊤
HasRoom (command.Confirm key) count = ⊤
HasRoom (command.Quote asked shown) count = ⊤
HasRoom (command.List desk after) count = ⊤

-- an amendment of an issue with these last terms, which has none under the number
pub record IsNewAmendment (tables : Tables) (asked : Command) (number : ℕ) (issue : IssueRow) (last : ℕ × IssueRow) : Type 0 where
  pub row : IssueRow
  pub command : asked ≡ command.Amend number row
  pub passed : checked row ≡ Ok issue
  pub last_is : last_issue tables issue.cusip ≡ Some last
  pub is_new : issue_numbered tables issue.cusip number ≡ None

-- The CUSIP of the issue that a command needs by its last terms, if nothing is wrong before that: that of an amendment,
-- of the terms of a trade if they are new, and of a quote.
abbrev pub NeedsIssue : Tables → Command → List ℕ → Type 0
NeedsIssue tables (command.AddIssue row) cusip = ⊥
NeedsIssue tables (command.Amend number row) cusip =
    (issue : IssueRow) × (checked row ≡ Ok issue) × (cusip ≡ issue.cusip)
NeedsIssue tables (command.Enter key terms chosen) cusip =
    (version_at tables key 1 ≡ None) × (cusip ≡ terms.asked.cusip)
NeedsIssue tables (command.Correct key number terms chosen) cusip =
    (last : ℕ × Version) × IsLive tables key number last × (last.0 < 99) × (cusip ≡ terms.asked.cusip)
NeedsIssue tables (command.Cancel key number) cusip = ⊥
NeedsIssue tables (command.Confirm key) cusip = ⊥
NeedsIssue tables (command.Quote asked shown) cusip = cusip ≡ asked.cusip
NeedsIssue tables (command.List desk after) cusip = ⊥

-- the last version of the trade that a command cancels or confirms, if nothing is wrong before that
abbrev pub NeedsLast : Tables → Command → Version → Type 0
NeedsLast tables (command.AddIssue row) version = ⊥
NeedsLast tables (command.Amend number row) version = ⊥
NeedsLast tables (command.Enter key terms chosen) version = ⊥
NeedsLast tables (command.Correct key number terms chosen) version = ⊥
NeedsLast tables (command.Cancel key number) version =
    (last : ℕ × Version) × IsLive tables key number last × (version ≡ last.1)
NeedsLast tables (command.Confirm key) version =
    (last : ℕ × Version) × (last_at tables key ≡ Some last) × (version ≡ last.1)
NeedsLast tables (command.Quote asked shown) version = ⊥
NeedsLast tables (command.List desk after) version = ⊥

-- a version by whose terms a command is answered: that last one, or the one that is sent again
abbrev pub NeedsTermsOf : Tables → Command → Version → Type 0
NeedsTermsOf tables asked version = IsSentAgain tables asked version ⊎ NeedsLast tables asked version

-- the number of the terms of its issue that a trade chooses
abbrev pub chosen_of : Command → Option ℕ
chosen_of (command.AddIssue row) = None
chosen_of (command.Amend number row) = None
chosen_of (command.Enter key terms chosen) = chosen
chosen_of (command.Correct key number terms chosen) = chosen
chosen_of (command.Cancel key number) = None
chosen_of (command.Confirm key) = None
chosen_of (command.Quote asked shown) = None
chosen_of (command.List desk after) = None

-- a trade that chooses terms of its issue that are not kept, after these last ones
pub record ChoosesNone (tables : Tables) (asked : Command) (last : ℕ × IssueRow) : Type 0 where
  pub cusip : List ℕ
  pub needs : NeedsIssue tables asked cusip
  pub number : ℕ
  pub chosen : chosen_of asked ≡ Some number
  pub last_is : last_issue tables cusip ≡ Some last
  pub none : issue_numbered tables cusip number ≡ None

-- the number that is named, as far as 32 bits count
abbrev pub IsNext : (next count : ℕ) → Type 0
IsNext next count = next ≡ min (count + 1) (2 ^ 32 - 1)

-- a number that is not the next one of the trade, or of the issue, or that of terms which are not kept
abbrev pub IsWrongNumber : Tables → Command → ℕ → Type 0
IsWrongNumber tables asked next =
    ((key : Key) × (number : ℕ) × (last : ℕ × Version) × IsNewChange tables asked key number last
    × (last.1.act ≢ act.Canceled) × HasRoom asked last.0 × (number ≢ last.0 + 1) × IsNext next last.0)
    ⊎ (((number : ℕ) × (issue : IssueRow) × (last : ℕ × IssueRow) × IsNewAmendment tables asked number issue last
    × HasRoom asked last.0 × (number ≢ last.0 + 1) × IsNext next last.0)
    ⊎ ((last : ℕ × IssueRow) × ChoosesNone tables asked last × IsNext next last.0))

-- a trade that has 99 versions, or an issue that has 99 terms
abbrev pub IsFullOfNumbers : Tables → Command → Type 0
IsFullOfNumbers tables asked =
    ((key : Key) × (number : ℕ) × (terms : Terms) × (chosen : Option ℕ) × (last : ℕ × Version)
    × (asked ≡ command.Correct key number terms chosen) × IsNewChange tables asked key number last
    × (last.1.act ≢ act.Canceled) × (99 ≤ last.0))
    ⊎ ((number : ℕ) × (issue : IssueRow) × (last : ℕ × IssueRow) × IsNewAmendment tables asked number issue last
    × (99 ≤ last.0))

-- ---- the causes
-- the cause of each refusal that is not one of figures
abbrev pub HasCause : (limit : ℕ) → Tables → Command → Refusal → Type 0
HasCause limit tables asked (BadTerms fault) =
    (number : ℕ) × (row : IssueRow) × AsksForTerms asked number row × (checked row ≡ Err fault)
HasCause limit tables asked UnknownTrade =
    (key : Key) × AsksForTrade asked key × (last_at tables key ≡ None)
HasCause limit tables asked (Conflict (kept.Issue other)) =
    (number : ℕ) × (row : IssueRow) × (issue : IssueRow) × AsksForTerms asked number row × (checked row ≡ Ok issue)
    × (issue_numbered tables issue.cusip number ≡ Some other) × (other ≢ issue)
HasCause limit tables asked (Conflict (kept.Version number version)) =
    (key : Key) × AsksForVersion asked key number
    × (version_at tables key number ≡ Some version) × (IsAsked asked version → ⊥)
HasCause limit tables asked Canceled =
    (key : Key) × (number : ℕ) × (last : ℕ × Version) × IsNewChange tables asked key number last
    × (last.1.act ≡ act.Canceled)
HasCause limit tables asked VersionsFull = IsFullOfNumbers tables asked
HasCause limit tables asked (WrongNumber next) = IsWrongNumber tables asked next
HasCause limit tables asked UnknownIssue =
    ((version : Version) × NeedsTermsOf tables asked version × (issue_of tables.issues version ≡ None))
    ⊎ ((cusip : List ℕ) × NeedsIssue tables asked cusip × (issue_at tables cusip ≡ None))
HasCause limit tables asked DeskFull =
    (key : Key) × (terms : Terms) × (chosen : Option ℕ) × (found : ℕ × IssueRow) × (asked ≡ command.Enter key terms chosen)
    × (version_at tables key 1 ≡ None) × (terms_for tables.issues terms.asked.cusip chosen ≡ Ok found)
    × (limit ≤ len (own key.desk tables.desks))
HasCause limit tables asked SettleOutside = ⊥
HasCause limit tables asked (GivenOutOfRange range) = ⊥
HasCause limit tables asked (YieldBelow date) = ⊥
HasCause limit tables asked YieldAbove = ⊥
HasCause limit tables asked (NoTime date) = ⊥
HasCause limit tables asked (Undecided date boundary) = ⊥
HasCause limit tables asked WrongBasis = ⊥

-- a quote of an issue that is kept
pub record IsQuote (tables : Tables) (asked : Command) (issue : IssueRow) (what : Asked) : Type 0 where
  pub shown : Shown
  pub command : asked ≡ command.Quote what shown
  pub issue_is : issue_at tables what.cusip ≡ Some issue

-- The figures that it asks for are refused, and nothing else is wrong: a quote, a new trade, or a
-- correction.
abbrev pub HasNoFigures : Rules → Tables → Command → Refusal → Type 0
HasNoFigures rules tables asked why =
    ((issue : IssueRow) × (what : Asked) × IsQuote tables asked issue what × rules.prices issue what (Err why))
    ⊎ ((issue : IssueRow) × (issue_number : ℕ) × (key : Key) × (number : ℕ) × (act : Act) × (terms : Terms)
    × (IsNewTrade rules.limit tables asked issue issue_number key number act terms
    ⊎ IsCorrection tables asked issue issue_number key number act terms)
    × rules.prices issue terms.asked (Err why))

-- ---- the laws
-- a refusal comes only if it has its cause, or if figures are refused so
abbrev pub RefusalsHaveCauses : Rules → Type 0
RefusalsHaveCauses rules =
    (tables : Tables) (asked : Command) (why : Refusal) (entry : Option Entry)
    → IsStepOver rules tables asked (record { reply = Refused why; entry = entry })
    → HasCause rules.limit tables asked why ⊎ HasNoFigures rules tables asked why

-- and always then
abbrev pub CausesAreRefused : Rules → Type 0
CausesAreRefused rules =
    (tables : Tables) (asked : Command) (why : Refusal) (outcome : Outcome)
    → HasCause rules.limit tables asked why ⊎ HasNoFigures rules tables asked why
    → IsStepOver rules tables asked outcome → outcome ≡ answered (Refused why)
