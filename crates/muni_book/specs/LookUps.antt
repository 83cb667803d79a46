-- What the commands that keep nothing are answered.
use Rattle.std.specs.Prelude.{◌≡◌, ◌⊎◌, ℕ, List, Option, Some, None, Ok, Err}
use Rattle.muni_terms.specs.declared.row.IssueRow.{IssueRow}
use Rattle.muni_msg.specs.declared.asked.Asked.{Asked}
use Rattle.muni_msg.specs.declared.command.Command.TheVariants as command
use Rattle.muni_msg.specs.declared.command.Key.{Key}
use Rattle.muni_msg.specs.declared.command.Reply.{Reply}
use Rattle.muni_msg.specs.declared.command.Reply.TheVariants.{Added, Amended, Quoted, Listed, Confirmed, Refused}
use Rattle.muni_msg.specs.declared.refusal.Refusal.TheVariants.{UnknownIssue, UnknownTrade}
use Rattle.muni_msg.specs.declared.version.Version.{Version}
use Rattle.muni_msg.specs.declared.shown.Shown.{Shown}
use Rattle.muni_keep.specs.Tables.{Tables, issue_at, last_at, page_at}
use Rattle.muni_book_step.specs.Plan.{issue_of}
use Rattle.muni_book_step.specs.Step.{Pricing, Rules, Entry, IsStepOver}

-- the last version of a trade with the issue by whose terms it was figured; or there is none of them
abbrev pub ConfirmsLast : Tables → Key → Reply → Type 0
ConfirmsLast tables key (Added cusip) = ⊥
ConfirmsLast tables key (Amended cusip number) = ⊥
ConfirmsLast tables key (Quoted issue asked figures shown) = ⊥
ConfirmsLast tables key (Listed lines) = ⊥
ConfirmsLast tables key (Confirmed issue of number version) =
    (of ≡ key) × (last_at tables key ≡ Some (number, version))
    × (issue_of tables.issues version ≡ Some issue)
ConfirmsLast tables key (Refused why) =
    ((why ≡ UnknownTrade) × (last_at tables key ≡ None))
    ⊎ ((why ≡ UnknownIssue) × (last : ℕ × Version) × (last_at tables key ≡ Some last)
    × (issue_of tables.issues last.1 ≡ None))

-- figures that may be answered by the last terms of the issue, or the refusal that may; or the issue is not kept
abbrev pub QuotesFigures : Pricing → Tables → Asked → Shown → Reply → Type 0
QuotesFigures Prices tables asked shown (Added cusip) = ⊥
QuotesFigures Prices tables asked shown (Amended cusip number) = ⊥
QuotesFigures Prices tables asked shown (Quoted issue what figures also) =
    (what ≡ asked) × (also ≡ shown) × (issue_at tables asked.cusip ≡ Some issue)
    × Prices issue asked (Ok figures)
QuotesFigures Prices tables asked shown (Listed lines) = ⊥
QuotesFigures Prices tables asked shown (Confirmed issue key number version) = ⊥
QuotesFigures Prices tables asked shown (Refused why) =
    ((why ≡ UnknownIssue) × (issue_at tables asked.cusip ≡ None))
    ⊎ ((issue : IssueRow) × (issue_at tables asked.cusip ≡ Some issue) × Prices issue asked (Err why))

-- a confirmation that is asked for is of the last version, and nothing is kept
abbrev pub LastsAreConfirmed : Rules → Type 0
LastsAreConfirmed rules =
    (tables : Tables) (key : Key) (reply : Reply) (entry : Option Entry)
    → IsStepOver rules tables (command.Confirm key) (record { reply = reply; entry = entry })
    → ConfirmsLast tables key reply × (entry ≡ None)

-- a list is the page of the desk, and nothing is kept
abbrev pub PagesAreListed : Rules → Type 0
PagesAreListed rules =
    (tables : Tables) (desk : List ℕ) (from : Option (List ℕ)) (reply : Reply) (entry : Option Entry)
    → IsStepOver rules tables (command.List desk from) (record { reply = reply; entry = entry })
    → (reply ≡ Listed (record { items = page_at tables desk from })) × (entry ≡ None)

-- a quote has the right figures, and nothing is kept
abbrev pub FiguresAreQuoted : Rules → Type 0
FiguresAreQuoted rules =
    (tables : Tables) (asked : Asked) (shown : Shown) (reply : Reply) (entry : Option Entry)
    → IsStepOver rules tables (command.Quote asked shown) (record { reply = reply; entry = entry })
    → QuotesFigures rules.prices tables asked shown reply × (entry ≡ None)
