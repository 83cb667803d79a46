-- Laws of imports, for any limit of a desk and for the answers that any ends lead to.
use Rattle.std.specs.Prelude.{◌≡◌, ◌≤◌, ℕ, ℤ, List, [], ◌∷◌, Option, Some, None, Ok, Err}
use Rattle.muni_rule.specs.Payments.{PaymentSeries}
use Rattle.muni_rule.specs.WorthEnds.{WorthEnds}
use Rattle.muni_terms.specs.declared.row.IssueRow.{IssueRow}
use Rattle.muni_msg.specs.declared.command.Command.{Command}
use Rattle.muni_msg.specs.declared.command.Command.TheVariants.{Confirm}
use Rattle.muni_msg.specs.declared.command.Key.{Key}
use Rattle.muni_msg.specs.declared.command.Reply.{Reply}
use Rattle.muni_msg.specs.declared.command.Reply.TheVariants as reply
use Rattle.muni_msg.specs.declared.version.Version.{Version}
use Rattle.muni_confirm.specs.Confirmation.{confirmation_text}
use Rattle.muni_confirm.specs.Refusal.{refusal_text}
use Rattle.muni_keep.specs.Tables.{Tables, last_at}
use Rattle.muni_book_step.specs.Runs.{Runs}
use Rattle.muni_book_step.specs.Step.{Entry, IsStepOver}
use Rattle.muni_import.specs.Report.{Said}
use Rattle.muni_import.specs.Row.{Row}
use Rattle.muni_book.specs.Rules.{book_rules}
use Rattle.muni_answer.specs.RightFigures.{AreRightFigures}
use Rattle.muni_book.specs.RightReplies.{IsKeptRight}
use Rattle.muni_book.specs.SoundTables.{AreSoundTables}
use Rattle.muni_desk_import.specs.Confirm.{Answer, confirmed}
use Rattle.muni_desk_import.specs.declared.confirmations.Answered.TheVariants.{Confirmed, Refused}
use Rattle.muni_desk_import.specs.Import.{Imports, report}
use Rattle.muni_desk_import.specs.RightLines.{HasLinesOf}

-- the commands among rows: those that are read
abbrev pub commands_of : List Row → List Command
commands_of [] = []
commands_of (Ok command ∷ rows) = command ∷ commands_of rows
commands_of (Err fault ∷ rows) = commands_of rows

-- the replies among what is said of rows
abbrev pub replies_of : List Said → List Reply
replies_of [] = []
replies_of (Ok reply ∷ said) = reply ∷ replies_of said
replies_of (Err fault ∷ said) = replies_of said

-- an import is a run of the commands among its rows, which gives their replies
abbrev pub ImportsAreRuns : Type 0
ImportsAreRuns =
    (limit : ℕ) (ends : PaymentSeries → ℤ → WorthEnds) (old new : Tables) (rows : List Row) (said : List Said)
    → Imports (book_rules limit ends) old rows said new
    → Runs (book_rules limit ends) old (commands_of rows) (replies_of said) new

-- two imports of the same rows over the same tables say the same, and lead to the same tables
pub record AreAlike (said others : List Said) (new other : Tables) : Type 0 where
  pub same : said ≡ others
  pub lines : report 1 said ≡ report 1 others
  pub tables : new ≡ other

abbrev pub ReportsAreUnique : Type 0
ReportsAreUnique =
    (limit : ℕ) (ends : PaymentSeries → ℤ → WorthEnds) (old new other : Tables) (rows : List Row) (said others : List Said)
    → Imports (book_rules limit ends) old rows said new
    → Imports (book_rules limit ends) old rows others other
    → AreAlike said others new other

-- Over sound tables the report on an import has a line for each row, and that of a confirmation has figures that are right.
abbrev pub ReportsAreRight : Type 0
ReportsAreRight =
    (limit : ℕ) (ends : PaymentSeries → ℤ → WorthEnds) (old new : Tables) (rows : List Row) (said : List Said)
    → limit ≤ 100_000_000 → AreSoundTables old → Imports (book_rules limit ends) old rows said new
    → HasLinesOf new 1 said (report 1 said)

-- how a reply of the book is written to whom asked for a confirmation
abbrev pub answer_of : Reply → Option Answer
answer_of (reply.Added cusip) = None
answer_of (reply.Amended cusip number) = None
answer_of (reply.Quoted issue asked figures shown) = None
answer_of (reply.Listed lines) = None
answer_of (reply.Confirmed issue key number version) =
    Some (record { answered = Confirmed; text = confirmation_text issue key number version })
answer_of (reply.Refused why) = Some (record { answered = Refused; text = refusal_text why })

-- What is printed for a confirmation, and how it ends, is what a step of the book replies to it. The step adds nothing.
pub record IsStepOfConfirm (tables : Tables) (key : Key) (told : Reply) (entry : Option Entry) : Type 0 where
  pub printed : answer_of told ≡ Some (confirmed tables key)
  pub none_added : entry ≡ None

abbrev pub ConfirmationsAreSteps : Type 0
ConfirmationsAreSteps =
    (limit : ℕ) (ends : PaymentSeries → ℤ → WorthEnds) (tables : Tables) (key : Key) (told : Reply) (entry : Option Entry)
    → IsStepOver (book_rules limit ends) tables (Confirm key) (record { reply = told; entry = entry })
    → IsStepOfConfirm tables key told entry

-- over sound tables each trade that is kept is confirmed, and what is printed are figures that are right
pub record IsPrintedRight (tables : Tables) (key : Key) (number : ℕ) (version : Version) : Type 0 where
  pub issue : IssueRow
  pub right : IsKeptRight AreRightFigures tables issue key number version
  pub printed : confirmed tables key
      ≡ record { answered = Confirmed; text = confirmation_text issue key number version }

abbrev pub ConfirmationsAreRight : Type 0
ConfirmationsAreRight =
    (tables : Tables) (key : Key) (number : ℕ) (version : Version) → AreSoundTables tables
    → last_at tables key ≡ Some (number, version) → IsPrintedRight tables key number version
