-- What is answered to what has come, and what connections make of the tables.
use Rattle.std.specs.Prelude.{◌≡◌, ◌≢◌, ◌⊎◌, ◌≤◌, ℕ, ℤ, List, ◌∷◌, ◌++◌, Option, Some, IfSome, All}
use Rattle.muni_desk_serve.specs.Rules.{serving_rules}
use Rattle.muni_book.specs.SoundTables.{AreSoundTables}
use Rattle.muni_edge.specs.Faults.{Rose}
use Rattle.muni_keep.specs.Tables.{Tables, version_at}
use Rattle.muni_terms.specs.declared.row.IssueRow.{IssueRow}
use Rattle.muni_answer.specs.RightFigures.{AreRightFigures}
use Rattle.muni_book.specs.RightReplies.{IsKeptRight}
use Rattle.muni_msg.specs.declared.command.Command.{Command}
use Rattle.muni_msg.specs.declared.command.Key.{Key}
use Rattle.muni_msg.specs.declared.command.Reply.{Reply}
use Rattle.muni_msg.specs.declared.command.Reply.TheVariants.{Confirmed}
use Rattle.muni_msg.specs.declared.version.Version.{Version}
use Rattle.muni_confirm.specs.declared.details.Details.{Details}
use Rattle.muni_confirm.specs.Details.{no_details}
use Rattle.muni_rule.specs.Payments.{PaymentSeries}
use Rattle.muni_rule.specs.WorthEnds.{WorthEnds}
use Rattle.muni_book_step.specs.Accepted.{AsksToKeep, IsAccepted}
use Rattle.muni_book_step.specs.Runs.{StepsTo, RunsTo}
use Rattle.muni_desk_serve.specs.Rules.{ServingRules}
use Rattle.muni_wire.specs.Reading.{Reading, Whole, Faulty, Short, HeadAsks, Reads}
use Rattle.muni_wire_body.specs.declared.look.Look.TheVariants as look
use Rattle.muni_wire_body.specs.declared.look.Request.TheVariants.{Book, Look as LookAt, Check}
use Rattle.muni_desk_serve.specs.Answer.{Answer, AreBeside, reply_answer, bad_answer}
use Rattle.muni_desk_serve.specs.Check.{IsCheckAnswer}
use Rattle.muni_desk_serve.specs.Look.{look_answer}
use Rattle.muni_desk_serve.specs.Connections.{Exchange, AreServed}
use Rattle.muni_desk_serve.specs.Follow.{Follow, IsAnswered, HasAnswerOf, WasAnswered, HasCome, RepliesAgain}
use Rattle.muni_desk_serve.specs.RightAnswers.{IsAnsweredRight}
use Rattle.muni_desk_serve.specs.Serves.{Traffic, WasServed}
use Rattle.muni_desk_serve.specs.declared.served.Served.{Served}
use Rattle.muni_desk_serve.specs.declared.served.Served.TheVariants as served

-- no count of faults rose: neither the keeper's, nor that of takes, nor that of puts
pub record NoneRose (before : ℕ) (link : Traffic) (now : ℕ) (after : Traffic) : Type 0 where
  pub keeper : ¬ (Rose before now)
  pub takes : ¬ (Rose link.take_faults after.take_faults)
  pub puts : ¬ (Rose link.put_faults after.put_faults)

-- what is answered to a reading of the bytes, and the tables after it
abbrev pub IsAnswerTo : ServingRules → Reading → Option Tables → Traffic → Served → Option Tables → Traffic → Type 0
IsAnswerTo rules (Whole (Book command)) old link came new after =
    (reply : Reply) × (details : Details) × IfSome old (λ t. StepsTo rules.book t command reply new)
    × IfSome old (λ t. AreBeside reply details) × IsAnswered (reply_answer reply details) link came after
IsAnswerTo rules (Whole (LookAt look)) old link came new after =
    (answer : Answer) × IfSome old (λ t. answer ≡ look_answer t look) × IsAnswered answer link came after × (new ≡ old)
IsAnswerTo rules (Whole (Check row)) old link came new after =
    (answer : Answer) × IsCheckAnswer rules.checks old row answer × IsAnswered answer link came after × (new ≡ old)
IsAnswerTo rules (Faulty kind) old link came new after =
    IsAnswered (bad_answer kind) link came after × (new ≡ old)
IsAnswerTo rules Short old link came new after =
    (came ≡ served.Gone) × (after.written ≡ link.written) × (new ≡ old)

-- If no count rises, bytes that begin with a head within the limits get the answer to what they ask
-- for, or memory ran out.
abbrev pub RequestsAreAnswered : ServingRules → Type 0
RequestsAreAnswered rules =
    (old new : Option Tables) (before now : ℕ) (link after : Traffic) (came : Served) (bytes : List ℕ) (reading : Reading)
    → WasServed rules old before link came new now after → NoneRose before link now after
    → link.left ≡ Some bytes → HeadAsks bytes reading
    → (came ≡ served.NoMemory) ⊎ IsAnswerTo rules reading old link came new after

-- So do all bytes get the answer to one of their readings.
abbrev pub BytesAreAnswered : ServingRules → Type 0
BytesAreAnswered rules =
    (old new : Option Tables) (before now : ℕ) (link after : Traffic) (came : Served) (bytes : List ℕ)
    → WasServed rules old before link came new now after → NoneRose before link now after
    → link.left ≡ Some bytes
    → (came ≡ served.NoMemory)
    ⊎ ((reading : Reading) × Reads bytes reading × IsAnswerTo rules reading old link came new after)

-- Connections that are served run commands of the book from their first tables to their last: what they
-- asked for, at most one each, with the replies by which they were answered.
abbrev pub ConnectionsRunTheBook : ServingRules → Type 0
ConnectionsRunTheBook rules =
    (old : Tables) (exchanges : List Exchange) (new : Option Tables) (faults : ℕ)
    → AreServed rules (Some old) exchanges new faults
    → (commands : List Command) × (replies : List Reply) × RunsTo rules.book old commands replies new
    × Follow exchanges commands replies

-- Of the connections of a run one asked to keep something, and was answered, and not that the store
-- failed. A later one that asks for the same has the same reply, if this accepts it, and adds nothing.
abbrev pub ConnectionsActOnce : ServingRules → Type 0
ConnectionsActOnce rules =
    (old : Tables) (earlier : List Exchange) (first : Exchange) (between : List Exchange)
    (again : Exchange) (later : List Exchange) (new : Option Tables) (faults : ℕ)
    (command : Command) (status : ℕ)
    → AreServed rules (Some old) (earlier ++ (first ∷ (between ++ again ∷ later))) new faults
    → AsksToKeep command → HasCome first command → HasCome again command
    → WasAnswered first status → status ≢ 503
    → (reply : Reply) × HasAnswerOf first reply
    × (IsAccepted reply
    → RepliesAgain rules (Some old) (earlier ++ first ∷ between) again later new reply)

-- the ends that an encloser gives to payments and a yield
abbrev pub Ends : Type 0
Ends = PaymentSeries → ℤ → WorthEnds

-- whatever computes the figures
pub record WhatHasComeIsAnswered : Type 0 where
  pub requests : (limit : ℕ) (ends : Ends) → RequestsAreAnswered (serving_rules limit ends)
  pub all : (limit : ℕ) (ends : Ends) → BytesAreAnswered (serving_rules limit ends)

-- Connections that are served over sound tables have right answers.
abbrev pub AnswersAreRight : Type 0
AnswersAreRight =
    (limit : ℕ) (ends : Ends) (old : Tables) (exchanges : List Exchange) (new : Option Tables) (faults : ℕ)
    → limit ≤ 100_000_000 → AreSoundTables old → AreServed (serving_rules limit ends) (Some old) exchanges new faults
    → (last : Tables) × (new ≡ Some last) × All (IsAnsweredRight last) exchanges

-- A look at a version that sound tables keep is answered by its confirmation, with figures that are right.
pub record IsShownRight (tables : Tables) (key : Key) (number : ℕ) (version : Version) : Type 0 where
  pub issue : IssueRow
  pub right : IsKeptRight AreRightFigures tables issue key number version
  pub shown : look_answer tables (look.Version key number)
      ≡ reply_answer (Confirmed issue key number version) no_details

abbrev pub VersionsAreShownRight : Type 0
VersionsAreShownRight =
    (tables : Tables) (key : Key) (number : ℕ) (version : Version) → AreSoundTables tables
    → version_at tables key number ≡ Some version → IsShownRight tables key number version

abbrev pub ServingRunsTheBook : Type 0
ServingRunsTheBook = (limit : ℕ) (ends : Ends) → ConnectionsRunTheBook (serving_rules limit ends)

abbrev pub WhatIsSentAgainActsOnce : Type 0
WhatIsSentAgainActsOnce = (limit : ℕ) (ends : Ends) → ConnectionsActOnce (serving_rules limit ends)
