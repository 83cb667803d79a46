-- Which commands of the book connections asked for, and how these were answered.
use Rattle.std.specs.Prelude.{◌≡◌, ◌≢◌, ◌⊎◌, ℕ, List, [], ◌∷◌, Option, Some}
use Rattle.muni_edge.specs.Sink.{HasWritten}
use Rattle.muni_keep.specs.Tables.{Tables}
use Rattle.muni_msg.specs.declared.command.Command.{Command}
use Rattle.muni_msg.specs.declared.command.Reply.{Reply}
use Rattle.muni_confirm.specs.declared.details.Details.{Details}
use Rattle.muni_desk_serve.specs.Rules.{ServingRules}
use Rattle.muni_wire.specs.Reading.{Whole, Faulty, HeadAsks}
use Rattle.muni_wire_body.specs.declared.fault.Bad.{Bad}
use Rattle.muni_wire_body.specs.declared.look.Look.{Look}
use Rattle.muni_wire_body.specs.declared.look.Request.TheVariants.{Book, Look as LookAt, Check}
use Rattle.muni_wire_body.specs.Stated.{RowTexts}
use Rattle.muni_desk_serve.specs.Answer.{Answer, AreBeside, reply_answer, bad_answer, unavailable_answer}
use Rattle.muni_desk_serve.specs.Connections.{Exchange, AreServed}
use Rattle.muni_desk_serve.specs.Serves.{Traffic, Asks, Serves}
use Rattle.muni_desk_serve.specs.declared.served.Served.{Served}
use Rattle.muni_desk_serve.specs.declared.served.Served.TheVariants as served

-- an answer was written whole
pub record IsAnswered (answer : Answer) (link : Traffic) (came : Served) (after : Traffic) : Type 0 where
  pub status : came ≡ served.Answered answer.status
  pub written : HasWritten link.written after.written answer.bytes

-- a connection has this answer
abbrev pub HasAnswer : Exchange → Answer → Type 0
HasAnswer exchange answer = IsAnswered answer exchange.before exchange.came exchange.after

-- it is that of this reply, with the redemption candidates that are shown beside it
abbrev pub IsAnsweredBy : Reply → Traffic → Served → Traffic → Type 0
IsAnsweredBy reply link came after =
    (details : Details) × AreBeside reply details × IsAnswered (reply_answer reply details) link came after

abbrev pub HasAnswerOf : Exchange → Reply → Type 0
HasAnswerOf exchange reply = IsAnsweredBy reply exchange.before exchange.came exchange.after

-- it has some answer
abbrev pub WasAnswered : Exchange → ℕ → Type 0
WasAnswered exchange status = exchange.came ≡ served.Answered status

-- It asked for this command, and if it has an answer, it is that of this reply.
pub record HasReply (exchange : Exchange) (command : Command) (reply : Reply) : Type 0 where
  pub asks : Asks exchange.before (Whole (Book command))
  pub answer : (status : ℕ) → WasAnswered exchange status → HasAnswerOf exchange reply

-- the answer to a bad request
pub record HasBadAnswer (exchange : Exchange) : Type 0 where
  pub kind : Bad
  pub asks : Asks exchange.before (Faulty kind)
  pub answer : HasAnswer exchange (bad_answer kind)

-- it asked for a look at the tables
abbrev pub AsksToLook : Exchange → Type 0
AsksToLook exchange = (look : Look) × Asks exchange.before (Whole (LookAt look))

-- it asked for a check of one row
abbrev pub AsksToCheck : Exchange → Type 0
AsksToCheck exchange = (row : RowTexts) × Asks exchange.before (Whole (Check row))

-- If it has an answer, this is to a bad request, says that the store failed, shows what is kept, or checks a row.
abbrev pub HasNoReply : Exchange → Type 0
HasNoReply exchange =
    (status : ℕ) → WasAnswered exchange status
    → HasBadAnswer exchange ⊎ HasAnswer exchange unavailable_answer ⊎ AsksToLook exchange ⊎ AsksToCheck exchange

-- What connections asked for and what was replied are these commands and replies, in their order. Of a
-- connection there is one of each, or none.
pub data Follow : List Exchange → List Command → List Reply → Type 0 where
  nothing : Follow [] [] []
  unreplied : (first : Exchange) (others : List Exchange) (commands : List Command) (replies : List Reply)
      → HasNoReply first → Follow others commands replies → Follow (first ∷ others) commands replies
  replied : (first : Exchange) (command : Command) (reply : Reply) (others : List Exchange) (commands : List Command) (replies : List Reply)
      → HasReply first command reply → Follow others commands replies
      → Follow (first ∷ others) (command ∷ commands) (reply ∷ replies)

-- this command has come whole, of bytes that are exposed
pub record HasCome (exchange : Exchange) (command : Command) : Type 0 where
  pub bytes : List ℕ
  pub exposed : exchange.before.left ≡ Some bytes
  pub asks : HeadAsks bytes (Whole (Book command))

-- the answer to it has this reply, unless it says that the store failed
abbrev pub IsReplied : Exchange → Reply → Type 0
IsReplied exchange reply =
    (status : ℕ) → WasAnswered exchange status → status ≢ 503 → HasAnswerOf exchange reply

-- A connection between others has this reply, and leaves the tables as those before it left them.
pub record RepliesAgain (rules : ServingRules) (old : Option Tables) (earlier : List Exchange) (again : Exchange) (later : List Exchange) (new : Option Tables) (reply : Reply) : Type 0 where
  pub mid : Option Tables
  pub faults : ℕ
  pub one : ℕ
  pub more : ℕ
  pub before : AreServed rules old earlier mid faults
  pub same : Serves rules mid again.before again.came mid again.after one
  pub behind : AreServed rules mid later new more
  pub replied : IsReplied again reply
