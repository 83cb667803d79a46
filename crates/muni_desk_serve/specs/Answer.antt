-- What is answered to a connection.
use Rattle.std.specs.Prelude.{◌≡◌, ℕ, ⊤, List, Result, Ok, Err}
use Rattle.muni_edge.specs.declared.fault.Failed.{Failed}
use Rattle.muni_msg.specs.declared.command.Reply.{Reply}
use Rattle.muni_msg.specs.declared.command.Reply.TheVariants.{Added, Amended, Quoted, Listed, Confirmed, Refused}
use Rattle.muni_confirm.specs.Details.{no_details}
use Rattle.muni_confirm.specs.declared.details.Details.{Details}
use Rattle.muni_book.specs.Details.{AreRightDetails}
use Rattle.muni_book_step.specs.Step.{Pricing}
use Rattle.muni_wire.specs.Answer.{answer_to_reply, answer_to_bad, unavailable}
use Rattle.muni_wire.specs.HttpStatus.{code, status_of_reply, status_of_bad}
use Rattle.muni_wire_body.specs.declared.fault.Bad.{Bad}
use Rattle.muni_wire.specs.declared.status.HttpStatus.{HttpStatus}
use Rattle.muni_wire.specs.declared.status.HttpStatus.TheVariants.{Unavailable}
use Rattle.muni_desk_serve.specs.declared.served.Served.{Served}
use Rattle.muni_desk_serve.specs.declared.served.Served.TheVariants as served

-- the number of its status, and its bytes
pub record Answer : Type 0 where
  pub status : ℕ
  pub bytes : List ℕ

-- to a command, by the reply of the book and what is shown after the figures of a quote
abbrev pub reply_answer : Reply → Details → Answer
reply_answer reply details =
    record { status = code (status_of_reply reply); bytes = answer_to_reply reply details }

-- the figures of a quote may be answered
abbrev pub IsPricedReply : Pricing → Reply → Type 0
IsPricedReply Prices (Added cusip) = ⊤
IsPricedReply Prices (Amended cusip number) = ⊤
IsPricedReply Prices (Quoted issue asked figures shown) = Prices issue asked (Ok figures)
IsPricedReply Prices (Listed lines) = ⊤
IsPricedReply Prices (Confirmed issue key number version) = ⊤
IsPricedReply Prices (Refused why) = ⊤

-- after the figures of a quote stands what is to be shown of them, right by the exact figures, and else nothing
abbrev pub AreBeside : Reply → Details → Type 0
AreBeside (Added cusip) details = details ≡ no_details
AreBeside (Amended cusip number) details = details ≡ no_details
AreBeside (Quoted issue asked figures shown) details = AreRightDetails issue asked figures shown details
AreBeside (Listed lines) details = details ≡ no_details
AreBeside (Confirmed issue key number version) details = details ≡ no_details
AreBeside (Refused why) details = details ≡ no_details

-- to what is no command
abbrev pub bad_answer : Bad → Answer
bad_answer kind = record { status = code (status_of_bad kind); bytes = answer_to_bad kind }

-- to a command at which the keeper failed
abbrev pub unavailable_answer : Answer
unavailable_answer = record { status = code Unavailable; bytes = unavailable }

-- what came of a connection to which an answer was to be written
abbrev pub came_of : Result HttpStatus Failed → Served
came_of (Ok status) = served.Answered (code status)
came_of (Err failed) = served.LinkFault
