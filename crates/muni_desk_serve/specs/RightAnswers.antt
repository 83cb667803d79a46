-- What connections are answered over sound tables.
use Rattle.std.specs.Prelude.{◌≡◌, ◌⊎◌, ℕ, List, [], Some}
use Rattle.muni_msg.specs.declared.command.Command.{Command}
use Rattle.muni_msg.specs.declared.command.Reply.{Reply}
use Rattle.muni_msg.specs.declared.command.Reply.TheVariants.{Added, Amended, Quoted, Listed, Confirmed, Refused}
use Rattle.muni_confirm.specs.Details.{quoted_text, no_details}
use Rattle.muni_confirm.specs.declared.details.Details.{Details}
use Rattle.muni_confirm.specs.Confirmation.{confirmation_text}
use Rattle.muni_keep.specs.Tables.{Tables}
use Rattle.muni_wire.specs.Answer.{answer, reply_text}
use Rattle.muni_wire.specs.HttpStatus.{code, status_of_reply}
use Rattle.muni_wire.specs.Reading.{Whole}
use Rattle.muni_wire_body.specs.declared.look.Request.TheVariants.{Book}
use Rattle.muni_book.specs.Details.{AreRightDetails}
use Rattle.muni_answer.specs.RightFigures.{AreRightFigures}
use Rattle.muni_book.specs.RightReplies.{IsKeptRight, AreTermsOf}
use Rattle.muni_desk_serve.specs.Connections.{Exchange}
use Rattle.muni_desk_serve.specs.Follow.{HasAnswer, WasAnswered, HasNoReply}
use Rattle.muni_desk_serve.specs.Serves.{Asks}

-- The text of a reply. A confirmation is that of a version that is kept, with figures that are right, and a quote has
-- right figures of an issue that is kept, with what is to be shown after them.
abbrev pub IsRightText : Tables → Reply → List ℕ → Type 0
IsRightText tables (Added cusip) text = text ≡ reply_text (Added cusip) no_details
IsRightText tables (Amended cusip number) text = text ≡ reply_text (Amended cusip number) no_details
IsRightText tables (Quoted issue asked figures shown) text =
    AreTermsOf tables asked.cusip issue × AreRightFigures issue asked figures
    × (details : Details) × AreRightDetails issue asked figures shown details
    × (text ≡ quoted_text figures asked details)
IsRightText tables (Listed lines) text = text ≡ reply_text (Listed lines) no_details
IsRightText tables (Confirmed issue key number version) text =
    IsKeptRight AreRightFigures tables issue key number version
    × (text ≡ confirmation_text issue key number version)
IsRightText tables (Refused why) text = text ≡ reply_text (Refused why) no_details

-- A connection asked for a command. If it has an answer, this has the status of the reply, and as its body the right text.
pub record HasRightBody (tables : Tables) (exchange : Exchange) : Type 0 where
  pub command : Command
  pub reply : Reply
  pub asks : Asks exchange.before (Whole (Book command))
  pub answered : (status : ℕ) → WasAnswered exchange status
      → (body : List ℕ) × IsRightText tables reply body × HasAnswer exchange (record {
        status = code (status_of_reply reply);
        bytes = answer (status_of_reply reply) [] body;
      })

-- So it is, or if a connection has an answer, this is to a bad request, says that the store failed, shows what is
-- kept, or checks a row.
abbrev pub IsAnsweredRight : Tables → Exchange → Type 0
IsAnsweredRight tables exchange = HasNoReply exchange ⊎ HasRightBody tables exchange
