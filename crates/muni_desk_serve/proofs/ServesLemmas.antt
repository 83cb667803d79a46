-- One connection.
use Rattle.std.proofs.Common.{List, Result, Ok, Err, ap, sym, subst, ◌≡◌, ◌≤◌, ℕ, ℤ, Option, Some, None, IfSome, inl, inr, refl, arith}
use Rattle.muni_rule.specs.Payments.{PaymentSeries}
use Rattle.muni_rule.specs.WorthEnds.{WorthEnds}
use Rattle.muni_edge.specs.Faults.{Rose}
use Rattle.muni_edge.specs.Sink.{HasWritten, HasWrittenPart}
use Rattle.muni_edge.specs.declared.fault.Failed.{Failed}
use Rattle.muni_edge.specs.declared.sink.Sink as sink
use Rattle.muni_edge.specs.declared.source.Source as source
use Rattle.muni_keep.specs.Tables.{Tables}
use Rattle.muni_terms.specs.declared.row.IssueRow.{IssueRow}
use Rattle.muni_msg.specs.declared.asked.Asked.{Asked}
use Rattle.muni_msg.specs.declared.command.Command.{Command}
use Rattle.muni_msg.specs.declared.command.Reply.{Reply}
use Rattle.muni_msg.specs.declared.command.Reply.TheVariants.{Added, Amended, Quoted, Listed, Confirmed, Refused}
use Rattle.muni_msg.specs.declared.figures.Figures.{Figures}
use Rattle.muni_msg.specs.declared.shown.Shown.{Shown}
use Rattle.muni_confirm.specs.declared.details.Details.{Details}
use Rattle.muni_answer.specs.Answers.{IsRightAnswer}
use Rattle.muni_book.specs.Details.{AreDetails}
use Rattle.muni_book.proofs.DetailLemmas.{details-right}
use Rattle.muni_book.proofs.RightReplyLemmas.{step-quoted}
use Rattle.muni_book_step.specs.Runs.{StepsTo}
use Rattle.muni_desk_serve.specs.Rules.{ServingRules}
use Rattle.muni_wire.specs.Answers.{Answers}
use Rattle.muni_wire.specs.HttpStatus.{code}
use Rattle.muni_wire.specs.Reading.{Whole, Faulty, Short}
use Rattle.muni_wire_body.specs.declared.fault.Bad.{Bad}
use Rattle.muni_wire_body.specs.declared.look.Look.{Look}
use Rattle.muni_wire_body.specs.declared.look.Request.{Request}
use Rattle.muni_wire_body.specs.declared.look.Request.TheVariants.{Book, Look as LookAt, Check}
use Rattle.muni_wire_body.specs.Stated.{RowTexts}
use Rattle.muni_wire.specs.declared.status.HttpStatus.{HttpStatus}
use Rattle.muni_desk_serve.specs.Answer.{Answer, IsPricedReply, AreBeside, reply_answer, bad_answer, unavailable_answer, came_of}
use Rattle.muni_desk_serve.specs.Check.{IsCheckAnswer}
use Rattle.muni_desk_serve.specs.Look.{look_answer}
use Rattle.muni_desk_serve.specs.Serves.{Traffic, Asks, IsDue, Serves, WasServed}
use Rattle.muni_desk_serve.specs.declared.served.Served.{Served}
use Rattle.muni_desk_serve.specs.declared.served.Served.TheVariants as served

-- the answer was written and no put failed, or a part of it was and one has
abbrev pub IsWritten : Answer → Served → Option (List ℕ) → Option (List ℕ) → ℕ → ℕ → Type 0
IsWritten answer (served.Answered status) had has before now =
    (status ≡ answer.status) × HasWritten had has answer.bytes × (now ≡ before)
IsWritten answer served.Gone had has before now = ⊥
IsWritten answer served.LinkFault had has before now =
    Rose before now × HasWrittenPart had has answer.bytes
IsWritten answer served.NoMemory had has before now = ⊥

pub wrote : {L : Type 0} (takes : source.Ghosts L) (puts : sink.Ghosts L) (status : HttpStatus) (bytes : List ℕ) (result : Result HttpStatus Failed) (old new : L)
    → Answers takes puts status bytes result old new
    → IsWritten (record { status = code status; bytes = bytes }) (came_of result) (puts.bytes old) (puts.bytes new) (puts.faults old) (puts.faults new)
wrote takes puts status bytes (Ok answered) old new a = (ap code a.told, a.puts.written, a.uncounted)
wrote takes puts status bytes (Err failed) old new a = (a.puts.failed, a.puts.part)

-- an answer that is due was written, or a part of it
due-written : (R : ServingRules) (old new : Option Tables) (link mid after : Traffic) (answer : Answer) (came : Served) (faults : ℕ)
    → IsWritten answer came mid.written after.written mid.put_faults after.put_faults → mid.written ≡ link.written → mid.put_faults ≡ link.put_faults
    → IsDue R old link answer new faults → Serves R old link came new after faults
due-written R old new link mid after answer (served.Answered status) faults written same puts due =
    (answer, due, written.0, rw (← same) written.1)
due-written R old new link mid after answer served.Gone faults written same puts due = absurd written
due-written R old new link mid after answer served.LinkFault faults written same puts due =
    inr (rw (← puts) written.0, answer, due, rw (← same) written.1)
due-written R old new link mid after answer served.NoMemory faults written same puts due = absurd written

-- what is to be shown of a quote stands after its figures
pub quote-beside : (ends : PaymentSeries → ℤ → WorthEnds) (reply : Reply) (issue : IssueRow) (asked : Asked) (figures : Figures) (shown : Shown) (details : Details) → reply ≡ Quoted issue asked figures shown
    → (IsRightAnswer ends issue asked (Ok figures) → AreDetails ends issue asked figures shown details) → IsPricedReply (IsRightAnswer ends) reply → AreBeside reply details
quote-beside ends reply issue asked figures shown details is told priced =
    subst (λ r. AreBeside r details) (sym is) (details-right ends issue asked figures shown details (told (subst (IsPricedReply (IsRightAnswer ends)) is priced)))

-- a step of the book answers a quote by figures that may be answered
reply-priced : (R : ServingRules) (t : Tables) (command : Command) (reply : Reply) (new : Option Tables) → StepsTo R.book t command reply new → IsPricedReply R.book.prices reply
reply-priced R t command (Added cusip) new step = tt
reply-priced R t command (Amended cusip number) new step = tt
reply-priced R t command (Quoted issue asked figures shown) new step = step-quoted R.book t command issue asked figures shown step.0 step.1
reply-priced R t command (Listed lines) new step = tt
reply-priced R t command (Confirmed issue key number version) new step = tt
reply-priced R t command (Refused why) new step = tt

pub beside-step : (R : ServingRules) (old : Option Tables) (command : Command) (reply : Reply) (details : Details) (new : Option Tables) → IfSome old (λ t. StepsTo R.book t command reply new) → (IsPricedReply R.book.prices reply → AreBeside reply details) → IfSome old (λ t. AreBeside reply details)
beside-step R (Some t) command reply details new step shown = shown (reply-priced R t command reply new step)
beside-step R None command reply details new step shown = tt

pub replied : (R : ServingRules) (old new : Option Tables) (before now : ℕ) (link mid after : Traffic) (command : Command) (reply : Reply) (details : Details) (came : Served)
    → before ≤ now → Asks link (Whole (Book command)) → IfSome old (λ t. StepsTo R.book t command reply new) → IfSome old (λ t. AreBeside reply details)
    → IsWritten (reply_answer reply details) came mid.written after.written mid.put_faults after.put_faults → mid.written ≡ link.written → mid.put_faults ≡ link.put_faults
    → WasServed R old before link came new now after
replied R old new before now link mid after command reply details came later asks step beside written same puts =
    let due : IsDue R old link (reply_answer reply details) new 0 = inl (record { command = command; reply = reply; asks = asks; step = step; details = details; beside = beside; is = refl; none = refl }) in
    record {
      faults = 0;
      serves = due-written R old new link mid after (reply_answer reply details) came 0 written same puts due;
      rose = omega (arith, later);
    }

pub unavailable : (R : ServingRules) (old new : Option Tables) (before now : ℕ) (link mid after : Traffic) (request : Request) (came : Served)
    → Rose before now → Asks link (Whole request) → new ≡ old
    → IsWritten unavailable_answer came mid.written after.written mid.put_faults after.put_faults → mid.written ≡ link.written → mid.put_faults ≡ link.put_faults
    → WasServed R old before link came new now after
unavailable R old new before now link mid after request came rose asks tables written same puts =
    let due : IsDue R old link unavailable_answer new 1 = inr (inr (inl (record { request = request; asks = asks; is = refl; tables = tables; one = refl }))) in
    record {
      faults = 1;
      serves = due-written R old new link mid after unavailable_answer came 1 written same puts due;
      rose = rose;
    }

pub looked-up : (R : ServingRules) (old new : Option Tables) (before now : ℕ) (link mid after : Traffic) (look : Look) (answer : Answer) (came : Served)
    → before ≤ now → Asks link (Whole (LookAt look)) → IfSome old (λ t. answer ≡ look_answer t look) → new ≡ old
    → IsWritten answer came mid.written after.written mid.put_faults after.put_faults → mid.written ≡ link.written → mid.put_faults ≡ link.put_faults
    → WasServed R old before link came new now after
looked-up R old new before now link mid after look answer came later asks is tables written same puts =
    let due : IsDue R old link answer new 0 = inr (inr (inr (inl (record { look = look; asks = asks; is = is; tables = tables; none = refl })))) in
    record {
      faults = 0;
      serves = due-written R old new link mid after answer came 0 written same puts due;
      rose = omega (arith, later);
    }

pub checked : (R : ServingRules) (old new : Option Tables) (before now : ℕ) (link mid after : Traffic) (row : RowTexts) (answer : Answer) (came : Served)
    → before ≤ now → Asks link (Whole (Check row)) → IsCheckAnswer R.checks old row answer → new ≡ old
    → IsWritten answer came mid.written after.written mid.put_faults after.put_faults → mid.written ≡ link.written → mid.put_faults ≡ link.put_faults
    → WasServed R old before link came new now after
checked R old new before now link mid after row answer came later asks is tables written same puts =
    let due : IsDue R old link answer new 0 = inr (inr (inr (inr (record { row = row; asks = asks; is = is; tables = tables; none = refl })))) in
    record {
      faults = 0;
      serves = due-written R old new link mid after answer came 0 written same puts due;
      rose = omega (arith, later);
    }

pub bad : (R : ServingRules) (old : Option Tables) (before : ℕ) (link mid after : Traffic) (kind : Bad) (came : Served)
    → Asks link (Faulty kind)
    → IsWritten (bad_answer kind) came mid.written after.written mid.put_faults after.put_faults → mid.written ≡ link.written → mid.put_faults ≡ link.put_faults
    → WasServed R old before link came old before after
bad R old before link mid after kind came asks written same puts =
    let due : IsDue R old link (bad_answer kind) old 0 = inr (inl (record { kind = kind; asks = asks; is = refl; tables = refl; none = refl })) in
    record {
      faults = 0;
      serves = due-written R old old link mid after (bad_answer kind) came 0 written same puts due;
      rose = omega arith;
    }

-- there was no answer
pub gone : (R : ServingRules) (old : Option Tables) (before : ℕ) (link after : Traffic) → Asks link Short → after.written ≡ link.written
    → WasServed R old before link served.Gone old before after
gone R old before link after asks same =
    record { faults = 0; serves = (asks, record { written = same; tables = refl; none = refl }); rose = omega arith }

pub cut-off : (R : ServingRules) (old : Option Tables) (before : ℕ) (link after : Traffic) → Rose link.take_faults after.take_faults → after.written ≡ link.written
    → WasServed R old before link served.LinkFault old before after
cut-off R old before link after rose same =
    record { faults = 0; serves = inl (rose, record { written = same; tables = refl; none = refl }); rose = omega arith }

pub wanting : (R : ServingRules) (old new : Option Tables) (before now : ℕ) (link after : Traffic) → before ≤ now → new ≡ old → after.written ≡ link.written
    → WasServed R old before link served.NoMemory new now after
wanting R old new before now link after later tables same =
    record { faults = 0; serves = record { written = same; tables = tables; none = refl }; rose = omega (arith, later) }
