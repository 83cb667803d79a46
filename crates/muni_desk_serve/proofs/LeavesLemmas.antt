-- What an answer leaves of a keeper and of a connection.
use Rattle.std.proofs.Common.{arith, ◌≡◌, ◌∙◌, ◌≤◌, ℕ, false, List, Result, Ok, Err, IfSome, is_some, inr, refl, sym, ap, subst}
use Rattle.muni_edge.specs.Faults.{Rose}
use Rattle.muni_edge.specs.declared.fault.Failed.{Failed}
use Rattle.muni_edge.specs.declared.sink.Sink as sink
use Rattle.muni_edge.specs.declared.source.Source as source
use Rattle.muni_keep.specs.declared.keeper.Keeper as keeper
use Rattle.muni_msg.specs.declared.command.Reply.{Reply}
use Rattle.muni_msg.specs.declared.command.Reply.TheVariants.{Added, Amended, Quoted, Listed, Confirmed, Refused}
use Rattle.muni_msg.specs.declared.refusal.Refusal.{Refusal}
use Rattle.muni_msg.specs.declared.refusal.Refusal.TheVariants as refusal
use Rattle.muni_wire.specs.Answers.{Answers}
use Rattle.muni_wire.specs.Faults.{TakesAndTells}
use Rattle.muni_wire.specs.HttpStatus.{code, status_of_refusal, status_of_reply}
use Rattle.muni_wire.specs.Reading.{Whole, Reads}
use Rattle.muni_wire_body.specs.declared.look.Request.{Request}
use Rattle.muni_wire.specs.declared.status.HttpStatus.{HttpStatus}
use Rattle.muni_desk_serve.specs.Answer.{came_of}
use Rattle.muni_desk_serve.specs.Serves.{LeavesCounted, is_bad_status}
use Rattle.muni_desk_serve.specs.declared.served.Served.TheVariants as served

-- neither that of a bad request, nor that of a store that failed
abbrev pub IsGood : HttpStatus → Type 0
IsGood status = (is_bad_status (code status) ≡ false) × (code status ≡ 503 → ⊥)

refusal-good : (why : Refusal) → IsGood (status_of_refusal why)
refusal-good refusal.UnknownIssue = (refl, λ is. absurd (omega (arith, is)))
refusal-good refusal.UnknownTrade = (refl, λ is. absurd (omega (arith, is)))
refusal-good (refusal.Conflict kept) = (refl, λ is. absurd (omega (arith, is)))
refusal-good (refusal.BadTerms fault) = (refl, λ is. absurd (omega (arith, is)))
refusal-good refusal.SettleOutside = (refl, λ is. absurd (omega (arith, is)))
refusal-good (refusal.GivenOutOfRange range) = (refl, λ is. absurd (omega (arith, is)))
refusal-good (refusal.YieldBelow date) = (refl, λ is. absurd (omega (arith, is)))
refusal-good refusal.YieldAbove = (refl, λ is. absurd (omega (arith, is)))
refusal-good (refusal.NoTime date) = (refl, λ is. absurd (omega (arith, is)))
refusal-good (refusal.Undecided date boundary) = (refl, λ is. absurd (omega (arith, is)))
refusal-good refusal.Canceled = (refl, λ is. absurd (omega (arith, is)))
refusal-good (refusal.WrongNumber next) = (refl, λ is. absurd (omega (arith, is)))
refusal-good refusal.VersionsFull = (refl, λ is. absurd (omega (arith, is)))
refusal-good refusal.DeskFull = (refl, λ is. absurd (omega (arith, is)))
refusal-good refusal.WrongBasis = (refl, λ is. absurd (omega (arith, is)))

pub reply-good : (reply : Reply) → IsGood (status_of_reply reply)
reply-good (Added cusip) = (refl, λ is. absurd (omega (arith, is)))
reply-good (Amended cusip number) = (refl, λ is. absurd (omega (arith, is)))
reply-good (Quoted issue asked figures shown) = (refl, λ is. absurd (omega (arith, is)))
reply-good (Listed lines) = (refl, λ is. absurd (omega (arith, is)))
reply-good (Confirmed issue key number version) = (refl, λ is. absurd (omega (arith, is)))
reply-good (Refused why) = refusal-good why

-- what is known of a keeper after a call
pub record IsLater {K : Type 0} (keeps : keeper.Ghosts K) (old new : K) : Type 0 where
  pub tells : is_some (keeps.tables new) ≡ is_some (keeps.tables old)
  pub later : keeps.faults old ≤ keeps.faults new
  pub lent_as : keeps.lent_as new ≡ keeps.lent_as old

-- a whole request was answered
pub leaves-answered : {K L : Type 0} (keeps : keeper.Ghosts K) (takes : source.Ghosts L) (puts : sink.Ghosts L) (status : HttpStatus) (bytes : List ℕ) (result : Result HttpStatus Failed)
    (old new : K) (before mid after : L) (request : Request) → is_bad_status (code status) ≡ false → (code status ≡ 503 → Rose (keeps.faults old) (keeps.faults new)) → IsLater keeps old new
    → IfSome (takes.left before) (λ left. Reads left (Whole request)) → TakesAndTells takes puts (Ok request) before mid → Answers takes puts status bytes result mid after
    → LeavesCounted keeps takes puts (came_of result) old new before after
leaves-answered keeps takes puts status bytes (Ok answered) old new before mid after request good rose is asks read wrote = record {
  unavailable = λ came. let same : code answered ≡ 503 = cc came in rose (sym (ap code wrote.told) ∙ same);
  counts = (wrote.puts.keeps_takes ∙ read.counts, wrote.uncounted ∙ read.only.keeps_puts);
  unanswered = λ came. cc came;
  bad = λ number came bad.
      let same : code answered ≡ number = cc came in
      cc (sym bad ∙ ap is_bad_status (sym same ∙ ap code wrote.told) ∙ good);
  asked = inr (request, asks);
  tells = is.tells;
  later = is.later;
  lent_as = is.lent_as;
  takes_later = omega (arith, read.only.later, wrote.puts.keeps_takes);
  puts_later = omega (arith, read.only.keeps_puts, wrote.puts.later);
}
leaves-answered keeps takes puts status bytes (Err failed) old new before mid after request good rose is asks read wrote = record {
  unavailable = λ came. cc came;
  counts = inr (subst (λ n. Rose n (puts.faults after)) read.only.keeps_puts wrote.puts.failed);
  unanswered = λ came. cc came;
  bad = λ number came bad. cc came;
  asked = inr (request, asks);
  tells = is.tells;
  later = is.later;
  lent_as = is.lent_as;
  takes_later = omega (arith, read.only.later, wrote.puts.keeps_takes);
  puts_later = omega (arith, read.only.keeps_puts, wrote.puts.later);
}

-- memory ran out for one
pub leaves-wanting : {K L : Type 0} (keeps : keeper.Ghosts K) (takes : source.Ghosts L) (puts : sink.Ghosts L) (old new : K) (before after : L) (request : Request) → IsLater keeps old new
    → IfSome (takes.left before) (λ left. Reads left (Whole request)) → TakesAndTells takes puts (Ok request) before after
    → LeavesCounted keeps takes puts served.NoMemory old new before after
leaves-wanting keeps takes puts old new before after request is asks read = record {
  unavailable = λ came. cc came;
  counts = (read.counts, read.only.keeps_puts);
  unanswered = λ came. cc came;
  bad = λ number came bad. cc came;
  asked = inr (request, asks);
  tells = is.tells;
  later = is.later;
  lent_as = is.lent_as;
  takes_later = read.only.later;
  puts_later = omega (arith, read.only.keeps_puts);
}
