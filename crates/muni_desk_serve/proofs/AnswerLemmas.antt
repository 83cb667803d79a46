-- What has come of a connection is answered.
use Rattle.std.proofs.Common.{◌≡◌, ◌⊎◌, ◌∙◌, ℕ, List, Option, Some, IfSome, inl, inr, refl, sym, ap, subst}
use Rattle.muni_edge.specs.Sink.{HasWritten}
use Rattle.muni_keep.specs.Tables.{Tables}
use Rattle.muni_desk_serve.specs.Rules.{ServingRules}
use Rattle.muni_wire.specs.Reading.{Reading, Whole, Faulty, Short, HeadAsks, Reads}
use Rattle.muni_wire_body.specs.declared.look.Request.TheVariants.{Book, Look as LookAt, Check}
use Rattle.muni_wire.proofs.UniqueLemmas.{heads-once}
use Rattle.muni_desk_serve.specs.Answer.{Answer, reply_answer, bad_answer}
use Rattle.muni_desk_serve.specs.Follow.{IsAnswered}
use Rattle.muni_desk_serve.specs.Laws.{NoneRose, IsAnswerTo}
use Rattle.muni_desk_serve.specs.Serves.{Traffic, Asks, IsDue, RoseBy, Serves, WasServed}
use Rattle.muni_desk_serve.specs.declared.served.Served.{Served}
use Rattle.muni_desk_serve.specs.declared.served.Served.TheVariants as served

pub written-whole : (answer due : Answer) (link after : Traffic) (status : ℕ) → answer ≡ due → status ≡ answer.status → HasWritten link.written after.written answer.bytes
    → IsAnswered due link (served.Answered status) after
written-whole answer due link after status is same written =
    record {
      status = ap (λ n. served.Answered n) (same ∙ ap (λ (a : Answer). a.status) is);
      written = subst (λ (a : Answer). HasWritten link.written after.written a.bytes) is written;
    }

-- an answer to one of the readings of the bytes
IsAnswerToSome : ServingRules → Option Tables → Traffic → Served → Option Tables → Traffic → Type 0
IsAnswerToSome R old link came new after = (reading : Reading) × Asks link reading × IsAnswerTo R reading old link came new after

due-answered : (R : ServingRules) (old new : Option Tables) (before now : ℕ) (link after : Traffic) (answer : Answer) (status faults : ℕ)
    → NoneRose before link now after → RoseBy faults before now
    → status ≡ answer.status → HasWritten link.written after.written answer.bytes → IsDue R old link answer new faults
    → IsAnswerToSome R old link (served.Answered status) new after
unfolding IsAnswerToSome
due-answered R old new before now link after answer status faults none rose is written (inl due) =
    (Whole (Book due.command), due.asks, (due.reply, due.details, due.step, due.beside, written-whole answer (reply_answer due.reply due.details) link after status due.is is written))
due-answered R old new before now link after answer status faults none rose is written (inr (inl due)) =
    (Faulty due.kind, due.asks, (written-whole answer (bad_answer due.kind) link after status due.is is written, due.tables))
due-answered R old new before now link after answer status faults none rose is written (inr (inr (inl due))) =
    absurd (none.keeper (subst (λ n. RoseBy n before now) due.one rose))
due-answered R old new before now link after answer status faults none rose is written (inr (inr (inr (inl due)))) =
    (Whole (LookAt due.look), due.asks, (answer, due.is, written-whole answer answer link after status refl is written, due.tables))
due-answered R old new before now link after answer status faults none rose is written (inr (inr (inr (inr due)))) =
    (Whole (Check due.row), due.asks, (answer, due.is, written-whole answer answer link after status refl is written, due.tables))

answered-by : (R : ServingRules) (old new : Option Tables) (before now : ℕ) (link after : Traffic) (came : Served) (faults : ℕ)
    → NoneRose before link now after → RoseBy faults before now → Serves R old link came new after faults
    → (came ≡ served.NoMemory) ⊎ IsAnswerToSome R old link came new after
unfolding IsAnswerToSome
answered-by R old new before now link after (served.Answered status) faults none rose (answer, due, is, written) =
    inr (due-answered R old new before now link after answer status faults none rose is written due)
answered-by R old new before now link after served.Gone faults none rose (asks, unanswered) =
    inr (Short, asks, (refl, unanswered.written, unanswered.tables))
answered-by R old new before now link after served.LinkFault faults none rose (inl cut) = absurd (none.takes cut.0)
answered-by R old new before now link after served.LinkFault faults none rose (inr cut) = absurd (none.puts cut.0)
answered-by R old new before now link after served.NoMemory faults none rose serves = inl refl

-- a reading of the bytes that are exposed
pub told-reading : (link : Traffic) (bytes : List ℕ) (reading : Reading) → link.left ≡ Some bytes → Asks link reading → Reads bytes reading
told-reading link bytes reading told asks = subst (λ left. IfSome left (λ b. Reads b reading)) told asks

-- one of two; the second leads on
settled : {A B Z : Type 0} → A ⊎ B → (B → Z) → A ⊎ Z
settled (inl a) then = inl a
settled (inr b) then = inr (then b)

pub bytes-answered : (R : ServingRules) (old new : Option Tables) (before now : ℕ) (link after : Traffic) (came : Served) (bytes : List ℕ)
    → WasServed R old before link came new now after → NoneRose before link now after → link.left ≡ Some bytes
    → (came ≡ served.NoMemory) ⊎ ((reading : Reading) × Reads bytes reading × IsAnswerTo R reading old link came new after)
unfolding IsAnswerToSome
bytes-answered R old new before now link after came bytes was none told =
    settled (answered-by R old new before now link after came was.faults none was.rose was.serves)
    (λ (reading, asks, answer). (reading, told-reading link bytes reading told asks, answer))

pub requests-answered : (R : ServingRules) (old new : Option Tables) (before now : ℕ) (link after : Traffic) (came : Served) (bytes : List ℕ) (reading : Reading)
    → WasServed R old before link came new now after → NoneRose before link now after → link.left ≡ Some bytes → HeadAsks bytes reading
    → (came ≡ served.NoMemory) ⊎ IsAnswerTo R reading old link came new after
requests-answered R old new before now link after came bytes reading was none told asks =
    settled (bytes-answered R old new before now link after came bytes was none told)
    (λ (other, reads, answer). subst (λ r. IsAnswerTo R r old link came new after) (sym (heads-once bytes reading other asks reads)) answer)
