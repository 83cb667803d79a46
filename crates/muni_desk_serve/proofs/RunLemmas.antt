-- Connections run commands of the book.
use Rattle.std.proofs.Common.{◌≡◌, ◌⊎◌, ℕ, List, [], ◌∷◌, Option, Some, inl, inr, refl, subst}
use Rattle.muni_edge.specs.Sink.{HasWritten}
use Rattle.muni_keep.specs.Tables.{Tables}
use Rattle.muni_msg.specs.declared.command.Command.{Command}
use Rattle.muni_msg.specs.declared.command.Reply.{Reply}
use Rattle.muni_book_step.specs.Runs.{StepsTo, RunsTo}
use Rattle.muni_book_step.specs.Step.{after}
use Rattle.muni_desk_serve.specs.Rules.{ServingRules}
use Rattle.muni_desk_serve.specs.Answer.{Answer, reply_answer, bad_answer, unavailable_answer}
use Rattle.muni_desk_serve.specs.Connections.{Exchange, AreServed}
use Rattle.muni_desk_serve.specs.Follow.{HasReply, HasNoReply, Follow, nothing, unreplied, replied}
use Rattle.muni_desk_serve.specs.Serves.{Traffic, IsDue, Serves}
use Rattle.muni_desk_serve.specs.declared.served.Served.{Served}
use Rattle.muni_desk_serve.specs.declared.served.Served.TheVariants as served
use Rattle.muni_desk_serve.proofs.AnswerLemmas.{written-whole}

-- one connection takes one step of the book, or none
record TakesStep (R : ServingRules) (old : Tables) (exchange : Exchange) (new : Option Tables) : Type 0 where
  command : Command
  reply : Reply
  step : StepsTo R.book old command reply new
  has : HasReply exchange command reply

StepsOnce : ServingRules → Tables → Exchange → Option Tables → Type 0
StepsOnce R old exchange new = ((new ≡ Some old) × HasNoReply exchange) ⊎ TakesStep R old exchange new

due-steps : (R : ServingRules) (old : Tables) (link then : Traffic) (answer : Answer) (new : Option Tables) (status faults : ℕ) → IsDue R (Some old) link answer new faults
    → status ≡ answer.status → HasWritten link.written then.written answer.bytes
    → StepsOnce R old (record { before = link; after = then; came = served.Answered status }) new
unfolding StepsOnce
due-steps R old link then answer new status faults (inl due) is written =
    inr (record {
      command = due.command;
      reply = due.reply;
      step = due.step;
      has = record { asks = due.asks; answer = λ asked came. (due.details, due.beside, written-whole answer (reply_answer due.reply due.details) link then status due.is is written) };
    })
due-steps R old link then answer new status faults (inr (inl due)) is written =
    inl (due.tables, λ asked came. inl (record { kind = due.kind; asks = due.asks; answer = written-whole answer (bad_answer due.kind) link then status due.is is written }))
due-steps R old link then answer new status faults (inr (inr (inl due))) is written =
    inl (due.tables, λ asked came. inr (inl (written-whole answer unavailable_answer link then status due.is is written)))
due-steps R old link then answer new status faults (inr (inr (inr (inl due)))) is written =
    inl (due.tables, λ asked came. inr (inr (inl (due.look, due.asks))))
due-steps R old link then answer new status faults (inr (inr (inr (inr due)))) is written =
    inl (due.tables, λ asked came. inr (inr (inr (due.row, due.asks))))

-- a put of an answer that is due failed
cut-steps : (R : ServingRules) (old : Tables) (link then : Traffic) (answer : Answer) (new : Option Tables) (faults : ℕ) → IsDue R (Some old) link answer new faults
    → StepsOnce R old (record { before = link; after = then; came = served.LinkFault }) new
unfolding StepsOnce
cut-steps R old link then answer new faults (inl due) =
    inr (record { command = due.command; reply = due.reply; step = due.step; has = record { asks = due.asks; answer = λ asked came. cc came } })
cut-steps R old link then answer new faults (inr (inl due)) = inl (due.tables, λ asked came. cc came)
cut-steps R old link then answer new faults (inr (inr (inl due))) = inl (due.tables, λ asked came. cc came)
cut-steps R old link then answer new faults (inr (inr (inr (inl due)))) = inl (due.tables, λ asked came. cc came)
cut-steps R old link then answer new faults (inr (inr (inr (inr due)))) = inl (due.tables, λ asked came. cc came)

serves-steps : (R : ServingRules) (old : Tables) (link : Traffic) (came : Served) (new : Option Tables) (then : Traffic) (faults : ℕ) → Serves R (Some old) link came new then faults
    → StepsOnce R old (record { before = link; after = then; came = came }) new
unfolding StepsOnce
serves-steps R old link (served.Answered status) new then faults (answer, due, is, written) = due-steps R old link then answer new status faults due is written
serves-steps R old link served.Gone new then faults serves = inl (serves.1.tables, λ asked came. cc came)
serves-steps R old link served.LinkFault new then faults (inl cut) = inl (cut.1.tables, λ asked came. cc came)
serves-steps R old link served.LinkFault new then faults (inr (rose, answer, due, part)) = cut-steps R old link then answer new faults due
serves-steps R old link served.NoMemory new then faults serves = inl (serves.tables, λ asked came. cc came)

-- ---- one after another

Run : ServingRules → Tables → List Exchange → Option Tables → Type 0
Run R old exchanges new = (commands : List Command) × (replies : List Reply) × RunsTo R.book old commands replies new × Follow exchanges commands replies

run-then : (R : ServingRules) (old : Tables) (first : Exchange) (others : List Exchange) (mid new : Option Tables) → StepsOnce R old first mid
    → ((next : Tables) → mid ≡ Some next → Run R next others new) → Run R old (first ∷ others) new
unfolding StepsOnce Run
run-then R old first others mid new (inl (same, none)) rest =
    let later = rest old same in
    (later.0, later.1, later.2, unreplied first others later.0 later.1 none later.3)
run-then R old first others mid new (inr taken) rest =
    let entry = taken.step.0 in
    let later = rest (after entry old) taken.step.2 in
    (taken.command ∷ later.0, taken.reply ∷ later.1, (later.2.0, later.2.1, (entry, taken.step.1, later.2.2)), replied first taken.command taken.reply others later.0 later.1 taken.has later.3)

pub connections-run : (R : ServingRules) (old : Tables) (exchanges : List Exchange) (new : Option Tables) (faults : ℕ) → AreServed R (Some old) exchanges new faults
    → (commands : List Command) × (replies : List Reply) × RunsTo R.book old commands replies new × Follow exchanges commands replies
unfolding AreServed Run
connections-run R old [] new faults served = ([], [], (old, served.0, refl), nothing)
connections-run R old (first ∷ others) new faults (mid, one, more, is, serves, rest) =
    run-then R old first others mid new (serves-steps R old first.before first.came mid first.after one serves)
    (λ next told. connections-run R next others new more (subst (λ t. AreServed R t others new more) told rest))
