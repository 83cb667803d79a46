-- What is sent again over another connection acts once.
use Rattle.std.proofs.Common.{◌≡◌, ◌≢◌, ◌∙◌, ◌+◌, ◌++◌, ℕ, List, [], ◌∷◌, Option, Some, inl, inr, refl, sym, ap, subst, arith}
use Rattle.muni_edge.specs.Sink.{HasWritten}
use Rattle.muni_keep.specs.Tables.{Tables}
use Rattle.muni_msg.specs.declared.command.Command.{Command}
use Rattle.muni_msg.specs.declared.command.Reply.{Reply}
use Rattle.muni_book.proofs.OnceLemmas.{act-once}
use Rattle.muni_book_step.specs.Accepted.{AsksToKeep, IsAccepted}
use Rattle.muni_book_step.specs.Runs.{Runs, StepsTo}
use Rattle.muni_book_step.specs.Step.{Entry, IsStepOver, after}
use Rattle.muni_desk_serve.specs.Rules.{ServingRules}
use Rattle.muni_wire.specs.Reading.{Whole, Faulty}
use Rattle.muni_wire_body.specs.declared.fault.Bad.{Bad}
use Rattle.muni_wire_body.specs.declared.look.Look.{Look}
use Rattle.muni_wire_body.specs.declared.look.Request.TheVariants.{Book, Look as LookAt, Check}
use Rattle.muni_wire_body.specs.Stated.{RowTexts}
use Rattle.muni_wire.proofs.UniqueLemmas.{heads-once}
use Rattle.muni_desk_serve.specs.Answer.{Answer, reply_answer}
use Rattle.muni_desk_serve.specs.Connections.{Exchange, AreServed}
use Rattle.muni_desk_serve.specs.Follow.{HasAnswerOf, WasAnswered, HasCome, IsReplied, RepliesAgain}
use Rattle.muni_desk_serve.specs.Serves.{Traffic, Asks, IsDue, Serves}
use Rattle.muni_desk_serve.specs.declared.served.Served.{Served}
use Rattle.muni_desk_serve.specs.declared.served.Served.TheVariants as served
use Rattle.muni_desk_serve.proofs.AnswerLemmas.{written-whole, told-reading}
use Rattle.muni_desk_serve.proofs.RunLemmas.{connections-run}

-- ---- connections and those after them

-- the tables between two parts of a run
record ServedParts (R : ServingRules) (old : Option Tables) (earlier later : List Exchange) (new : Option Tables) : Type 0 where
  mid : Option Tables
  faults : ℕ
  more : ℕ
  before : AreServed R old earlier mid faults
  behind : AreServed R mid later new more

served-parts : (R : ServingRules) (old : Option Tables) (earlier later : List Exchange) (new : Option Tables) (faults : ℕ)
    → AreServed R old (earlier ++ later) new faults → ServedParts R old earlier later new
unfolding AreServed
served-parts R old [] later new faults served = record { mid = old; faults = 0; more = faults; before = (refl, refl); behind = served }
served-parts R old (first ∷ others) later new faults (mid, one, more, is, serves, rest) =
    let parts = served-parts R mid others later new more rest in
    record {
      mid = parts.mid;
      faults = one + parts.faults;
      more = parts.more;
      before = (mid, one, parts.faults, refl, serves, parts.before);
      behind = parts.behind;
    }

served-both : (R : ServingRules) (old mid new : Option Tables) (earlier later : List Exchange) (faults more : ℕ)
    → AreServed R old earlier mid faults → AreServed R mid later new more → AreServed R old (earlier ++ later) new (faults + more)
unfolding AreServed
served-both R old mid new [] later faults more before behind =
    let none : faults + more ≡ more = omega (arith, before.1) in
    subst (λ n. AreServed R old later new n) (sym none) (subst (λ t. AreServed R t later new more) before.0 behind)
served-both R old mid new (first ∷ others) later faults more (then, one, rest, is, serves, before) behind =
    (then, one, rest + more, omega (arith, is), serves, served-both R then mid new others later rest more before behind)

-- ---- a command that has come

come-bad : (exchange : Exchange) (command : Command) (kind : Bad) → HasCome exchange command → Asks exchange.before (Faulty kind) → ⊥
come-bad exchange command kind come asks = cc (heads-once come.bytes (Whole (Book command)) (Faulty kind) come.asks (told-reading exchange.before come.bytes (Faulty kind) come.exposed asks))

come-same : (exchange : Exchange) (command other : Command) → HasCome exchange command → Asks exchange.before (Whole (Book other)) → other ≡ command
come-same exchange command other come asks = cc (heads-once come.bytes (Whole (Book command)) (Whole (Book other)) come.asks (told-reading exchange.before come.bytes (Whole (Book other)) come.exposed asks))

come-look : (exchange : Exchange) (command : Command) (look : Look) → HasCome exchange command → Asks exchange.before (Whole (LookAt look)) → ⊥
come-look exchange command look come asks = cc (heads-once come.bytes (Whole (Book command)) (Whole (LookAt look)) come.asks (told-reading exchange.before come.bytes (Whole (LookAt look)) come.exposed asks))

come-check : (exchange : Exchange) (command : Command) (row : RowTexts) → HasCome exchange command → Asks exchange.before (Whole (Check row)) → ⊥
come-check exchange command row come asks = cc (heads-once come.bytes (Whole (Book command)) (Whole (Check row)) come.asks (told-reading exchange.before come.bytes (Whole (Check row)) come.exposed asks))

-- it took a step from these tables, and got the reply to it
record GotReply (R : ServingRules) (old : Tables) (exchange : Exchange) (command : Command) (new : Option Tables) : Type 0 where
  reply : Reply
  step : StepsTo R.book old command reply new
  has : HasAnswerOf exchange reply

due-got : (R : ServingRules) (old : Tables) (link then : Traffic) (answer : Answer) (command : Command) (new : Option Tables) (status faults : ℕ)
    → IsDue R (Some old) link answer new faults → HasCome (record { before = link; after = then; came = served.Answered status }) command → status ≢ 503
    → status ≡ answer.status → HasWritten link.written then.written answer.bytes
    → GotReply R old (record { before = link; after = then; came = served.Answered status }) command new
due-got R old link then answer command new status faults (inl due) come other is written =
    record {
      reply = due.reply;
      step = subst (λ c. StepsTo R.book old c due.reply new) (come-same (record { before = link; after = then; came = served.Answered status }) command due.command come due.asks) due.step;
      has = (due.details, due.beside, written-whole answer (reply_answer due.reply due.details) link then status due.is is written);
    }
due-got R old link then answer command new status faults (inr (inl due)) come other is written =
    absurd (come-bad (record { before = link; after = then; came = served.Answered status }) command due.kind come due.asks)
due-got R old link then answer command new status faults (inr (inr (inl due))) come other is written =
    absurd (other (is ∙ ap (λ (a : Answer). a.status) due.is))
due-got R old link then answer command new status faults (inr (inr (inr (inl due)))) come other is written =
    absurd (come-look (record { before = link; after = then; came = served.Answered status }) command due.look come due.asks)
due-got R old link then answer command new status faults (inr (inr (inr (inr due)))) come other is written =
    absurd (come-check (record { before = link; after = then; came = served.Answered status }) command due.row come due.asks)

got-reply : (R : ServingRules) (old : Tables) (link then : Traffic) (came : Served) (command : Command) (new : Option Tables) (status faults : ℕ)
    → Serves R (Some old) link came new then faults → HasCome (record { before = link; after = then; came = came }) command → came ≡ served.Answered status → status ≢ 503
    → GotReply R old (record { before = link; after = then; came = came }) command new
got-reply R old link then (served.Answered given) command new status faults (answer, due, is, written) come answered other =
    let same : given ≡ status = cc answered in
    due-got R old link then answer command new given faults due come (λ e. other (sym same ∙ e)) is written
got-reply R old link then served.Gone command new status faults serves come answered other = cc answered
got-reply R old link then served.LinkFault command new status faults serves come answered other = cc answered
got-reply R old link then served.NoMemory command new status faults serves come answered other = cc answered

-- ---- it adds nothing

due-adds : (R : ServingRules) (old : Tables) (link then : Traffic) (came : Served) (answer : Answer) (command : Command) (new : Option Tables) (faults : ℕ)
    → IsDue R (Some old) link answer new faults → HasCome (record { before = link; after = then; came = came }) command
    → ((reply : Reply) → StepsTo R.book old command reply new → new ≡ Some old) → new ≡ Some old
due-adds R old link then came answer command new faults (inl due) come nothing =
    nothing due.reply (subst (λ c. StepsTo R.book old c due.reply new) (come-same (record { before = link; after = then; came = came }) command due.command come due.asks) due.step)
due-adds R old link then came answer command new faults (inr (inl due)) come nothing = due.tables
due-adds R old link then came answer command new faults (inr (inr (inl due))) come nothing = due.tables
due-adds R old link then came answer command new faults (inr (inr (inr (inl due)))) come nothing = due.tables
due-adds R old link then came answer command new faults (inr (inr (inr (inr due)))) come nothing = due.tables

adds-nothing : (R : ServingRules) (old : Tables) (link then : Traffic) (came : Served) (command : Command) (new : Option Tables) (faults : ℕ)
    → Serves R (Some old) link came new then faults → HasCome (record { before = link; after = then; came = came }) command
    → ((reply : Reply) → StepsTo R.book old command reply new → new ≡ Some old) → new ≡ Some old
adds-nothing R old link then (served.Answered status) command new faults (answer, due, is, written) come nothing =
    due-adds R old link then (served.Answered status) answer command new faults due come nothing
adds-nothing R old link then served.Gone command new faults serves come nothing = serves.1.tables
adds-nothing R old link then served.LinkFault command new faults (inl cut) come nothing = cut.1.tables
adds-nothing R old link then served.LinkFault command new faults (inr (rose, answer, due, part)) come nothing =
    due-adds R old link then served.LinkFault answer command new faults due come nothing
adds-nothing R old link then served.NoMemory command new faults serves come nothing = serves.tables

-- a step for a command that was accepted before
step-again : (R : ServingRules) (old between : Tables) (command : Command) (first again : Reply) (entry : Option Entry) (commands : List Command) (replies : List Reply) (new : Option Tables)
    → AsksToKeep command → IsAccepted first → IsStepOver R.book old command (record { reply = first; entry = entry }) → Runs R.book (after entry old) commands replies between
    → StepsTo R.book between command again new → (again ≡ first) × (new ≡ Some between)
step-again R old between command first again entry commands replies new keeps accepted step run (other, repeated, told) =
    let once = act-once R.book old between command first again entry other commands replies keeps accepted step run repeated in
    (once.0, told ∙ ap (λ e. Some (after e between)) once.1)

again-replied : (R : ServingRules) (old between : Tables) (again : Exchange) (command : Command) (first : Reply) (entry : Option Entry) (commands : List Command) (replies : List Reply) (new : Option Tables) (faults : ℕ)
    → AsksToKeep command → IsAccepted first → IsStepOver R.book old command (record { reply = first; entry = entry }) → Runs R.book (after entry old) commands replies between
    → Serves R (Some between) again.before again.came new again.after faults → HasCome again command
    → (new ≡ Some between) × IsReplied again first
again-replied R old between again command first entry commands replies new faults keeps accepted step run serves come = (
  adds-nothing R between again.before again.after again.came command new faults serves come
      (λ reply repeated. (step-again R old between command first reply entry commands replies new keeps accepted step run repeated).1),
  λ status answered other.
      let got = got-reply R between again.before again.after again.came command new status faults serves come answered other in
      subst (λ reply. HasAnswerOf again reply) (step-again R old between command first got.reply entry commands replies new keeps accepted step run got.step).0 got.has,
)

-- from the first of the two on
act-once-from : (R : ServingRules) (old : Tables) (first : Exchange) (between : List Exchange) (again : Exchange) (later : List Exchange) (new : Option Tables) (faults : ℕ) (command : Command) (status : ℕ)
    → AreServed R (Some old) (first ∷ (between ++ again ∷ later)) new faults → AsksToKeep command → HasCome first command → HasCome again command
    → WasAnswered first status → status ≢ 503
    → (reply : Reply) × HasAnswerOf first reply × (IsAccepted reply → RepliesAgain R (Some old) (first ∷ between) again later new reply)
unfolding AreServed
act-once-from R old first between again later new faults command status (kept, one, more, is, serves, rest) keeps come again_come answered other =
    let got = got-reply R old first.before first.after first.came command kept status one serves come answered other in
    let entry = got.step.0 in
    let told = got.step.2 in
    let parts = served-parts R kept between (again ∷ later) new more rest in
    let then = parts.behind in
    let run = connections-run R (after entry old) between parts.mid parts.faults (subst (λ t. AreServed R t between parts.mid parts.faults) told parts.before) in (
      got.reply,
      got.has,
      λ accepted.
          let again_serves = subst (λ t. Serves R t again.before again.came then.0 again.after then.1) run.2.1 then.4 in
          let replied = again-replied R old run.2.0 again command got.reply entry run.0 run.1 then.0 then.1 keeps accepted got.step.1 run.2.2 again_serves again_come in
          let same = replied.0 ∙ sym run.2.1 in
          record {
            mid = parts.mid;
            faults = one + parts.faults;
            one = then.1;
            more = then.2;
            before = (kept, one, parts.faults, refl, serves, parts.before);
            same = subst (λ t. Serves R parts.mid again.before again.came t again.after then.1) same then.4;
            behind = subst (λ t. AreServed R t later new then.2) same then.5;
            replied = replied.1;
          },
    )

pub connections-act-once : (R : ServingRules) (old : Tables) (earlier : List Exchange) (first : Exchange) (between : List Exchange) (again : Exchange) (later : List Exchange) (new : Option Tables) (faults : ℕ) (command : Command) (status : ℕ)
    → AreServed R (Some old) (earlier ++ (first ∷ (between ++ again ∷ later))) new faults → AsksToKeep command → HasCome first command → HasCome again command
    → WasAnswered first status → status ≢ 503
    → (reply : Reply) × HasAnswerOf first reply × (IsAccepted reply → RepliesAgain R (Some old) (earlier ++ first ∷ between) again later new reply)
connections-act-once R old earlier first between again later new faults command status served keeps come again_come answered other =
    let parts = served-parts R (Some old) earlier (first ∷ (between ++ again ∷ later)) new faults served in
    let run = connections-run R old earlier parts.mid parts.faults parts.before in
    let told = run.2.1 in
    let once = act-once-from R run.2.0 first between again later new parts.more command status
    (subst (λ t. AreServed R t (first ∷ (between ++ again ∷ later)) new parts.more) told parts.behind) keeps come again_come answered other in (
      once.0,
      once.1,
      λ accepted.
          let replied = once.2 accepted in
          record {
            mid = replied.mid;
            faults = parts.faults + replied.faults;
            one = replied.one;
            more = replied.more;
            before = served-both R (Some old) parts.mid replied.mid earlier (first ∷ between) parts.faults replied.faults parts.before
                (subst (λ t. AreServed R t (first ∷ between) replied.mid replied.faults) (sym told) replied.before);
            same = replied.same;
            behind = replied.behind;
            replied = replied.replied;
          },
    )
