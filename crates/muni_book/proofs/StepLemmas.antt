-- What comes of a step: refusals by their causes, entries by their reasons, and what is kept is answered again.
use Rattle.std.proofs.Common.{◌≡◌, ◌⊎◌, inl, inr, ℕ, refl, sym, ap, subst, ◌∙◌, Some, Result, Ok, Err}
use Rattle.muni_terms.specs.declared.row.IssueRow.{IssueRow}
use Rattle.muni_msg.specs.declared.asked.Asked.{Asked}
use Rattle.muni_msg.specs.declared.asked.Terms.{Terms}
use Rattle.muni_msg.specs.declared.command.Command.{Command}
use Rattle.muni_msg.specs.declared.command.Command.TheVariants as command
use Rattle.muni_msg.specs.declared.command.Key.{Key}
use Rattle.muni_msg.specs.declared.command.Reply.{Reply}
use Rattle.muni_msg.specs.declared.command.Reply.TheVariants.{Added, Amended, Quoted, Listed, Confirmed, Refused}
use Rattle.muni_msg.specs.declared.figures.Figures.{Figures}
use Rattle.muni_msg.specs.declared.refusal.Refusal.{Refusal}
use Rattle.muni_msg.specs.declared.version.Act.{Act}
use Rattle.muni_msg.specs.declared.shown.Shown.{Shown}
use Rattle.muni_keep.specs.Tables.{Tables, issue_at}
use Rattle.muni_book_step.specs.declared.plan.Plan.{Plan}
use Rattle.muni_book_step.specs.declared.plan.Plan.TheVariants.{Answer, Quote, KeepIssue, KeepAmendment, KeepVersion, KeepPriced}
use Rattle.muni_book_step.specs.Accepted.{AsksToKeep, IsAccepted}
use Rattle.muni_book_step.specs.Reasons.{IsNewTrade, IsCorrection}
use Rattle.muni_book_step.specs.Runs.{IsRefusal}
use Rattle.muni_book_step.specs.Step.{Rules, Outcome, quoted, priced, IsOutcome, IsStepOver}
use Rattle.muni_book_step.proofs.PlanLemmas.{HasReason, reason-of}
use Rattle.muni_book.specs.Causes.{HasCause, HasNoFigures, RefusalsHaveCauses, CausesAreRefused}
use Rattle.muni_book.specs.Kept.{AreAcceptedOrRefused, ReasonedIssuesAreKept, ReasonedAmendmentsAreKept, ReasonedVersionsAreKept, KeptIsAnsweredAgain}
use Rattle.muni_book.specs.Unique.{PricesOnce}
use Rattle.muni_book.proofs.CauseLemmas.{IsAnswerFor, IsFor, is-for}
use Rattle.muni_book.proofs.OnceLemmas.{answered-again}
use Rattle.muni_book.proofs.ReasonedLemmas.{issue-planned, amendment-planned, priced-planned, cancel-planned}
use Rattle.muni_book.proofs.RefusedLemmas.{IsPlanned, refused-for}

-- ---- a refusal has its cause
abbrev IsRefusedFor : Rules → Tables → Command → Reply → Type 0
IsRefusedFor P t c (Added cusip) = Unit {0}
IsRefusedFor P t c (Amended cusip number) = Unit {0}
IsRefusedFor P t c (Quoted issue asked figures shown) = Unit {0}
IsRefusedFor P t c (Listed lines) = Unit {0}
IsRefusedFor P t c (Confirmed issue key number version) = Unit {0}
IsRefusedFor P t c (Refused why) = HasCause P.limit t c why ⊎ HasNoFigures P t c why

of-reply : (P : Rules) (t : Tables) (c : Command) (reply : Reply) → IsAnswerFor P.limit t c reply → IsRefusedFor P t c reply
of-reply P t c (Added cusip) cause = tt
of-reply P t c (Amended cusip number) cause = tt
of-reply P t c (Quoted issue asked figures shown) cause = tt
of-reply P t c (Listed lines) cause = tt
of-reply P t c (Confirmed issue key number version) cause = tt
of-reply P t c (Refused why) cause = inl cause

of-quoted : (P : Rules) (t : Tables) (c : Command) (issue : IssueRow) (asked : Asked) (shown : Shown) (answer : Result Figures Refusal) → c ≡ command.Quote asked shown → issue_at t asked.cusip ≡ Some issue → P.prices issue asked answer → IsRefusedFor P t c (quoted issue asked shown answer).reply
of-quoted P t c issue asked shown (Ok figures) is there prices = tt
of-quoted P t c issue asked shown (Err why) is there prices = inr (inl (issue, asked, record { shown = shown; command = is; issue_is = there }, prices))

of-priced : (P : Rules) (t : Tables) (c : Command) (issue : IssueRow) (issue_number : ℕ) (key : Key) (number : ℕ) (act : Act) (terms : Terms) (answer : Result Figures Refusal)
    → (IsNewTrade P.limit t c issue issue_number key number act terms ⊎ IsCorrection t c issue issue_number key number act terms) → P.prices issue terms.asked answer → IsRefusedFor P t c (priced issue issue_number key number act terms answer).reply
of-priced P t c issue issue_number key number act terms (Ok figures) reason prices = tt
of-priced P t c issue issue_number key number act terms (Err why) reason prices = inr (inr (issue, issue_number, key, number, act, terms, reason, prices))

abbrev ByReply : Rules → Tables → Command → Outcome → Type 0
ByReply P t c outcome = IsRefusedFor P t c outcome.reply

of-plan : (P : Rules) (t : Tables) (c : Command) (plan : Plan) (outcome : Outcome) → IsFor P.limit t c plan → HasReason P.limit t c plan → IsOutcome P.prices plan outcome → ByReply P t c outcome
of-plan P t c (Answer reply) outcome cause reason is = subst (ByReply P t c) (sym is) (of-reply P t c reply cause)
of-plan P t c (Quote issue asked shown) outcome there reason is = subst (ByReply P t c) (sym is.2) (of-quoted P t c issue asked shown is.0 reason there is.1)
of-plan P t c (KeepIssue issue) outcome cause reason is = subst (ByReply P t c) (sym is) tt
of-plan P t c (KeepAmendment number issue) outcome cause reason is = subst (ByReply P t c) (sym is) tt
of-plan P t c (KeepVersion issue key number version) outcome cause reason is = subst (ByReply P t c) (sym is) tt
of-plan P t c (KeepPriced issue issue_number key number act terms) outcome cause reason is = subst (ByReply P t c) (sym is.2) (of-priced P t c issue issue_number key number act terms is.0 reason is.1)

pub refusals-caused : (P : Rules) → RefusalsHaveCauses P
refusals-caused P t c why entry step = of-plan P t c _ (record { reply = Refused why; entry = entry }) (is-for P.limit t c) (reason-of P.limit t c) step

-- ---- and comes always then
carried : (P : Rules) (t : Tables) (c : Command) (plan : Plan) (outcome : Outcome) → IsPlanned P.limit t plan c → IsStepOver P t c outcome → IsOutcome P.prices plan outcome
carried P t c plan outcome planned step = subst (λ p. IsOutcome P.prices p outcome) planned step

pub causes-refused : (P : Rules) → PricesOnce P.prices → CausesAreRefused P
causes-refused P once t c why outcome (inl cause) step = carried P t c _ outcome (refused-for P.limit t c why cause) step
causes-refused P once t c why outcome (inr (inl (issue, what, quote, prices))) step =
    let is = carried P t c (Quote issue what quote.shown) outcome (subst (IsPlanned P.limit t (Quote issue what quote.shown)) (sym quote.command) (rw quote.issue_is refl)) step in
    is.2 ∙ ap (quoted issue what quote.shown) (once issue what is.0 (Err why) is.1 prices)
causes-refused P once t c why outcome (inr (inr (issue, issue_number, key, number, act, terms, reason, prices))) step =
    let is = carried P t c (KeepPriced issue issue_number key number act terms) outcome (priced-planned P.limit t c issue issue_number key number act terms reason) step in
    is.2 ∙ ap (priced issue issue_number key number act terms) (once issue terms.asked is.0 (Err why) is.1 prices)

-- ---- a command is accepted or refused
by-answer : (limit : ℕ) (t : Tables) (c : Command) (reply : Reply) → AsksToKeep c → IsAnswerFor limit t c reply → IsAccepted reply ⊎ IsRefusal reply
by-answer limit t c (Added cusip) asks answer = inl tt
by-answer limit t c (Amended cusip number) asks answer = inl tt
by-answer limit t c (Quoted issue asked figures shown) asks answer = absurd answer
by-answer limit t c (Listed lines) asks answer = absurd (answer asks)
by-answer limit t c (Confirmed issue key number version) asks answer = inl tt
by-answer limit t c (Refused why) asks answer = inr tt

abbrev ByKind : Outcome → Type 0
ByKind outcome = IsAccepted outcome.reply ⊎ IsRefusal outcome.reply

by-priced : (issue : IssueRow) (issue_number : ℕ) (key : Key) (number : ℕ) (act : Act) (terms : Terms) (answer : Result Figures Refusal) → ByKind (priced issue issue_number key number act terms answer)
by-priced issue issue_number key number act terms (Ok figures) = inl tt
by-priced issue issue_number key number act terms (Err why) = inr tt

by-plan : (P : Rules) (t : Tables) (c : Command) (plan : Plan) (outcome : Outcome) → AsksToKeep c → IsFor P.limit t c plan → HasReason P.limit t c plan → IsOutcome P.prices plan outcome → ByKind outcome
by-plan P t c (Answer reply) outcome asks answer reason is = subst ByKind (sym is) (by-answer P.limit t c reply asks answer)
by-plan P t c (Quote issue asked shown) outcome asks there reason is = absurd (subst AsksToKeep reason asks)
by-plan P t c (KeepIssue issue) outcome asks answer reason is = subst ByKind (sym is) (inl tt)
by-plan P t c (KeepAmendment number issue) outcome asks answer reason is = subst ByKind (sym is) (inl tt)
by-plan P t c (KeepVersion issue key number version) outcome asks answer reason is = subst ByKind (sym is) (inl tt)
by-plan P t c (KeepPriced issue issue_number key number act terms) outcome asks answer reason is = subst ByKind (sym is.2) (by-priced issue issue_number key number act terms is.0)

pub accepted-or-refused : (P : Rules) → AreAcceptedOrRefused P
accepted-or-refused P t c reply entry asks step = by-plan P t c _ (record { reply = reply; entry = entry }) asks (is-for P.limit t c) (reason-of P.limit t c) step

-- ---- what has its reason is kept
pub issues-kept : (P : Rules) → ReasonedIssuesAreKept P
issues-kept P t c issue outcome why step = carried P t c _ outcome (issue-planned P.limit t c issue why) step

pub amendments-kept : (P : Rules) → ReasonedAmendmentsAreKept P
amendments-kept P t c number issue outcome why step = carried P t c _ outcome (amendment-planned P.limit t c number issue why) step

pub versions-kept : (P : Rules) → PricesOnce P.prices → ReasonedVersionsAreKept P
versions-kept P once t c issue key number version outcome (inl cancel) step = carried P t c _ outcome (cancel-planned P.limit t c issue key number version cancel) step
versions-kept P once t c issue key number version outcome (inr (reason, prices)) step =
    let is = carried P t c (KeepPriced issue version.issue_number key number version.act version.terms) outcome (priced-planned P.limit t c issue version.issue_number key number version.act version.terms reason) step in
    is.2 ∙ ap (priced issue version.issue_number key number version.act version.terms) (once issue version.terms.asked is.0 (Ok version.figures) is.1 prices)

-- ---- what is kept is answered again
pub kept-again : (P : Rules) → KeptIsAnsweredAgain P
kept-again P t c first outcome kept step = carried P t c (Answer first) outcome (answered-again P.limit t c first kept) step
