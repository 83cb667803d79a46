-- Why an outcome is what it is.
use Rattle.std.proofs.Common.{◌≡◌, ◌⊎◌, inl, inr, ℕ, refl, sym, ap, subst, Option, None, Result, Ok, Err}
use Rattle.muni_terms.specs.declared.row.IssueRow.{IssueRow}
use Rattle.muni_msg.specs.declared.asked.Asked.{Asked}
use Rattle.muni_msg.specs.declared.asked.Terms.{Terms}
use Rattle.muni_msg.specs.declared.command.Command.{Command}
use Rattle.muni_msg.specs.declared.command.Key.{Key}
use Rattle.muni_msg.specs.declared.command.Reply.{Reply}
use Rattle.muni_msg.specs.declared.figures.Figures.{Figures}
use Rattle.muni_msg.specs.declared.refusal.Refusal.{Refusal}
use Rattle.muni_msg.specs.declared.version.Act.{Act}
use Rattle.muni_msg.specs.declared.shown.Shown.{Shown}
use Rattle.muni_keep.specs.Tables.{Tables}
use Rattle.muni_book_step.specs.declared.plan.Plan.{Plan}
use Rattle.muni_book_step.specs.declared.plan.Plan.TheVariants.{Answer, Quote, KeepIssue, KeepAmendment, KeepVersion, KeepPriced}
use Rattle.muni_book_step.specs.Accepted.{AsksToKeep}
use Rattle.muni_book_step.specs.Reasons.{IsNewTrade, IsCorrection, IsReasoned}
use Rattle.muni_book_step.specs.Runs.{IsRefusal}
use Rattle.muni_book_step.specs.Step.{Pricing, Rules, Entry, Outcome, quoted, priced, IsOutcome, IsStepOver}
use Rattle.muni_book_step.proofs.PlanLemmas.{HasReason, reason-of}

abbrev HasOutcome : Rules → Tables → Command → Outcome → Type 0
HasOutcome R t c outcome = IsReasoned R t c outcome.reply outcome.entry

none-for-quotes : (R : Rules) (t : Tables) (c : Command) (issue : IssueRow) (asked : Asked) (shown : Shown) (answer : Result Figures Refusal) → (AsksToKeep c → ⊥) → HasOutcome R t c (quoted issue asked shown answer)
none-for-quotes R t c issue asked shown (Ok figures) none = λ asks accepted. absurd (none asks)
none-for-quotes R t c issue asked shown (Err why) none = λ asks accepted. absurd (none asks)

of-priced : (R : Rules) (t : Tables) (c : Command) (issue : IssueRow) (issue_number : ℕ) (key : Key) (number : ℕ) (act : Act) (terms : Terms) (answer : Result Figures Refusal)
    → (IsNewTrade R.limit t c issue issue_number key number act terms ⊎ IsCorrection t c issue issue_number key number act terms) → R.prices issue terms.asked answer → HasOutcome R t c (priced issue issue_number key number act terms answer)
of-priced R t c issue issue_number key number act terms (Ok figures) why prices = (issue, number, refl, inr (why, prices))
of-priced R t c issue issue_number key number act terms (Err refused) why prices = λ asks accepted. absurd accepted

of-plan : (R : Rules) (t : Tables) (c : Command) (plan : Plan) (outcome : Outcome) → HasReason R.limit t c plan → IsOutcome R.prices plan outcome → HasOutcome R t c outcome
of-plan R t c (Answer reply) outcome why is = subst (HasOutcome R t c) (sym is) why
of-plan R t c (Quote issue asked shown) outcome why is = subst (HasOutcome R t c) (sym is.2) (none-for-quotes R t c issue asked shown is.0 (λ asks. subst AsksToKeep why asks))
of-plan R t c (KeepIssue issue) outcome why is = subst (HasOutcome R t c) (sym is) (inl (why, refl))
of-plan R t c (KeepAmendment number issue) outcome why is = subst (HasOutcome R t c) (sym is) (inr (number, why, refl))
of-plan R t c (KeepVersion issue key number version) outcome why is = subst (HasOutcome R t c) (sym is) (issue, number, refl, inl why)
of-plan R t c (KeepPriced issue issue_number key number act terms) outcome why is =
    subst (HasOutcome R t c) (sym is.2) (of-priced R t c issue issue_number key number act terms is.0 why is.1)

pub step-reason : (R : Rules) (t : Tables) (c : Command) (reply : Reply) (entry : Option Entry) → IsStepOver R t c (record { reply = reply; entry = entry }) → IsReasoned R t c reply entry
step-reason R t c reply entry step = of-plan R t c _ (record { reply = reply; entry = entry }) (reason-of R.limit t c) step

-- a refused command adds nothing
refused-priced : (issue : IssueRow) (issue_number : ℕ) (key : Key) (number : ℕ) (act : Act) (terms : Terms) (answer : Result Figures Refusal) → IsRefusal (priced issue issue_number key number act terms answer).reply → (priced issue issue_number key number act terms answer).entry ≡ None
refused-priced issue issue_number key number act terms (Ok figures) refusal = absurd refusal
refused-priced issue issue_number key number act terms (Err why) refusal = refl

none-quoted : (issue : IssueRow) (asked : Asked) (shown : Shown) (answer : Result Figures Refusal) → (quoted issue asked shown answer).entry ≡ None
none-quoted issue asked shown (Ok figures) = refl
none-quoted issue asked shown (Err why) = refl

pub refused-by : (P : Pricing) (plan : Plan) (outcome : Outcome) → IsOutcome P plan outcome → IsRefusal outcome.reply → outcome.entry ≡ None
refused-by P (Answer reply) outcome is refusal = ap (λ o. o.entry) is
refused-by P (Quote issue asked shown) outcome is refusal = rw is.2 (none-quoted issue asked shown is.0)
refused-by P (KeepIssue issue) outcome is refusal = absurd (subst (λ o. IsRefusal o.reply) is refusal)
refused-by P (KeepAmendment number issue) outcome is refusal = absurd (subst (λ o. IsRefusal o.reply) is refusal)
refused-by P (KeepVersion issue key number version) outcome is refusal = absurd (subst (λ o. IsRefusal o.reply) is refusal)
refused-by P (KeepPriced issue issue_number key number act terms) outcome is refusal =
    rw is.2 (refused-priced issue issue_number key number act terms is.0 (subst (λ o. IsRefusal o.reply) is.2 refusal))

pub refused-adds-none : (R : Rules) (t : Tables) (c : Command) (reply : Reply) (entry : Option Entry) → IsStepOver R t c (record { reply = reply; entry = entry }) → IsRefusal reply → entry ≡ None
refused-adds-none R t c reply entry step refusal = refused-by R.prices _ (record { reply = reply; entry = entry }) step refusal
