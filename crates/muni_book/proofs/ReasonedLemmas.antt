-- What has its reason is planned to be kept.
use Rattle.std.proofs.Common.{◌⊎◌, inl, inr, ℕ, refl, sym, ap, subst, ◌∙◌}
use Rattle.muni_terms.specs.declared.row.IssueRow.{IssueRow}
use Rattle.muni_msg.specs.declared.asked.Terms.{Terms}
use Rattle.muni_msg.specs.declared.command.Command.{Command}
use Rattle.muni_msg.specs.declared.command.Key.{Key}
use Rattle.muni_msg.specs.declared.version.Act.{Act}
use Rattle.muni_msg.specs.declared.version.Version.{Version}
use Rattle.std.specs.FinMap.{get}
use Rattle.muni_keep.specs.Tables.{Tables, numbered_terms}
use Rattle.muni_book_step.specs.declared.plan.Plan.TheVariants.{KeepIssue, KeepAmendment, KeepVersion, KeepPriced}
use Rattle.muni_book_step.specs.Reasons.{IsNewIssue, IsAmendment, IsNewTrade, IsCorrection, IsCancel}
use Rattle.muni_book.proofs.PutLemmas.{next-free, none-next}
use Rattle.muni_book.proofs.RefusedLemmas.{IsPlanned, next}

pub issue-planned : (limit : ℕ) (t : Tables) (c : Command) (issue : IssueRow) → IsNewIssue t c issue → IsPlanned limit t (KeepIssue issue) c
issue-planned limit t c issue why = subst (IsPlanned limit t (KeepIssue issue)) (sym why.command) (rw (why.passed, why.is_new) refl)

pub amendment-planned : (limit : ℕ) (t : Tables) (c : Command) (number : ℕ) (issue : IssueRow) → IsAmendment t c number issue → IsPlanned limit t (KeepAmendment number issue) c
amendment-planned limit t c number issue why =
    let last = why.last in
    let free = ap (numbered_terms t.issues issue.cusip) why.number_is ∙ none-next (get t.issues issue.cusip) last why.last_is in
    subst (IsPlanned limit t (KeepAmendment number issue)) (sym why.command)
    (rw (why.passed, why.last_is, free, why.room, next number last.0 why.number_is) refl)

entry-planned : (limit : ℕ) (t : Tables) (c : Command) (issue : IssueRow) (issue_number : ℕ) (key : Key) (number : ℕ) (act : Act) (terms : Terms) → IsNewTrade limit t c issue issue_number key number act terms → IsPlanned limit t (KeepPriced issue issue_number key number act terms) c
entry-planned limit t c issue issue_number key number act terms why =
    subst (IsPlanned limit t (KeepPriced issue issue_number key number act terms)) (sym why.command)
    (rw (why.is_new, why.issue_is, why.room) (λ i. KeepPriced issue issue_number key (sym why.number_is i) (sym why.act_is i) terms))

correction-planned : (limit : ℕ) (t : Tables) (c : Command) (issue : IssueRow) (issue_number : ℕ) (key : Key) (number : ℕ) (act : Act) (terms : Terms) → IsCorrection t c issue issue_number key number act terms → IsPlanned limit t (KeepPriced issue issue_number key number act terms) c
correction-planned limit t c issue issue_number key number act terms why =
    let last = why.last in
    let live = why.is_live in
    subst (IsPlanned limit t (KeepPriced issue issue_number key number act terms)) (sym why.command)
    (rw (live.last_is, next-free t key number last live.last_is live.number_is, live.live, why.room, next number last.0 live.number_is, why.issue_is)
    (ap (λ a. KeepPriced issue issue_number key number a terms) (sym why.act_is)))

pub priced-planned : (limit : ℕ) (t : Tables) (c : Command) (issue : IssueRow) (issue_number : ℕ) (key : Key) (number : ℕ) (act : Act) (terms : Terms) → (IsNewTrade limit t c issue issue_number key number act terms ⊎ IsCorrection t c issue issue_number key number act terms)
    → IsPlanned limit t (KeepPriced issue issue_number key number act terms) c
priced-planned limit t c issue issue_number key number act terms (inl why) = entry-planned limit t c issue issue_number key number act terms why
priced-planned limit t c issue issue_number key number act terms (inr why) = correction-planned limit t c issue issue_number key number act terms why

pub cancel-planned : (limit : ℕ) (t : Tables) (c : Command) (issue : IssueRow) (key : Key) (number : ℕ) (version : Version) → IsCancel t c issue key number version → IsPlanned limit t (KeepVersion issue key number version) c
cancel-planned limit t c issue key number version why =
    let last = why.last in
    let live = why.is_live in
    subst (IsPlanned limit t (KeepVersion issue key number version)) (sym why.command)
    (rw (live.last_is, next-free t key number last live.last_is live.number_is, live.live, next number last.0 live.number_is, why.issue_is)
    (ap (λ v. KeepVersion issue key number v) (sym why.version_is)))
