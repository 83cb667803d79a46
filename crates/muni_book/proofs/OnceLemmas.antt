-- A command that was accepted acts once.
use Rattle.std.proofs.Common.{◌≡◌, inl, inr, ℕ, refl, sym, ap, subst, ◌∙◌, Option, Some, None, true}
use Rattle.std.specs.Option.{option_map, option_and_then}
use Rattle.muni_terms.specs.declared.row.IssueRow.{IssueRow}
use Rattle.muni_terms.proofs.RowLemmas.{row_decides}
use Rattle.muni_msg.specs.declared.asked.Terms.{Terms}
use Rattle.muni_msg.specs.declared.command.Command.{Command}
use Rattle.muni_msg.specs.declared.command.Command.TheVariants as command
use Rattle.muni_msg.specs.declared.command.Key.{Key}
use Rattle.muni_msg.specs.declared.command.Reply.{Reply}
use Rattle.muni_msg.specs.declared.command.Reply.TheVariants.{Confirmed}
use Rattle.muni_msg.specs.declared.version.Version.{Version}
use Rattle.muni_msg.proofs.AskedLemmas.{terms_decides}
use Rattle.muni_keep.specs.History.{History, count, version_in, next_number}
use Rattle.std.specs.FinMap.{get}
use Rattle.muni_keep.specs.Tables.{Tables, trade_at, with_version}
use Rattle.muni_book_step.specs.declared.plan.Plan.TheVariants.{Answer}
use Rattle.muni_book_step.specs.Accepted.{AsksToKeep, IsAccepted, IsConfirmed, IsKept}
use Rattle.muni_book_step.specs.Plan.{issue_of, is_chosen, confirmed, sent_again, is_corrected, is_canceled, plan_of}
use Rattle.muni_book_step.specs.Step.{Rules, Entry, NewIssue, NewVersion, Outcome, answered, IsOutcome, after, desk_of, own_of}
use Rattle.muni_book_step.specs.Reasons.{IsReasoned, IsReasonFor}
use Rattle.muni_book_step.proofs.OutcomeLemmas.{step-reason}
use Rattle.muni_book_step.proofs.ReadyLemmas.{last-next, live-next, new-next}
use Rattle.muni_book.specs.Once.{Keeps, ConfirmationsStay, CommandsActOnce}
use Rattle.muni_book.proofs.KeepLemmas.{terms-put, runs-keep}
use Rattle.muni_book.proofs.PutLemmas.{version-put}
use Rattle.muni_book.proofs.TermsLemmas.{terms-found}

-- ---- what was accepted is kept
next-of-reason : (P : Rules) (t : Tables) (c : Command) (issue : IssueRow) (key : Key) (number : ℕ) (version : Version) → IsReasonFor P t c issue key number version → number ≡ next_number (trade_at t key)
next-of-reason P t c issue key number version (inl cancel) = live-next t key number cancel.last cancel.is_live
next-of-reason P t c issue key number version (inr (inl entered, prices)) = new-next t key number entered.number_is entered.is_new
next-of-reason P t c issue key number version (inr (inr corrected, prices)) = live-next t key number corrected.last corrected.is_live

abbrev confirmed-put : (t : Tables) (issue : IssueRow) (key : Key) (number : ℕ) (version : Version) (reply : Reply) → number ≡ next_number (trade_at t key) → issue_of t.issues version ≡ Some issue
    → reply ≡ Confirmed issue key number version → IsConfirmed (with_version key version t) key number reply
confirmed-put t issue key number version reply next there told = record {
  issue = issue;
  version = version;
  version_kept = version-put t key number version next;
  issue_kept = there;
  confirmed = told;
}

version-kept : (P : Rules) (t : Tables) (c : Command) (issue : IssueRow) (key : Key) (number : ℕ) (version : Version) (reply : Reply) → reply ≡ Confirmed issue key number version
    → IsReasonFor P t c issue key number version → IsKept (with_version key version t) c reply
version-kept P t c issue key number version reply told (inl cancel) =
    let there = subst (λ v. issue_of t.issues v ≡ Some issue) (sym cancel.version_is) cancel.issue_is in
    let next = next-of-reason P t c issue key number version (inl cancel) in
    subst (λ c. IsKept (with_version key version t) c reply) (sym cancel.command)
    (confirmed-put t issue key number version reply next there told, ap (λ v. v.act) cancel.version_is)
version-kept P t c issue key number version reply told (inr (inl entered, prices)) =
    let next = sym entered.number_is ∙ next-of-reason P t c issue key number version (inr (inl entered, prices)) in
    let first = told ∙ ap (λ n. Confirmed issue key n version) entered.number_is in
    subst (λ c. IsKept (with_version key version t) c reply) (sym entered.command) (
      confirmed-put t issue key 1 version reply next (terms-found t.issues version.terms.asked.cusip entered.chosen (version.issue_number, issue) entered.issue_is).0 first,
      refl,
      (terms-found t.issues version.terms.asked.cusip entered.chosen (version.issue_number, issue) entered.issue_is).1,
    )
version-kept P t c issue key number version reply told (inr (inr corrected, prices)) =
    let next = next-of-reason P t c issue key number version (inr (inr corrected, prices)) in
    subst (λ c. IsKept (with_version key version t) c reply) (sym corrected.command) (
      confirmed-put t issue key number version reply next (terms-found t.issues version.terms.asked.cusip corrected.chosen (version.issue_number, issue) corrected.issue_is).0 told,
      refl,
      (terms-found t.issues version.terms.asked.cusip corrected.chosen (version.issue_number, issue) corrected.issue_is).1,
      corrected.act_is,
    )

accepted-kept : (P : Rules) (t : Tables) (c : Command) (reply : Reply) (entry : Option Entry) → AsksToKeep c → IsAccepted reply → IsReasoned P t c reply entry → IsKept (after entry t) c reply
accepted-kept P t c reply None asks accepted why = why asks accepted
accepted-kept P t c reply (Some (NewIssue issue)) asks accepted (inl (new, told)) =
    subst (λ c. IsKept (after (Some (NewIssue issue)) t) c reply) (sym new.command)
    (issue, new.passed, terms-put t.issues issue 1 (sym (ap next_number new.is_new)), told)
accepted-kept P t c reply (Some (NewIssue issue)) asks accepted (inr (number, amended, told)) =
    subst (λ c. IsKept (after (Some (NewIssue issue)) t) c reply) (sym amended.command)
    (issue, amended.passed, terms-put t.issues issue number (amended.number_is ∙ last-next _ amended.last amended.last_is), told)
accepted-kept P t c reply (Some (NewVersion key version)) asks accepted why = version-kept P t c why.0 key why.1 version reply why.2 why.3

-- ---- and stays
abbrev confirmed-stays : (old new : Tables) (key : Key) (number : ℕ) (reply : Reply) → Keeps old new → (c : IsConfirmed old key number reply) → IsConfirmed new key number reply
confirmed-stays old new key number reply keeps c = record {
  issue = c.issue;
  version = c.version;
  version_kept = keeps.versions key number c.version c.version_kept;
  issue_kept = keeps.issues c.version.terms.asked.cusip c.version.issue_number c.issue c.issue_kept;
  confirmed = c.confirmed;
}

kept-stays : (old new : Tables) (c : Command) (reply : Reply) → Keeps old new → IsKept old c reply → IsKept new c reply
kept-stays old new (command.AddIssue row) reply keeps kept = (kept.0, kept.1, keeps.issues kept.0.cusip 1 kept.0 kept.2, kept.3)
kept-stays old new (command.Amend number row) reply keeps kept = (kept.0, kept.1, keeps.issues kept.0.cusip number kept.0 kept.2, kept.3)
kept-stays old new (command.Enter key terms chosen) reply keeps kept = (confirmed-stays old new key 1 reply keeps kept.0, kept.1, kept.2)
kept-stays old new (command.Correct key number terms chosen) reply keeps kept = (confirmed-stays old new key number reply keeps kept.0, kept.1, kept.2, kept.3)
kept-stays old new (command.Cancel key number) reply keeps kept = (confirmed-stays old new key number reply keeps kept.0, kept.1)
kept-stays old new (command.Confirm key) reply keeps kept = absurd kept
kept-stays old new (command.Quote asked shown) reply keeps kept = absurd kept
kept-stays old new (command.List desk from) reply keeps kept = absurd kept

-- ---- what is kept is answered again
again-confirmed : (t : Tables) (key : Key) (number : ℕ) (reply : Reply) (c : IsConfirmed t key number reply) → confirmed t.issues key number c.version ≡ Answer reply
again-confirmed t key number reply c = rw c.issue_kept (ap (λ r. Answer r) (sym c.confirmed))

again-sent : (t : Tables) (key : Key) (number : ℕ) (terms : Terms) (chosen : Option ℕ) (reply : Reply) (c : IsConfirmed t key number reply) → c.version.terms ≡ terms → is_chosen chosen c.version.issue_number ≡ true → sent_again t.issues key number terms chosen c.version ≡ Answer reply
again-sent t key number terms chosen reply c equal names = rw ((terms_decides c.version.terms terms).1 equal, names) (again-confirmed t key number reply c)

-- if a version is kept, there is a last one
pub has-last : {V : Type 0} (trade : Option (History V)) (number : ℕ) (v : V) → option_and_then (λ history. version_in history number) trade ≡ Some v
    → (last : ℕ × V) × (option_map (λ history. (count history, history.last)) trade ≡ Some last)
has-last None number v kept = absurd (let never : None ≡ Some v = kept in cc)
has-last (Some history) number v kept = ((count history, history.last), refl)

pub answered-again : (limit : ℕ) (t : Tables) (c : Command) (reply : Reply) → IsKept t c reply → plan_of limit t.issues (own_of (desk_of c) t) c ≡ Answer reply
answered-again limit t (command.AddIssue row) reply kept =
    rw (kept.1, kept.2, (row_decides kept.0 kept.0).1 refl) (ap (λ r. Answer r) (sym kept.3))
answered-again limit t (command.Amend number row) reply kept =
    let last = has-last (get t.issues kept.0.cusip) number kept.0 kept.2 in
    rw (kept.1, last.1, kept.2, (row_decides kept.0 kept.0).1 refl) (ap (λ r. Answer r) (sym kept.3))
answered-again limit t (command.Enter key terms chosen) reply kept =
    rw kept.0.version_kept (again-sent t key 1 terms chosen reply kept.0 kept.1 kept.2)
answered-again limit t (command.Correct key number terms chosen) reply kept =
    let last = has-last (trade_at t key) number kept.0.version kept.0.version_kept in
    rw (last.1, kept.0.version_kept, ap is_corrected kept.3) (again-sent t key number terms chosen reply kept.0 kept.1 kept.2)
answered-again limit t (command.Cancel key number) reply kept =
    let last = has-last (trade_at t key) number kept.0.version kept.0.version_kept in
    rw (last.1, kept.0.version_kept, ap is_canceled kept.1) (again-confirmed t key number reply kept.0)
answered-again limit t (command.Confirm key) reply kept = absurd kept
answered-again limit t (command.Quote asked shown) reply kept = absurd kept
answered-again limit t (command.List desk from) reply kept = absurd kept

pub act-once : (P : Rules) → CommandsActOnce P
act-once P old new c first again entry other commands replies asks accepted step run repeated =
    let kept = accepted-kept P old c first entry asks accepted (step-reason P old c first entry step) in
    let stays = kept-stays (after entry old) new c first (runs-keep P (after entry old) new commands replies run) kept in
    let is : record { reply = again; entry = other } ≡ answered first =
    subst (λ plan. IsOutcome P.prices plan (record { reply = again; entry = other })) (answered-again P.limit new c first stays) repeated in
    (ap (λ (o : Outcome). o.reply) is, ap (λ (o : Outcome). o.entry) is)

pub confirmations-stay : (P : Rules) → ConfirmationsStay P
confirmations-stay P old new commands replies key number reply run confirmed =
    confirmed-stays old new key number reply (runs-keep P old new commands replies run) confirmed
