-- Why a plan is what it is.
use Rattle.std.proofs.Common.{◌≡◌, ◌⊎◌, inl, inr, ℕ, ◌+◌, ◌==◌, Bool, true, false, List, [], ◌∷◌, ◌++◌, refl, ap, ◌∙◌, Option, Some, None, Result, Ok, Err}
use Rattle.std.specs.Prelude.{nat_le, ◌&&◌, if◌then◌else◌, slice_get}
use Rattle.std.specs.Option.{option_map_or, option_and_then}
use Rattle.std.proofs.lemmas.Bool.{eqb-true}
use Rattle.muni_terms.specs.Check.{checked}
use Rattle.muni_terms.specs.Row.{row_eq}
use Rattle.muni_terms.specs.declared.row.IssueRow.{IssueRow}
use Rattle.muni_terms.specs.declared.row.TermsFault.{TermsFault}
use Rattle.muni_terms.proofs.RowLemmas.{row_decides}
use Rattle.muni_msg.specs.Asked.{terms_eq}
use Rattle.muni_msg.specs.declared.asked.Terms.{Terms}
use Rattle.muni_msg.specs.declared.command.Command.{Command}
use Rattle.muni_msg.specs.declared.command.Command.TheVariants as command
use Rattle.muni_msg.specs.declared.command.Key.{Key}
use Rattle.muni_msg.specs.declared.command.Reply.{Reply}
use Rattle.muni_msg.specs.declared.command.Reply.TheVariants.{Confirmed}
use Rattle.muni_msg.specs.declared.refusal.Refusal.{Refusal}
use Rattle.muni_msg.specs.declared.version.Act.{Act}
use Rattle.muni_msg.specs.declared.version.Act.TheVariants.{Entered, Corrected, Canceled}
use Rattle.muni_msg.specs.declared.version.Version.{Version}
use Rattle.muni_msg.proofs.AskedLemmas.{terms_decides}
use Rattle.muni_keep.specs.History.{History, version_in}
use Rattle.muni_keep.specs.Tables.{Tables, issue_at, issue_numbered, last_issue, version_at, last_at}
use Rattle.muni_keep.specs.Trades.{own}
use Rattle.muni_book_step.specs.declared.plan.Plan.{Plan}
use Rattle.muni_book_step.specs.declared.plan.Plan.TheVariants.{Answer, Quote, KeepIssue, KeepAmendment, KeepVersion, KeepPriced}
use Rattle.muni_book_step.specs.Accepted.{AsksToKeep, IsAccepted, IsConfirmed, IsKept}
use Rattle.muni_book_step.specs.Plan.{issue_of, terms_for, is_chosen, for_issue, for_last, for_terms, for_trade, unless, sent_again, issue_plan, kept_issue_plan, amendment_plan, kept_amendment_plan, next_amendment_plan, amendment_refusal, is_full, is_corrected, is_canceled, number_refusal, correction_refusal, cancel_refusal, confirmed, plan_of}
use Rattle.muni_book_step.specs.Reasons.{IsNewIssue, IsAmendment, IsNewTrade, IsCorrection, IsCancel}
use Rattle.muni_book_step.specs.Step.{desk_of, own_of}

-- an answer that accepts a command says what is kept for it
abbrev pub HasReason : ℕ → Tables → Command → Plan → Type 0
HasReason limit t c (Answer reply) = AsksToKeep c → IsAccepted reply → IsKept t c reply
HasReason limit t c (Quote issue asked shown) = c ≡ command.Quote asked shown
HasReason limit t c (KeepIssue issue) = IsNewIssue t c issue
HasReason limit t c (KeepAmendment number issue) = IsAmendment t c number issue
HasReason limit t c (KeepVersion issue key number version) = IsCancel t c issue key number version
HasReason limit t c (KeepPriced issue issue_number key number act terms) =
    IsNewTrade limit t c issue issue_number key number act terms ⊎ IsCorrection t c issue issue_number key number act terms

-- ---- by the forms of plans
of-issue : (limit : ℕ) (t : Tables) (c : Command) (planned : IssueRow → Plan) (o : Option IssueRow) → ((issue : IssueRow) → o ≡ Some issue → HasReason limit t c (planned issue)) → HasReason limit t c (for_issue planned o)
of-issue limit t c planned None f = λ asks accepted. absurd accepted
of-issue limit t c planned (Some issue) f = f issue refl

of-last : (limit : ℕ) (t : Tables) (c : Command) (planned : ℕ × IssueRow → Plan) (o : Option (ℕ × IssueRow)) → ((last : ℕ × IssueRow) → o ≡ Some last → HasReason limit t c (planned last)) → HasReason limit t c (for_last planned o)
of-last limit t c planned None f = λ asks accepted. absurd accepted
of-last limit t c planned (Some last) f = f last refl

of-terms : (limit : ℕ) (t : Tables) (c : Command) (planned : ℕ × IssueRow → Plan) (o : Result (ℕ × IssueRow) Refusal) → ((found : ℕ × IssueRow) → o ≡ Ok found → HasReason limit t c (planned found)) → HasReason limit t c (for_terms planned o)
of-terms limit t c planned (Ok found) f = f found refl
of-terms limit t c planned (Err why) f = λ asks accepted. absurd accepted

of-trade : (limit : ℕ) (t : Tables) (c : Command) (planned : ℕ × Version → Plan) (o : Option (ℕ × Version)) → ((last : ℕ × Version) → o ≡ Some last → HasReason limit t c (planned last)) → HasReason limit t c (for_trade planned o)
of-trade limit t c planned None f = λ asks accepted. absurd accepted
of-trade limit t c planned (Some last) f = f last refl

of-unless : (limit : ℕ) (t : Tables) (c : Command) (planned : Plan) (o : Option Refusal) → (o ≡ None → HasReason limit t c planned) → HasReason limit t c (unless o planned)
of-unless limit t c planned None f = f refl
of-unless limit t c planned (Some why) f = λ asks accepted. absurd accepted

of-kept : {A : Type 0} (limit : ℕ) (t : Tables) (c : Command) (f : A → Plan) (d : Plan) (o : Option A) → ((x : A) → o ≡ Some x → HasReason limit t c (f x)) → (o ≡ None → HasReason limit t c d) → HasReason limit t c (option_map_or f o d)
of-kept limit t c f d None some none = none refl
of-kept limit t c f d (Some x) some none = some x refl

of-either : (limit : ℕ) (t : Tables) (c : Command) (b : Bool) (one other : Plan) → (b ≡ true → HasReason limit t c one) → (b ≡ false → HasReason limit t c other) → HasReason limit t c (if b then one else other)
of-either limit t c true one other h k = h refl
of-either limit t c false one other h k = k refl

-- ---- kept versions
of-confirmed : (limit : ℕ) (t : Tables) (c : Command) (key : Key) (number : ℕ) (version : Version) → version_at t key number ≡ Some version
    → ((confirmed : (reply : Reply) × IsConfirmed t key number reply) → confirmed.1.version ≡ version → AsksToKeep c → IsKept t c confirmed.0)
    → HasReason limit t c (confirmed t.issues key number version)
of-confirmed limit t c key number version kept f =
    of-issue limit t c _ (issue_of t.issues version) (λ issue there. λ asks accepted.
    f (Confirmed issue key number version, record { issue = issue; version = version; version_kept = kept; issue_kept = there; confirmed = refl }) refl asks)

pub both-true : (a b : Bool) → (a && b) ≡ true → (a ≡ true) × (b ≡ true)
both-true true b is = (refl, is)
both-true false b is = absurd (cc)

of-sent_again : (limit : ℕ) (t : Tables) (c : Command) (key : Key) (number : ℕ) (terms : Terms) (chosen : Option ℕ) (version : Version) → version_at t key number ≡ Some version
    → ((confirmed : (reply : Reply) × IsConfirmed t key number reply) → confirmed.1.version ≡ version → version.terms ≡ terms → is_chosen chosen version.issue_number ≡ true → AsksToKeep c → IsKept t c confirmed.0)
    → HasReason limit t c (sent_again t.issues key number terms chosen version)
of-sent_again limit t c key number terms chosen version kept f =
    of-either limit t c (terms_eq version.terms terms && is_chosen chosen version.issue_number) _ _
    (λ same. let each = both-true (terms_eq version.terms terms) (is_chosen chosen version.issue_number) same in
    of-confirmed limit t c key number version kept (λ confirmed is asks. f confirmed is ((terms_decides version.terms terms).0 each.0) each.1 asks))
    (λ differ. λ asks accepted. absurd accepted)

-- ---- issues
-- the first one is there if any is
has-first : {A : Type 0} (earlier : List A) (last : A) → slice_get (earlier ++ last ∷ []) 0 ≡ None → ⊥
has-first [] last none = absurd (let never : Some last ≡ None = none in cc)
has-first (first ∷ earlier) last none = absurd (let never : Some first ≡ None = none in cc)

pub none-kept : {V : Type 0} (found : Option (History V)) → option_and_then (λ history. version_in history 1) found ≡ None → found ≡ None
none-kept None none = refl
none-kept (Some history) none = absurd (has-first history.earlier history.last none)

of-issue_kept : (limit : ℕ) (t : Tables) (row issue other : IssueRow) → checked row ≡ Ok issue → issue_numbered t issue.cusip 1 ≡ Some other → HasReason limit t (command.AddIssue row) (kept_issue_plan issue other)
of-issue_kept limit t row issue other passed kept =
    of-either limit t (command.AddIssue row) (row_eq other issue) _ _
    (λ equal. λ asks accepted. (issue, passed, kept ∙ ap (λ x. Some x) ((row_decides other issue).0 equal), refl))
    (λ differ. λ asks accepted. absurd accepted)

of-row : (limit : ℕ) (t : Tables) (row : IssueRow) (c : Result IssueRow TermsFault) → checked row ≡ c → HasReason limit t (command.AddIssue row) (issue_plan t.issues c)
of-row limit t row (Ok issue) passed =
    of-kept limit t (command.AddIssue row) (kept_issue_plan issue) (KeepIssue issue) (issue_numbered t issue.cusip 1)
    (λ other kept. of-issue_kept limit t row issue other passed kept)
    (λ none. record { row = row; command = refl; passed = passed; is_new = none-kept _ none })
of-row limit t row (Err fault) passed = λ asks accepted. absurd accepted

of-terms_kept : (limit : ℕ) (t : Tables) (number : ℕ) (row issue other : IssueRow) → checked row ≡ Ok issue → issue_numbered t issue.cusip number ≡ Some other → HasReason limit t (command.Amend number row) (kept_amendment_plan number issue other)
of-terms_kept limit t number row issue other passed kept =
    of-either limit t (command.Amend number row) (row_eq other issue) _ _
    (λ equal. λ asks accepted. (issue, passed, kept ∙ ap (λ x. Some x) ((row_decides other issue).0 equal), refl))
    (λ differ. λ asks accepted. absurd accepted)

-- ---- trades
pub is-corrected : (act : Act) → is_corrected act ≡ true → act ≡ Corrected
is-corrected Entered e = absurd (cc)
is-corrected Corrected e = refl
is-corrected Canceled e = absurd (cc)

pub is-canceled : (act : Act) → is_canceled act ≡ true → act ≡ Canceled
is-canceled Entered e = absurd (cc)
is-canceled Corrected e = absurd (cc)
is-canceled Canceled e = refl

none-if : {A : Type 0} (b : Bool) (x : A) → (if b then None else Some x) ≡ None → b ≡ true
none-if true x none = refl
none-if false x none = absurd (let never : Some x ≡ None = none in cc)

pub is-next : (last number : ℕ) → number_refusal last number ≡ None → number ≡ last + 1
is-next last number none = eqb-true number (last + 1) (none-if (number == last + 1) _ none)

pub none-of : {A : Type 0} (b : Bool) (x : A) (o : Option A) → (if b then Some x else o) ≡ None → (b ≡ false) × (o ≡ None)
none-of true x o none = absurd (let never : Some x ≡ None = none in cc)
none-of false x o none = (refl, none)

of-amendment : (limit : ℕ) (t : Tables) (number : ℕ) (row : IssueRow) (c : Result IssueRow TermsFault) → checked row ≡ c → HasReason limit t (command.Amend number row) (amendment_plan t.issues number c)
of-amendment limit t number row (Ok issue) passed =
    let c = command.Amend number row in
    of-last limit t c _ (last_issue t issue.cusip) (λ last is.
    of-kept limit t c (kept_amendment_plan number issue) (next_amendment_plan number issue last) (issue_numbered t issue.cusip number)
    (λ other kept. of-terms_kept limit t number row issue other passed kept)
    (λ none. of-unless limit t c _ (amendment_refusal last.0 number) (λ taken.
    let room = none-of (nat_le 99 last.0) _ _ taken in
    record {
      row = row;
      command = refl;
      passed = passed;
      last = last;
      last_is = is;
      number_is = is-next last.0 number room.1;
      room = room.0;
    })))
of-amendment limit t number row (Err fault) passed = λ asks accepted. absurd accepted

of-entry : (limit : ℕ) (t : Tables) (key : Key) (terms : Terms) (chosen : Option ℕ) → HasReason limit t (command.Enter key terms chosen) (plan_of limit t.issues (own key.desk t.desks) (command.Enter key terms chosen))
of-entry limit t key terms chosen =
    let c = command.Enter key terms chosen in
    of-kept limit t c _ _ (version_at t key 1)
    (λ version kept. of-sent_again limit t c key 1 terms chosen version kept (λ confirmed is equal names asks. (confirmed.1, ap (λ v. v.terms) is ∙ equal, ap (λ v. is_chosen chosen v.issue_number) is ∙ names)))
    (λ none. of-terms limit t c _ (terms_for t.issues terms.asked.cusip chosen) (λ found there.
    of-either limit t c (is_full limit (own key.desk t.desks)) _ _ (λ full. λ asks accepted. absurd accepted)
    (λ room. inl (record {
      chosen = chosen;
      command = refl;
      number_is = refl;
      act_is = refl;
      issue_is = there;
      is_new = none;
      room = room;
    }))))

of-correction : (limit : ℕ) (t : Tables) (key : Key) (number : ℕ) (terms : Terms) (chosen : Option ℕ) → HasReason limit t (command.Correct key number terms chosen) (plan_of limit t.issues (own key.desk t.desks) (command.Correct key number terms chosen))
of-correction limit t key number terms chosen =
    let c = command.Correct key number terms chosen in
    of-trade limit t c _ (last_at t key) (λ last is. of-kept limit t c _ _ (version_at t key number)
    (λ version kept. of-either limit t c (is_corrected version.act) _ _
    (λ corrected. of-sent_again limit t c key number terms chosen version kept (λ confirmed same equal names asks. (
      confirmed.1,
      ap (λ v. v.terms) same ∙ equal,
      ap (λ v. is_chosen chosen v.issue_number) same ∙ names,
      ap (λ v. v.act) same ∙ is-corrected version.act corrected,
    )))
    (λ other. λ asks accepted. absurd accepted))
    (λ none. of-unless limit t c _ (correction_refusal last number) (λ taken.
    let live = none-of (is_canceled last.1.act) _ _ taken in
    let room = none-of (nat_le 99 last.0) _ _ live.1 in
    of-terms limit t c _ (terms_for t.issues terms.asked.cusip chosen) (λ found there.
    inr (record {
      chosen = chosen;
      command = refl;
      act_is = refl;
      issue_is = there;
      last = last;
      is_live = record { last_is = is; live = live.0; number_is = is-next last.0 number room.1 };
      room = room.0;
    })))))

of-cancel : (limit : ℕ) (t : Tables) (key : Key) (number : ℕ) → HasReason limit t (command.Cancel key number) (plan_of limit t.issues (own key.desk t.desks) (command.Cancel key number))
of-cancel limit t key number =
    let c = command.Cancel key number in
    of-trade limit t c _ (last_at t key) (λ last is. of-kept limit t c _ _ (version_at t key number)
    (λ version kept. of-either limit t c (is_canceled version.act) _ _
    (λ canceled. of-confirmed limit t c key number version kept (λ confirmed same asks. (confirmed.1, ap (λ v. v.act) same ∙ is-canceled version.act canceled)))
    (λ other. λ asks accepted. absurd accepted))
    (λ none. of-unless limit t c _ (cancel_refusal last number) (λ taken.
    let live = none-of (is_canceled last.1.act) _ _ taken in
    of-issue limit t c _ (issue_of t.issues last.1) (λ issue there.
    record {
      command = refl;
      last = last;
      is_live = record { last_is = is; live = live.0; number_is = is-next last.0 number live.1 };
      issue_is = there;
      version_is = refl;
    }))))

of-confirmation : (limit : ℕ) (t : Tables) (key : Key) → HasReason limit t (command.Confirm key) (plan_of limit t.issues (own key.desk t.desks) (command.Confirm key))
of-confirmation limit t key =
    let c = command.Confirm key in
    of-trade limit t c _ (last_at t key) (λ last is. of-issue limit t c _ (issue_of t.issues last.1) (λ issue there. λ asks accepted. absurd asks))

-- what is to be done for a command has its reason
pub reason-of : (limit : ℕ) (t : Tables) (c : Command) → HasReason limit t c (plan_of limit t.issues (own_of (desk_of c) t) c)
reason-of limit t (command.AddIssue row) = of-row limit t row (checked row) refl
reason-of limit t (command.Amend number row) = of-amendment limit t number row (checked row) refl
reason-of limit t (command.Enter key terms chosen) = of-entry limit t key terms chosen
reason-of limit t (command.Correct key number terms chosen) = of-correction limit t key number terms chosen
reason-of limit t (command.Cancel key number) = of-cancel limit t key number
reason-of limit t (command.Confirm key) = of-confirmation limit t key
reason-of limit t (command.Quote asked shown) = of-issue limit t (command.Quote asked shown) _ (issue_at t asked.cusip) (λ issue there. refl)
reason-of limit t (command.List desk after) = λ asks accepted. absurd asks
