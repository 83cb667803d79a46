-- Why a command is refused, and what is confirmed.
use Rattle.std.proofs.Common.{◌≡◌, ◌≢◌, ◌⊎◌, inl, inr, ℕ, ◌+◌, ◌==◌, ◌≤◌, ◌<◌, arith, Bool, true, false, refl, sym, ap, subst, ◌∙◌, Option, Some, None, Result, Ok, Err, List}
use Rattle.std.specs.Prelude.{nat_le, ◌&&◌, if◌then◌else◌}
use Rattle.std.specs.FinMap.{get, len}
use Rattle.std.specs.Option.{option_map, option_map_or}
use Rattle.std.proofs.lemmas.Bool.Decides.{nat_tests}
use Rattle.std.proofs.lemmas.Option.{same_Some}
use Rattle.muni_terms.specs.Check.{checked}
use Rattle.muni_terms.specs.Row.{row_eq}
use Rattle.muni_terms.specs.declared.row.IssueRow.{IssueRow}
use Rattle.muni_terms.specs.declared.row.TermsFault.{TermsFault}
use Rattle.muni_terms.proofs.RowLemmas.{row_decides}
use Rattle.muni_msg.specs.Asked.{terms_eq}
use Rattle.muni_msg.specs.declared.asked.Terms.{Terms}
use Rattle.muni_msg.specs.declared.command.Command.{Command}
use Rattle.muni_msg.specs.declared.command.Command.TheVariants as command
use Rattle.muni_msg.specs.declared.command.Key.{Key}
use Rattle.muni_msg.specs.declared.command.Reply.{Reply}
use Rattle.muni_msg.specs.declared.command.Reply.TheVariants.{Added, Amended, Quoted, Listed, Confirmed, Refused}
use Rattle.muni_msg.specs.declared.refusal.Refusal.{Refusal}
use Rattle.muni_msg.specs.declared.refusal.Refusal.TheVariants as refusal
use Rattle.muni_msg.specs.declared.version.Act.{Act}
use Rattle.muni_msg.specs.declared.version.Act.TheVariants.{Corrected, Canceled}
use Rattle.muni_msg.specs.declared.version.Version.{Version}
use Rattle.muni_msg.proofs.AskedLemmas.{terms_decides}
use Rattle.muni_keep.specs.History.{History, count}
use Rattle.muni_keep.specs.Tables.{Tables, issue_at, issue_numbered, last_issue, version_at, last_at}
use Rattle.muni_keep.specs.Trades.{own}
use Rattle.muni_book_step.specs.declared.plan.Plan.{Plan}
use Rattle.muni_book_step.specs.declared.plan.Plan.TheVariants.{Answer, Quote, KeepIssue, KeepAmendment, KeepVersion, KeepPriced}
use Rattle.muni_book_step.specs.Accepted.{AsksToKeep}
use Rattle.muni_book_step.specs.Plan.{issue_of, wrong_number, chosen_terms, terms_by, terms_for, is_chosen, for_issue, for_last, for_terms, for_trade, unless, sent_again, issue_plan, kept_issue_plan, amendment_plan, kept_amendment_plan, next_amendment_plan, amendment_refusal, is_full, is_corrected, is_canceled, number_refusal, correction_refusal, cancel_refusal, confirmed, plan_of}
use Rattle.muni_book_step.specs.Step.{desk_of, own_of}
use Rattle.muni_book_step.proofs.PlanLemmas.{both-true, is-corrected, is-canceled, is-next, none-of}
use Rattle.muni_book.specs.Causes.{AsksForTrade, AsksForVersion, IsAsked, IsNewChange, IsNewAmendment, HasRoom, NeedsIssue, NeedsTermsOf, chosen_of, HasCause}
use Rattle.muni_book.proofs.PutLemmas.{last-kept}

-- What an answer has to be: a refusal has its cause, and what is confirmed is kept.
abbrev pub IsAnswerFor : (limit : ℕ) → Tables → Command → Reply → Type 0
IsAnswerFor limit t c (Added cusip) = Unit {0}
IsAnswerFor limit t c (Amended cusip number) = Unit {0}
IsAnswerFor limit t c (Quoted issue asked figures shown) = ⊥
IsAnswerFor limit t c (Listed lines) = AsksToKeep c → ⊥
IsAnswerFor limit t c (Confirmed issue key number version) =
    (version_at t key number ≡ Some version) × (issue_of t.issues version ≡ Some issue)
IsAnswerFor limit t c (Refused why) = HasCause limit t c why

-- and a plan: what is quoted is asked of an issue that is kept
abbrev pub IsFor : (limit : ℕ) → Tables → Command → Plan → Type 0
IsFor limit t c (Answer reply) = IsAnswerFor limit t c reply
IsFor limit t c (Quote issue asked shown) = issue_at t asked.cusip ≡ Some issue
IsFor limit t c (KeepIssue issue) = Unit {0}
IsFor limit t c (KeepAmendment number issue) = Unit {0}
IsFor limit t c (KeepVersion issue key number version) = Unit {0}
IsFor limit t c (KeepPriced issue issue_number key number act terms) = Unit {0}

-- ---- by the forms of plans
of-issue : (limit : ℕ) (t : Tables) (c : Command) (planned : IssueRow → Plan) (cusip : List ℕ) (o : Option IssueRow) → issue_at t cusip ≡ o → NeedsIssue t c cusip → ((issue : IssueRow) → issue_at t cusip ≡ Some issue → IsFor limit t c (planned issue)) → IsFor limit t c (for_issue planned o)
of-issue limit t c planned cusip None is needs f = inr (cusip, needs, is)
of-issue limit t c planned cusip (Some issue) is needs f = f issue is

of-version : (limit : ℕ) (t : Tables) (c : Command) (planned : IssueRow → Plan) (version : Version) (o : Option IssueRow) → issue_of t.issues version ≡ o → NeedsTermsOf t c version → ((issue : IssueRow) → issue_of t.issues version ≡ Some issue → IsFor limit t c (planned issue)) → IsFor limit t c (for_issue planned o)
of-version limit t c planned version None is needs f = inl (version, needs, is)
of-version limit t c planned version (Some issue) is needs f = f issue is

-- an issue has last terms if it has some with their number
none-last : {V : Type 0} (history : Option (History V)) → option_map {U = ℕ × V} (λ history. (count history, history.last)) history ≡ None → option_map (λ history. history.last) history ≡ None
none-last None none = refl
none-last {V} (Some history) none = absurd (let never : Some (count history, history.last) ≡ None = none in cc)

of-last : (limit : ℕ) (t : Tables) (c : Command) (planned : ℕ × IssueRow → Plan) (cusip : List ℕ) (o : Option (ℕ × IssueRow)) → last_issue t cusip ≡ o → NeedsIssue t c cusip → ((last : ℕ × IssueRow) → last_issue t cusip ≡ Some last → IsFor limit t c (planned last)) → IsFor limit t c (for_last planned o)
of-last limit t c planned cusip None is needs f = inr (cusip, needs, none-last (get t.issues cusip) is)
of-last limit t c planned cusip (Some last) is needs f = f last is

of-numbered : (limit : ℕ) (t : Tables) (c : Command) (planned : ℕ × IssueRow → Plan) (cusip : List ℕ) (number : ℕ) (last : ℕ × IssueRow) (o : Option IssueRow) → NeedsIssue t c cusip → chosen_of c ≡ Some number → last_issue t cusip ≡ Some last → issue_numbered t cusip number ≡ o
    → ((found : ℕ × IssueRow) → chosen_terms last.0 number o ≡ Ok found → IsFor limit t c (planned found)) → IsFor limit t c (for_terms planned (chosen_terms last.0 number o))
of-numbered limit t c planned cusip number last None needs chosen last_is is f = inr (inr (
  last,
  record {
    cusip = cusip;
    needs = needs;
    number = number;
    chosen = chosen;
    last_is = last_is;
    none = is;
  },
  refl,
))
of-numbered limit t c planned cusip number last (Some issue) needs chosen last_is is f = f (number, issue) refl

of-chosen : (limit : ℕ) (t : Tables) (c : Command) (planned : ℕ × IssueRow → Plan) (cusip : List ℕ) (chosen : Option ℕ) (o : Option (ℕ × IssueRow)) → NeedsIssue t c cusip → chosen_of c ≡ chosen → last_issue t cusip ≡ o
    → ((found : ℕ × IssueRow) → terms_by t.issues cusip chosen o ≡ Ok found → IsFor limit t c (planned found)) → IsFor limit t c (for_terms planned (terms_by t.issues cusip chosen o))
of-chosen limit t c planned cusip chosen None needs names is f = inr (cusip, needs, none-last (get t.issues cusip) is)
of-chosen limit t c planned cusip None (Some last) needs names is f = f last refl
of-chosen limit t c planned cusip (Some number) (Some last) needs names is f =
    of-numbered limit t c planned cusip number last (issue_numbered t cusip number) needs names is refl f

of-terms : (limit : ℕ) (t : Tables) (c : Command) (planned : ℕ × IssueRow → Plan) (cusip : List ℕ) (chosen : Option ℕ) → NeedsIssue t c cusip → chosen_of c ≡ chosen
    → ((found : ℕ × IssueRow) → terms_for t.issues cusip chosen ≡ Ok found → IsFor limit t c (planned found)) → IsFor limit t c (for_terms planned (terms_for t.issues cusip chosen))
of-terms limit t c planned cusip chosen needs names f = of-chosen limit t c planned cusip chosen (last_issue t cusip) needs names refl f

of-trade : (limit : ℕ) (t : Tables) (c : Command) (planned : ℕ × Version → Plan) (key : Key) (o : Option (ℕ × Version)) → last_at t key ≡ o → AsksForTrade c key → ((last : ℕ × Version) → last_at t key ≡ Some last → IsFor limit t c (planned last)) → IsFor limit t c (for_trade planned o)
of-trade limit t c planned key None is asks f = (key, asks, is)
of-trade limit t c planned key (Some last) is asks f = f last is

of-unless : (limit : ℕ) (t : Tables) (c : Command) (planned : Plan) (o : Option Refusal) → ((why : Refusal) → o ≡ Some why → HasCause limit t c why) → (o ≡ None → IsFor limit t c planned) → IsFor limit t c (unless o planned)
of-unless limit t c planned None cause f = f refl
of-unless limit t c planned (Some why) cause f = cause why refl

of-kept : {A : Type 0} (limit : ℕ) (t : Tables) (c : Command) (f : A → Plan) (d : Plan) (o : Option A) → ((x : A) → o ≡ Some x → IsFor limit t c (f x)) → (o ≡ None → IsFor limit t c d) → IsFor limit t c (option_map_or f o d)
of-kept limit t c f d None some none = none refl
of-kept limit t c f d (Some x) some none = some x refl

of-either : (limit : ℕ) (t : Tables) (c : Command) (b : Bool) (one other : Plan) → (b ≡ true → IsFor limit t c one) → (b ≡ false → IsFor limit t c other) → IsFor limit t c (if b then one else other)
of-either limit t c true one other h k = h refl
of-either limit t c false one other h k = k refl

clash : (b : Bool) → b ≡ true → b ≡ false → ⊥
clash b is not = let never : true ≡ false = sym is ∙ not in cc

-- ---- kept versions
of-confirmed : (limit : ℕ) (t : Tables) (c : Command) (key : Key) (number : ℕ) (version : Version) → version_at t key number ≡ Some version → NeedsTermsOf t c version → IsFor limit t c (confirmed t.issues key number version)
of-confirmed limit t c key number version kept needs = of-version limit t c _ version (issue_of t.issues version) refl needs (λ issue there. (kept, there))

of-again : (limit : ℕ) (t : Tables) (c : Command) (key : Key) (number : ℕ) (version : Version) → AsksForVersion c key number → version_at t key number ≡ Some version → IsAsked c version → IsFor limit t c (confirmed t.issues key number version)
of-again limit t c key number version asks kept is =
    of-confirmed limit t c key number version kept
    (inl (record { key = key; number = number; asks = asks; version_kept = kept; is_asked = is }))

and-true : (a b : Bool) → a ≡ true → b ≡ true → (a && b) ≡ true
and-true a b one other = rw (one, other) refl

of-sent_again : (limit : ℕ) (t : Tables) (c : Command) (key : Key) (number : ℕ) (terms : Terms) (chosen : Option ℕ) (version : Version) → AsksForVersion c key number → version_at t key number ≡ Some version
    → (version.terms ≡ terms → is_chosen chosen version.issue_number ≡ true → IsAsked c version) → (IsAsked c version → (version.terms ≡ terms) × (is_chosen chosen version.issue_number ≡ true))
    → IsFor limit t c (sent_again t.issues key number terms chosen version)
of-sent_again limit t c key number terms chosen version asks kept is only =
    let equal = terms_eq version.terms terms in
    let names = is_chosen chosen version.issue_number in
    of-either limit t c (equal && names) _ _
    (λ same. of-again limit t c key number version asks kept (is ((terms_decides version.terms terms).0 (both-true equal names same).0) (both-true equal names same).1))
    (λ differ. (key, asks, kept, λ asked. clash (equal && names) (and-true equal names ((terms_decides version.terms terms).1 (only asked).0) (only asked).1) differ))

-- ---- refusals of a number and of a trade that is not live
some-if : (b : Bool) (x why : Refusal) (o : Option Refusal) → (if b then Some x else o) ≡ Some why → ((b ≡ true) × (x ≡ why)) ⊎ ((b ≡ false) × (o ≡ Some why))
some-if true x why o is = inl (refl, same_Some x why is)
some-if false x why o is = inr (refl, is)

some-if-not : (b : Bool) (x why : Refusal) → (if b then None else Some x) ≡ Some why → (b ≡ false) × (x ≡ why)
some-if-not true x why is = absurd (let never : None ≡ Some why = is in cc)
some-if-not false x why is = (refl, same_Some x why is)

not-next : (number last : ℕ) → (number == last + 1) ≡ false → number ≢ last + 1
not-next number last other = grind (arith, nat_tests)

at-least : (limit n : ℕ) → nat_le limit n ≡ true → limit ≤ n
at-least limit n reached = grind (arith, nat_tests)

below : (limit n : ℕ) → nat_le limit n ≡ false → n < limit
below limit n room = grind (arith, nat_tests)

not-corrected : (act : Act) → is_corrected act ≡ false → act ≢ Corrected
not-corrected act other = λ same. clash (is_corrected act) (ap is_corrected same) other

not-canceled : (act : Act) → is_canceled act ≡ false → act ≢ Canceled
not-canceled act other = λ same. clash (is_canceled act) (ap is_canceled same) other

number-cause : (limit : ℕ) (t : Tables) (c : Command) (key : Key) (number : ℕ) (last : ℕ × Version) (why : Refusal) → IsNewChange t c key number last → is_canceled last.1.act ≡ false → HasRoom c last.0
    → number_refusal last.0 number ≡ Some why → HasCause limit t c why
number-cause limit t c key number last why change live room refused =
    let found = some-if-not (number == last.0 + 1) (wrong_number last.0) why refused in
    subst (HasCause limit t c) found.1 (inl (key, number, last, change, not-canceled last.1.act live, room, not-next number last.0 found.0, refl))

canceled-cause : (limit : ℕ) (t : Tables) (c : Command) (key : Key) (number : ℕ) (last : ℕ × Version) → IsNewChange t c key number last → is_canceled last.1.act ≡ true → HasCause limit t c refusal.Canceled
canceled-cause limit t c key number last change canceled = (key, number, last, change, is-canceled last.1.act canceled)

correction-cause : (limit : ℕ) (t : Tables) (key : Key) (number : ℕ) (terms : Terms) (chosen : Option ℕ) (last : ℕ × Version) (why : Refusal) → IsNewChange t (command.Correct key number terms chosen) key number last
    → correction_refusal last number ≡ Some why → HasCause limit t (command.Correct key number terms chosen) why
correction-cause limit t key number terms chosen last why change refused =
    let c = command.Correct key number terms chosen in
    elim (some-if (is_canceled last.1.act) refusal.Canceled why _ refused) as (λ _. HasCause limit t c why) [
      | inl canceled ↦ subst (HasCause limit t c) canceled.1 (canceled-cause limit t c key number last change canceled.0)
      | inr live ↦ elim (some-if (nat_le 99 last.0) refusal.VersionsFull why _ live.1) as (λ _. HasCause limit t c why) [
        | inl full ↦ subst (HasCause limit t c) full.1 (inl (key, number, terms, chosen, last, refl, change, not-canceled last.1.act live.0, at-least 99 last.0 full.0))
        | inr room ↦ number-cause limit t c key number last why change live.0 (below 99 last.0 room.0) room.1
      ]
    ]

cancel-cause : (limit : ℕ) (t : Tables) (key : Key) (number : ℕ) (last : ℕ × Version) (why : Refusal) → IsNewChange t (command.Cancel key number) key number last
    → cancel_refusal last number ≡ Some why → HasCause limit t (command.Cancel key number) why
cancel-cause limit t key number last why change refused =
    let c = command.Cancel key number in
    elim (some-if (is_canceled last.1.act) refusal.Canceled why _ refused) as (λ _. HasCause limit t c why) [
      | inl canceled ↦ subst (HasCause limit t c) canceled.1 (canceled-cause limit t c key number last change canceled.0)
      | inr live ↦ number-cause limit t c key number last why change live.0 tt live.1
    ]

amendment-cause : (limit : ℕ) (t : Tables) (number : ℕ) (row issue : IssueRow) (last : ℕ × IssueRow) (why : Refusal) → IsNewAmendment t (command.Amend number row) number issue last
    → amendment_refusal last.0 number ≡ Some why → HasCause limit t (command.Amend number row) why
amendment-cause limit t number row issue last why new refused =
    let c = command.Amend number row in
    elim (some-if (nat_le 99 last.0) refusal.VersionsFull why _ refused) as (λ _. HasCause limit t c why) [
      | inl full ↦ subst (HasCause limit t c) full.1 (inr (number, issue, last, new, at-least 99 last.0 full.0))
      | inr room ↦
          let found = some-if-not (number == last.0 + 1) (wrong_number last.0) why room.1 in
          subst (HasCause limit t c) found.1 (inr (inl (number, issue, last, new, below 99 last.0 room.0, not-next number last.0 found.0, refl)))
    ]

-- ---- commands
of-row : (limit : ℕ) (t : Tables) (row : IssueRow) (c : Result IssueRow TermsFault) → checked row ≡ c → IsFor limit t (command.AddIssue row) (issue_plan t.issues c)
of-row limit t row (Ok issue) passed =
    of-kept limit t (command.AddIssue row) (kept_issue_plan issue) (KeepIssue issue) (issue_numbered t issue.cusip 1)
    (λ other kept. of-either limit t (command.AddIssue row) (row_eq other issue) _ _ (λ equal. tt)
    (λ differ. (1, row, issue, inl (refl, refl), passed, kept, λ same. clash (row_eq other issue) ((row_decides other issue).1 same) differ)))
    (λ none. tt)
of-row limit t row (Err fault) passed = (1, row, inl (refl, refl), passed)

of-amendment : (limit : ℕ) (t : Tables) (number : ℕ) (row : IssueRow) (c : Result IssueRow TermsFault) → checked row ≡ c → IsFor limit t (command.Amend number row) (amendment_plan t.issues number c)
of-amendment limit t number row (Ok issue) passed =
    let c = command.Amend number row in
    of-last limit t c _ issue.cusip (last_issue t issue.cusip) refl (issue, passed, refl) (λ last is.
    of-kept limit t c (kept_amendment_plan number issue) (next_amendment_plan number issue last) (issue_numbered t issue.cusip number)
    (λ other kept. of-either limit t c (row_eq other issue) _ _ (λ equal. tt)
    (λ differ. (number, row, issue, inr refl, passed, kept, λ same. clash (row_eq other issue) ((row_decides other issue).1 same) differ)))
    (λ none. of-unless limit t c _ (amendment_refusal last.0 number)
    (λ why refused. amendment-cause limit t number row issue last why (record { row = row; command = refl; passed = passed; last_is = is; is_new = none }) refused)
    (λ taken. tt)))
of-amendment limit t number row (Err fault) passed = (number, row, inr refl, passed)

of-entry : (limit : ℕ) (t : Tables) (key : Key) (terms : Terms) (chosen : Option ℕ) → IsFor limit t (command.Enter key terms chosen) (plan_of limit t.issues (own key.desk t.desks) (command.Enter key terms chosen))
of-entry limit t key terms chosen =
    let c = command.Enter key terms chosen in
    of-kept limit t c _ _ (version_at t key 1)
    (λ version kept. of-sent_again limit t c key 1 terms chosen version (inl (terms, chosen, refl, refl)) kept (λ equal names. (equal, names)) (λ asked. asked))
    (λ none. of-terms limit t c _ terms.asked.cusip chosen (none, refl) refl (λ found there.
    of-either limit t c (is_full limit (own key.desk t.desks)) _ _
    (λ full. (key, terms, chosen, found, refl, none, there, at-least limit (len (own key.desk t.desks)) full))
    (λ room. tt)))

of-correction : (limit : ℕ) (t : Tables) (key : Key) (number : ℕ) (terms : Terms) (chosen : Option ℕ) → IsFor limit t (command.Correct key number terms chosen) (plan_of limit t.issues (own key.desk t.desks) (command.Correct key number terms chosen))
of-correction limit t key number terms chosen =
    let c = command.Correct key number terms chosen in
    of-trade limit t c _ key (last_at t key) refl (inl (number, inl (terms, chosen, refl))) (λ last is. of-kept limit t c _ _ (version_at t key number)
    (λ version kept. of-either limit t c (is_corrected version.act) _ _
    (λ corrected. of-sent_again limit t c key number terms chosen version (inr (inl (terms, chosen, refl))) kept (λ equal names. (is-corrected version.act corrected, equal, names)) (λ asked. (asked.1, asked.2)))
    (λ other. (key, inr (inl (terms, chosen, refl)), kept, λ asked. not-corrected version.act other asked.0)))
    (λ none. of-unless limit t c _ (correction_refusal last number)
    (λ why refused. correction-cause limit t key number terms chosen last why (record { asks = inl (terms, chosen, refl); last_is = is; is_new = none }) refused)
    (λ taken.
    let live = none-of (is_canceled last.1.act) _ _ taken in
    let room = none-of (nat_le 99 last.0) _ _ live.1 in
    of-terms limit t c _ terms.asked.cusip chosen
    (last, record { last_is = is; live = live.0; number_is = is-next last.0 number room.1 }, below 99 last.0 room.0, refl) refl (λ found there. tt))))

of-cancel : (limit : ℕ) (t : Tables) (key : Key) (number : ℕ) → IsFor limit t (command.Cancel key number) (plan_of limit t.issues (own key.desk t.desks) (command.Cancel key number))
of-cancel limit t key number =
    let c = command.Cancel key number in
    of-trade limit t c _ key (last_at t key) refl (inl (number, inr refl)) (λ last is. of-kept limit t c _ _ (version_at t key number)
    (λ version kept. of-either limit t c (is_canceled version.act) _ _
    (λ canceled. of-again limit t c key number version (inr (inr refl)) kept (is-canceled version.act canceled))
    (λ other. (key, inr (inr refl), kept, not-canceled version.act other)))
    (λ none. of-unless limit t c _ (cancel_refusal last number)
    (λ why refused. cancel-cause limit t key number last why (record { asks = inr refl; last_is = is; is_new = none }) refused)
    (λ taken.
    let live = none-of (is_canceled last.1.act) _ _ taken in
    of-version limit t c _ last.1 (issue_of t.issues last.1) refl
    (inr (last, record { last_is = is; live = live.0; number_is = is-next last.0 number live.1 }, refl)) (λ issue there. tt))))

of-confirmation : (limit : ℕ) (t : Tables) (key : Key) → IsFor limit t (command.Confirm key) (plan_of limit t.issues (own key.desk t.desks) (command.Confirm key))
of-confirmation limit t key =
    let c = command.Confirm key in
    of-trade limit t c _ key (last_at t key) refl (inr refl) (λ last is.
    of-confirmed limit t c key last.0 last.1 (last-kept t key last is) (inr (last, is, refl)))

pub is-for : (limit : ℕ) (t : Tables) (c : Command) → IsFor limit t c (plan_of limit t.issues (own_of (desk_of c) t) c)
is-for limit t (command.AddIssue row) = of-row limit t row (checked row) refl
is-for limit t (command.Amend number row) = of-amendment limit t number row (checked row) refl
is-for limit t (command.Enter key terms chosen) = of-entry limit t key terms chosen
is-for limit t (command.Correct key number terms chosen) = of-correction limit t key number terms chosen
is-for limit t (command.Cancel key number) = of-cancel limit t key number
is-for limit t (command.Confirm key) = of-confirmation limit t key
is-for limit t (command.Quote asked shown) = of-issue limit t (command.Quote asked shown) _ asked.cusip (issue_at t asked.cusip) refl refl (λ issue there. there)
is-for limit t (command.List desk from) = λ never. never
