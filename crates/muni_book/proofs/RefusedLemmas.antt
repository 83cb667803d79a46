-- What has its cause is refused.
use Rattle.std.proofs.Common.{◌≡◌, ◌≢◌, inl, inr, ℕ, ◌+◌, ◌==◌, ◌≤◌, ◌<◌, arith, Bool, true, false, refl, sym, ap, subst, ◌∙◌, Some, None, Ok, Err, List, Option}
use Rattle.std.specs.Prelude.{nat_le, ◌&&◌, min, ◌-◌, ◌^◌}
use Rattle.std.specs.FinMap.{get, len}
use Rattle.std.specs.Option.{option_map}
use Rattle.std.proofs.lemmas.Bool.Decides.{nat_tests}
use Rattle.muni_terms.specs.Check.{checked}
use Rattle.muni_terms.specs.Row.{row_eq}
use Rattle.muni_terms.specs.declared.row.IssueRow.{IssueRow}
use Rattle.muni_terms.specs.declared.row.TermsFault.{TermsFault}
use Rattle.muni_terms.proofs.RowLemmas.{row_decides}
use Rattle.muni_msg.specs.Asked.{terms_eq}
use Rattle.muni_msg.specs.declared.asked.Terms.{Terms}
use Rattle.muni_msg.specs.declared.command.Command.{Command}
use Rattle.muni_msg.specs.declared.command.Command.TheVariants as command
use Rattle.muni_msg.specs.declared.command.Key.{Key}
use Rattle.muni_msg.specs.declared.refusal.Refusal.{Refusal}
use Rattle.muni_msg.specs.declared.refusal.Refusal.TheVariants as refusal
use Rattle.muni_msg.specs.declared.version.Act.{Act}
use Rattle.muni_msg.specs.declared.version.Act.TheVariants.{Canceled}
use Rattle.muni_msg.specs.declared.version.Kept.TheVariants as kept
use Rattle.muni_msg.specs.declared.version.Version.{Version}
use Rattle.muni_msg.proofs.AskedLemmas.{terms_decides}
use Rattle.muni_keep.specs.History.{History, count}
use Rattle.muni_keep.specs.Tables.{Tables, issue_at, issue_numbered, last_issue, trade_at, version_at, last_at}
use Rattle.muni_keep.specs.Trades.{own}
use Rattle.muni_book_step.specs.declared.plan.Plan.{Plan}
use Rattle.muni_book_step.specs.Plan.{issue_of, terms_for, is_chosen, refused, conflict, is_corrected, is_canceled, plan_of}
use Rattle.muni_book_step.specs.Step.{desk_of, own_of}
use Rattle.muni_book_step.proofs.PlanLemmas.{both-true, is-corrected, is-canceled}
use Rattle.muni_book.specs.Causes.{AsksForTerms, AsksToChange, AsksForTrade, AsksForVersion, IsAsked, IsNewAmendment, HasRoom, NeedsIssue, NeedsLast, NeedsTermsOf, IsNext, chosen_of, HasCause}
use Rattle.muni_book.proofs.OnceLemmas.{has-last}
use Rattle.muni_book.proofs.PutLemmas.{next-free}

-- this is to be done for a command
abbrev pub IsPlanned : (limit : ℕ) → Tables → Plan → Command → Type 0
IsPlanned limit t plan c = plan_of limit t.issues (own_of (desk_of c) t) c ≡ plan

-- ---- tests
never-true : (b : Bool) → (b ≡ true → ⊥) → b ≡ false
never-true true never = absurd (never refl)
never-true false never = refl

pub full : (limit n : ℕ) → limit ≤ n → nat_le limit n ≡ true
full limit n most = grind (arith, nat_tests)

pub room : (limit n : ℕ) → n < limit → nat_le limit n ≡ false
room limit n few = grind (arith, nat_tests)

pub next : (number last : ℕ) → number ≡ last + 1 → (number == last + 1) ≡ true
next number last is = grind (arith, nat_tests)

other-number : (number last : ℕ) → number ≢ last + 1 → (number == last + 1) ≡ false
other-number number last other = grind (arith, nat_tests)

live : (act : Act) → act ≢ Canceled → is_canceled act ≡ false
live act other = never-true (is_canceled act) (λ canceled. other (is-canceled act canceled))

terms-differ : (one other : Terms) → one ≢ other → terms_eq one other ≡ false
terms-differ one other differ = never-true (terms_eq one other) (λ same. differ ((terms_decides one other).0 same))

rows-differ : (one other : IssueRow) → one ≢ other → row_eq one other ≡ false
rows-differ one other differ = never-true (row_eq one other) (λ same. differ ((row_decides one other).0 same))

-- ---- trades and their versions
unknown-trade : (limit : ℕ) (t : Tables) (c : Command) (key : Key) → AsksForTrade c key → last_at t key ≡ None → IsPlanned limit t (refused refusal.UnknownTrade) c
unknown-trade limit t c key (inl (number, inl (terms, chosen, is))) none = subst (IsPlanned limit t (refused refusal.UnknownTrade)) (sym is) (rw none refl)
unknown-trade limit t c key (inl (number, inr is)) none = subst (IsPlanned limit t (refused refusal.UnknownTrade)) (sym is) (rw none refl)
unknown-trade limit t c key (inr is) none = subst (IsPlanned limit t (refused refusal.UnknownTrade)) (sym is) (rw none refl)

not-again : (terms : Terms) (chosen : Option ℕ) (version : Version) → ((version.terms ≡ terms) × (is_chosen chosen version.issue_number ≡ true) → ⊥) → (terms_eq version.terms terms && is_chosen chosen version.issue_number) ≡ false
not-again terms chosen version other =
    let equal = terms_eq version.terms terms in
    let names = is_chosen chosen version.issue_number in
    never-true (equal && names) (λ both. other ((terms_decides version.terms terms).0 (both-true equal names both).0, (both-true equal names both).1))

entry-conflict : (limit : ℕ) (t : Tables) (key : Key) (terms : Terms) (chosen : Option ℕ) (version : Version) → version_at t key 1 ≡ Some version → (IsAsked (command.Enter key terms chosen) version → ⊥) → IsPlanned limit t (conflict 1 version) (command.Enter key terms chosen)
entry-conflict limit t key terms chosen version there other = rw (there, not-again terms chosen version other) refl

correction-conflict : (limit : ℕ) (t : Tables) (key : Key) (number : ℕ) (terms : Terms) (chosen : Option ℕ) (version : Version) → version_at t key number ≡ Some version → (IsAsked (command.Correct key number terms chosen) version → ⊥)
    → IsPlanned limit t (conflict number version) (command.Correct key number terms chosen)
correction-conflict limit t key number terms chosen version there other =
    let last = has-last (trade_at t key) number version there in
    elim (is_corrected version.act) as (λ b. is_corrected version.act ≡ b → IsPlanned limit t (conflict number version) (command.Correct key number terms chosen)) [
      | true ↦ λ corrected. rw (last.1, there, corrected, not-again terms chosen version (λ same. other (is-corrected version.act corrected, same.0, same.1))) refl
      | false ↦ λ otherwise. rw (last.1, there, otherwise) refl
    ] refl

cancel-conflict : (limit : ℕ) (t : Tables) (key : Key) (number : ℕ) (version : Version) → version_at t key number ≡ Some version → version.act ≢ Canceled → IsPlanned limit t (conflict number version) (command.Cancel key number)
cancel-conflict limit t key number version there other =
    let last = has-last (trade_at t key) number version there in
    rw (last.1, there, live version.act other) refl

version-conflict : (limit : ℕ) (t : Tables) (c : Command) (key : Key) (number : ℕ) (version : Version) → AsksForVersion c key number → version_at t key number ≡ Some version → (IsAsked c version → ⊥) → IsPlanned limit t (conflict number version) c
version-conflict limit t c key number version (inl (terms, chosen, is, one)) there other =
    subst (IsPlanned limit t (conflict number version)) (sym is)
    (entry-conflict limit t key terms chosen version (ap (version_at t key) (sym one) ∙ there) (λ same. other (subst (λ x. IsAsked x version) (sym is) same))
    ∙ ap (λ n. conflict n version) (sym one))
version-conflict limit t c key number version (inr (inl (terms, chosen, is))) there other =
    subst (IsPlanned limit t (conflict number version)) (sym is)
    (correction-conflict limit t key number terms chosen version there (λ asked. other (subst (λ x. IsAsked x version) (sym is) asked)))
version-conflict limit t c key number version (inr (inr is)) there other =
    subst (IsPlanned limit t (conflict number version)) (sym is)
    (cancel-conflict limit t key number version there (λ asked. other (subst (λ x. IsAsked x version) (sym is) asked)))

-- ---- changes
canceled : (limit : ℕ) (t : Tables) (c : Command) (key : Key) (number : ℕ) (last : ℕ × Version) → AsksToChange c key number → last_at t key ≡ Some last → version_at t key number ≡ None → is_canceled last.1.act ≡ true → IsPlanned limit t (refused refusal.Canceled) c
canceled limit t c key number last (inl (terms, chosen, is)) there new dead = subst (IsPlanned limit t (refused refusal.Canceled)) (sym is) (rw (there, new, dead) refl)
canceled limit t c key number last (inr is) there new dead = subst (IsPlanned limit t (refused refusal.Canceled)) (sym is) (rw (there, new, dead) refl)

wrong-number : (limit : ℕ) (t : Tables) (c : Command) (key : Key) (number told : ℕ) (last : ℕ × Version) → AsksToChange c key number → last_at t key ≡ Some last → version_at t key number ≡ None → is_canceled last.1.act ≡ false → HasRoom c last.0
    → (number == last.0 + 1) ≡ false → told ≡ min (last.0 + 1) (2 ^ 32 - 1) → IsPlanned limit t (refused (refusal.WrongNumber told)) c
wrong-number limit t c key number told last (inl (terms, chosen, is)) there new lives fits other tells =
    let few = room 99 last.0 (subst (λ x. HasRoom x last.0) is fits) in
    subst (IsPlanned limit t (refused (refusal.WrongNumber told))) (sym is)
    (rw (there, new, lives, few, other) (ap (λ n. refused (refusal.WrongNumber n)) (sym tells)))
wrong-number limit t c key number told last (inr is) there new lives fits other tells =
    subst (IsPlanned limit t (refused (refusal.WrongNumber told))) (sym is)
    (rw (there, new, lives, other) (ap (λ n. refused (refusal.WrongNumber n)) (sym tells)))

versions-full : (limit : ℕ) (t : Tables) (key : Key) (number : ℕ) (terms : Terms) (chosen : Option ℕ) (last : ℕ × Version) → last_at t key ≡ Some last → version_at t key number ≡ None → is_canceled last.1.act ≡ false → 99 ≤ last.0
    → IsPlanned limit t (refused refusal.VersionsFull) (command.Correct key number terms chosen)
versions-full limit t key number terms chosen last there new lives many = rw (there, new, lives, full 99 last.0 many) refl

-- ---- issues
sent-again : (limit : ℕ) (t : Tables) (c : Command) (key : Key) (number : ℕ) (version : Version) → AsksForVersion c key number → version_at t key number ≡ Some version → IsAsked c version → issue_of t.issues version ≡ None
    → IsPlanned limit t (refused refusal.UnknownIssue) c
sent-again limit t c key number version (inl (terms, chosen, is, one)) there asked none =
    let same = subst (λ x. IsAsked x version) is asked in
    let first = ap (version_at t key) (sym one) ∙ there in
    subst (IsPlanned limit t (refused refusal.UnknownIssue)) (sym is) (rw (first, (terms_decides version.terms terms).1 same.0, same.1, none) refl)
sent-again limit t c key number version (inr (inl (terms, chosen, is))) there asked none =
    let same = subst (λ x. IsAsked x version) is asked in
    let last = has-last (trade_at t key) number version there in
    subst (IsPlanned limit t (refused refusal.UnknownIssue)) (sym is)
    (rw (last.1, there, ap is_corrected same.0, (terms_decides version.terms terms).1 same.1, same.2, none) refl)
sent-again limit t c key number version (inr (inr is)) there asked none =
    let same : version.act ≡ Canceled = subst (λ x. IsAsked x version) is asked in
    let last = has-last (trade_at t key) number version there in
    subst (IsPlanned limit t (refused refusal.UnknownIssue)) (sym is) (rw (last.1, there, ap is_canceled same, none) refl)

-- an issue has terms with their number if it has last ones
none-counted : {V : Type 0} (history : Option (History V)) → option_map (λ history. history.last) history ≡ None → option_map {U = ℕ × V} (λ history. (count history, history.last)) history ≡ None
none-counted None none = refl
none-counted {V} (Some history) none = absurd (let never : Some history.last ≡ None = none in cc)

unknown-issue : (limit : ℕ) (t : Tables) (c : Command) (cusip : List ℕ) → NeedsIssue t c cusip → issue_at t cusip ≡ None → IsPlanned limit t (refused refusal.UnknownIssue) c
unknown-issue limit t (command.AddIssue row) cusip needs none = absurd needs
unknown-issue limit t (command.Amend number row) cusip needs none =
    let lacks = none-counted (get t.issues needs.0.cusip) (subst (λ x. issue_at t x ≡ None) needs.2 none) in
    rw (needs.1, lacks) refl
unknown-issue limit t (command.Enter key terms chosen) cusip needs none =
    let lacks = none-counted (get t.issues terms.asked.cusip) (subst (λ x. issue_at t x ≡ None) needs.1 none) in
    rw (needs.0, lacks) refl
unknown-issue limit t (command.Correct key number terms chosen) cusip needs none =
    let last = needs.0 in
    let is = needs.1 in
    let lacks = none-counted (get t.issues terms.asked.cusip) (subst (λ x. issue_at t x ≡ None) needs.3 none) in
    rw (is.last_is, next-free t key number last is.last_is is.number_is, is.live, room 99 last.0 needs.2, next number last.0 is.number_is, lacks) refl
unknown-issue limit t (command.Cancel key number) cusip needs none = absurd needs
unknown-issue limit t (command.Confirm key) cusip needs none = absurd needs
unknown-issue limit t (command.Quote asked shown) cusip needs none =
    let lacks = subst (λ x. issue_at t x ≡ None) needs none in rw lacks refl
unknown-issue limit t (command.List desk from) cusip needs none = absurd needs

unknown-terms : (limit : ℕ) (t : Tables) (c : Command) (version : Version) → NeedsLast t c version → issue_of t.issues version ≡ None → IsPlanned limit t (refused refusal.UnknownIssue) c
unknown-terms limit t (command.AddIssue row) version needs none = absurd needs
unknown-terms limit t (command.Amend number row) version needs none = absurd needs
unknown-terms limit t (command.Enter key terms chosen) version needs none = absurd needs
unknown-terms limit t (command.Correct key number terms chosen) version needs none = absurd needs
unknown-terms limit t (command.Cancel key number) version needs none =
    let last = needs.0 in
    let is = needs.1 in
    let lacks = subst (λ v. issue_of t.issues v ≡ None) needs.2 none in
    rw (is.last_is, next-free t key number last is.last_is is.number_is, is.live, next number last.0 is.number_is, lacks) refl
unknown-terms limit t (command.Confirm key) version needs none =
    let lacks = subst (λ v. issue_of t.issues v ≡ None) needs.2 none in rw (needs.1, lacks) refl
unknown-terms limit t (command.Quote asked shown) version needs none = absurd needs
unknown-terms limit t (command.List desk from) version needs none = absurd needs

of-terms : (limit : ℕ) (t : Tables) (c : Command) (version : Version) → NeedsTermsOf t c version → issue_of t.issues version ≡ None → IsPlanned limit t (refused refusal.UnknownIssue) c
of-terms limit t c version (inl again) none = sent-again limit t c again.key again.number version again.asks again.version_kept again.is_asked none
of-terms limit t c version (inr needs) none = unknown-terms limit t c version needs none

desk-full : (limit : ℕ) (t : Tables) (key : Key) (terms : Terms) (chosen : Option ℕ) (found : ℕ × IssueRow) → version_at t key 1 ≡ None → terms_for t.issues terms.asked.cusip chosen ≡ Ok found → limit ≤ len (own key.desk t.desks)
    → IsPlanned limit t (refused refusal.DeskFull) (command.Enter key terms chosen)
desk-full limit t key terms chosen found new there many = rw (new, there, full limit (len (own key.desk t.desks)) many) refl

-- ---- numbers of terms
terms-conflict : (limit : ℕ) (t : Tables) (c : Command) (number : ℕ) (row issue other : IssueRow) → AsksForTerms c number row → checked row ≡ Ok issue → issue_numbered t issue.cusip number ≡ Some other → other ≢ issue
    → IsPlanned limit t (refused (refusal.Conflict (kept.Issue other))) c
terms-conflict limit t c number row issue other (inl (is, one)) passed there differ =
    let first = ap (issue_numbered t issue.cusip) (sym one) ∙ there in
    subst (IsPlanned limit t (refused (refusal.Conflict (kept.Issue other)))) (sym is) (rw (passed, first, rows-differ other issue differ) refl)
terms-conflict limit t c number row issue other (inr is) passed there differ =
    let last = has-last (get t.issues issue.cusip) number other there in
    subst (IsPlanned limit t (refused (refusal.Conflict (kept.Issue other)))) (sym is) (rw (passed, last.1, there, rows-differ other issue differ) refl)

bad-terms : (limit : ℕ) (t : Tables) (c : Command) (number : ℕ) (row : IssueRow) (fault : TermsFault) → AsksForTerms c number row → checked row ≡ Err fault → IsPlanned limit t (refused (refusal.BadTerms fault)) c
bad-terms limit t c number row fault (inl (is, one)) fails = subst (IsPlanned limit t (refused (refusal.BadTerms fault))) (sym is) (rw fails refl)
bad-terms limit t c number row fault (inr is) fails = subst (IsPlanned limit t (refused (refusal.BadTerms fault))) (sym is) (rw fails refl)

terms-full : (limit : ℕ) (t : Tables) (c : Command) (number : ℕ) (issue : IssueRow) (last : ℕ × IssueRow) → IsNewAmendment t c number issue last → 99 ≤ last.0 → IsPlanned limit t (refused refusal.VersionsFull) c
terms-full limit t c number issue last new many =
    subst (IsPlanned limit t (refused refusal.VersionsFull)) (sym new.command) (rw (new.passed, new.last_is, new.is_new, full 99 last.0 many) refl)

wrong-terms : (limit : ℕ) (t : Tables) (c : Command) (number told : ℕ) (issue : IssueRow) (last : ℕ × IssueRow) → IsNewAmendment t c number issue last → HasRoom c last.0 → number ≢ last.0 + 1 → IsNext told last.0
    → IsPlanned limit t (refused (refusal.WrongNumber told)) c
wrong-terms limit t c number told issue last new fits other tells =
    let few = room 99 last.0 (subst (λ x. HasRoom x last.0) new.command fits) in
    subst (IsPlanned limit t (refused (refusal.WrongNumber told))) (sym new.command)
    (rw (new.passed, new.last_is, new.is_new, few, other-number number last.0 other) (ap (λ n. refused (refusal.WrongNumber n)) (sym tells)))

chosen-none : (limit : ℕ) (t : Tables) (c : Command) (told : ℕ) (last : ℕ × IssueRow) (cusip : List ℕ) (number : ℕ) → NeedsIssue t c cusip → chosen_of c ≡ Some number → last_issue t cusip ≡ Some last → issue_numbered t cusip number ≡ None → IsNext told last.0
    → IsPlanned limit t (refused (refusal.WrongNumber told)) c
chosen-none limit t (command.AddIssue row) told last cusip number needs names last_is none tells = absurd needs
chosen-none limit t (command.Amend other row) told last cusip number needs names last_is none tells = absurd (let never : None ≡ Some number = names in cc)
chosen-none limit t (command.Enter key terms chosen) told last cusip number needs names last_is none tells =
    let there = subst (λ x. last_issue t x ≡ Some last) needs.1 last_is in
    let lacks = subst (λ x. issue_numbered t x number ≡ None) needs.1 none in
    subst (λ chosen. IsPlanned limit t (refused (refusal.WrongNumber told)) (command.Enter key terms chosen)) (sym names)
    (rw (needs.0, there, lacks) (ap (λ n. refused (refusal.WrongNumber n)) (sym tells)))
chosen-none limit t (command.Correct key version terms chosen) told last cusip number needs names last_is none tells =
    let before = needs.0 in
    let is = needs.1 in
    let there = subst (λ x. last_issue t x ≡ Some last) needs.3 last_is in
    let lacks = subst (λ x. issue_numbered t x number ≡ None) needs.3 none in
    subst (λ chosen. IsPlanned limit t (refused (refusal.WrongNumber told)) (command.Correct key version terms chosen)) (sym names)
    (rw (is.last_is, next-free t key version before is.last_is is.number_is, is.live, room 99 before.0 needs.2, next version before.0 is.number_is, there, lacks)
    (ap (λ n. refused (refusal.WrongNumber n)) (sym tells)))
chosen-none limit t (command.Cancel key version) told last cusip number needs names last_is none tells = absurd needs
chosen-none limit t (command.Confirm key) told last cusip number needs names last_is none tells = absurd needs
chosen-none limit t (command.Quote asked shown) told last cusip number needs names last_is none tells = absurd (let never : None ≡ Some number = names in cc)
chosen-none limit t (command.List desk from) told last cusip number needs names last_is none tells = absurd needs

-- ---- refusals
pub refused-for : (limit : ℕ) (t : Tables) (c : Command) (why : Refusal) → HasCause limit t c why → IsPlanned limit t (refused why) c
refused-for limit t c (refusal.BadTerms fault) (number, row, asks, fails) = bad-terms limit t c number row fault asks fails
refused-for limit t c refusal.UnknownTrade (key, asks, none) = unknown-trade limit t c key asks none
refused-for limit t c (refusal.Conflict (kept.Issue other)) (number, row, issue, asks, passed, there, differ) = terms-conflict limit t c number row issue other asks passed there differ
refused-for limit t c (refusal.Conflict (kept.Version number version)) (key, asks, there, other) = version-conflict limit t c key number version asks there other
refused-for limit t c refusal.Canceled (key, number, last, change, dead) = canceled limit t c key number last change.asks change.last_is change.is_new (ap is_canceled dead)
refused-for limit t c refusal.VersionsFull (inl (key, number, terms, chosen, last, is, change, lives, many)) =
    subst (IsPlanned limit t (refused refusal.VersionsFull)) (sym is) (versions-full limit t key number terms chosen last change.last_is change.is_new (live last.1.act lives) many)
refused-for limit t c refusal.VersionsFull (inr (number, issue, last, new, many)) = terms-full limit t c number issue last new many
refused-for limit t c (refusal.WrongNumber told) (inl (key, number, last, change, lives, fits, other, tells)) =
    wrong-number limit t c key number told last change.asks change.last_is change.is_new (live last.1.act lives) fits (other-number number last.0 other) tells
refused-for limit t c (refusal.WrongNumber told) (inr (inl (number, issue, last, new, fits, other, tells))) = wrong-terms limit t c number told issue last new fits other tells
refused-for limit t c (refusal.WrongNumber told) (inr (inr (last, none, tells))) =
    chosen-none limit t c told last none.cusip none.number none.needs none.chosen none.last_is none.none tells
refused-for limit t c refusal.UnknownIssue (inl (version, needs, none)) = of-terms limit t c version needs none
refused-for limit t c refusal.UnknownIssue (inr (cusip, needs, none)) = unknown-issue limit t c cusip needs none
refused-for limit t c refusal.DeskFull (key, terms, chosen, found, is, new, there, many) =
    subst (IsPlanned limit t (refused refusal.DeskFull)) (sym is) (desk-full limit t key terms chosen found new there many)
refused-for limit t c refusal.SettleOutside cause = absurd cause
refused-for limit t c (refusal.GivenOutOfRange range) cause = absurd cause
refused-for limit t c (refusal.YieldBelow date) cause = absurd cause
refused-for limit t c refusal.YieldAbove cause = absurd cause
refused-for limit t c (refusal.NoTime date) cause = absurd cause
refused-for limit t c (refusal.Undecided date boundary) cause = absurd cause
refused-for limit t c refusal.WrongBasis cause = absurd cause
