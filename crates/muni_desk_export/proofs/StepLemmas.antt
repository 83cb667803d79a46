-- One command of an export, over tables that keep only what the exported tables keep: it is accepted, and brings what
-- it is of.
use Rattle.std.proofs.Common.{◌≡◌, inl, inr, ◌≤◌, ◌<◌, ◌+◌, ◌==◌, ℕ, zero, suc, true, false, All, List, [], ◌∷◌, Option, Some, None, Ok, refl, sym, ap, subst, ◌∙◌, arith}
use Rattle.std.specs.Prelude.{if◌then◌else◌, nat_le, slice_get}
use Rattle.std.specs.Option.{option_and_then}
use Rattle.std.specs.FinMap.{get, len}
use Rattle.std.proofs.lemmas.Bool.{eqb-true}
use Rattle.std.proofs.lemmas.Bool.Decides.{nat_tests}
use Rattle.std.proofs.lemmas.List.Elements.{All-head, All-tail}
use Rattle.std.proofs.lemmas.Option.{none-some, same_Some}
use Rattle.muni_terms.specs.Check.{fault_of, unless_fault}
use Rattle.muni_terms.specs.declared.row.IssueRow.{IssueRow}
use Rattle.muni_msg.specs.declared.command.Command.{Command}
use Rattle.muni_msg.specs.declared.command.Command.TheVariants.{AddIssue, Amend, Enter, Correct, Cancel}
use Rattle.muni_msg.specs.declared.command.Key.{Key}
use Rattle.muni_msg.specs.declared.command.Reply.TheVariants.{Added, Amended, Confirmed}
use Rattle.muni_msg.specs.declared.version.Act.TheVariants.{Entered, Corrected}
use Rattle.muni_msg.specs.declared.version.Version.{Version}
use Rattle.muni_keep.specs.History.{next_number, version_in, versions}
use Rattle.muni_keep.specs.Tables.{Tables, Issues, counted_terms, issue_history, issue_numbered, numbered_terms, trade_at, version_at, with_issue, with_version}
use Rattle.muni_keep.specs.Trades.{own}
use Rattle.muni_book_step.specs.Accepted.{IsConfirmed, IsKept}
use Rattle.muni_book_step.specs.Plan.{cancel_of, chosen_terms, is_canceled, is_chosen, is_full, issue_of, terms_by, terms_for}
use Rattle.muni_book_step.specs.Reasons.{IsReasonFor}
use Rattle.muni_book_step.specs.Sound.{Rightness, IsRightVersion, IsSound, HaveAtMost}
use Rattle.muni_book_step.specs.Step.{Rules, NewIssue, NewVersion, Outcome, answered, kept, IsOutcome, IsStepOver}
use Rattle.muni_book_step.proofs.PlanLemmas.{none-kept}
use Rattle.muni_book_step.proofs.ReadyLemmas.{last-next, live-next, new-next}
use Rattle.muni_book.specs.Once.{Keeps}
use Rattle.muni_book.proofs.KeepLemmas.{terms-after, terms-put}
use Rattle.muni_book.proofs.OnceLemmas.{answered-again, has-last}
use Rattle.muni_book.proofs.PutLemmas.{last-in, trade-put, version-put}
use Rattle.muni_book.proofs.ReasonedLemmas.{amendment-planned, cancel-planned, issue-planned, priced-planned}
use Rattle.muni_book.proofs.TermsLemmas.{terms-found}
use Rattle.muni_desk_export.specs.Trades.{unless_last, written_number}
use Rattle.muni_desk_export.proofs.MapLemmas.{fewer}
use Rattle.muni_desk_export.proofs.RunLemmas.{IsRun, run-one}
use Rattle.muni_desk_export.proofs.TableLemmas.{HasIssues, same-issues}
use Rattle.muni_desk_export.proofs.AgainVersionLemmas.{few-corrected, first-version, grown-has, kept-trade, last-of, place-of}

-- ---- with what the exported tables keep added, tables still keep only that
issue-within : (t all : Tables) (issue : IssueRow) → Keeps t all → issue_numbered all issue.cusip (next_number (issue_history t issue.cusip)) ≡ Some issue → Keeps (with_issue issue t) all
issue-within t all issue within there = record {
  issues = λ cusip number found is.
      elim (terms-after t.issues issue cusip) as (λ _. issue_numbered all cusip number ≡ Some found) [
        | inl here ↦
            let same = ap (λ c. issue_numbered all c number) here.0 in
            elim (grown-has (issue_history t issue.cusip) issue number found (sym (ap (option_and_then (λ history. version_in history number)) here.1) ∙ is)) as (λ _. issue_numbered all cusip number ≡ Some found) [
              | inl before ↦ same ∙ within.issues issue.cusip number found before
              | inr last ↦ same ∙ ap (issue_numbered all issue.cusip) last.0 ∙ there ∙ ap (λ x. Some x) last.1
            ]
        | inr elsewhere ↦
            within.issues cusip number found (sym (ap (option_and_then (λ history. version_in history number)) elsewhere.1) ∙ is)
      ];
  versions = λ key number version is. within.versions key number version is;
}

version-within : (t all : Tables) (key : Key) (version : Version) → Keeps t all → version_at all key (next_number (trade_at t key)) ≡ Some version → Keeps (with_version key version t) all
version-within t all key version within there = record {
  issues = λ cusip number issue is. within.issues cusip number issue is;
  versions = λ other number found is.
      elim (trade-put t key version other) as (λ _. version_at all other number ≡ Some found) [
        | inl here ↦
            let same = ap (λ k. version_at all k number) here.0 in
            elim (grown-has (trade_at t key) version number found (sym (ap (option_and_then (λ history. version_in history number)) here.1) ∙ is)) as (λ _. version_at all other number ≡ Some found) [
              | inl before ↦ same ∙ within.versions key number found before
              | inr last ↦ same ∙ ap (version_at all key) last.0 ∙ there ∙ ap (λ v. Some v) last.1
            ]
        | inr elsewhere ↦
            within.versions other number found (sym (ap (option_and_then (λ history. version_in history number)) elsewhere.1) ∙ is)
      ];
}

-- ---- issues
-- the first terms of an issue are added or confirmed
pub first-run : (P : Rules) (all t : Tables) (issue : IssueRow) → fault_of issue ≡ None → issue_numbered all issue.cusip 1 ≡ Some issue → Keeps t all
    → IsRun P all t (AddIssue issue ∷ []) (λ new. issue_numbered new issue.cusip 1 ≡ Some issue)
first-run P all t issue sound there within =
    let c = AddIssue issue in
    let passed = ap (unless_fault issue) sound in
    elim (issue_numbered t issue.cusip 1) as (λ o. issue_numbered t issue.cusip 1 ≡ o → IsRun P all t (c ∷ []) (λ new. issue_numbered new issue.cusip 1 ≡ Some issue)) [
      | None ↦ λ none.
          let outcome : Outcome = record { reply = Added issue.cusip; entry = Some (NewIssue issue) } in
          let fresh = none-kept (issue_history t issue.cusip) none in
          let next : 1 ≡ next_number (issue_history t issue.cusip) = sym (ap next_number fresh) in
          let planned = issue-planned P.limit t c issue (record { row = issue; command = refl; passed = passed; is_new = fresh }) in
          run-one P all t c (Added issue.cusip) (Some (NewIssue issue)) (λ new. issue_numbered new issue.cusip 1 ≡ Some issue)
          (subst (λ plan. IsOutcome P.prices plan outcome) (sym planned) refl) tt
          (issue-within t all issue within (ap (issue_numbered all issue.cusip) (sym next) ∙ there)) (terms-put t.issues issue 1 next)
      | Some other ↦ λ is.
          let same : other ≡ issue = same_Some other issue (sym (within.issues issue.cusip 1 other is) ∙ there) in
          let here = is ∙ ap (λ x. Some x) same in
          run-one P all t c (Added issue.cusip) None (λ new. issue_numbered new issue.cusip 1 ≡ Some issue)
          (subst (λ plan. IsOutcome P.prices plan (answered (Added issue.cusip))) (sym (answered-again P.limit t c (Added issue.cusip) (issue, passed, here, refl))) refl) tt
          within here
    ] refl

few-before : (n : ℕ) → n + 1 ≤ 99 → nat_le 99 n ≡ false
few-before n few = grind (arith, nat_tests)

-- and so are later ones, if those before them are kept
pub amend-run : (P : Rules) (all t : Tables) (number : ℕ) (before issue : IssueRow) → fault_of issue ≡ None → number + 1 ≤ 99 → issue_numbered t issue.cusip number ≡ Some before
    → issue_numbered all issue.cusip (number + 1) ≡ Some issue → Keeps t all → IsRun P all t (Amend (number + 1) issue ∷ []) (λ new. issue_numbered new issue.cusip (number + 1) ≡ Some issue)
amend-run P all t number before issue sound few last there within =
    let c = Amend (number + 1) issue in
    let reply = Amended issue.cusip (number + 1) in
    let passed = ap (unless_fault issue) sound in
    elim (issue_numbered t issue.cusip (number + 1)) as (λ o. issue_numbered t issue.cusip (number + 1) ≡ o → IsRun P all t (c ∷ []) (λ new. issue_numbered new issue.cusip (number + 1) ≡ Some issue)) [
      | None ↦ λ none.
          let outcome : Outcome = record { reply = reply; entry = Some (NewIssue issue) } in
          let last_is = last-of (issue_history t issue.cusip) number before last none in
          let next : number + 1 ≡ next_number (issue_history t issue.cusip) = last-next (issue_history t issue.cusip) (number, before) last_is in
          let planned = amendment-planned P.limit t c (number + 1) issue
          (record { row = issue; command = refl; passed = passed; last = (number, before); last_is = last_is; number_is = refl; room = few-before number few }) in
          run-one P all t c reply (Some (NewIssue issue)) (λ new. issue_numbered new issue.cusip (number + 1) ≡ Some issue)
          (subst (λ plan. IsOutcome P.prices plan outcome) (sym planned) refl) tt
          (issue-within t all issue within (ap (issue_numbered all issue.cusip) (sym next) ∙ there)) (terms-put t.issues issue (number + 1) next)
      | Some other ↦ λ is.
          let same : other ≡ issue = same_Some other issue (sym (within.issues issue.cusip (number + 1) other is) ∙ there) in
          let here = is ∙ ap (λ x. Some x) same in
          run-one P all t c reply None (λ new. issue_numbered new issue.cusip (number + 1) ≡ Some issue)
          (subst (λ plan. IsOutcome P.prices plan (answered reply)) (sym (answered-again P.limit t c reply (issue, passed, here, refl))) refl) tt
          within here
    ] refl

-- ---- versions
kept-step : (P : Rules) (t : Tables) (c : Command) (issue : IssueRow) (key : Key) (number : ℕ) (version : Version) → IsReasonFor P t c issue key number version → IsStepOver P t c (kept issue key number version)
kept-step P t c issue key number version (inl cancel) =
    subst (λ plan. IsOutcome P.prices plan (kept issue key number version)) (sym (cancel-planned P.limit t c issue key number version cancel)) refl
kept-step P t c issue key number version (inr (reason, prices)) =
    subst (λ plan. IsOutcome P.prices plan (kept issue key number version)) (sym (priced-planned P.limit t c issue version.issue_number key number version.act version.terms reason)) (Ok version.figures, prices, refl)

next-of : (P : Rules) (t : Tables) (c : Command) (issue : IssueRow) (key : Key) (number : ℕ) (version : Version) → IsReasonFor P t c issue key number version → number ≡ next_number (trade_at t key)
next-of P t c issue key number version (inl cancel) = live-next t key number cancel.last cancel.is_live
next-of P t c issue key number version (inr (inl entered, prices)) = new-next t key number entered.number_is entered.is_new
next-of P t c issue key number version (inr (inr corrected, prices)) = live-next t key number corrected.last corrected.is_live

-- a command that has its reason if its version is missing, and is kept if it is there, is accepted
version-run : (P : Rules) (all t : Tables) (c : Command) (issue : IssueRow) (key : Key) (number : ℕ) (version : Version) → Keeps t all → version_at all key number ≡ Some version
    → (version_at t key number ≡ Some version → IsKept t c (Confirmed issue key number version))
    → (version_at t key number ≡ None → IsReasonFor P t c issue key number version)
    → IsRun P all t (c ∷ []) (λ new. version_at new key number ≡ Some version)
version-run P all t c issue key number version within there again reason =
    let reply = Confirmed issue key number version in
    elim (version_at t key number) as (λ o. version_at t key number ≡ o → IsRun P all t (c ∷ []) (λ new. version_at new key number ≡ Some version)) [
      | None ↦ λ none.
          let next = next-of P t c issue key number version (reason none) in
          run-one P all t c reply (Some (NewVersion key version)) (λ new. version_at new key number ≡ Some version)
          (kept-step P t c issue key number version (reason none)) tt
          (version-within t all key version within (ap (version_at all key) (sym next) ∙ there)) (version-put t key number version next)
      | Some other ↦ λ is.
          let same : other ≡ version = same_Some other version (sym (within.versions key number other is) ∙ there) in
          let here = is ∙ ap (λ v. Some v) same in
          run-one P all t c reply None (λ new. version_at new key number ≡ Some version)
          (subst (λ plan. IsOutcome P.prices plan (answered reply)) (sym (answered-again P.limit t c reply (again here))) refl) tt
          within here
    ] refl

abbrev confirmed-kept : (t : Tables) (issue : IssueRow) (key : Key) (number : ℕ) (version : Version) → version_at t key number ≡ Some version → issue_of t.issues version ≡ Some issue
    → IsConfirmed t key number (Confirmed issue key number version)
confirmed-kept t issue key number version here there = record {
  issue = issue;
  version = version;
  version_kept = here;
  issue_kept = there;
  confirmed = refl;
}

-- ---- versions that the exported tables keep
-- the figures of a version are those that may be answered
abbrev pub ArePriced : Rules → Rightness
ArePriced P issue asked figures = P.prices issue asked (Ok figures)

-- tables are sound, and their desks have no more trades than the limit
pub record Fits (P : Rules) (all : Tables) : Type 0 where
  pub sound : IsSound (ArePriced P) all
  pub few : HaveAtMost P.limit all

all-at : {A : Type 0} (Q : A → Type 0) (xs : List A) (i : ℕ) (x : A) → All Q xs → slice_get xs i ≡ Some x → Q x
all-at Q [] i x all is = absurd (none-some x is)
all-at Q (y ∷ xs) zero x all is = subst Q (same_Some y x is) (All-head Q y xs all)
all-at Q (y ∷ xs) (suc i) x all is = all-at Q xs i x (All-tail Q y xs all) is

right-version : (R : Rightness) (t : Tables) (key : Key) (number : ℕ) (version : Version) → IsSound R t → version_at t key number ≡ Some version → IsRightVersion R t.issues version
right-version R t key number version sound is =
    let trade = kept-trade (trade_at t key) number version is in
    let at = place-of trade.0 number version (sym (ap (option_and_then (λ history. version_in history number)) trade.1) ∙ is) in
    all-at (IsRightVersion R t.issues) (versions trade.0) at.0 version (sound.trades key trade.0 trade.1).right at.2

not-full : (limit n : ℕ) → n < limit → nat_le limit n ≡ false
not-full limit n few = grind (arith, nat_tests)

-- a desk that is to have a trade more has room
has-room : (limit : ℕ) (t all : Tables) (key : Key) (version : Version) → HaveAtMost limit all → Keeps t all → version_at t key 1 ≡ None → version_at all key 1 ≡ Some version → is_full limit (own key.desk t.desks) ≡ false
has-room limit t all key version few within none there =
    let trade = kept-trade (trade_at all key) 1 version there in
    let less = fewer (own key.desk t.desks) (own key.desk all.desks) key.reference trade.0 (λ q history is.
    let other : Key = record { desk = key.desk; reference = q } in
    let first = first-version history in
    kept-trade (trade_at all other) 1 first.0 (within.versions other 1 first.0 (ap (option_and_then (λ history. version_in history 1)) is ∙ first.1)))
    (none-kept (trade_at t key) none) trade.1 in
    let most = few key.desk in
    not-full limit (len (own key.desk t.desks)) (omega arith)

-- ---- the terms of its issue by which a version is brought
itself : (number : ℕ) → (number == number) ≡ true
itself number = grind (arith, nat_tests)

chosen : (issues : Issues) (cusip : List ℕ) (number : ℕ) (issue : IssueRow) (last : Option (ℕ × IssueRow)) → counted_terms issues cusip ≡ last → numbered_terms issues cusip number ≡ Some issue
    → terms_by issues cusip (unless_last last number) last ≡ Ok (number, issue)
chosen issues cusip number issue None counted is =
    let last = has-last (get issues cusip) number issue is in
    absurd (none-some last.0 (sym counted ∙ last.1))
chosen issues cusip number issue (Some last) counted is =
    elim (number == last.0) as (λ b. (number == last.0) ≡ b → terms_by issues cusip (if b then None else Some number) (Some last) ≡ Ok (number, issue)) [
      | true ↦ λ same.
          let at : number ≡ last.0 = eqb-true number last.0 same in
          let terms : last.1 ≡ issue = same_Some last.1 issue (sym (last-in (get issues cusip) last counted) ∙ ap (numbered_terms issues cusip) (sym at) ∙ is) in
          λ i. Ok (sym at i, terms i)
      | false ↦ λ other. ap (chosen_terms last.0 number) is
    ] refl

-- it is the one by which the version was figured, in tables that have the issues of the exported ones
written-terms : (all t : Tables) (version : Version) (issue : IssueRow) → t.issues ≡ all.issues → issue_of all.issues version ≡ Some issue
    → terms_for t.issues version.terms.asked.cusip (written_number all version) ≡ Ok (version.issue_number, issue)
written-terms all t version issue same is =
    let cusip = version.terms.asked.cusip in
    ap (λ issues. terms_for issues cusip (written_number all version)) same
    ∙ chosen all.issues cusip version.issue_number issue (counted_terms all.issues cusip) refl is

written-chosen : (all t : Tables) (version : Version) (issue : IssueRow) → t.issues ≡ all.issues → issue_of all.issues version ≡ Some issue
    → is_chosen (written_number all version) version.issue_number ≡ true
written-chosen all t version issue same is =
    (terms-found t.issues version.terms.asked.cusip (written_number all version) (version.issue_number, issue) (written-terms all t version issue same is)).1

-- ---- the commands of versions
pub enter-run : (P : Rules) (all t : Tables) (key : Key) (version : Version) → Fits P all → HasIssues all t → Keeps t all → version_at all key 1 ≡ Some version → version.act ≡ Entered
    → IsRun P all t (Enter key version.terms (written_number all version) ∷ []) (λ new. version_at new key 1 ≡ Some version)
enter-run P all t key version fits issues within there entered =
    let right = right-version (ArePriced P) all key 1 version fits.sound there in
    let issue = issues version.terms.asked.cusip version.issue_number right.issue right.kept in
    let same = same-issues t all within.issues issues in
    version-run P all t (Enter key version.terms (written_number all version)) right.issue key 1 version within there
    (λ here. (confirmed-kept t right.issue key 1 version here issue, refl, written-chosen all t version right.issue same right.kept))
    (λ none. inr (
      inl (record {
        chosen = written_number all version;
        command = refl;
        number_is = refl;
        act_is = entered;
        issue_is = written-terms all t version right.issue same right.kept;
        is_new = none;
        room = has-room P.limit t all key version fits.few within none there;
      }),
      right.right,
    ))

few-enough : (P : Rules) (all : Tables) (key : Key) (number : ℕ) (version : Version) → Fits P all → version_at all key (number + 1) ≡ Some version → version.act ≡ Corrected → nat_le 99 number ≡ false
few-enough P all key number version fits there corrected =
    let trade = kept-trade (trade_at all key) (number + 1) version there in
    few-before number (few-corrected trade.0 (number + 1) version (fits.sound.trades key trade.0 trade.1).few (sym (ap (option_and_then (λ history. version_in history (number + 1))) trade.1) ∙ there) corrected)

pub correct-run : (P : Rules) (all t : Tables) (key : Key) (number : ℕ) (before version : Version) → Fits P all → HasIssues all t → Keeps t all → version_at t key number ≡ Some before
    → version_at all key (number + 1) ≡ Some version → is_canceled before.act ≡ false → version.act ≡ Corrected
    → IsRun P all t (Correct key (number + 1) version.terms (written_number all version) ∷ []) (λ new. version_at new key (number + 1) ≡ Some version)
correct-run P all t key number before version fits issues within last there live corrected =
    let right = right-version (ArePriced P) all key (number + 1) version fits.sound there in
    let issue = issues version.terms.asked.cusip version.issue_number right.issue right.kept in
    let same = same-issues t all within.issues issues in
    version-run P all t (Correct key (number + 1) version.terms (written_number all version)) right.issue key (number + 1) version within there
    (λ here. (confirmed-kept t right.issue key (number + 1) version here issue, refl, written-chosen all t version right.issue same right.kept, corrected))
    (λ none. inr (
      inr (record {
        chosen = written_number all version;
        command = refl;
        act_is = corrected;
        issue_is = written-terms all t version right.issue same right.kept;
        last = (number, before);
        is_live = record { last_is = last-of (trade_at t key) number before last none; live = live; number_is = refl };
        room = few-enough P all key number version fits there corrected;
      }),
      right.right,
    ))

pub cancel-run : (P : Rules) (all t : Tables) (key : Key) (number : ℕ) (before version : Version) → Fits P all → HasIssues all t → Keeps t all → version_at t key number ≡ Some before
    → version_at all key (number + 1) ≡ Some version → is_canceled before.act ≡ false → version ≡ cancel_of before
    → IsRun P all t (Cancel key (number + 1) ∷ []) (λ new. version_at new key (number + 1) ≡ Some version)
cancel-run P all t key number before version fits issues within last there live canceled =
    let right = right-version (ArePriced P) all key (number + 1) version fits.sound there in
    let issue = issues version.terms.asked.cusip version.issue_number right.issue right.kept in
    version-run P all t (Cancel key (number + 1)) right.issue key (number + 1) version within there
    (λ here. (confirmed-kept t right.issue key (number + 1) version here issue, ap (λ (v : Version). v.act) canceled))
    (λ none. inl (record {
      command = refl;
      last = (number, before);
      is_live = record { last_is = last-of (trade_at t key) number before last none; live = live; number_is = refl };
      issue_is = ap (λ (v : Version). issue_of t.issues v) (sym canceled) ∙ issue;
      version_is = canceled;
    }))
