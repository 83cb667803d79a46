-- What is kept stays.
use Rattle.std.proofs.Common.{◌≡◌, ◌≢◌, ◌⊎◌, inl, inr, ℕ, zero, suc, ◌-◌, ◌==◌, true, false, cond, refl, sym, ap, subst, ◌∙◌, Option, Some, None, List, [], ◌∷◌, ◌++◌}
use Rattle.std.specs.Prelude.{if◌then◌else◌, slice_get}
use Rattle.std.specs.Option.{option_and_then}
use Rattle.std.specs.Ordering.{eq_by_cmp}
use Rattle.std.specs.Cmp.Lexicographic.{nat_list_cmp_total}
use Rattle.std.specs.FinMap.{get, insert, get-insert}
use Rattle.muni_terms.specs.declared.row.IssueRow.{IssueRow}
use Rattle.muni_msg.specs.declared.command.Command.{Command}
use Rattle.muni_msg.specs.declared.command.Key.{Key}
use Rattle.muni_msg.specs.declared.command.Reply.{Reply}
use Rattle.muni_msg.specs.declared.version.Version.{Version}
use Rattle.muni_keep.specs.History.{History, versions, version_in, next_number, grown}
use Rattle.muni_keep.specs.Tables.{Tables, Issues, numbered_terms, version_at, with_version}
use Rattle.muni_keep.specs.Trades.{by_bytes}
use Rattle.muni_book_step.specs.Step.{Rules, Entry, NewIssue, NewVersion, IsStepOver, after}
use Rattle.muni_book_step.specs.Reasons.{IsReasoned}
use Rattle.muni_book_step.proofs.OutcomeLemmas.{step-reason}
use Rattle.muni_book.specs.Once.{Keeps, RunsKeep}
use Rattle.muni_book.proofs.PutLemmas.{same-name, other-name, trade-put, grown-next}

some-none : {A : Type 0} (x : A) (o : Option A) → o ≡ None → o ≡ Some x → ⊥
some-none x o none some = let never : None ≡ Some x = sym none ∙ some in cc

-- ---- histories
read-before : {A : Type 0} (xs ys : List A) (i : ℕ) (x : A) → slice_get xs i ≡ Some x → slice_get (xs ++ ys) i ≡ Some x
read-before [] ys i x there = absurd (some-none x None refl there)
read-before (a ∷ xs) ys zero x there = there
read-before (a ∷ xs) ys (suc i) x there = read-before xs ys i x there

history-stays : {V : Type 0} (history : History V) (added : V) (number : ℕ) (v : V) → version_in history number ≡ Some v → version_in (grown (Some history) added) number ≡ Some v
history-stays history added number v kept =
    elim (number == 0) as (λ b. (if b then None else slice_get (versions history) (number - 1)) ≡ Some v → (if b then None else slice_get (versions history ++ added ∷ []) (number - 1)) ≡ Some v) [
      | true ↦ λ none. none
      | false ↦ λ there. read-before (versions history) (added ∷ []) (number - 1) v there
    ] kept

grown-stays : {V : Type 0} (trade : Option (History V)) (added : V) (number : ℕ) (v : V) → option_and_then (λ history. version_in history number) trade ≡ Some v → version_in (grown trade added) number ≡ Some v
grown-stays None added number v kept = absurd (some-none v None refl kept)
grown-stays (Some history) added number v kept = history-stays history added number v kept

-- ---- issues
abbrev more : Issues → IssueRow → Issues
more issues added = insert issues added.cusip (grown (get issues added.cusip) added)

-- the terms of an issue after its next ones were put, and those of any other as they were
abbrev pub AreTermsAfter : Issues → IssueRow → List ℕ → Type 0
AreTermsAfter issues added cusip =
    ((cusip ≡ added.cusip) × (get (more issues added) cusip ≡ Some (grown (get issues added.cusip) added)))
    ⊎ ((cusip ≢ added.cusip) × (get (more issues added) cusip ≡ get issues cusip))

pub terms-after : (issues : Issues) (added : IssueRow) (cusip : List ℕ) → AreTermsAfter issues added cusip
terms-after issues added cusip =
    let found = get-insert nat_list_cmp_total issues added.cusip (grown (get issues added.cusip) added) cusip in
    elim (eq_by_cmp by_bytes cusip added.cusip) as (λ b. eq_by_cmp by_bytes cusip added.cusip ≡ b → AreTermsAfter issues added cusip) [
      | true ↦ λ same. inl (same-name cusip added.cusip same, found ∙ ap (λ b. cond b (Some (grown (get issues added.cusip) added)) (get issues cusip)) same)
      | false ↦ λ other. inr (other-name cusip added.cusip other, found ∙ ap (λ b. cond b (Some (grown (get issues added.cusip) added)) (get issues cusip)) other)
    ] refl

-- the next terms are found under their number
pub terms-put : (issues : Issues) (added : IssueRow) (number : ℕ) → number ≡ next_number (get issues added.cusip) → numbered_terms (more issues added) added.cusip number ≡ Some added
terms-put issues added number next =
    elim (terms-after issues added added.cusip) as (λ _. numbered_terms (more issues added) added.cusip number ≡ Some added) [
      | inl there ↦ ap (option_and_then (λ history. version_in history number)) there.1
          ∙ ap (version_in (grown (get issues added.cusip) added)) next ∙ grown-next (get issues added.cusip) added
      | inr other ↦ absurd (other.0 refl)
    ]

terms-stay : (issues : Issues) (added issue : IssueRow) (cusip : List ℕ) (number : ℕ) → numbered_terms issues cusip number ≡ Some issue → numbered_terms (more issues added) cusip number ≡ Some issue
terms-stay issues added issue cusip number kept =
    elim (terms-after issues added cusip) as (λ _. numbered_terms (more issues added) cusip number ≡ Some issue) [
      | inl there ↦ ap (option_and_then (λ history. version_in history number)) there.1
          ∙ grown-stays (get issues added.cusip) added number issue (subst (λ c. numbered_terms issues c number ≡ Some issue) there.0 kept)
      | inr elsewhere ↦ ap (option_and_then (λ history. version_in history number)) elsewhere.1 ∙ kept
    ]

-- ---- versions
version-stays : (t : Tables) (key other : Key) (added version : Version) (number : ℕ) → version_at t other number ≡ Some version → version_at (with_version key added t) other number ≡ Some version
version-stays t key other added version number kept =
    elim (trade-put t key added other) as (λ _. version_at (with_version key added t) other number ≡ Some version) [
      | inl there ↦ ap (option_and_then (λ history. version_in history number)) there.1
          ∙ grown-stays _ added number version (subst (λ k. version_at t k number ≡ Some version) there.0 kept)
      | inr elsewhere ↦ ap (option_and_then (λ history. version_in history number)) elsewhere.1 ∙ kept
    ]

-- ---- runs
keeps-with : (P : Rules) (t : Tables) (c : Command) (reply : Reply) (entry : Option Entry) → IsReasoned P t c reply entry → Keeps t (after entry t)
keeps-with P t c reply None why = record { issues = λ cusip number issue kept. kept; versions = λ key number version kept. kept }
keeps-with P t c reply (Some (NewIssue added)) why = record {
  issues = λ cusip number issue kept. terms-stay t.issues added issue cusip number kept;
  versions = λ key number version kept. kept;
}
keeps-with P t c reply (Some (NewVersion key added)) why = record {
  issues = λ cusip number issue kept. kept;
  versions = λ other number version kept. version-stays t key other added version number kept;
}

pub step-keeps : (P : Rules) (t : Tables) (c : Command) (reply : Reply) (entry : Option Entry) → IsStepOver P t c (record { reply = reply; entry = entry }) → Keeps t (after entry t)
step-keeps P t c reply entry step = keeps-with P t c reply entry (step-reason P t c reply entry step)

keeps-both : (old mid new : Tables) → Keeps old mid → Keeps mid new → Keeps old new
keeps-both old mid new first later = record {
  issues = λ cusip number issue kept. later.issues cusip number issue (first.issues cusip number issue kept);
  versions = λ key number version kept. later.versions key number version (first.versions key number version kept);
}

keeps-itself : (t : Tables) → Keeps t t
keeps-itself t = record { issues = λ cusip number issue kept. kept; versions = λ key number version kept. kept }

pub runs-keep : (P : Rules) → RunsKeep P
runs-keep P old new [] [] run = subst (Keeps old) (sym run) (keeps-itself old)
runs-keep P old new [] (reply ∷ replies) run = absurd run
runs-keep P old new (c ∷ commands) [] run = absurd run
runs-keep P old new (c ∷ commands) (reply ∷ replies) run =
    keeps-both old (after run.0 old) new (step-keeps P old c reply run.0 run.1) (runs-keep P (after run.0 old) new commands replies run.2)
