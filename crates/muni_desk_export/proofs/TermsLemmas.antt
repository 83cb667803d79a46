-- The terms of an issue, one after another.
use Rattle.std.proofs.Common.{◌≡◌, ◌≤◌, ◌<◌, ◌+◌, ◌-◌, ◌==◌, ℕ, true, false, List, [], ◌∷◌, ◌++◌, length, drop, Option, Some, None, refl, sym, ap, subst, ◌∙◌, arith, append_assoc}
use Rattle.std.specs.Prelude.{slice_get, if◌then◌else◌, IsSome, IfSome}
use Rattle.std.specs.Option.{option_map}
use Rattle.std.proofs.lemmas.Bool.{eqb-true}
use Rattle.std.proofs.lemmas.List.{append-nil}
use Rattle.std.proofs.lemmas.Option.{none-some, same_Some}
use Rattle.muni_terms.specs.declared.row.IssueRow.{IssueRow}
use Rattle.muni_keep.specs.History.{History, count, versions}
use Rattle.muni_keep.specs.Tables.{Tables, issue_history, issue_numbered, last_issue}
use Rattle.muni_export.specs.Rows.{issue_row}
use Rattle.muni_desk_export.specs.Issues.{rows_at, terms_at, terms_rows}
use Rattle.muni_desk_export.proofs.VersionLemmas.{drop_all, get_within, kept-next, length_last}

-- terms of which the last ones are known
terms_of : (kept : Option (History IssueRow)) (last : ℕ × IssueRow) → option_map (λ history. (count history, history.last)) kept ≡ Some last
    → (terms : History IssueRow) × (kept ≡ Some terms) × (last ≡ (count terms, terms.last))
terms_of None last is = absurd (none-some last is)
terms_of (Some terms) last is = (terms, refl, sym (same_Some (count terms, terms.last) last is))

-- those before them are kept
terms-kept : (t : Tables) (cusip : List ℕ) (last : ℕ × IssueRow) (number : ℕ) → last_issue t cusip ≡ Some last → 1 ≤ number → number < last.0 → IsSome (issue_numbered t cusip number)
terms-kept t cusip last number is some before =
    let terms = terms_of (issue_history t cusip) last is in
    let all = length_last terms.0.earlier terms.0.last in
    let most = ap (λ (pair : ℕ × IssueRow). pair.0) terms.2 in
    rw terms.1 (elim (number == 0) as (λ b. number == 0 ≡ b → IsSome (if b then None else slice_get (versions terms.0) (number - 1))) [
      | true ↦ λ z. let zero_is : number ≡ 0 = eqb-true number 0 z in absurd (omega arith)
      | false ↦ λ _. get_within (versions terms.0) (number - 1) (omega (arith, all, most, some, before))
    ] refl)

-- the last ones are the last
terms-last : (t : Tables) (cusip : List ℕ) (last : ℕ × IssueRow) → last_issue t cusip ≡ Some last → drop (last.0 - 1) (terms_at t cusip) ≡ last.1 ∷ []
terms-last t cusip last is =
    let terms = terms_of (issue_history t cusip) last is in
    let number : last.0 - 1 ≡ length terms.0.earlier = omega (arith, ap (λ (pair : ℕ × IssueRow). pair.0) terms.2) in
    rw (terms.1, number) (drop_all terms.0.earlier terms.0.last ∙ ap (λ x. x ∷ []) (sym (ap (λ (pair : ℕ × IssueRow). pair.1) terms.2)))

-- ---- the same if the tables are known
pub told-before : (told : Option Tables) (cusip : List ℕ) (last : ℕ × IssueRow) (number : ℕ) → IfSome told (λ t. last_issue t cusip ≡ Some last) → 1 ≤ number → number < last.0
    → IfSome told (λ t. IsSome (issue_numbered t cusip number))
told-before None cusip last number is some before = tt
told-before (Some t) cusip last number is some before = terms-kept t cusip last number is some before

-- if terms that are kept were not found, no tables are known
no-last : (kept : Option (History IssueRow)) → IsSome kept → None ≡ option_map {U = ℕ × IssueRow} (λ history. (count history, history.last)) kept → ⊥
no-last None some none = absurd (cc some)
no-last (Some terms) some none = none-some (count terms, terms.last) none

pub last-not-told : (told : Option Tables) (cusip : List ℕ) → IfSome told (λ t. IsSome (issue_history t cusip)) → IfSome told (λ t. None ≡ last_issue t cusip) → told ≡ None
last-not-told None cusip kept found = refl
last-not-told (Some t) cusip kept found = absurd (no-last (issue_history t cusip) kept found)

pub terms-not-told : (told : Option Tables) (cusip : List ℕ) (number : ℕ) → IfSome told (λ t. IsSome (issue_numbered t cusip number)) → IfSome told (λ t. None ≡ issue_numbered t cusip number) → told ≡ None
terms-not-told None cusip number kept found = refl
terms-not-told (Some t) cusip number kept found = absurd (cc (subst IsSome (sym found) kept))

-- ---- their rows
rows-next : (number : ℕ) (issue : IssueRow) (left rest : List IssueRow) (had all : List ℕ) → left ≡ issue ∷ rest
    → had ++ terms_rows number left ≡ all → (had ++ issue_row number issue) ++ terms_rows (number + 1) rest ≡ all
rows-next number issue left rest had all is before =
    append_assoc had (issue_row number issue) (terms_rows (number + 1) rest) ∙ ap (λ l. had ++ terms_rows number l) (sym is) ∙ before

pub told-first-terms : (told : Option Tables) (cusip : List ℕ) (last : ℕ × IssueRow) → IfSome told (λ t. last_issue t cusip ≡ Some last) → IfSome told (λ t. 1 ≤ last.0)
told-first-terms None cusip last is = tt
told-first-terms (Some t) cusip last is =
    let terms = terms_of (issue_history t cusip) last is in
    omega (arith, ap (λ (pair : ℕ × IssueRow). pair.0) terms.2)

pub told-terms : (told : Option Tables) (cusip : List ℕ) (number : ℕ) (issue : IssueRow) (had next first : List ℕ) → 1 ≤ number
    → IfSome told (λ t. issue_numbered t cusip number ≡ Some issue) → next ≡ had ++ issue_row number issue
    → IfSome told (λ t. had ++ terms_rows number (drop (number - 1) (terms_at t cusip)) ≡ first ++ rows_at t cusip)
    → IfSome told (λ t. next ++ terms_rows (number + 1) (drop ((number + 1) - 1) (terms_at t cusip)) ≡ first ++ rows_at t cusip)
told-terms None cusip number issue had next first some is put before = tt
told-terms (Some t) cusip number issue had next first some is put before =
    let rest = drop ((number + 1) - 1) (terms_at t cusip) in
    ap (λ l. l ++ terms_rows (number + 1) rest) put
    ∙ rows-next number issue (drop (number - 1) (terms_at t cusip)) rest had (first ++ rows_at t cusip) (kept-next (issue_history t cusip) number issue some is) before

pub told-last-terms : (told : Option Tables) (cusip : List ℕ) (last : ℕ × IssueRow) (number : ℕ) (had next first : List ℕ) → IfSome told (λ t. number ≤ last.0) → last.0 ≤ number
    → IfSome told (λ t. last_issue t cusip ≡ Some last) → next ≡ had ++ issue_row last.0 last.1
    → IfSome told (λ t. had ++ terms_rows number (drop (number - 1) (terms_at t cusip)) ≡ first ++ rows_at t cusip)
    → IfSome told (λ t. next ≡ first ++ rows_at t cusip)
told-last-terms None cusip last number had next first most least is put before = tt
told-last-terms (Some t) cusip last number had next first most least is put before =
    let same : number ≡ last.0 = omega arith in
    put ∙ sym (append-nil (had ++ issue_row last.0 last.1))
    ∙ rows-next last.0 last.1 (drop (last.0 - 1) (terms_at t cusip)) [] had (first ++ rows_at t cusip) (terms-last t cusip last is) (rw same at before)
