-- The issues that are left, if the tables are known.
use Rattle.std.proofs.Common.{◌≡◌, ℕ, Bool, List, [], ◌∷◌, ◌++◌, take, Option, Some, None, refl, sym, ap, subst, ◌∙◌}
use Rattle.std.specs.Prelude.{if◌then◌else◌, IfSome, IsSome, slice_get}
use Rattle.std.specs.List.{AllByRecursion, flat_map}
use Rattle.std.specs.Option.{option_map}
use Rattle.std.proofs.lemmas.Option.{same_Some}
use Rattle.std.specs.BTreeMap.{BTreeMap}
use Rattle.muni_terms.specs.declared.row.IssueRow.{IssueRow}
use Rattle.muni_keep.specs.History.{History}
use Rattle.muni_keep.specs.Tables.{Tables, issue_history, issue_past}
use Rattle.muni_keep.specs.Trades.{past}
use Rattle.muni_keep.proofs.EntriesLemmas.{past-found, past-next}
use Rattle.muni_desk_export.specs.Issues.{is_wanted, issue_rows, issue_text, issues_after, issues_left, text_at}
use Rattle.muni_desk_export.specs.Named.{has, is_named}
use Rattle.muni_desk_export.specs.Trades.{kept_versions}
use Rattle.muni_desk_export.specs.Walk.{desk_rows}
use Rattle.muni_desk_export.specs.Wanted.{wanted_text}
use Rattle.muni_desk_export.specs.declared.wanted.Wanted.TheVariants as wanted

-- the first of the issues that are left is kept with its terms
pub record IsFirst (t : Tables) (issues : List (List ℕ × History IssueRow)) (cusip : List ℕ) : Type 0 where
  pub terms : History IssueRow
  pub rest : List (List ℕ × History IssueRow)
  pub is : issues ≡ (cusip, terms) ∷ rest
  pub kept : issue_history t cusip ≡ Some terms

first_of : (t : Tables) (issues : List (List ℕ × History IssueRow)) (next : List ℕ × IssueRow) → AllByRecursion (λ issue. issue_history t issue.0 ≡ Some issue.1) (take 1 issues)
    → Some next ≡ option_map (λ issue. (issue.0, issue.1.last)) (slice_get issues 0) → IsFirst t issues next.0
first_of t [] next kept is = absurd (cc is)
first_of t (issue ∷ rest) next kept is =
    let same : issue.0 ≡ next.0 = ap (λ (pair : List ℕ × IssueRow). pair.0) (same_Some (issue.0, issue.1.last) next (sym is)) in
    subst (IsFirst t (issue ∷ rest)) same (record { terms = issue.1; rest = rest; is = refl; kept = kept.0 })

first-issue : (t : Tables) (after : Option (List ℕ)) (next : List ℕ × IssueRow) → Some next ≡ issue_past t after → IsFirst t (past after t.issues) next.0
first-issue t after next is = first_of t (past after t.issues) next (past-found after t.issues 1) is

none_of : (issues : List (List ℕ × History IssueRow)) → None ≡ option_map {U = List ℕ × IssueRow} (λ issue. (issue.0, issue.1.last)) (slice_get issues 0) → issues ≡ []
none_of [] is = refl
none_of (issue ∷ rest) is = absurd (cc is)

pub next-kept : (told : Option Tables) (after : Option (List ℕ)) (next : List ℕ × IssueRow) → IfSome told (λ t. Some next ≡ issue_past t after) → IfSome told (λ t. IsSome (issue_history t next.0))
next-kept None after next is = tt
next-kept (Some t) after next is = let first = first-issue t after next is in rw first.kept refl

-- the text of the next issue, and those after it
pub next-issue : (told : Option Tables) (named : Option (BTreeMap (List ℕ) (Unit {0}))) (after : Option (List ℕ)) (next : List ℕ × IssueRow) (piece : List ℕ) → IfSome told (λ t. Some next ≡ issue_past t after)
    → IfSome told (λ t. piece ≡ text_at t (is_wanted named) next.0) → IfSome told (λ t. issues_left t named after ≡ piece ++ issues_left t named (Some next.0))
next-issue None named after next piece is text = tt
next-issue (Some t) named after next piece is text =
    let first = first-issue t after next is in
    let wanted = is_wanted named in
    let whole = ap (λ kept. if wanted next.0 then issue_rows (kept_versions kept) else []) first.kept in
    ap (flat_map (issue_text wanted)) first.is
    ∙ ap (λ l. issue_text wanted (next.0, first.terms) ++ flat_map (issue_text wanted) l) (sym (past-next after t.issues [] (next.0, first.terms) first.rest first.is))
    ∙ ap (λ l. l ++ issues_left t named (Some next.0)) (sym (text ∙ whole))

-- the issues that a desk names
pub named-text : (told : Option Tables) (named : BTreeMap (List ℕ) (Unit {0})) (desk : List ℕ) → IfSome told (λ t. (cusip : List ℕ) → has named cusip ≡ is_named t desk cusip)
    → IfSome told (λ t. issues_left t (Some named) None ++ desk_rows t desk ≡ wanted_text (wanted.Desk desk) t)
named-text None named desk same = tt
named-text (Some t) named desk same = ap (λ (is_wanted : List ℕ → Bool). issues_after t is_wanted None ++ desk_rows t desk) (λ i cusip. same cusip i)

pub no-issue : (told : Option Tables) (named : Option (BTreeMap (List ℕ) (Unit {0}))) (after : Option (List ℕ)) → IfSome told (λ t. None ≡ issue_past t after) → IfSome told (λ t. issues_left t named after ≡ [])
no-issue None named after is = tt
no-issue (Some t) named after is = ap (flat_map (issue_text (is_wanted named))) (none_of (past after t.issues) is)
