-- The terms by which a trade is figured.
use Rattle.std.proofs.Common.{◌≡◌, ℕ, ◌==◌, arith, true, refl, sym, ap, subst, ◌∙◌, Option, Some, None, Result, Ok, Err, List}
use Rattle.std.specs.FinMap.{get}
use Rattle.std.proofs.lemmas.Bool.Decides.{nat_tests}
use Rattle.muni_terms.specs.declared.row.IssueRow.{IssueRow}
use Rattle.muni_msg.specs.declared.refusal.Refusal.TheVariants.{UnknownIssue}
use Rattle.muni_keep.specs.Tables.{Issues, numbered_terms, counted_terms}
use Rattle.muni_book_step.specs.Plan.{wrong_number, chosen_terms, terms_by, terms_for, is_chosen}
use Rattle.muni_book.proofs.PutLemmas.{last-in}

same-ok : {A E : Type 0} (one other : Result A E) (a b : A) → one ≡ other → one ≡ Ok a → other ≡ Ok b → a ≡ b
same-ok one other a b same first second = let is : Ok a ≡ Ok b = sym first ∙ same ∙ second in cc

never-ok : {A E P : Type 0} (one other : Result A E) (e : E) (a : A) → one ≡ other → one ≡ Err e → other ≡ Ok a → P
never-ok one other e a same first second = let never : Err e ≡ Ok a = sym first ∙ same ∙ second in absurd (cc)

itself : (number : ℕ) → (number == number) ≡ true
itself number = grind (arith, nat_tests)

-- they are kept under their number, which is the chosen one
abbrev pub IsFound : Issues → List ℕ → Option ℕ → ℕ × IssueRow → Type 0
IsFound issues cusip chosen found =
    (numbered_terms issues cusip found.0 ≡ Some found.1) × (is_chosen chosen found.0 ≡ true)

by-number : (issues : Issues) (cusip : List ℕ) (count number : ℕ) (found : ℕ × IssueRow) (o : Option IssueRow) → numbered_terms issues cusip number ≡ o → chosen_terms count number o ≡ Ok found → IsFound issues cusip (Some number) found
by-number issues cusip count number found None there is = never-ok _ _ (wrong_number count) found is refl refl
by-number issues cusip count number found (Some issue) there is =
    subst (IsFound issues cusip (Some number)) (same-ok _ _ (number, issue) found is refl refl) (there, itself number)

by-last : (issues : Issues) (cusip : List ℕ) (chosen : Option ℕ) (found : ℕ × IssueRow) (o : Option (ℕ × IssueRow)) → counted_terms issues cusip ≡ o → terms_by issues cusip chosen o ≡ Ok found → IsFound issues cusip chosen found
by-last issues cusip chosen found None there is = never-ok _ _ UnknownIssue found is refl refl
by-last issues cusip None found (Some last) there is =
    subst (IsFound issues cusip None) (same-ok _ _ last found is refl refl) (last-in (get issues cusip) last there, refl)
by-last issues cusip (Some number) found (Some last) there is =
    by-number issues cusip last.0 number found (numbered_terms issues cusip number) refl is

pub terms-found : (issues : Issues) (cusip : List ℕ) (chosen : Option ℕ) (found : ℕ × IssueRow) → terms_for issues cusip chosen ≡ Ok found → IsFound issues cusip chosen found
terms-found issues cusip chosen found is = by-last issues cusip chosen found (counted_terms issues cusip) refl is
