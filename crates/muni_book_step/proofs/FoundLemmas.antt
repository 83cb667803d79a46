-- Plans by what is found in tables that are exposed.
use Rattle.std.proofs.Common.{◌≡◌, ℕ, sym, ap, ◌∙◌, Option, Some, None, Result, Err}
use Rattle.std.specs.Prelude.{IfSome}
use Rattle.std.specs.Option.{option_map_or}
use Rattle.muni_terms.specs.declared.row.IssueRow.{IssueRow}
use Rattle.muni_msg.specs.declared.refusal.Refusal.{Refusal}
use Rattle.muni_keep.specs.Tables.{Tables}
use Rattle.muni_book_step.specs.declared.plan.Plan.{Plan}
use Rattle.muni_book_step.specs.Plan.{refused, for_last, for_terms, unless}

-- there are no terms by which the trade is figured
pub no_terms : (told : Option Tables) (planned : Tables → ℕ × IssueRow → Plan) (terms : Tables → Result (ℕ × IssueRow) Refusal) (found : Result (ℕ × IssueRow) Refusal) (why : Refusal)
    → IfSome told (λ t. found ≡ terms t) → found ≡ Err why → IfSome told (λ t. refused why ≡ for_terms (planned t) (terms t))
no_terms None planned terms found why is none = tt
no_terms (Some t) planned terms found why is none = ap (for_terms (planned t)) (sym none ∙ is)

-- and the trade takes the correction
pub no_terms_to_correct : (told : Option Tables) (taken : Option Refusal) (planned : Tables → ℕ × IssueRow → Plan) (terms : Tables → Result (ℕ × IssueRow) Refusal) (found : Result (ℕ × IssueRow) Refusal) (why : Refusal)
    → taken ≡ None → IfSome told (λ t. found ≡ terms t) → found ≡ Err why → IfSome told (λ t. refused why ≡ unless taken (for_terms (planned t) (terms t)))
no_terms_to_correct None taken planned terms found why none is err = tt
no_terms_to_correct (Some t) taken planned terms found why none is err =
    ap (for_terms (planned t)) (sym err ∙ is) ∙ ap (λ taken. unless taken (for_terms (planned t) (terms t))) (sym none)
