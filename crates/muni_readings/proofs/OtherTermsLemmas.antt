-- Answers over other terms.
use Rattle.std.proofs.Common.{◌≡◌, suc, ◌==◌, true, refl, sym, ap, subst, arith, length, List, [], ◌∷◌, Option, Some, None, Result, Ok, Err}
use Rattle.std.specs.Prelude.{MatchOption}
use Rattle.std.proofs.lemmas.Bool.Decides.{nat_tests}
use Rattle.std.specs.Result.{result_ok}
use Rattle.muni_terms.specs.Check.{fault_of, unless_fault, checked}
use Rattle.muni_terms.specs.declared.row.IssueRow.{IssueRow}
use Rattle.muni_terms.specs.declared.row.TermsFault.{TermsFault}
use Rattle.muni_msg.specs.declared.asked.Asked.{Asked}
use Rattle.muni_msg.specs.declared.figures.Figures.{Figures}
use Rattle.muni_msg.specs.declared.refusal.Refusal.{Refusal}
use Rattle.muni_answer.specs.Answers.{IsRightAnswer}
use Rattle.muni_readings.specs.OtherTerms.{Ends, IsAnswered, IsOver, IsByGross, uncalled}

passed-by : (ends : Ends) (row issue : IssueRow) (asked : Asked) (theirs : Option Figures) (fault : Option TermsFault) → ◌≡◌ {A = Result IssueRow TermsFault} (Ok issue) (unless_fault row fault)
    → IsAnswered ends issue asked theirs → MatchOption fault (IsAnswered ends row asked theirs) (λ it. theirs ≡ None)
passed-by ends row issue asked theirs None is answered =
    let same : issue ≡ row = (let both : ◌≡◌ {A = Result IssueRow TermsFault} (Ok issue) (Ok row) = is in cc) in
    subst (λ it. IsAnswered ends it asked theirs) same answered
passed-by ends row issue asked theirs (Some fault) is answered =
    absurd (let never : ◌≡◌ {A = Result IssueRow TermsFault} (Ok issue) (Err fault) = is in cc)

-- what is answered over terms that pass, and that those that do not pass have none
pub over-passed : (ends : Ends) (row issue : IssueRow) (asked : Asked) (answer : Result Figures Refusal) (theirs : Option Figures) → ◌≡◌ {A = Result IssueRow TermsFault} (Ok issue) (checked row)
    → IsRightAnswer ends issue asked answer → theirs ≡ result_ok answer → IsOver ends row asked theirs
over-passed ends row issue asked answer theirs is right figures =
    passed-by ends row issue asked theirs (fault_of row) is (record { answer = answer; right = right; figures = figures })

refused-by : (ends : Ends) (row : IssueRow) (asked : Asked) (fault : Option TermsFault) (found : TermsFault) → ◌≡◌ {A = Result IssueRow TermsFault} (Err found) (unless_fault row fault)
    → MatchOption fault (IsAnswered ends row asked None) (λ it. ◌≡◌ {A = Option Figures} None None)
refused-by ends row asked None found is = absurd (let never : ◌≡◌ {A = Result IssueRow TermsFault} (Err found) (Ok row) = is in cc)
refused-by ends row asked (Some fault) found is = refl

pub over-refused : (ends : Ends) (row : IssueRow) (asked : Asked) (found : TermsFault) → ◌≡◌ {A = Result IssueRow TermsFault} (Err found) (checked row) → IsOver ends row asked None
over-refused ends row asked found is = refused-by ends row asked (fault_of row) found is

-- over the terms of the issue the figures are the right ones
pub over-same : (ends : Ends) (row : IssueRow) (asked : Asked) (figures : Figures) → fault_of row ≡ None → IsRightAnswer ends row asked (Ok figures) → IsOver ends row asked (Some figures)
over-same ends row asked figures none right =
    subst (λ fault. MatchOption fault (IsAnswered ends row asked (Some figures)) (λ it. Some figures ≡ None)) (sym none)
    (record { answer = Ok figures; right = right; figures = refl })

pub over-equal : (ends : Ends) (row other : IssueRow) (asked : Asked) (figures : Figures) → fault_of row ≡ None → other ≡ row → IsRightAnswer ends row asked (Ok figures) → IsOver ends other asked (Some figures)
over-equal ends row other asked figures none same right =
    subst (λ it. IsOver ends it asked (Some figures)) (sym same) (over-same ends row asked figures none right)

-- no calls
pub no-items : {A : Type 0} (items : List A) → (length items == 0) ≡ true → items ≡ []
no-items [] none = refl
no-items (item ∷ items) none = absurd (let never : (suc (length items) == 0) ≡ true = none in grind (arith, nat_tests))

pub uncalled-same : (row : IssueRow) → row.calls.items ≡ [] → uncalled row ≡ row
uncalled-same row none = ap (λ calls. record row { calls = record { items = calls } }) (sym none)

-- the right figures are those without a commission if there is none
pub gross-same : (ends : Ends) (row : IssueRow) (asked : Asked) (figures : Figures) → asked.fee ≡ 0 → IsRightAnswer ends row asked (Ok figures) → IsByGross ends row asked figures (Some figures)
gross-same ends row asked figures none right = record {
  gross = Some figures;
  answered = record {
    answer = Ok figures;
    right = subst (λ fee. IsRightAnswer ends row (record asked { fee = fee }) (Ok figures)) none right;
    figures = refl;
  };
  is_with_yield = refl;
}
