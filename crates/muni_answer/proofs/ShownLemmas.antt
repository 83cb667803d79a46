-- What is found is shown by its figures, or by its refusal.
use Rattle.std.proofs.Common.{◌≡◌, List, Some, refl, ap, sym, subst, Result, Ok, Err, ℤ}
use Rattle.muni_rule.specs.Payments.{PaymentSeries}
use Rattle.muni_rule.specs.WorthEnds.{WorthEnds}
use Rattle.muni_terms.specs.Issue.{accrued_days}
use Rattle.muni_terms.specs.declared.row.IssueRow.{IssueRow}
use Rattle.muni_msg.specs.declared.asked.Asked.{Asked}
use Rattle.muni_msg.specs.declared.asked.Given.{Given}
use Rattle.muni_msg.specs.declared.figures.Figures.{Figures}
use Rattle.muni_msg.specs.declared.refusal.Refusal.{Refusal}
use Rattle.muni_sched.specs.declared.candidate.Candidate.{Candidate}
use Rattle.muni_answer.specs.Answers.{PriceAndYield, figures_of, ShowsFound, IsFound, IsComputed, IsRightAnswer}
use Rattle.muni_answer.specs.FilledFor.{AreFilledFor}

pub figures-shown : (Finds : Result PriceAndYield Refusal → Type 0) (row : IssueRow) (asked : Asked) (found : PriceAndYield) (figures : Figures) → Finds (Ok found) → Some figures.days ≡ accrued_days row asked.settle → figures ≡ figures_of row asked figures.days found → ShowsFound Finds row asked (Ok figures)
figures-shown Finds row asked found figures is days filled = record {
  found = Ok found;
  is_found = is;
  is_shown = (figures.days, days, ap Ok filled);
}

pub refusal-shown : (Finds : Result PriceAndYield Refusal → Type 0) (row : IssueRow) (asked : Asked) (why : Refusal) → Finds (Err why) → ShowsFound Finds row asked (Err why)
refusal-shown Finds row asked why is = record {
  found = Err why;
  is_found = is;
  is_shown = refl;
}

-- what is found at a basis is computed, if that is what is given
pub computed-at : (ends : PaymentSeries → ℤ → WorthEnds) (row : IssueRow) (asked : Asked) (given : Given) (list : List Candidate) (answer : Result Figures Refusal) → asked.given ≡ given → ShowsFound (IsFound ends given asked.side asked.fee list) row asked answer → IsComputed ends row asked list answer
computed-at ends row asked given list answer is shown = subst (λ it. ShowsFound (IsFound ends it asked.side asked.fee list) row asked answer) (sym is) shown

-- and what is computed over the candidates that were filled in is the right answer
pub filled-right : (ends : PaymentSeries → ℤ → WorthEnds) (row : IssueRow) (asked : Asked) (list : List Candidate) (answer : Result Figures Refusal) → AreFilledFor row asked list → IsComputed ends row asked list answer → IsRightAnswer ends row asked answer
filled-right ends row asked list answer filled computed =
    rw (filled.on_basis, filled.askable.settled) (record { list = list; candidates = filled.candidates; answered = rw filled.in_range computed })
