-- Figures that are right for one request are the same.
use Rattle.std.proofs.Common.{◌≡◌, ℕ, List, Option, Some, sym, subst, ap, ◌∙◌, ℤ, Result, Ok, Err}
use Rattle.std.proofs.lemmas.Option.{same_Some}
use Rattle.muni_terms.specs.declared.row.IssueRow.{IssueRow}
use Rattle.muni_sched.specs.Answer.{IsDecided}
use Rattle.muni_sched.specs.GivenFigure.{at_yield, at_price, ArePriced, MayBeAsked}
use Rattle.muni_sched.specs.declared.answer.LowAnswer.{LowAnswer}
use Rattle.muni_sched.specs.declared.answer.LowAnswer.TheVariants as answer
use Rattle.muni_sched.specs.declared.candidate.Candidate.{Candidate}
use Rattle.muni_sched.proofs.CandidateLemmas.{one-list}
use Rattle.muni_sched.proofs.OneExactLemmas.{list-one}
use Rattle.muni_sched.proofs.OneRightLemmas.{one-right}
use Rattle.muni_msg.specs.declared.asked.Asked.{Asked}
use Rattle.muni_msg.specs.declared.asked.Given.{Given}
use Rattle.muni_msg.specs.declared.asked.Given.TheVariants.{AtYield, AtPrice, AtRate}
use Rattle.muni_msg.specs.declared.asked.Side.{Side}
use Rattle.muni_msg.specs.declared.figures.Figures.{Figures}
use Rattle.muni_msg.specs.declared.refusal.Refusal.{Refusal}
use Rattle.muni_msg.specs.declared.refusal.Refusal.TheVariants as refusal
use Rattle.muni_answer.specs.AnswerLaws.{RightFiguresAreOne, AnsweredFiguresAreOne, HaveOutcomesAt, RightFiguresHaveOutcomes}
use Rattle.muni_answer.specs.GivenFor.{MayBeGiven}
use Rattle.muni_answer.specs.Answers.{PriceAndYield, found_at_yield, found_at_price, figures_of}
use Rattle.muni_answer.specs.RightFigures.{AreRightAt, AreRightFigures}
use Rattle.muni_answer.specs.Trade.{net_price}
use Rattle.muni_answer.proofs.CandidateLemmas.{on-basis}
use Rattle.muni_answer.proofs.FoundLemmas.{inside-range, at_rate-unique}
use Rattle.muni_answer.proofs.RightLemmas.{answered-right}

-- ---- a price and a yield that are found are decided
not-refused : (found : PriceAndYield) (why : Refusal) → Some (Ok found) ≡ Some (Err why) → ⊥
not-refused found why is = let never : Ok found ≡ Err why = same_Some (Ok found) (Err why) is in cc

decided-price : (y : ℤ) (list : List Candidate) (found : PriceAndYield) (low : LowAnswer) → Some (Ok found) ≡ found_at_yield y list low → IsDecided low
decided-price y list found (answer.Low figure c) is = tt
decided-price y list found (answer.Undecided date boundary) is = not-refused found (refusal.Undecided date boundary) is
decided-price y list found (answer.Below date) is = tt
decided-price y list found answer.Above is = tt
decided-price y list found (answer.NoTime date) is = tt

decided-yield : (price : ℕ) (list : List Candidate) (found : PriceAndYield) (low : LowAnswer) → Some (Ok found) ≡ found_at_price price list low → IsDecided low
decided-yield price list found (answer.Low figure c) is = tt
decided-yield price list found (answer.Undecided date boundary) is = not-refused found (refusal.Undecided date boundary) is
decided-yield price list found (answer.Below date) is = tt
decided-yield price list found answer.Above is = tt
decided-yield price list found (answer.NoTime date) is = tt

same-ok : (found other : PriceAndYield) → ◌≡◌ {A = Result PriceAndYield Refusal} (Ok found) (Ok other) → found ≡ other
same-ok found other is = cc

same-found : (found other : PriceAndYield) → ◌≡◌ {A = Option (Result PriceAndYield Refusal)} (Some (Ok found)) (Some (Ok other)) → found ≡ other
same-found found other is = same-ok found other (same_Some (Ok found) (Ok other) is)

-- ---- at each basis
at-yield : (y : ℤ) (side : Side) (fee : ℕ) (list : List Candidate) → MayBeGiven (AtYield y) side fee list → ArePriced y list
at-yield y side fee list case = record { candidates = case.candidates; basis = case.basis.1; in_range = case.in_range }

right-found : (given : Given) (side : Side) (fee : ℕ) (list : List Candidate) (found other : PriceAndYield) → MayBeGiven given side fee list → AreRightAt given side fee list found → AreRightAt given side fee list other → found ≡ other
right-found (AtYield y) side fee list found other case is also =
    let low : is.0 ≡ also.0 = one-right (at_yield y) list is.0 also.0 (at-yield y side fee list case) (decided-price y list found is.0 is.2) (decided-price y list other also.0 also.2) is.1 also.1 in
    same-found found other (is.2 ∙ ap (found_at_yield y list) low ∙ sym also.2)
right-found (AtPrice price) side fee list found other case is also =
    let low : is.0 ≡ also.0 = one-right (at_price (net_price side price fee)) list is.0 also.0 (case.in_range.0, case.candidates) (decided-yield price list found is.0 is.2) (decided-yield price list other also.0 also.2) is.1 also.1 in
    same-found found other (is.2 ∙ ap (found_at_price price list) low ∙ sym also.2)
right-found (AtRate rate) side fee list found other case is also =
    same-ok found other (at_rate-unique rate side fee list (Ok found) (Ok other) case is also)

outcomes-at : (given : Given) (side : Side) (fee : ℕ) (list : List Candidate) → MayBeGiven given side fee list → HaveOutcomesAt given side fee list
outcomes-at (AtYield y) side fee list case =
    let asked : MayBeAsked (at_yield y) list = at-yield y side fee list case in
    record { asked = asked; exact = list-one (at_yield y) list asked }
outcomes-at (AtPrice price) side fee list case =
    let asked : MayBeAsked (at_price (net_price side price fee)) list = (case.in_range.0, case.candidates) in
    record { asked = asked; exact = list-one (at_price (net_price side price fee)) list asked }
outcomes-at (AtRate rate) side fee list case = tt

-- ---- figures
pub case-of : (row : IssueRow) (asked : Asked) (figures : Figures) (right : AreRightFigures row asked figures) → MayBeGiven asked.given asked.side asked.fee right.list
case-of row asked figures right = record {
  candidates = right.candidates.ranges;
  basis = on-basis asked.given asked.fee row asked.settle right.list right.on_basis right.candidates.shapes;
  in_range = inside-range asked.given asked.side asked.fee right.list right.in_range;
}

pub right-one : RightFiguresAreOne
right-one row asked figures other is also =
    let list : also.list ≡ is.list = one-list row asked.settle also.list is.list also.candidates is.candidates in
    let right = subst (λ l. AreRightAt asked.given asked.side asked.fee l also.found) list also.right in
    let found : is.found ≡ also.found = right-found asked.given asked.side asked.fee is.list is.found also.found (case-of row asked figures is) is.right right in
    let days : is.days ≡ also.days = same_Some is.days also.days (is.accrued ∙ sym also.accrued) in
    is.filled ∙ (λ i. figures_of row asked (days i) (found i)) ∙ sym also.filled

pub answered-one : AnsweredFiguresAreOne
answered-one ends others row asked figures other is also =
    right-one row asked figures other (answered-right ends row asked figures is) (answered-right others row asked other also)

pub right-outcomes : RightFiguresHaveOutcomes
right-outcomes row asked figures right = outcomes-at asked.given asked.side asked.fee right.list (case-of row asked figures right)
