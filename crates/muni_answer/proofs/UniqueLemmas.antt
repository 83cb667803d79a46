-- The right answer to a request is unique.
use Rattle.std.proofs.Common.{◌≡◌, Bool, true, false, List, Option, Some, None, refl, sym, subst, ap, ◌∙◌, Result, Ok, Err, ℤ}
use Rattle.std.specs.Prelude.{MatchBool, MatchOption}
use Rattle.muni_rule.specs.Payments.{PaymentSeries}
use Rattle.muni_rule.specs.WorthEnds.{WorthEnds}
use Rattle.muni_terms.specs.Issue.{settles}
use Rattle.muni_terms.specs.declared.row.IssueRow.{IssueRow}
use Rattle.muni_sched.specs.Candidates.{AreCandidates}
use Rattle.muni_sched.specs.declared.candidate.Candidate.{Candidate}
use Rattle.muni_sched.proofs.CandidateLemmas.{one-list}
use Rattle.std.proofs.lemmas.Option.{same_Some}
use Rattle.muni_msg.specs.declared.asked.Asked.{Asked}
use Rattle.muni_msg.specs.declared.figures.Figures.{Figures}
use Rattle.muni_msg.specs.declared.refusal.Range.{Range}
use Rattle.muni_msg.specs.declared.refusal.Refusal.{Refusal}
use Rattle.muni_msg.specs.declared.refusal.Refusal.TheVariants as refusal
use Rattle.muni_answer.specs.AnswerLaws.{AnswersAreUnique}
use Rattle.muni_answer.specs.Trade.{is_wrong_basis, side_left}
use Rattle.muni_answer.specs.Answers.{PriceAndYield, figures_of, IsShown, IsComputed, IsSettledAnswer}
use Rattle.muni_answer.proofs.CandidateLemmas.{on-basis}
use Rattle.muni_answer.proofs.FoundLemmas.{inside-range, found-unique}

-- ---- the answer
shown-unique : (row : IssueRow) (asked : Asked) (found : Result PriceAndYield Refusal) (answer other : Result Figures Refusal) → IsShown row asked found answer → IsShown row asked found other → answer ≡ other
shown-unique row asked (Ok found) answer other is also =
    let days : is.0 ≡ also.0 = same_Some is.0 also.0 (is.1 ∙ sym also.1) in
    is.2 ∙ ap (λ d. Ok (figures_of row asked d found)) days ∙ sym also.2
shown-unique row asked (Err refused) answer other is also = is ∙ sym also

computed-unique : (ends : PaymentSeries → ℤ → WorthEnds) (row : IssueRow) (asked : Asked) (list : List Candidate) (answer other : Result Figures Refusal) → is_wrong_basis row.kind asked.given asked.fee ≡ false → AreCandidates row asked.settle list → side_left asked.given asked.side asked.fee list ≡ None → IsComputed ends row asked list answer → IsComputed ends row asked list other → answer ≡ other
computed-unique ends row asked list answer other basis are inside is also =
    let found = found-unique ends asked.given asked.side asked.fee list also.found is.found (record {
      candidates = are.ranges;
      basis = on-basis asked.given asked.fee row asked.settle list basis are.shapes;
      in_range = inside-range asked.given asked.side asked.fee list inside;
    }) also.is_found is.is_found in
    shown-unique row asked is.found answer other is.is_shown (subst (λ it. IsShown row asked it other) found also.is_shown)

by-side : (side : Option Range) (Computed Too : Type 0) (answer other : Result Figures Refusal) → (side ≡ None → Computed → Too → answer ≡ other) → MatchOption side Computed (λ left. answer ≡ Err (refusal.GivenOutOfRange left)) → MatchOption side Too (λ left. other ≡ Err (refusal.GivenOutOfRange left)) → answer ≡ other
by-side None Computed Too answer other computed is also = computed refl is also
by-side (Some side) Computed Too answer other computed is also = is ∙ sym also

settled-unique : (ends : PaymentSeries → ℤ → WorthEnds) (row : IssueRow) (asked : Asked) (answer other : Result Figures Refusal) → is_wrong_basis row.kind asked.given asked.fee ≡ false → IsSettledAnswer ends row asked answer → IsSettledAnswer ends row asked other → answer ≡ other
settled-unique ends row asked answer other basis is also =
    let list : also.list ≡ is.list = one-list row asked.settle also.list is.list also.candidates is.candidates in
    let too = subst (λ l. MatchOption (side_left asked.given asked.side asked.fee l) (IsComputed ends row asked l other) (λ left. other ≡ Err (refusal.GivenOutOfRange left))) list also.answered in
    by-side (side_left asked.given asked.side asked.fee is.list) (IsComputed ends row asked is.list answer) (IsComputed ends row asked is.list other) answer other
    (λ inside one two. computed-unique ends row asked is.list answer other basis is.candidates inside one two)
    is.answered too

by-tests : (wrong settled : Bool) (Settled Too : Type 0) (answer other : Result Figures Refusal) → (wrong ≡ false → Settled → Too → answer ≡ other) → MatchBool wrong (answer ≡ Err refusal.WrongBasis) (MatchBool settled Settled (answer ≡ Err refusal.SettleOutside)) → MatchBool wrong (other ≡ Err refusal.WrongBasis) (MatchBool settled Too (other ≡ Err refusal.SettleOutside)) → answer ≡ other
by-tests true settled Settled Too answer other late is also = is ∙ sym also
by-tests false true Settled Too answer other late is also = late refl is also
by-tests false false Settled Too answer other late is also = is ∙ sym also

pub answers-unique : AnswersAreUnique
answers-unique ends row asked answer other is also =
    by-tests (is_wrong_basis row.kind asked.given asked.fee) (settles row asked.settle) (IsSettledAnswer ends row asked answer) (IsSettledAnswer ends row asked other) answer other
    (λ basis one two. settled-unique ends row asked answer other basis one two)
    is also
