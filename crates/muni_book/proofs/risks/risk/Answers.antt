use Rattle.std.proofs.Common.{◌≡◌, Some, None, sym, ap, subst, ◌∙◌}
use Rattle.std.specs.Prelude.{IfSome, find, option_map}
use Rattle.muni_sched.specs.Candidates.{IsCandidate}
use Rattle.muni_sched.specs.Range.{IsGivenFor}
use Rattle.muni_answer.specs.GivenFor.{IsNote}
use Rattle.muni_book.specs.Risk.{is_on, shown_yield, AreOfShape, IsRiskOf}
use Rattle.muni_book.proofs.RiskLemmas.{found-all, found-disclosed, none-disclosed, shown-note, discount-kind}
use Rattle.muni_book.proofs.risks.risk.Goals.{After-as_shown}
use Rattle.muni_book.proofs.risks.risk.Goals as goal

-- the candidate that is found on the day of the redemption
found : (c : After-as_shown) → find (is_on c.args.figures.now.redemption) c.args.candidates.now ≡ Some c.in_ok-disclosed.disclosed.now
found c = sym c.redeemed_on.ensures ∙ ap (option_map (λ candidate. candidate.now)) c.in_ok-disclosed.was

pub returns-in_err-disclosed : goal.returns-in_err-disclosed
returns-in_err-disclosed c = λ ends asked are right.
    let none : find (is_on c.args.figures.now.redemption) c.args.candidates.now ≡ None = sym c.redeemed_on.ensures ∙ ap (option_map (λ candidate. candidate.now)) c.in_err-disclosed.was in
    absurd (none-disclosed ends c.args.issue.now asked c.args.figures.now c.args.candidates.now c.row-row.ensures.passed are right none)

pub sensitivities-requires : goal.sensitivities-requires
sensitivities-requires c = found-all (is_on c.args.figures.now.redemption) IsCandidate c.args.candidates.now c.in_ok-disclosed.disclosed.now c.requires (found c)

pub returns-in_err-sensitivities : goal.returns-in_err-sensitivities
returns-in_err-sensitivities c = λ ends asked are right.
    let row = c.args.issue.now in
    let disclosed = c.in_ok-disclosed.disclosed.now in
    let at = (goal.at.returns-in_err-sensitivities c).After-as_shown in
    let has = found-disclosed ends row asked c.args.figures.now c.args.candidates.now disclosed c.row-row.ensures.passed are right (found at) in
    let none : IsGivenFor (shown_yield c.args.figures.now.yld) disclosed → IsNote disclosed = subst (λ y. IsGivenFor y disclosed → IsNote disclosed) c.as_shown.ensures (c.sensitivities.ensures.none c.in_err-sensitivities.was) in
    subst (IsRiskOf row asked c.args.figures.now) (sym c.from_residual-in_err-sensitivities.ensures)
    (discount-kind row.kind row asked.settle disclosed.date disclosed.price disclosed.shape has.shape (shown-note c.args.figures.now.yld disclosed has.may none))

pub returns : goal.returns
returns c = λ ends asked are right.
    let disclosed = c.in_ok-disclosed.disclosed.now in
    let at = (goal.at.returns c).After-as_shown in
    let has = found-disclosed ends c.args.issue.now asked c.args.figures.now c.args.candidates.now disclosed c.row-row.ensures.passed are right (found at) in
    let moves : AreOfShape disclosed.shape c.as_shown.result c.in_ok-sensitivities.sensitivities = subst (λ r. IfSome r (AreOfShape disclosed.shape c.as_shown.result)) c.in_ok-sensitivities.was c.sensitivities.ensures.some in
    record {
      list = c.args.candidates.now;
      candidates = are;
      disclosed = disclosed;
      among = has.among;
      redemption = has.redemption;
      moves = subst (λ y. AreOfShape disclosed.shape y c.in_ok-sensitivities.sensitivities) c.as_shown.ensures moves;
      current = rw (← c.row-row.ensures.value) c.periodic_yield.ensures;
    }
