use Rattle.std.proofs.Common.{◌≡◌, true, eqb, Some, Ok, arith, refl, sym, ap, subst, ◌∙◌}
use Rattle.std.proofs.lemmas.Bool.Decides.{nat_tests}
use Rattle.muni_answer.specs.Answers.{IsRightAnswer}
use Rattle.muni_readings.proofs.OtherTermsLemmas.{gross-same}
use Rattle.muni_readings.proofs.other_terms.by_gross_price.Goals as goal

pub returns-then-eq : goal.returns-then-eq
returns-then-eq g c = λ right.
    let test : eqb c.args.answered.now.asked.now.fee 0 ≡ true = sym c.eq.ensures ∙ c.if-eq.true in
    gross-same (g.E.Encloser.ends c.args.calculator.now.encloser.now) c.args.answered.now.issue.now c.args.answered.now.asked.now c.args.answered.now.figures.now
    (grind (arith, nat_tests)) right

pub returns-in-Ok : goal.returns-in-Ok
returns-in-Ok g c = λ right. record {
  gross = Some c.in-Ok.gross;
  answered = record {
    answer = Ok c.in-Ok.gross;
    right = subst (λ it. IsRightAnswer (g.E.Encloser.ends c.args.calculator.now.encloser.now) c.args.answered.now.issue.now it (Ok c.in-Ok.gross)) c.without_fee-asked.ensures c.in-Ok.ensures.right;
    figures = refl;
  };
  is_with_yield = ap Some c.with_yield_of.ensures;
}
