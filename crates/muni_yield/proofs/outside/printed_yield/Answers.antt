use Rattle.std.proofs.Common.{◌≡◌, ◌<◌, ◌-◌, ◌*◌, ◌∙◌, false, sym, ap, subst, arith, Some, None, pos}
use Rattle.muni_rule.specs.ManyPeriods.{to_come, AtLeast, More}
use Rattle.muni_rule.proofs.EnclosedLemmas.{enclosed}
use Rattle.muni_yield.specs.Bracket.{start_of, is_settled, halved, run, IsBracket}
use Rattle.muni_yield.specs.Outcome.{IsYieldOutcome, IsDoubtfulOutcome, IsVerdictOutcome}
use Rattle.muni_yield.specs.Places.{place_verdict, yield_verdict}
use Rattle.muni_yield.specs.Settled.{settled_as, final_of}
use Rattle.muni_yield.proofs.BracketLemmas.{few-asked, halved-next, run-settled, rest-next}
use Rattle.muni_yield.proofs.FinalLemmas.{final-verdict, final-true, final-doubtful}
use Rattle.muni_yield.proofs.OutcomeLemmas.{outcome-in_range, settled-some, settled-none, settled-final}
use Rattle.muni_yield.proofs.PlaceLemmas.{AreEnclosed}
use Rattle.muni_yield.proofs.outside.printed_yield.Goals as goal

pub loop-outcome-smaller : goal.loop-outcome-smaller
loop-outcome-smaller g c =
    let bracket = c.loop-outcome.bracket in
    let none : settled_as bracket ≡ None = cc in
    let few = few-asked bracket c.loop-outcome.invariant.is (settled-none bracket none) in
    let count = c.halve.ensures.count in
    let less : 19 - c.halve.new.self.halvings < 19 - bracket.halvings = omega (arith, few, count) in
    less

pub loop-outcome-preserved : goal.loop-outcome-preserved
loop-outcome-preserved g c =
    let bracket = c.loop-outcome.bracket in
    let known = c.loop-outcome.invariant in
    let verdicts = place_verdict (g.E.Encloser.ends c.args.encloser.now) in
    let none : settled_as bracket ≡ None = cc in
    let pending : is_settled bracket ≡ false = settled-none bracket none in
    let same : c.halve.new.self ≡ halved verdicts bracket = c.halve.ensures.halved in
    record {
      is = subst IsBracket (sym same) (halved-next verdicts bracket known.is pending).is;
      rest = rest-next verdicts (start_of c.args.flows.now c.args.price) bracket c.halve.new.self (few-asked bracket known.is pending) pending same c.halve.ensures.count known.rest;
      steps = omega (arith, c.tick.ensures, known.steps, c.halve.ensures.count);
    }

pub returns-in-Some : goal.returns-in-Some
returns-in-Some g c =
    let bracket = c.loop-outcome.bracket in
    let known = c.loop-outcome.invariant in
    let outcome = c.in-Some.outcome in
    let series = c.args.flows.now in
    let price = c.args.price in
    let ends = g.E.Encloser.ends c.args.encloser.now in
    let verdicts = place_verdict ends in
    let said = yield_verdict (ends series) series price in
    let is = c.flows_are_in_range.ensures in
    let law : AreEnclosed series (ends series) = λ y within. enclosed series y (ends series y) is within
    (g.met.E.Encloser.encloses c.args.encloser.now series y is c.requires.many within)
    (g.met.E.Encloser.narrow c.args.encloser.now series y is c.requires.many within) in
    let some : settled_as bracket ≡ Some outcome = sym c.settled.ensures ∙ c.in-Some.is in
    let end = settled-some bracket outcome some in
    let last : bracket ≡ run 19 verdicts (start_of series price) = subst (λ it. it ≡ run 19 verdicts (start_of series price)) (run-settled (19 - bracket.halvings) verdicts bracket end.0) known.rest in
    let final : outcome ≡ final_of verdicts series price = subst (λ it. it ≡ final_of verdicts series price) end.1 (settled-final verdicts series price (19 - bracket.halvings) bracket end.0 known.rest) in
    let told : IsVerdictOutcome said outcome = subst (IsVerdictOutcome said) (sym final) (final-verdict ends series price c.requires.many c.requires.price) in
    let asked : bracket.halvings ≡ (run 19 verdicts (start_of series price)).halvings = ap (λ b. b.halvings) last in
    let steps = known.steps in
    let few = known.is.few in
    record {
      exact = subst (IsYieldOutcome (λ y. AtLeast (to_come series) y (pos (360000 * price))) (λ y. More (to_come series) y (pos (360000 * price)))) (sym final) (final-true ends series price is c.requires.many c.requires.price law);
      doubtful = subst (IsDoubtfulOutcome series price) (sym final) (final-doubtful ends series price c.requires.many c.requires.price law);
      range = outcome-in_range said outcome told;
      searched = record { verdicts = told; last = final };
      steps = record { counted = omega (arith, steps, asked); few = omega (arith, steps, few) };
    }
