use Rattle.std.proofs.Common.{rules, ◌≡◌, subst, sym}
use Rattle.muni_yield.specs.Bracket.{question, halved, IsVerdictKept}
use Rattle.muni_yield.specs.Places.{place_verdict}
use Rattle.muni_yield.proofs.BracketLemmas.{halved-answered}
use Rattle.muni_yield.proofs.bracket.Bracket.halve_at.Goals as goal

pub returns : goal.returns
returns g c =
    let verdicts = place_verdict (g.E.Encloser.ends c.args.encloser.now) in
    let bracket = c.args.self.now in
    let said : verdicts bracket.series bracket.price (question bracket) ≡ c.ask-reading.result.verdict = search rules in
    let next : c.halve_known.new.self ≡ halved verdicts bracket = c.halve_known.ensures.halved verdicts said in
    record {
      halved = next;
      count = c.halve_known.ensures.count;
      answered = λ before. subst (IsVerdictKept (verdicts bracket.series bracket.price)) (sym next) (halved-answered verdicts bracket c.searches_are_in_order.ensures.places c.requires before);
    }
