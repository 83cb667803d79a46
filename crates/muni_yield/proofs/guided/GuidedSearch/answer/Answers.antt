use Rattle.std.proofs.Common.{◌≡◌, ◌∙◌, ap, sym, Some}
use Rattle.muni_yield.specs.Known.{known_at}
use Rattle.muni_yield.specs.Places.{place_verdict}
use Rattle.muni_yield.proofs.KnownLemmas.{known-verdict}
use Rattle.muni_yield.proofs.guided.GuidedSearch.answer.Goals as goal

pub returns-in-Some-clause-verdict : goal.returns-in-Some-clause-verdict
returns-in-Some-clause-verdict g c =
    let bracket = c.args.self.now.bracket in
    let verdict = place_verdict (g.E.Encloser.ends c.args.encloser.now) bracket.series bracket.price in
    let place = c.place in
    let told : known_at c.args.self.now.window place.result ≡ Some c.in-Some.verdict = sym c.verdict_at.ensures ∙ c.in-Some.is in
    sym (known-verdict verdict c.args.self.now.window place.result c.in-Some.verdict place.ensures.range.0 place.ensures.range.1 c.requires.known told) ∙ ap verdict (place.ensures.value ∙ c.question-question.ensures.value)
