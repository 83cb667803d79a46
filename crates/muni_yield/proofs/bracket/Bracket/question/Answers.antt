use Rattle.std.proofs.Common.{rules, ◌≡◌, ◌∙◌, subst, sym, false}
use Rattle.muni_yield.specs.Bracket.{YieldBracket, IsQuestion, is_settled, question}
use Rattle.muni_yield.specs.BracketView.{bracket}
use Rattle.muni_yield.proofs.BracketLemmas.{is-question}
use Rattle.muni_yield.proofs.bracket.Bracket.question.Goals as goal

pub returns-after-eq-2-clause-between : goal.returns-after-eq-2-clause-between
returns-after-eq-2-clause-between c =
    let held = c.self.inside in
    let inside : YieldBracket = bracket held.flows held.price held.low held.high held.at_high held.halvings in
    let pending : is_settled inside ≡ false = subst (λ b. is_settled b ≡ false) (sym c.self.view_is) c.requires in
    let asks = is-question inside c.self.invariant pending in
    let value : c.if-eq-2.result ≡ question inside = search rules in
    subst (λ b. IsQuestion b c.result.inside.steps) c.self.view_is (subst (IsQuestion inside) (sym (c.result.view_is ∙ value)) asks)
