use Rattle.std.proofs.Common.{◌≡◌, ◌∙◌, ap, sym, refl, ℕ, Option, Some, None, ◌≤◌}
use Rattle.std.specs.Prelude.{IfSome}
use Rattle.muni_rule.specs.declared.verdict.Verdict.{Verdict}
use Rattle.muni_yield.specs.Known.{IsWindow, known_at}
use Rattle.muni_yield.specs.declared.window.Window.{Window}
use Rattle.muni_yield.proofs.KnownLemmas.{known-verdict}
use Rattle.muni_yield.proofs.guided.GuidedSearch.told.Goals as goal

told-is : (verdict : ℕ → Verdict) (window : Window) (place next : ℕ) (told : Option Verdict) → 1 ≤ place → place ≤ 105002 → IsWindow verdict window → place ≡ next → told ≡ known_at window place → IfSome told (λ said. verdict next ≡ said)
told-is verdict window place next None from to is here same = tt
told-is verdict window place next (Some said) from to is here same = ap verdict (sym here) ∙ known-verdict verdict window place said from to is (sym same)

pub returns : goal.returns
returns c = λ verdicts known.
    let bracket = c.args.self.now.bracket in
    told-is (verdicts bracket.series bracket.price) c.args.self.now.window c.place.result _ c.verdict_at.result c.place.ensures.range.0 c.place.ensures.range.1 known (c.place.ensures.value ∙ c.question.ensures.value) c.verdict_at.ensures
