use Rattle.std.proofs.Common.{rules, arith, ◌≡◌, ◌+◌, ◌++◌, [], ◌∷◌, true, All, take, ap, sym, subst, ◌∙◌}
use Rattle.std.proofs.lemmas.List.{take_all, take_more}
use Rattle.std.proofs.lemmas.List.Elements.{All-push, All-same}
use Rattle.muni_sched.specs.PriceOutcome.{IsAtYield}
use Rattle.muni_test_figures.proofs.schedules.lowest.are_at_yield.Goals as goal

pub loop-candidate-preserved : goal.loop-candidate-preserved
loop-candidate-preserved c =
    let list = c.args.list.now in
    let i = c.loop-candidate.candidate-index in
    let candidate = c.candidate-item.result in
    let yes : c.is_at_yield.result ≡ true = search rules in
    let next : take (i + 1) list ≡ take i list ++ candidate ∷ [] = take_more list i candidate c.loop-candidate-test.true ∙ ap (λ one. take i list ++ one ∷ []) (sym c.candidate-item.is) in
    All-same IsAtYield (take (i + 1) list) (take i list ++ candidate ∷ []) next (All-push IsAtYield (take i list) candidate c.loop-candidate.invariant (c.is_at_yield.ensures yes))

pub returns : goal.returns
returns c = λ _. subst (All IsAtYield) (take_all c.loop-candidate.candidate-index c.args.list.now (omega arith)) c.loop-candidate.invariant
