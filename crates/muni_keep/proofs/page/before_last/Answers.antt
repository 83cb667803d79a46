use Rattle.std.proofs.Common.{arith, ◌≡◌, ◌≤◌, reverse, drop, Some, sym, ap, subst, ◌∙◌}
use Rattle.std.specs.Option.{option_map}
use Rattle.muni_keep.proofs.LastLemmas.{one_back, found_back, none_back}
use Rattle.muni_keep.proofs.page.before_last.Goals as goal

pub returns-in_default : goal.returns-in_default
returns-in_default c =
    let few : c.loop-count._count ≤ 50 = omega (arith, c.loop-count-test.true) in
    sym (ap (option_map (λ trade. trade.0)) (none_back c.loop-count._count 50 c.loop-count.left (reverse c.args.trades) c.loop-count.invariant c.in_default.ensures.steps.0 few))

pub loop-count-preserved : goal.loop-count-preserved
loop-count-preserved c =
    one_back c.loop-count._count c.loop-count.left c.next_back.new.self (reverse c.args.trades) _ c.loop-count.invariant c.in-Some.ensures.steps

pub returns-in-Some-next_back : goal.returns-in-Some-next_back
returns-in-Some-next_back c =
    let all : c.loop-count._count ≡ 50 = omega (arith, c.loop-count.auto._count-end, c.loop-count-test.false) in
    let passed = subst (λ n. reverse c.loop-count.left ≡ drop n (reverse c.args.trades)) all c.loop-count.invariant in
    ap Some c.copy.ensures
    ∙ sym (ap (option_map (λ trade. trade.0)) (found_back 50 c.loop-count.left c.next_back-2.new.self (reverse c.args.trades) _ passed c.in-Some-next_back.ensures.steps))

pub returns-in-None : goal.returns-in-None
returns-in-None c =
    let few : c.loop-count._count ≤ 50 = c.loop-count.auto._count-end in
    sym (ap (option_map (λ trade. trade.0)) (none_back c.loop-count._count 50 c.loop-count.left (reverse c.args.trades) c.loop-count.invariant c.in-None.ensures.steps.0 few))
