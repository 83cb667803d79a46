use Rattle.std.proofs.Common.{◌-◌, ◌^◌, ◌<◌, rules, sym, subst, arith, lit<}
use Rattle.muni_multi.specs.Doubling.{doubling_end}
use Rattle.muni_multi.proofs.DoublingTurns.{power-reach, no-skip, doubling-fits}
use Rattle.muni_multi.proofs.doubling.doubled_sum.Goals as goal

pub power-requires-clause-bounded : goal.power-requires-clause-bounded
power-requires-clause-bounded c = power-reach c.args.discount.lo c.args.discount.hi c.skip-skip.result c.requires (omega arith)

pub returns-then-skip-eq0-clause-lo : goal.returns-then-skip-eq0-clause-lo
returns-then-skip-eq0-clause-lo c =
    no-skip 0 c.args.flows.now c.args.discount.lo (c.n.result - 1 - c.skip-skip.result) c.paid_sum-paid.result.lo (lit< tt) (omega arith) (omega arith) c.paid_sum-paid.ensures.lo

pub returns-then-skip-eq0-clause-hi : goal.returns-then-skip-eq0-clause-hi
returns-then-skip-eq0-clause-hi c =
    no-skip (2 ^ 60 - 1) c.args.flows.now c.args.discount.hi (c.n.result - 1 - c.skip-skip.result) c.paid_sum-paid.result.hi (lit< tt) (omega arith) (omega arith) c.paid_sum-paid.ensures.hi

pub returns-then-skip-eq0-clause-small : goal.returns-then-skip-eq0-clause-small
returns-then-skip-eq0-clause-small c = subst (λ x. x < 2 ^ 64) (sym (returns-then-skip-eq0-clause-hi c)) (doubling-fits c.args.flows.now c.args.discount.lo c.args.discount.hi c.n.ensures.bounds c.requires)

pub returns-else-skip-eq0-clause-lo : goal.returns-else-skip-eq0-clause-lo
unfolding doubling_end
returns-else-skip-eq0-clause-lo c = search rules

pub returns-else-skip-eq0-clause-hi : goal.returns-else-skip-eq0-clause-hi
unfolding doubling_end
returns-else-skip-eq0-clause-hi c = search rules

pub returns-else-skip-eq0-clause-small : goal.returns-else-skip-eq0-clause-small
returns-else-skip-eq0-clause-small c = subst (λ x. x < 2 ^ 64) (sym (returns-else-skip-eq0-clause-hi c)) (doubling-fits c.args.flows.now c.args.discount.lo c.args.discount.hi c.n.ensures.bounds c.requires)
