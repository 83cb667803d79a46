use Rattle.std.proofs.Common.{rules, ◌≡◌, ◌-◌}
use Rattle.muni_multi.proofs.TotalLemmas.{payments-sum}
use Rattle.muni_multi.proofs.payments.total.Goals as goal

pub returns-clause-value : goal.returns-clause-value
returns-clause-value c =
    let series = c.args.flows.now in
    let later : c.from-later.result ≡ series.n - 1 - series.skip = search rules in
    rw (c.first.ensures.value, c.regular.ensures.value, c.redemption.ensures.value, later) (payments-sum series c.skip.ensures.bounds.skip)
