-- What is left after one was passed over is collected.
use Rattle.std.proofs.Common.{rules, ◌≡◌, ap, ◌∙◌, IfOk, drop, vec_items}
use Rattle.std.specs.Vec.Iter.{into_iter_items, into_iter_len}
use Rattle.std.proofs.lemmas.Iterator.{items_from_collect}
use Rattle.std.proofs.lemmas.Iterator.Adapters.{YieldsList-from_vec, YieldsList-from_skip}
use Rattle.muni_host.proofs.command_line.past_name.Goals as goal

pub returns-in-Ok-clause-rest : goal.returns-in-Ok-clause-rest
returns-in-Ok-clause-rest c =
    let source = c.skip.ensures.source in
    let all = YieldsList-from_vec (into_iter_items c.args.args) (ap into_iter_items source) (ap into_iter_len source ∙ c.args.args.rest.ok.0) in
    let rest : IfOk c.collect.result (λ words. vec_items words ≡ drop 1 (into_iter_items c.args.args)) = items_from_collect c.collect.result c.collect.ensures.ran (YieldsList-from_skip 1 all c.skip.ensures.count) in
    search (rules, rest)
