use Rattle.std.proofs.Common.{ap}
use Rattle.std.specs.Option.{option_map}
use Rattle.muni_keep.proofs.PastLemmas.{past_is, first_is, none_is}
use Rattle.muni_keep.proofs.desks.Desks.past.Goals as goal

pub returns-in-Some : goal.returns-in-Some
returns-in-Some g c =
    let is = past_is c.self.inside.desks.entries c.range-desks.result c.args.self.now c.args.after.now _ c.self.view_is c.range-desks.ensures.ordered c.bound_past.ensures (c.range-desks.ensures.between tt) in
    ap (option_map (λ entry. entry.0)) (first_is _ _ _ _ c.in-Some.ensures.steps is)

pub returns-in-None : goal.returns-in-None
returns-in-None g c =
    let is = past_is c.self.inside.desks.entries c.range-desks.result c.args.self.now c.args.after.now _ c.self.view_is c.range-desks.ensures.ordered c.bound_past.ensures (c.range-desks.ensures.between tt) in
    ap (option_map (λ entry. entry.0)) (none_is _ _ c.in-None.ensures.steps.0 is)
