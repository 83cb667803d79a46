use Rattle.std.proofs.Common.{Some, ap, ◌∙◌}
use Rattle.std.specs.Option.{option_map}
use Rattle.muni_keep.proofs.PastLemmas.{past_is, first_is, none_is}
use Rattle.muni_keep.proofs.issues.Issues.past.Goals as goal

pub returns-in-Some : goal.returns-in-Some
returns-in-Some c =
    let is = past_is c.self.inside.issues.entries c.range-issues.result c.args.self.now c.args.after.now _ c.self.view_is c.range-issues.ensures.ordered c.bound_past.ensures (c.range-issues.ensures.between tt) in
    ap (λ issue. Some (c.in-Some.cusip.now, issue)) c.last.ensures
    ∙ ap (option_map (λ issue. (issue.0, issue.1.last))) (first_is _ _ _ _ c.in-Some.ensures.steps is)

pub returns-in-None : goal.returns-in-None
returns-in-None c =
    let is = past_is c.self.inside.issues.entries c.range-issues.result c.args.self.now c.args.after.now _ c.self.view_is c.range-issues.ensures.ordered c.bound_past.ensures (c.range-issues.ensures.between tt) in
    ap (option_map (λ issue. (issue.0, issue.1.last))) (none_is _ _ c.in-None.ensures.steps.0 is)
