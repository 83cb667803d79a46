use Rattle.std.proofs.Common.{◌∙◌, ap, None, Err}
use Rattle.std.proofs.lemmas.Result.{err_from_is_err_and}
use Rattle.muni_desk_export.specs.Issues.{issues_left}
use Rattle.muni_desk_export.specs.Walk.{desks_after}
use Rattle.muni_desk_export.proofs.WalkLemmas.{walks-part, walks-then}
use Rattle.muni_desk_export.proofs.kept.write_everything.Goals as goal

pub returns-in_err-write_walk : goal.returns-in_err-write_walk
returns-in_err-write_walk g c =
    let p = err_from_is_err_and c.from_residual.result c.from_residual.ensures.1 in
    walks-part g.K.Keeper g.O.Sink (λ t. issues_left t None None) (λ t. desks_after t None) c.in_err-write_walk.field-0.0 c.from_residual.result
    c.args.keeper.now c.write_walk.new.keeper c.args.output.now c.write_walk.new.output (p.1 ∙ ap Err p.2)
    (rw (c.issues.ensures, c.in_err-write_walk.was) at c.write_walk.ensures)

pub returns : goal.returns
returns g c =
    walks-then g.K.Keeper g.O.Sink (λ t. issues_left t None None) (λ t. desks_after t None) c.in_ok-write_walk.field-0 c.write_walk-2.result
    c.args.keeper.now c.write_walk.new.keeper c.write_walk-2.new.keeper c.args.output.now c.write_walk.new.output c.write_walk-2.new.output
    (rw (c.issues.ensures, c.in_ok-write_walk.was) at c.write_walk.ensures) (rw c.desks.ensures at c.write_walk-2.ensures)
