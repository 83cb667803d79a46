use Rattle.std.proofs.Common.{◌∙◌, ap, None, Err}
use Rattle.std.proofs.lemmas.Result.{err_from_is_err_and}
use Rattle.muni_export.specs.List.{list_names}
use Rattle.muni_desk_export.specs.Trades.{trades_left}
use Rattle.muni_desk_export.specs.declared.trades.Style.TheVariants as style
use Rattle.muni_desk_export.proofs.WalkLemmas.{put-walks, walks-part, walks-then}
use Rattle.muni_desk_export.proofs.kept.write_list.Goals as goal

pub returns-in_err-write : goal.returns-in_err-write
returns-in_err-write g c =
    let old = c.args.keeper.now in
    let before = c.args.output.now in
    let after = c.write.new.output in
    let result = c.from_residual-in_err-write.result in
    let p = err_from_is_err_and result c.from_residual-in_err-write.ensures.1 in
    let names = put-walks g.K.Keeper g.O.Sink list_names c.write.result old before after (rw (c.deref.ensures.value, c.in_ok-names.ensures) at c.write.ensures) in
    walks-part g.K.Keeper g.O.Sink (λ t. list_names) (λ t. trades_left t style.Line c.args.desk.now None) c.in_err-write.field-0.0 result old old before after (p.1 ∙ ap Err p.2)
    (rw c.in_err-write.was at names)

pub returns : goal.returns
returns g c =
    let old = c.args.keeper.now in
    let before = c.args.output.now in
    let between = c.write.new.output in
    let names = put-walks g.K.Keeper g.O.Sink list_names c.write.result old before between (rw (c.deref.ensures.value, c.in_ok-names.ensures) at c.write.ensures) in
    walks-then g.K.Keeper g.O.Sink (λ t. list_names) (λ t. trades_left t style.Line c.args.desk.now None) c.in_ok-write.field-0 c.write_walk.result
    old old c.write_walk.new.keeper before between c.write_walk.new.output
    (rw c.in_ok-write.was at names) (rw c.trades.ensures at c.write_walk.ensures)
