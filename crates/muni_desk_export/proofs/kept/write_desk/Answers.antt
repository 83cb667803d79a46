use Rattle.std.proofs.Common.{◌∙◌, ◌++◌, ap, List, ℕ, [], None, Some, Err}
use Rattle.std.proofs.lemmas.Result.{err_from_is_err_and}
use Rattle.muni_keep.specs.Tables.{Tables}
use Rattle.muni_desk_export.specs.Issues.{issues_left}
use Rattle.muni_desk_export.specs.Walk.{desk_rows}
use Rattle.muni_desk_export.specs.Wanted.{wanted_text}
use Rattle.muni_desk_export.specs.declared.wanted.Wanted.TheVariants as wanted
use Rattle.muni_desk_export.proofs.IssueLemmas.{named-text}
use Rattle.muni_desk_export.proofs.WalkLemmas.{look-walks, walks-part, walks-text, walks-then}
use Rattle.muni_desk_export.proofs.kept.write_desk.Goals as goal

pub returns-in_err-write_walk : goal.returns-in_err-write_walk
returns-in_err-write_walk g c =
    let desk = c.args.desk.now in
    let issues : Tables → List ℕ = λ t. issues_left t (Some c.in_ok-named.named) None in
    let rows : Tables → List ℕ = λ t. desk_rows t desk in
    let both : Tables → List ℕ = λ t. issues t ++ rows t in
    let old = c.args.keeper.now in
    let mid = c.named_by.new.keeper in
    let new = c.write_walk.new.keeper in
    let before = c.args.output.now in
    let after = c.write_walk.new.output in
    let result = c.from_residual-in_err-write_walk.result in
    let p = err_from_is_err_and result c.from_residual-in_err-write_walk.ensures.1 in
    walks-text g.K.Keeper g.O.Sink both (wanted_text (wanted.Desk desk)) result old new before after
    (named-text (g.K.Keeper.tables old) c.in_ok-named.named desk c.in_ok-named.ensures.named)
    (walks-then g.K.Keeper g.O.Sink (λ t. []) both tt result old mid new before before after
    (look-walks g.K.Keeper g.O.Sink c.named_by.result old mid before c.named_by.ensures.looks)
    (walks-part g.K.Keeper g.O.Sink issues rows c.in_err-write_walk.field-0.0 result mid new before after (p.1 ∙ ap Err p.2)
    (rw (c.issues.ensures, c.in_err-write_walk.was) at c.write_walk.ensures)))

pub returns : goal.returns
returns g c =
    let desk = c.args.desk.now in
    let issues : Tables → List ℕ = λ t. issues_left t (Some c.in_ok-named.named) None in
    let rows : Tables → List ℕ = λ t. desk_rows t desk in
    let both : Tables → List ℕ = λ t. issues t ++ rows t in
    let old = c.args.keeper.now in
    let mid = c.named_by.new.keeper in
    let next = c.write_walk.new.keeper in
    let new = c.write_walk-2.new.keeper in
    let before = c.args.output.now in
    let between = c.write_walk.new.output in
    let after = c.write_walk-2.new.output in
    let result = c.write_walk-2.result in
    walks-text g.K.Keeper g.O.Sink both (wanted_text (wanted.Desk desk)) result old new before after
    (named-text (g.K.Keeper.tables old) c.in_ok-named.named desk c.in_ok-named.ensures.named)
    (walks-then g.K.Keeper g.O.Sink (λ t. []) both tt result old mid new before before after
    (look-walks g.K.Keeper g.O.Sink c.named_by.result old mid before c.named_by.ensures.looks)
    (walks-then g.K.Keeper g.O.Sink issues rows c.in_ok-write_walk.field-0 result mid next new before between after
    (rw (c.issues.ensures, c.in_ok-write_walk.was) at c.write_walk.ensures) (rw c.trades.ensures at c.write_walk-2.ensures)))
