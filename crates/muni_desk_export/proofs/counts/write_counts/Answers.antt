use Rattle.std.proofs.Common.{◌∙◌, ◌++◌, ℕ, List, ap, None, Err}
use Rattle.std.proofs.lemmas.Result.{err_from_is_err_and}
use Rattle.muni_keep.specs.Tables.{Tables}
use Rattle.muni_desk_export.specs.Counts.{issues_line, desk_lines_after, sound_line}
use Rattle.muni_desk_export.proofs.WalkLemmas.{put-walks, walks-part, walks-then}
use Rattle.muni_desk_export.proofs.counts.write_counts.Goals as goal

pub returns-in_err-write_issues_line : goal.returns-in_err-write_issues_line
returns-in_err-write_issues_line g c =
    let rest : Tables → List ℕ = λ t. desk_lines_after t None ++ sound_line in
    let p = err_from_is_err_and c.from_residual.result c.from_residual.ensures.1 in
    walks-part g.K.Keeper g.O.Sink issues_line rest c.in_err-write_issues_line.field-0.0 c.from_residual.result
    c.args.keeper.now c.write_issues_line.new.keeper c.args.output.now c.write_issues_line.new.output (p.1 ∙ ap Err p.2)
    (rw c.in_err-write_issues_line.was at c.write_issues_line.ensures)

pub returns-in_err-write_desk_lines : goal.returns-in_err-write_desk_lines
returns-in_err-write_desk_lines g c =
    let desks : Tables → List ℕ = λ t. desk_lines_after t None in
    let sound : Tables → List ℕ = λ t. sound_line in
    let rest : Tables → List ℕ = λ t. desks t ++ sound t in
    let result = c.from_residual-in_err-write_desk_lines.result in
    let p = err_from_is_err_and result c.from_residual-in_err-write_desk_lines.ensures.1 in
    walks-then g.K.Keeper g.O.Sink issues_line rest c.in_ok-write_issues_line.field-0 result
    c.args.keeper.now c.write_issues_line.new.keeper c.write_desk_lines.new.keeper c.args.output.now c.write_issues_line.new.output c.write_desk_lines.new.output
    (rw c.in_ok-write_issues_line.was at c.write_issues_line.ensures)
    (walks-part g.K.Keeper g.O.Sink desks sound c.in_err-write_desk_lines.field-0.0 result
    c.write_issues_line.new.keeper c.write_desk_lines.new.keeper c.write_issues_line.new.output c.write_desk_lines.new.output (p.1 ∙ ap Err p.2)
    (rw c.in_err-write_desk_lines.was at c.write_desk_lines.ensures))

pub returns : goal.returns
returns g c =
    let desks : Tables → List ℕ = λ t. desk_lines_after t None in
    let sound : Tables → List ℕ = λ t. sound_line in
    let rest : Tables → List ℕ = λ t. desks t ++ sound t in
    let new = c.write_desk_lines.new.keeper in
    walks-then g.K.Keeper g.O.Sink issues_line rest c.in_ok-write_issues_line.field-0 c.write.result
    c.args.keeper.now c.write_issues_line.new.keeper new c.args.output.now c.write_issues_line.new.output c.write.new.output
    (rw c.in_ok-write_issues_line.was at c.write_issues_line.ensures)
    (walks-then g.K.Keeper g.O.Sink desks sound c.in_ok-write_desk_lines.field-0 c.write.result
    c.write_issues_line.new.keeper new new c.write_issues_line.new.output c.write_desk_lines.new.output c.write.new.output
    (rw c.in_ok-write_desk_lines.was at c.write_desk_lines.ensures)
    (put-walks g.K.Keeper g.O.Sink sound_line c.write.result new c.write_desk_lines.new.output c.write.new.output c.write.ensures))
