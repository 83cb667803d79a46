use Rattle.std.proofs.Common.{[]}
use Rattle.muni_desk_export.specs.Counts.{issues_line}
use Rattle.muni_desk_export.proofs.CountLemmas.{issues-counted}
use Rattle.muni_desk_export.proofs.WalkLemmas.{look-walks, put-walks, walks-text, walks-then}
use Rattle.muni_desk_export.proofs.counts.write_issues_line.Goals as goal

pub returns : goal.returns
returns g c =
    let old = c.args.keeper.now in
    let new = c.count_rows.new.keeper in
    let before = c.args.output.now in
    let after = c.write.new.output in
    let text = c.issues_line.result.items in
    walks-text g.K.Keeper g.O.Sink (λ t. text) issues_line c.write.result old new before after
    (rw c.issues_line.ensures (issues-counted (g.K.Keeper.tables old) c.in_ok-count.count (rw c.issues.ensures at c.in_ok-count.ensures.count)))
    (walks-then g.K.Keeper g.O.Sink (λ t. []) (λ t. text) tt c.write.result old new new before before after
    (look-walks g.K.Keeper g.O.Sink c.count_rows.result old new before c.count_rows.ensures.looks)
    (put-walks g.K.Keeper g.O.Sink text c.write.result new before after (rw c.as_slice.ensures.value at c.write.ensures)))
