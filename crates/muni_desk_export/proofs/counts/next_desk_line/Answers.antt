use Rattle.std.proofs.Common.{◌≡◌, subst}
use Rattle.std.specs.Prelude.{IfSome}
use Rattle.muni_desk_export.specs.Counts.{row_count}
use Rattle.muni_desk_export.specs.Walk.{desk_rows}
use Rattle.muni_desk_export.proofs.CountLemmas.{desk-counted}
use Rattle.muni_desk_export.proofs.DeskLemmas.{next-line, no-line}
use Rattle.muni_desk_export.proofs.counts.next_desk_line.Goals as goal

pub returns-in_default-clause-next : goal.returns-in_default-clause-next
returns-in_default-clause-next g c =
    no-line (g.K.Keeper.tables c.args.keeper.now) c.args.desk.now (rw c.in_default.is at c.in_ok-next.ensures.found)

pub returns-clause-next : goal.returns-clause-next
returns-clause-next g c =
    let told = g.K.Keeper.tables c.args.keeper.now in
    let name = c.in-Some.next in
    let count = c.in_ok-count.count in
    let counted = subst (λ told. IfSome told (λ t. count ≡ row_count (desk_rows t name))) c.desk_past.ensures.reads.unchanged (rw c.trades.ensures at c.in_ok-count.ensures.count) in
    rw c.desk_line-line.ensures (next-line told c.args.desk.now name _ (rw c.in-Some.is at c.in_ok-next.ensures.found) (desk-counted told name count counted))
