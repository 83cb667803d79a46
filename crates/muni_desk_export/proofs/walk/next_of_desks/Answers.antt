use Rattle.std.proofs.Common.{◌≡◌, Some, None, subst}
use Rattle.std.specs.Prelude.{IfSome}
use Rattle.muni_keep.specs.Tables.{desk_past}
use Rattle.muni_desk_export.proofs.DeskLemmas.{desk-piece, next-desk, no-desk}
use Rattle.muni_desk_export.proofs.walk.next_of_desks.Goals as goal

pub returns-in-Some-clause-next : goal.returns-in-Some-clause-next
returns-in-Some-clause-next g c =
    desk-piece (g.K.Keeper.tables c.args.keeper.now) c.args.desk.now c.args.after.now c.next_of_desk.new.after c.in-Some.text.items (rw c.in-Some.is at c.in_ok-text.ensures.next)

pub returns-in_default-2-clause-next : goal.returns-in_default-2-clause-next
returns-in_default-2-clause-next g c =
    let found = subst (λ told. IfSome told (λ t. None ≡ desk_past t c.args.desk.now)) c.next_of_desk.ensures.looks.unchanged (rw c.in_default-2.is at c.in_ok-next.ensures.found) in
    no-desk (g.K.Keeper.tables c.args.keeper.now) c.args.desk.now c.args.after.now (rw c.in_default.is at c.in_ok-text.ensures.next) found

pub returns-clause-next : goal.returns-clause-next
returns-clause-next g c =
    let found = subst (λ told. IfSome told (λ t. Some c.in-Some-2.next ≡ desk_past t c.args.desk.now)) c.next_of_desk.ensures.looks.unchanged (rw c.in-Some-2.is at c.in_ok-next.ensures.found) in
    rw c.new.ensures.items (next-desk (g.K.Keeper.tables c.args.keeper.now) c.args.desk.now c.args.after.now c.in-Some-2.next (rw c.in_default.is at c.in_ok-text.ensures.next) found)
