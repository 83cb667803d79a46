use Rattle.std.proofs.Common.{◌≡◌, ◌-◌, Some, length, sym, subst}
use Rattle.std.specs.Prelude.{IfSome, slice_get}
use Rattle.muni_desk_export.specs.Trades.{AreOf, trade_texts}
use Rattle.muni_desk_export.proofs.ToldLemmas.{none-is, told-page, told-page-of}
use Rattle.muni_desk_export.proofs.trades.next_page.Goals as goal

pub page_text-requires : goal.page_text-requires
page_text-requires g c =
    rw c.as_slice.ensures.value (subst (λ told. IfSome told (λ t. AreOf t c.args.desk.now c.in_ok-page.page.items)) (sym c.in_ok-page.ensures.reads.unchanged)
    (told-page-of (g.K.Keeper.tables c.args.keeper.now) c.args.desk.now c.args.after.now c.in_ok-page.page.items c.in_ok-page.ensures.found))

pub returns-clause-next : goal.returns-clause-next
returns-clause-next g c =
    let told = g.K.Keeper.tables c.args.keeper.now in
    let desk = c.args.desk.now in
    let page = c.in_ok-page.page.items in
    let last : slice_get page (length page - 1) ≡ Some c.in-Some.last.now = sym (rw c.deref.ensures.0 at c.in-Some.ensures.value) in
    let said = subst (λ told. IfSome told (λ t. c.in_ok-text.text.items ≡ trade_texts t c.args.style c.is_none-is_first.result desk page)) c.in_ok-page.ensures.reads.unchanged
    (rw c.as_slice.ensures.value at c.in_ok-text.ensures.text) in
    rw c.copy.ensures (told-page told c.args.style desk c.args.after.now page c.in-Some.last.now c.is_none-is_first.result c.in_ok-text.text.items
    c.in_ok-page.ensures.found last (none-is c.args.after.now c.is_none-is_first.result c.is_none-is_first.ensures) said)
