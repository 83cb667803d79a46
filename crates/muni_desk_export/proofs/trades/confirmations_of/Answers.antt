use Rattle.std.proofs.Common.{◌≡◌, ◌++◌, ◌∙◌, ap, sym, subst, arith}
use Rattle.std.specs.Prelude.{IfSome}
use Rattle.muni_desk_import.specs.Confirm.{confirmed}
use Rattle.muni_desk_export.specs.Trades.{key_of, separator, IsLineOf}
use Rattle.muni_desk_export.proofs.ToldLemmas.{told-line, told-confirmed-next}
use Rattle.muni_desk_export.proofs.trades.confirmations_of.Goals as goal

pub confirmation_of-requires : goal.confirmation_of-requires
confirmation_of-requires g c =
    let desk = c.args.desk.now in
    let trade = c.line-item.result in
    rw c.key_of.ensures (subst (λ told. IfSome told (λ t. IsLineOf t (key_of desk trade.reference) trade)) (sym c.loop-line.invariant.tables)
    (told-line (g.K.Keeper.tables c.args.keeper.now) desk c.args.page.now c.loop-line.line-index trade (omega (arith, c.loop-line-test.true)) c.line-item.is c.requires))

pub loop-line-preserved : goal.loop-line-preserved
loop-line-preserved g c =
    let told = g.K.Keeper.tables c.args.keeper.now in
    let desk = c.args.desk.now in
    let trade = c.line-item.result in
    let before = c.loop-line.invariant in
    let reads = c.confirmation_of.ensures.reads in
    let text = c.in_ok-confirmation.confirmation.items in
    let said = subst (λ told. IfSome told (λ t. text ≡ (confirmed t (key_of desk trade.reference)).text)) before.tables (rw c.key_of.ensures at c.in_ok-confirmation.ensures.text) in
    let all : c.extend_from_slice-in-loop-line.new.self.items ≡ (c.loop-line.text.items ++ separator c.loop-line.starts) ++ text =
    c.in_ok-extend_from_slice-2.ensures.items
    ∙ ap (λ l. c.extend_from_slice.new.self.items ++ l) c.as_slice.ensures.value
    ∙ ap (λ l. l ++ text) (c.in_ok-extend_from_slice.ensures.items ∙ ap (λ l. c.loop-line.text.items ++ l) c.separator.ensures) in
    record {
      left = told-confirmed-next told c.args.is_first c.loop-line.starts desk c.args.page.now c.loop-line.line-index trade c.loop-line.text.items text c.extend_from_slice-in-loop-line.new.self.items
          (omega (arith, c.loop-line-test.true)) c.line-item.is said all before.left;
      tables = reads.unchanged ∙ before.tables;
      later = omega (arith, before.later, reads.later);
      lent_as = reads.lent_as ∙ before.lent_as;
    }
