use Rattle.std.proofs.Common.{◌≡◌, ◌++◌, ◌∙◌, sym, subst, arith}
use Rattle.std.specs.Prelude.{IfSome}
use Rattle.muni_desk_export.specs.Trades.{key_of, trade_rows, IsLineOf}
use Rattle.muni_desk_export.proofs.ToldLemmas.{told-line, told-rows-next}
use Rattle.muni_desk_export.proofs.trades.rows_of.Goals as goal

pub put_versions-requires : goal.put_versions-requires
put_versions-requires g c =
    let desk = c.args.desk.now in
    let trade = c.line-item.result in
    rw c.key_of.ensures (subst (λ told. IfSome told (λ t. IsLineOf t (key_of desk trade.reference) trade)) (sym c.loop-line.invariant.tables)
    (told-line (g.K.Keeper.tables c.args.keeper.now) desk c.args.page.now c.loop-line.line-index trade (omega (arith, c.loop-line-test.true)) c.line-item.is c.requires))

pub loop-line-preserved : goal.loop-line-preserved
loop-line-preserved g c =
    let told = g.K.Keeper.tables c.args.keeper.now in
    let desk = c.args.desk.now in
    let trade = c.line-item.result in
    let before = c.loop-line.invariant in
    let looks = c.put_versions.ensures.looks in
    let rows = subst (λ told. IfSome told (λ t. c.put_versions.new.rows ≡ c.loop-line.rows ++ trade_rows t (key_of desk trade.reference))) before.tables
    (rw c.key_of.ensures at c.in_ok-put_versions.ensures.rows) in
    record {
      left = told-rows-next told desk c.args.page.now c.loop-line.line-index trade c.loop-line.rows c.put_versions.new.rows (omega (arith, c.loop-line-test.true)) c.line-item.is rows before.left;
      tables = looks.unchanged ∙ before.tables;
      later = omega (arith, before.later, looks.later);
      lent_as = looks.lent_as ∙ before.lent_as;
    }
