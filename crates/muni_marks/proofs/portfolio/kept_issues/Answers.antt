use Rattle.std.proofs.Common.{◌∙◌, subst, arith}
use Rattle.std.specs.Prelude.{IfSome}
use Rattle.std.specs.BTreeMap as tree
use Rattle.std.specs.BTreeSet as set
use Rattle.muni_keep.specs.Trades.{by_bytes}
use Rattle.muni_marks.specs.Portfolio.{IsKnownNext}
use Rattle.muni_marks.proofs.PortfolioLemmas.{row_fetched, row_default}
use Rattle.muni_marks.proofs.portfolio.kept_issues.Goals as goal
use Rattle.muni_marks.proofs.portfolio.kept_issues.Goals.{in-Ok+in_ok-ask, in_default}

pub loop-row-preserved : goal.loop-row-preserved
loop-row-preserved g c =
    let told = g.K.Keeper.tables c.args.keeper.now in
    let inv = c.loop-row.invariant in
    let rows = c.args.rows.now in
    elim c.match-row.branch [
      | in-Ok+in_ok-ask w ↦
          let asked = w.in-Ok.asked in
          let next = subst (λ told. IfSome told (λ t. IsKnownNext t asked.cusip (tree.get by_bytes c.loop-row.issues) (tree.get by_bytes w.ask.new.issues) (set.contains by_bytes w.ask.new.missing))) inv.tables w.in_ok-ask.ensures.known in
          rw (w.issues-is, w.missing-is, w.keeper-is) record {
            far = row_fetched told (tree.get by_bytes c.loop-row.issues) (tree.get by_bytes w.ask.new.issues) (set.contains by_bytes c.loop-row.missing) (set.contains by_bytes w.ask.new.missing) rows c.loop-row.row-index asked c.loop-row-test.true (rw w.in-Ok.is at c.row-item.is) inv.far next;
            tables = w.ask.ensures.reads.unchanged ∙ inv.tables;
            later = omega (arith, w.ask.ensures.reads.later, inv.later);
            lent_as = w.ask.ensures.reads.lent_as ∙ inv.lent_as;
          }
      | in_default w ↦
          rw (w.issues-is, w.missing-is, w.keeper-is) record {
            far = row_default told (tree.get by_bytes c.loop-row.issues) (set.contains by_bytes c.loop-row.missing) rows c.loop-row.row-index c.row-item.result c.loop-row-test.true c.row-item.is w.in_default.not-Ok inv.far;
            tables = inv.tables;
            later = inv.later;
            lent_as = inv.lent_as;
          }
    ]
