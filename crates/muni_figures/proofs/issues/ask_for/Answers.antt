use Rattle.std.proofs.Common.{◌∙◌, sym, subst, arith}
use Rattle.std.specs.Prelude.{IfSome}
use Rattle.std.specs.BTreeMap as tree
use Rattle.muni_keep.specs.Trades.{by_bytes}
use Rattle.muni_figures.specs.Issues.{AreAsked}
use Rattle.muni_figures.specs.Shares.{unknown_of, unknown_of_share}
use Rattle.muni_figures.proofs.IssueLemmas.{scan-more, told-joined}
use Rattle.muni_figures.proofs.issues.ask_for.Goals as goal

pub loop-share-preserved : goal.loop-share-preserved
loop-share-preserved g c =
    let told = g.K.Keeper.tables c.args.keeper.now in
    let before = c.loop-share.invariant in
    let reads = c.in_ok-ask_each.ensures.reads in
    let old = tree.get by_bytes c.args.issues.now in
    let mid = tree.get by_bytes c.loop-share.issues in
    let new = tree.get by_bytes c.ask_each.new.issues in
    let these = subst (λ scan. IfSome told (λ t. AreAsked t (unknown_of scan) mid new)) (sym c.in-Ok.is) (rw (before.tables, c.as_slice.ensures.value) at c.in_ok-ask_each.ensures.asked) in
    record {
      known = rw before.tables at c.in_ok-ask_each.ensures.known;
      asked = told-joined unknown_of_share told c.args.shares.now c.loop-share.share-index c.share-item.result old mid new c.loop-share-test.true c.share-item.is before.asked these;
      scanned = scan-more c.args.shares.now c.loop-share.share-index c.share-item.result c.in-Ok.scan c.loop-share-test.true c.share-item.is c.in-Ok.is before.scanned;
      tables = reads.unchanged ∙ before.tables;
      later = omega (arith, reads.later, before.later);
      lent_as = reads.lent_as ∙ before.lent_as;
    }
