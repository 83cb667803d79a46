use Rattle.std.proofs.Common.{◌∙◌, arith}
use Rattle.std.specs.BTreeMap as tree
use Rattle.std.specs.BTreeSet as set
use Rattle.muni_keep.specs.Trades.{by_bytes}
use Rattle.muni_figures.proofs.IssueLemmas.{told-asked, told-next}
use Rattle.muni_figures.proofs.issues.ask_each.Goals as goal

pub loop-cusip-preserved : goal.loop-cusip-preserved
loop-cusip-preserved g c =
    let told = g.K.Keeper.tables c.args.keeper.now in
    let before = c.loop-cusip.invariant in
    let reads = c.in_ok-ask.ensures.reads in
    let old = tree.get by_bytes c.args.issues.now in
    let mid = tree.get by_bytes c.loop-cusip.issues in
    let new = tree.get by_bytes c.ask.new.issues in
    let missing = set.contains by_bytes c.ask.new.missing in
    let next = rw before.tables at c.in_ok-ask.ensures.known in
    record {
      known = told-next told _ mid new missing next;
      asked = told-asked told c.args.unknown.now c.loop-cusip.cusip-index _ old mid new missing c.loop-cusip-test.true before.asked next;
      tables = reads.unchanged ∙ before.tables;
      later = omega (arith, reads.later, before.later);
      lent_as = reads.lent_as ∙ before.lent_as;
    }
