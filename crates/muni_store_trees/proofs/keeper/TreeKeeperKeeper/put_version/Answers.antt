use Rattle.std.proofs.Common.{is_ok, sym, ap, ◌∙◌}
use Rattle.muni_store_trees.specs.Counts.{after_put}
use Rattle.muni_store_trees.specs.Puts.{AddsVersion}
use Rattle.muni_store_trees.proofs.CallLemmas.{is_ok_kept, puts_or_undoes}
use Rattle.muni_store_trees.proofs.keeper.TreeKeeperKeeper.put_version.Goals as goal

pub returns-clause-adds : goal.returns-clause-adds
returns-clause-adds g c =
    let settled = c.settled.ensures in
    let both = puts_or_undoes g.S.Store.view g.S.Store.recovers (AddsVersion c.args.self.now.places c.args.key.now c.args.number c.args.version.now) c.put_version-put.result c.settled.result
    c.args.self.now.store c.put_version-put.new.store c.settled.new.self.store settled.same settled.kept settled.undone c.put_version-put.ensures.puts in
    record {
      puts = both.puts;
      undone = both.undone;
      places = settled.frame.places;
      counts = settled.frame.counts ∙ c.note_put.ensures
          ∙ ap (λ ok. after_put c.args.key.now.desk c.args.number ok c.args.self.now.trades) (c.is_ok.ensures.value ∙ sym (ap is_ok settled.same ∙ is_ok_kept c.put_version-put.result));
    }
