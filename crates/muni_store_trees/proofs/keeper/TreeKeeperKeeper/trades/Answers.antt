use Rattle.std.proofs.Common.{◌≡◌, sym, ◌∙◌}
use Rattle.std.proofs.lemmas.Result.{err_from_is_err_and}
use Rattle.muni_store_trees.specs.Found.{trade_count}
use Rattle.muni_store_trees.proofs.CallLemmas.{count_found, count_is_kept, count_refused, found_kept, keeps}
use Rattle.muni_store_trees.proofs.keeper.TreeKeeperKeeper.trades.Goals as goal

pub returns-in-Some-clause-counts : goal.returns-in-Some-clause-counts
returns-in-Some-clause-counts g c = count_is_kept g.S.Store.view g.S.Store.recovers c.args.desk.now c.in-Some.count c.args.self.now (sym c.of.ensures ∙ c.in-Some.is)

pub returns-in_err-count-clause-counts : goal.returns-in_err-count-clause-counts
returns-in_err-count-clause-counts g c =
    let settled = c.settled.ensures in
    let told = err_from_is_err_and c.from_residual.result c.from_residual.ensures.1 in
    count_refused g.S.Store.view g.S.Store.recovers c.args.desk.now c.settled.result c.from_residual.result c.in_err-count.field-0.0 told.0 c.args.self.now c.settled.new.self
    (sym c.of.ensures ∙ c.in_default.is) c.in_err-count.was told.1
    (keeps g.S.Store.view g.S.Store.recovers c.count_trades-found.result c.settled.result c.args.self.now.store c.count_trades-found.new.store c.settled.new.self.store
    settled.same settled.kept settled.undone c.count_trades-found.ensures.looks)
    (record { places = settled.frame.places; counts = settled.frame.counts })

pub returns-clause-counts : goal.returns-clause-counts
returns-clause-counts g c =
    let settled = c.settled.ensures in
    count_found g.S.Store.view g.S.Store.recovers c.args.desk.now c.settled.result c.in_ok-count.count c.args.self.now
    (record {
      store = c.settled.new.self.store;
      places = c.settled.new.self.places;
      alloc = c.settled.new.self.alloc;
      is_changed = c.settled.new.self.is_changed;
      is_shut = c.settled.new.self.is_shut;
      trades = c.keep.new.self;
      faults = c.settled.new.self.faults;
    })
    c.settled.new.self.trades (sym c.of.ensures ∙ c.in_default.is) c.in_ok-count.was
    (keeps g.S.Store.view g.S.Store.recovers c.count_trades-found.result c.settled.result c.args.self.now.store c.count_trades-found.new.store c.settled.new.self.store
    settled.same settled.kept settled.undone c.count_trades-found.ensures.looks)
    (found_kept g.S.Store.view (λ n. n ≡ trade_count c.args.self.now.places (g.S.Store.view c.args.self.now.store).trees c.args.desk.now)
    c.count_trades-found.result c.settled.result c.count_trades-found.new.store c.settled.new.self.store settled.same settled.kept c.count_trades-found.ensures.found)
    settled.frame.places settled.frame.counts c.keep.ensures
