use Rattle.std.proofs.Common.{IfOk, subst}
use Rattle.std.proofs.lemmas.Result.{err_from_is_err_and}
use Rattle.sqlite_trees.specs.View.{IsClean}
use Rattle.muni_store_trees.specs.Found as found
use Rattle.muni_store_trees.proofs.CallLemmas.{found_kept, keeps, keeps_answered, keeps_refused}
use Rattle.muni_store_trees.proofs.keeper.TreeKeeperKeeper.page.Goals as goal

pub returns-in_err-settled-clause-finds : goal.returns-in_err-settled-clause-finds
returns-in_err-settled-clause-finds g c =
    let view = g.S.Store.view in
    let settled = c.settled.ensures in
    let told = err_from_is_err_and c.from_residual.result c.from_residual.ensures.1 in
    rw told.1 (record {
      found = tt;
      keeps = keeps_refused view g.S.Store.recovers c.settled.result c.in_err-settled.field-0.0 told.0 c.args.self.now.store c.settled.new.self.store c.in_err-settled.was
          (keeps view g.S.Store.recovers c.read_page-read.result c.settled.result c.args.self.now.store c.read_page-read.new.store c.settled.new.self.store settled.same settled.kept settled.undone c.read_page-read.ensures.looks);
      places = settled.frame.places;
      counts = settled.frame.counts;
    })

pub returns-clause-finds : goal.returns-clause-finds
returns-clause-finds g c =
    let view = g.S.Store.view in
    let settled = c.settled.ensures in
    let lines = c.read_page-read.new.lines in
    let is_page = found.IsPage c.args.self.now.places (g.S.Store.view c.args.self.now.store).trees c.args.desk.now c.args.after.now lines.items in
    record {
      found = subst (λ r. IfOk r (λ _. IsClean (g.S.Store.view c.settled.new.self.store) → is_page)) c.in_ok-settled.was
          (found_kept view (λ _. is_page) c.read_page-read.result c.settled.result c.read_page-read.new.store c.settled.new.self.store settled.same settled.kept c.read_page-read.ensures.found);
      keeps = keeps_answered view g.S.Store.recovers c.settled.result c.in_ok-settled.field-0 lines c.args.self.now.store c.settled.new.self.store c.in_ok-settled.was
          (keeps view g.S.Store.recovers c.read_page-read.result c.settled.result c.args.self.now.store c.read_page-read.new.store c.settled.new.self.store settled.same settled.kept settled.undone c.read_page-read.ensures.looks);
      places = settled.frame.places;
      counts = settled.frame.counts;
    }
