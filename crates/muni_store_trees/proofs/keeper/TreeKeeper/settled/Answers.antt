use Rattle.muni_store_trees.proofs.CallLemmas.{on_err, settles}
use Rattle.muni_store_trees.proofs.keeper.TreeKeeper.settled.Goals as goal

pub returns-in-NoMemory-clause-undone : goal.returns-in-NoMemory-clause-undone
returns-in-NoMemory-clause-undone g c = on_err c.args.answer (settles g.S.Store.view g.S.Store.recovers c.args.self.now.store c.rollback.new.self c.rollback.ensures.undone c.rollback.ensures.quiet.clean c.rollback.ensures.quiet.outcomes)

pub returns-in-Failed-clause-undone : goal.returns-in-Failed-clause-undone
returns-in-Failed-clause-undone g c = on_err c.args.answer (settles g.S.Store.view g.S.Store.recovers c.args.self.now.store c.rollback.new.self c.rollback.ensures.undone c.rollback.ensures.quiet.clean c.rollback.ensures.quiet.outcomes)

pub returns-in-Shut-clause-undone : goal.returns-in-Shut-clause-undone
returns-in-Shut-clause-undone g c = on_err c.args.answer (settles g.S.Store.view g.S.Store.recovers c.args.self.now.store c.rollback.new.self c.rollback.ensures.undone c.rollback.ensures.quiet.clean c.rollback.ensures.quiet.outcomes)
