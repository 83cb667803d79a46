use Rattle.std.proofs.Common.{sym, None}
use Rattle.muni_keep.proofs.KeeperLemmas.{on_err}
use Rattle.muni_keep.proofs.MapLemmas.{get_found, insert_one}
use Rattle.muni_keep.proofs.mem_cabinet.Keepers.put.Goals as goal

pub returns-clause-was : goal.returns-clause-was
returns-clause-was c = sym (get_found c.self.inside.keepers.entries c.args.self.now c.args.name c.in_ok-insert.field-0 c.self.view_is c.in_ok-insert.ensures.old)

pub returns-clause-put : goal.returns-clause-put
returns-clause-put c = insert_one c.self.inside.keepers.entries c.insert.new.self.entries c.args.self.now c.args.name c.args.keeper c.self.view_is c.in_ok-insert.ensures.updates.0

pub returns-in_err-insert-clause-absent : goal.returns-in_err-insert-clause-absent
returns-in_err-insert-clause-absent c = on_err c.from_residual.result (get_found c.self.inside.keepers.entries c.args.self.now c.args.name None c.self.view_is (sym c.in_err-insert.ensures.absent))
