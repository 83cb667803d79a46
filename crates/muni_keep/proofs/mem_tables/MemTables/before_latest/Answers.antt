use Rattle.std.proofs.Common.{ap, ◌∙◌}
use Rattle.muni_keep.specs.Tables.{Tables, before_latest}
use Rattle.muni_keep.proofs.mem_tables.MemTables.before_latest.Goals as goal

pub returns : goal.returns
returns c = c.before_latest.ensures ∙ ap (λ (t : Tables). before_latest t c.args.desk.now) c.self.view_is
