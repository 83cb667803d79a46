use Rattle.muni_desk_serve.proofs.LookLemmas.{version-seen}
use Rattle.muni_desk_serve.proofs.looks.look_up_version.Goals as goal

pub returns-clause-seen : goal.returns-clause-seen
returns-clause-seen g c =
    version-seen (g.K.Keeper.tables c.args.keeper.now) (g.K.Keeper.tables c.version.new.self) c.args.key.now c.copy.result c.args.number c.in-Some.version c.in-Some-2.issue
    c.version.ensures.reads.unchanged c.copy.ensures (rw c.in-Some.is at c.in_ok-version.ensures.found) (rw c.in-Some-2.is at c.in_ok-issue.ensures.found)
