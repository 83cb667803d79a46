use Rattle.muni_desk_serve.proofs.LookLemmas.{latest-found}
use Rattle.muni_desk_serve.proofs.looks.latest.Goals as goal

pub returns-clause-found : goal.returns-clause-found
returns-clause-found g c =
    latest-found (λ lines. lines.items) (g.K.Keeper.tables c.args.keeper.now) (g.K.Keeper.tables c.before_latest.new.self) c.args.desk.now c.in_ok-before.before c.page.result
    c.before_latest.ensures.reads.unchanged c.in_ok-before.ensures.found c.page.ensures.found
