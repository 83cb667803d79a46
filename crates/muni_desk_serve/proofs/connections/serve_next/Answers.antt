use Rattle.std.proofs.Common.{refl}
use Rattle.muni_desk_serve.proofs.ConnectionLemmas.{none-left}
use Rattle.muni_desk_serve.proofs.connections.serve_next.Goals as goal

pub returns-in-Ok-None-clause-next : goal.returns-in-Ok-None-clause-next
returns-in-Ok-None-clause-next g c =
    let said = rw c.in-Ok-None.field-0-is at c.in-Ok-None.ensures in
    let none = none-left (g.D.Door.state c.args.door.now) (g.D.Door.state c.accept.new.self) said.first said.given_out in
    (refl, none.0, none.1)
