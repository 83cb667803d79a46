use Rattle.std.proofs.Common.{arith, ◌≤◌, ◌+◌, length}
use Rattle.muni_wire.proofs.ReadingLemmas.{body-answer}
use Rattle.muni_wire.proofs.request.take_body.Goals as goal

pub returns-clause-answer : goal.returns-clause-answer
returns-clause-answer g c =
    let filled = c.in_ok-fill.ensures in
    let long : c.args.end + c.args.size ≤ length c.fill.new.bytes.items = omega arith in
    let place : c.args.end ≤ length c.args.bytes.now.items = omega arith in
    let said = rw c.deref.ensures.value at c.read_body.ensures in
    body-answer (g.L.Source.left c.args.link.now) (g.L.Source.left c.fill.new.link) c.args.bytes.now.items filled.taken.0 c.fill.new.bytes.items c.args.end c.args.size c.args.form c.read_body.result filled.taken.1 filled.taken.2 place long said.whole said.bad said.others
