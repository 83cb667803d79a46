use Rattle.std.proofs.Common.{rules, ◌≡◌}
use Rattle.muni_desk.proofs.output.carry_out.Goals as goal

pub returns-in-Check-clause-does : goal.returns-in-Check-clause-does
returns-in-Check-clause-does g c =
    let store : c.deref-in-Check.result.now ≡ c.in-Check.store.items = search rules in
    let did = c.check.ensures in
    rw (c.in-Check.is, ← store)
    ((c.check.result, c.of_checked.ensures, (did.written, (did.read_failed, did.write_failed, did.store_failed), did.reads, did.writes)), did.takes, did.leaves)
