use Rattle.std.proofs.Common.{sym, ◌∙◌}
use Rattle.muni_position.proofs.KeptLemmas.{room_made, room_stays}
use Rattle.muni_position.proofs.holdings.make_room.Goals as goal

pub returns-clause-same : goal.returns-clause-same
returns-clause-same c = λ other.
    room_made c.args.holdings.now c.insert.new.self c.args.cusip.now other (sym c.contains_key.ensures ∙ c.if-contains_key.false)
    (rw (← c.nothing.ensures.value) (c.in_ok-insert.ensures.updates.0 other))

pub returns-clause-rooms : goal.returns-clause-rooms
returns-clause-rooms c = λ other.
    room_stays c.args.holdings.now c.insert.new.self c.args.cusip.now other c.nothing.result (c.in_ok-insert.ensures.updates.0 other)
