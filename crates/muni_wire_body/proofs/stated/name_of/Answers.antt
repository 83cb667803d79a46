use Rattle.std.proofs.Common.{IsUtf8, subst, sym}
use Rattle.muni_wire_body.proofs.StatedLemmas.{name-text}
use Rattle.muni_wire_body.proofs.stated.name_of.Goals as goal

pub unreachable-requires : goal.unreachable-requires
unreachable-requires c = c.in-Err.ensures.cases.0 (subst IsUtf8 (sym c.name.ensures) (name-text c.args.column))
