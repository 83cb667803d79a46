use Rattle.std.proofs.Common.{◌≡◌, ◌*◌, rules}
use Rattle.muni_span.proofs.Holding.{whole_holds}
use Rattle.muni_span.proofs.worth.of.Goals as goal

pub returns-clause-encloses : goal.returns-clause-encloses
returns-clause-encloses c j =
    let low : c.new.result.lo ≡ 4096 * c.args.units = search rules in
    let high : c.new.result.hi ≡ 4096 * c.args.units = search rules in
    rw (low, high) (whole_holds 4096 c.args.units j)
