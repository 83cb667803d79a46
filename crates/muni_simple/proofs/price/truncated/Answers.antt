use Rattle.std.proofs.Common.{arith}
use Rattle.muni_simple.proofs.PriceLemmas.{truncates}
use Rattle.muni_simple.proofs.price.truncated.Goals as goal

pub returns-clause-exact : goal.returns-clause-exact
returns-clause-exact c =
    let order = c.if-worth-taken_off.false in
    rw (c.from.ensures, c.from-2.ensures, c.from-3.ensures, c.from-4.ensures, c.from-5.ensures, c.from-6.ensures)
    (truncates c.args.due c.args.accrued c.args.growth c.args.one (omega arith) (omega arith) (rw (c.from.ensures, c.from-2.ensures, c.from-3.ensures, c.from-4.ensures) at order))
