use Rattle.std.proofs.Common.{◌≡◌, ◌+◌, ◌-◌, ◌<◌, arith, rules}
use Rattle.muni_span.specs.Powers.{power_end}
use Rattle.muni_span.specs.Rounding.{carry_of}
use Rattle.muni_span.proofs.RootEnds.{certified}
use Rattle.muni_span.proofs.root.end_near.Goals as goal

pub returns-then-v-power-clause-value : goal.returns-then-v-power-clause-value
returns-then-v-power-clause-value c =
    certified (carry_of c.args.rounding) c.args.v c.guess-guess.result c.guess-guess.ensures.greatest (search rules) (search rules)

pub returns-then-power-v-2-clause-value : goal.returns-then-power-v-2-clause-value
returns-then-power-v-2-clause-value c =
    let next : c.guess-guess.result - 1 + 1 ≡ c.guess-guess.result = omega arith in
    let before : c.args.v < power_end (carry_of c.args.rounding) c.guess-guess.result 180 = search rules in
    certified (carry_of c.args.rounding) c.args.v (c.guess-guess.result - 1) (omega arith) (search rules)
    (rw next before)
