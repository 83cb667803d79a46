use Rattle.std.proofs.Common.{rules, ◌≡◌, ◌+◌, ◌≤◌, cond, refl, ap, arith}
use Rattle.std.proofs.lemmas.Int.{ints}
use Rattle.muni_rule.specs.Civil.{is_before}
use Rattle.muni_days.specs.Day.{civil}
use Rattle.muni_desk.proofs.drill.sums.Sums.add.Goals as goal

pub returns-in-Ok-clause-sums : goal.returns-in-Ok-clause-sums
returns-in-Ok-clause-sums c =
    let small = c.requires.small in
    let called : c.from.result ≡ cond (is_before (civil c.in-Ok.figures.redemption) (civil c.args.maturity)) 1 0 = search rules in
    rw c.in-Ok.is (record {
      trades = refl;
      printed = refl;
      undecided = omega arith;
      outside = omega arith;
      yields = (omega (arith, ints, small.yields_from, small.yields_to, c.units.ensures.value, c.units.ensures.range));
      accrued = c.plus-self.ensures;
      called = ap (λ n. c.args.self.now.called + n) called;
    })

pub returns-in-Ok-clause-small : goal.returns-in-Ok-clause-small
returns-in-Ok-clause-small c =
    let small = c.requires.small in
    let one : c.from.result ≤ 1 = search rules in
    let accrued : c.in-Ok.figures.accrued ≤ 60_000_000_000 = search rules in
    record {
      printed = omega (arith, small.printed);
      undecided = omega (arith, small.undecided);
      outside = omega (arith, small.outside);
      yields_from = omega (arith, ints, small.yields_from, small.yields_to, c.units.ensures.range);
      yields_to = omega (arith, ints, small.yields_from, small.yields_to, c.units.ensures.range);
      accrued = omega (arith, small.accrued, accrued, c.plus-self.ensures);
      called = omega (arith, small.called, one);
    }
