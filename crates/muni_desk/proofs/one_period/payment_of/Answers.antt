use Rattle.std.proofs.Common.{arith, refl}
use Rattle.std.proofs.lemmas.Int.{ints}
use Rattle.muni_desk.proofs.one_period.payment_of.Goals as goal

pub returns-clause-ranges : goal.returns-clause-ranges
returns-clause-ranges c =
    let days = c.accrued_days-accrued_days.ensures.range in
    let accrued = c.interest.ensures.range in
    record {
      due = (omega (arith, ints), omega (arith, ints));
      accrued = (omega (arith, ints), omega (arith, ints));
      left = (omega (arith, ints), omega (arith, ints));
      basis = refl;
    }
