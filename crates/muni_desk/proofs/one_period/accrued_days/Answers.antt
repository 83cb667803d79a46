use Rattle.std.proofs.Common.{◌≡◌, arith}
use Rattle.std.proofs.lemmas.Int.{ints}
use Rattle.muni_desk.specs.QuoteOne as spec
use Rattle.muni_desk.proofs.PeriodLemmas.{accrued_days-within}
use Rattle.muni_desk.proofs.one_period.accrued_days.Goals as goal

pub returns-clause-range : goal.returns-clause-range
returns-clause-range c =
    let request = c.args.request.now in
    let within = accrued_days-within request c.requires.next c.requires.settles in
    let days : c.days360.result ≡ spec.accrued_days request = cc in
    rw days (omega (arith, ints), omega (arith, ints))
