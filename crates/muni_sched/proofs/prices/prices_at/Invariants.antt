use Rattle.std.proofs.Common.{◌≡◌, take, length, All}
use Rattle.std.specs.List.{AllZip}
use Rattle.muni_sched.specs.PriceOutcome.{IsPriceAt, IsPrintable}
use Rattle.muni_sched.proofs.prices.prices_at.Given as goal

abbrev pub invariant-loop-candidate : goal.invariant-loop-candidate
invariant-loop-candidate g l = record {
  each : AllZip (IsPriceAt (g.E.Encloser.ends l.encloser) l.y) (take l.candidate-index l.list) l.prices.items;
  range : All IsPrintable l.prices.items;
  room : length l.prices.items ≡ l.candidate-index;
}
