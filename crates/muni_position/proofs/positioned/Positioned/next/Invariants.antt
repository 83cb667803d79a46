use Rattle.std.proofs.Common.{◌≡◌}
use Rattle.std.specs.Prelude.{slice_get}
use Rattle.muni_position.proofs.NextLemmas.{held_of}
use Rattle.muni_position.proofs.positioned.Positioned.next.Given as goal

-- those passed by are not held
abbrev pub invariant-loop-cusip : goal.invariant-loop-cusip
invariant-loop-cusip g l =
    slice_get (held_of l.self.holdings l.cusip-iterator) 0 ≡ slice_get (held_of l.self.holdings l.initial.cusip-iterator) 0
