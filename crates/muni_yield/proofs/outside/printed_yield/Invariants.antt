use Rattle.std.proofs.Common.{◌≡◌, ◌+◌, ◌-◌}
use Rattle.muni_yield.specs.Bracket.{start_of, run, IsBracket}
use Rattle.muni_yield.specs.Places.{place_verdict}
use Rattle.muni_yield.proofs.outside.printed_yield.Given as goal

abbrev pub invariant-loop-outcome : goal.invariant-loop-outcome
invariant-loop-outcome g l = let verdicts = place_verdict (g.E.Encloser.ends l.encloser) in record {
  is : IsBracket l.bracket;
  rest : run (19 - l.bracket.halvings) verdicts l.bracket
      ≡ run 19 verdicts (start_of l.flows l.fn.price);
  steps : l.steps ≡ l.fn.steps + l.bracket.halvings;
}

abbrev pub decreases-loop-outcome : goal.decreases-loop-outcome
decreases-loop-outcome g l = 19 - l.bracket.halvings
