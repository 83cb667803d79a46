use Rattle.std.proofs.Common.{◌≡◌, ◌≤◌, ◌+◌, ℕ, List, map, take}
use Rattle.std.specs.List.{AllByRecursion}
use Rattle.muni_position.specs.Holding.{IsBounded, plus, holding_of}
use Rattle.muni_position.specs.Holdings.{AreInRange, kept}
use Rattle.muni_position.proofs.pages.add_lines.Given as goal

-- the lines so far are added
abbrev pub invariant-loop-line : goal.invariant-loop-line
invariant-loop-line l = record {
  range : AreInRange l.holdings;
  sums : (cusip : List ℕ) → kept l.holdings cusip ≡ plus (kept l.fn.holdings cusip) (holding_of cusip (map (λ line. line.version) (take l.line-index l.lines)));
  few : (cusip : List ℕ) → (kept l.holdings cusip).live ≤ (kept l.fn.holdings cusip).live + l.line-index;
  bounded : AllByRecursion IsBounded (map (λ line. line.version) (take l.line-index l.lines));
}
