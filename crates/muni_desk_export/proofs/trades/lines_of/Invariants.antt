use Rattle.std.proofs.Common.{◌≡◌, ◌++◌, drop}
use Rattle.muni_desk_export.specs.Trades.{lines_of}
use Rattle.muni_desk_export.proofs.trades.lines_of.Given as goal

-- the lines so far, and those that are left, are all of them
abbrev pub invariant-loop-line : goal.invariant-loop-line
invariant-loop-line l = record {
  left : l.lines ++ lines_of (drop l.line-index l.page) ≡ lines_of l.page;
}
