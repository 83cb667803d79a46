use Rattle.std.proofs.Common.{◌≡◌, ◌≤◌, ◌<◌, ◌+◌, ◌^◌, length}
use Rattle.std.specs.Prelude.{IfSome}
use Rattle.std.specs.BTreeMap as tree
use Rattle.muni_answer.specs.Answers.{IsRightAnswer}
use Rattle.muni_keep.specs.Trades.{by_bytes}
use Rattle.muni_figures.specs.Blocks.{most_bytes}
use Rattle.muni_figures.specs.Done.{IsSmall}
use Rattle.muni_figures.specs.Issues.{AreFound}
use Rattle.muni_figures.specs.Line.{header}
use Rattle.muni_figures.specs.Said.{IsToldOf}
use Rattle.muni_figures.proofs.FigureLemmas.{IsSoFar}
use Rattle.muni_figures.proofs.command.figure_rows.Given as goal

-- the lines of the groups so far were written
abbrev pub invariant-groups : goal.invariant-groups
invariant-groups g l = record {
  far : IsSoFar (IsToldOf (IsRightAnswer (g.E.Encloser.ends l.fn.calculator.encloser.now)) l.fn.options.has_risk (g.K.Keeper.tables l.fn.keeper)) (header l.fn.options) l.fn.options.first l.so_far.tally l.blocks.reading l.blocks.held.items
      (g.I.Source.left l.fn.input) (g.I.Source.left l.input) (g.O.Sink.bytes l.fn.output) (g.O.Sink.bytes l.output);
  few : length l.blocks.held.items ≤ most_bytes;
  small : IsSmall l.so_far.tally;
  room : l.fn.options.first + l.so_far.tally.rows < 2 ^ 64;
  found : IfSome (g.K.Keeper.tables l.fn.keeper) (λ t. AreFound t (tree.get by_bytes l.so_far.issues));
  tables : g.K.Keeper.tables l.keeper ≡ g.K.Keeper.tables l.fn.keeper;
  later : g.K.Keeper.faults l.fn.keeper ≤ g.K.Keeper.faults l.keeper;
  lent_as : g.K.Keeper.lent_as l.keeper ≡ g.K.Keeper.lent_as l.fn.keeper;
  takes : g.I.Source.faults l.input ≡ g.I.Source.faults l.fn.input;
  puts : g.O.Sink.faults l.output ≡ g.O.Sink.faults l.fn.output;
}
