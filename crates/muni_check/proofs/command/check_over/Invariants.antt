use Rattle.std.proofs.Common.{◌≡◌, ◌≤◌, false}
use Rattle.std.specs.Prelude.{IfSome}
use Rattle.muni_check.specs.Cache.{IsSoundCache}
use Rattle.muni_check.specs.Judging.{over}
use Rattle.muni_check_rows.specs.Tallies.{IsSmall}
use Rattle.muni_check.proofs.CheckLemmas.{IsAt}
use Rattle.muni_check.proofs.command.check_over.Given as goal

-- the blocks so far are done
abbrev pub invariant-pieces : goal.invariant-pieces
invariant-pieces g l = record {
  at_ : IsAt (over (g.E.Encloser.ends l.fn.calculator.encloser.now) l.desk (g.K.Keeper.tables l.fn.keeper)) (g.I.Source.left l.fn.input) (g.I.Source.left l.input) l.blocks.held l.so_far (g.O.Sink.bytes l.fn.output) (g.O.Sink.bytes l.output);
  ended : l.blocks.ended ≡ false;
  small : IsSmall l.so_far.progress.tally;
  sound : IfSome (g.K.Keeper.tables l.fn.keeper) (λ t. IsSoundCache t l.judge.issues);
  calculator : l.judge.calculator.now ≡ l.fn.calculator;
  desk : l.judge.desk.now ≡ l.desk;
  takes : g.I.Source.faults l.input ≡ g.I.Source.faults l.fn.input;
  puts : g.O.Sink.faults l.output ≡ g.O.Sink.faults l.fn.output;
  tables : g.K.Keeper.tables l.keeper ≡ g.K.Keeper.tables l.fn.keeper;
  later : g.K.Keeper.faults l.fn.keeper ≤ g.K.Keeper.faults l.keeper;
  lent_as : g.K.Keeper.lent_as l.keeper ≡ g.K.Keeper.lent_as l.fn.keeper;
}
