use Rattle.std.proofs.Common.{◌≡◌, ◌≤◌, ◌+◌, map, take}
use Rattle.std.specs.Prelude.{IfSome}
use Rattle.csv.specs.Records.{fields_of}
use Rattle.muni_check.specs.Cache.{IsSoundCache}
use Rattle.muni_check.specs.GoesOn.{GoesOn}
use Rattle.muni_check.specs.Judging.{over}
use Rattle.muni_check_rows.specs.Tallies.{IsSmall}
use Rattle.muni_check.proofs.rows.judge_rows.Given as goal

-- the rows so far are done
abbrev pub invariant-loop-row : goal.invariant-loop-row
invariant-loop-row g l = record {
  goes : GoesOn (over (g.E.Encloser.ends l.fn.judge.calculator.now.encloser.now) l.fn.judge.desk.now (g.K.Keeper.tables l.fn.keeper))
      l.columns.items (map fields_of (take l.row-index l.rows)) l.fn.progress l.progress l.lines.items;
  small : IsSmall l.progress.tally;
  counted : l.progress.tally.rows ≡ l.fn.progress.tally.rows + l.row-index;
  sound : IfSome (g.K.Keeper.tables l.fn.keeper) (λ t. IsSoundCache t l.judge.issues);
  calculator : l.judge.calculator ≡ l.fn.judge.calculator;
  desk : l.judge.desk ≡ l.fn.judge.desk;
  tables : g.K.Keeper.tables l.keeper ≡ g.K.Keeper.tables l.fn.keeper;
  later : g.K.Keeper.faults l.fn.keeper ≤ g.K.Keeper.faults l.keeper;
  lent_as : g.K.Keeper.lent_as l.keeper ≡ g.K.Keeper.lent_as l.fn.keeper;
}
