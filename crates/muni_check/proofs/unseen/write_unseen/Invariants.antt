use Rattle.std.proofs.Common.{◌≡◌, ◌≤◌, ◌*◌, List, ℕ, length}
use Rattle.muni_edge.specs.Sink.{HasWritten}
use Rattle.muni_check_rows.specs.Line.{unseen_lines}
use Rattle.muni_check.specs.Named.{has}
use Rattle.muni_check.proofs.UnseenLemmas.{AreBefore}
use Rattle.muni_check.proofs.unseen.write_unseen.Given as goal

-- the lines of the pages so far are written
abbrev pub invariant-pages : goal.invariant-pages
invariant-pages g l = record {
  unseen : List (List ℕ);
  before : AreBefore (g.K.Keeper.tables l.fn.keeper) l.desk (has l.named) l.after unseen;
  counted : l.count ≡ length unseen;
  few : l.count ≤ 50 * l.turn;
  written : HasWritten (g.O.Sink.bytes l.fn.output) (g.O.Sink.bytes l.output) (unseen_lines unseen);
  puts : g.O.Sink.faults l.output ≡ g.O.Sink.faults l.fn.output;
  tables : g.K.Keeper.tables l.keeper ≡ g.K.Keeper.tables l.fn.keeper;
  later : g.K.Keeper.faults l.fn.keeper ≤ g.K.Keeper.faults l.keeper;
  lent_as : g.K.Keeper.lent_as l.keeper ≡ g.K.Keeper.lent_as l.fn.keeper;
}
