use Rattle.std.proofs.Common.{◌≡◌, ◌≤◌, ◌+◌, is_some}
use Rattle.muni_book.specs.Rules.{book_rules}
use Rattle.muni_import.specs.Rows.{rows_of}
use Rattle.muni_desk_import.proofs.ImportLemmas.{IsAt}
use Rattle.muni_desk_import.proofs.rows.rows_after.Given as goal

abbrev pub invariant-loop-count : goal.invariant-loop-count
invariant-loop-count g l = record {
  at : IsAt (l.fn.before + 1) (book_rules l.fn.book.limit (g.E.Encloser.ends l.fn.book.calculator.now.encloser.now)) (rows_of l.fn.text) l.rows l.count (g.K.Keeper.tables l.fn.keeper) (g.K.Keeper.tables l.keeper) (g.O.Sink.bytes l.fn.output) (g.O.Sink.bytes l.output);
  counted : l.done ≡ l.fn.before + l.count;
  tells : is_some (g.K.Keeper.tables l.keeper) ≡ is_some (g.K.Keeper.tables l.fn.keeper);
  later : g.K.Keeper.faults l.fn.keeper ≤ g.K.Keeper.faults l.keeper;
  puts : g.O.Sink.faults l.output ≡ g.O.Sink.faults l.fn.output;
  lent_as : g.K.Keeper.lent_as l.keeper ≡ g.K.Keeper.lent_as l.fn.keeper;
}
