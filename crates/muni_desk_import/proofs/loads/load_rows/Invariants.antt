use Rattle.std.proofs.Common.{◌≡◌, ◌≤◌, is_some}
use Rattle.muni_book.specs.Rules.{book_rules}
use Rattle.muni_desk_import.proofs.LoadLemmas.{IsLoaded}
use Rattle.muni_desk_import.proofs.loads.load_rows.Given as goal

abbrev pub invariant-pieces : goal.invariant-pieces
invariant-pieces g l = record {
  at : IsLoaded (book_rules l.fn.book.limit (g.E.Encloser.ends l.fn.book.calculator.now.encloser.now)) l.blocks l.done (g.I.Source.left l.fn.input) (g.I.Source.left l.input) (g.K.Keeper.tables l.fn.keeper) (g.K.Keeper.tables l.keeper) (g.O.Sink.bytes l.fn.output) (g.O.Sink.bytes l.output);
  takes : g.I.Source.faults l.input ≡ g.I.Source.faults l.fn.input;
  tells : is_some (g.K.Keeper.tables l.keeper) ≡ is_some (g.K.Keeper.tables l.fn.keeper);
  later : g.K.Keeper.faults l.fn.keeper ≤ g.K.Keeper.faults l.keeper;
  puts : g.O.Sink.faults l.output ≡ g.O.Sink.faults l.fn.output;
  lent_as : g.K.Keeper.lent_as l.keeper ≡ g.K.Keeper.lent_as l.fn.keeper;
}
