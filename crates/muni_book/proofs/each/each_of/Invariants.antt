use Rattle.std.proofs.Common.{◌≡◌, take, length}
use Rattle.std.specs.List.{AllZip}
use Rattle.muni_book.specs.Each.{IsAnswerAlone, IsShownAlone}
use Rattle.muni_book.proofs.each.each_of.Given as goal

abbrev pub invariant-loop-candidate : goal.invariant-loop-candidate
invariant-loop-candidate g l = record {
  each : AllZip (IsShownAlone (IsAnswerAlone (g.E.Encloser.ends l.calculator.encloser.now)) l.asked l.figures) (take l.candidate-index l.list) l.each.items;
  room : length l.each.items ≡ l.candidate-index;
}
