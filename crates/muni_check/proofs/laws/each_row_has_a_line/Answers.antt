use Rattle.std.proofs.Common.{◌++◌, ◌∙◌, ap}
use Rattle.muni_check_rows.specs.Line.{total_line, unseen_lines}
use Rattle.muni_check_rows.specs.Tallies.{tally_of}
use Rattle.muni_check.specs.Judging.{over}
use Rattle.muni_check.specs.Named.{no_places}
use Rattle.muni_check.proofs.GoLemmas.{told-long}
use Rattle.muni_check.proofs.laws.each_row_has_a_line.Goals as goal

pub returns : goal.returns
returns c = λ ends desk told columns rows end text answer. record {
  said = answer.said;
  unseen = answer.unseen;
  one_each = told-long (over ends desk told) columns no_places 1 rows answer.said answer.checked.each;
  written = answer.written ∙ ap (λ l. l ++ unseen_lines answer.unseen ++ total_line (tally_of answer.said answer.unseen)) answer.checked.written;
}
