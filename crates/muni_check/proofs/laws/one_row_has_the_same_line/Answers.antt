use Rattle.muni_check.specs.Judging.{over}
use Rattle.muni_check.proofs.OneLemmas.{answer-of-line, line-of-answer}
use Rattle.muni_check.proofs.laws.one_row_has_the_same_line.Goals as goal

pub returns : goal.returns
returns c = λ ends desk told columns names fields named. record {
  lines = λ end text answer. line-of-answer (over ends desk told) columns names fields end text named answer;
  answers = λ line row. answer-of-line (over ends desk told) columns names fields line named row;
}
