-- The rule by which rows are judged.
use Rattle.std.specs.Prelude.{◌≡◌, ℤ}
use Rattle.muni_rule.specs.Payments.{PaymentSeries}
use Rattle.muni_rule.specs.WorthEnds.{WorthEnds}
use Rattle.muni_terms.specs.declared.row.IssueRow.{IssueRow}
use Rattle.muni_msg.specs.declared.asked.Asked.{Asked}
use Rattle.muni_msg.specs.declared.figures.Figures.{Figures}
use Rattle.muni_answer.specs.Answers.{IsRightAnswer}
use Rattle.muni_readings.specs.Checked.{NamesReading, field_of}
use Rattle.muni_readings.specs.Stated.{first_difference}
use Rattle.muni_readings.specs.declared.checked.Checked.{Checked}
use Rattle.muni_readings.specs.declared.stated.Stated.{Stated}
use Rattle.muni_check_rows.specs.Said.{Judging}

-- The first field is named in which a figure of the rule is not the stated one, if there is one, and the first reading
-- that gives the stated one.
pub record AreCompared (ends : PaymentSeries → ℤ → WorthEnds) (issue : IssueRow) (asked : Asked) (figures : Figures) (stated : Stated) (found : Checked) : Type 0 where
  pub field : field_of found ≡ first_difference figures stated
  pub reading : NamesReading ends issue asked figures stated found

-- figures are found by the ends of an encloser, and stated ones are compared with them
abbrev pub rule : (PaymentSeries → ℤ → WorthEnds) → Judging
rule ends = record { Prices = IsRightAnswer ends; Compares = AreCompared ends }
