use Rattle.std.proofs.Common.{◌≡◌, drop, Option, Ok}
use Rattle.muni_answer.specs.Answers.{IsRightAnswer}
use Rattle.muni_readings.specs.Checked.{readings, IsFirstOf}
use Rattle.muni_readings.specs.Readings.{IsBy}
use Rattle.muni_readings.specs.declared.reading.Reading.{Reading}
use Rattle.muni_readings.proofs.checked.reading_of.Given as goal

-- the first of all readings is the first of those that are left
abbrev pub invariant-loop-reading : goal.invariant-loop-reading
invariant-loop-reading g l = record {
  items : l.reading-items ≡ readings;
  left : IsRightAnswer (g.E.Encloser.ends l.calculator.encloser.now) l.answered.issue.now l.answered.asked.now (Ok l.answered.figures.now)
      → (first : Option Reading)
      → IsFirstOf (IsBy (g.E.Encloser.ends l.calculator.encloser.now) l.answered.issue.now l.answered.asked.now l.answered.figures.now) l.field l.stated (drop l.reading-index readings) first
      → IsFirstOf (IsBy (g.E.Encloser.ends l.calculator.encloser.now) l.answered.issue.now l.answered.asked.now l.answered.figures.now) l.field l.stated readings first;
}
