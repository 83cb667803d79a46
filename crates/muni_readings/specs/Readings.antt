-- What figures another formula gives, in place of those of the rule.
use Rattle.std.specs.Prelude.{◌≡◌, Option}
use Rattle.muni_terms.specs.declared.row.IssueRow.{IssueRow}
use Rattle.muni_msg.specs.declared.asked.Asked.{Asked}
use Rattle.muni_msg.specs.declared.figures.Figures.{Figures}
use Rattle.muni_readings.specs.Compounded.{IsByCompounding}
use Rattle.muni_readings.specs.February.{by_february}
use Rattle.muni_readings.specs.OtherTerms.{Ends, IsByMaturity, IsByFirstCall, IsByGross}
use Rattle.muni_readings.specs.Regular.{IsByRegular}
use Rattle.muni_readings.specs.Rounded.{IsByRounding}
use Rattle.muni_readings.specs.declared.reading.Reading.{Reading}
use Rattle.muni_readings.specs.declared.reading.Reading.TheVariants.{Maturity, FirstCall, Rounded, Compounded, February, Gross, Regular}

-- the figures that a reading gives, or none, for what is asked of an issue that has the right figures
abbrev pub IsBy : Ends → IssueRow → Asked → Figures → Reading → Option Figures → Type 0
IsBy ends row asked figures Maturity theirs = IsByMaturity ends row asked theirs
IsBy ends row asked figures FirstCall theirs = IsByFirstCall ends row asked theirs
IsBy ends row asked figures Rounded theirs = IsByRounding row asked figures theirs
IsBy ends row asked figures Compounded theirs = IsByCompounding row asked figures theirs
IsBy ends row asked figures February theirs = theirs ≡ by_february row asked figures
IsBy ends row asked figures Gross theirs = IsByGross ends row asked figures theirs
IsBy ends row asked figures Regular theirs = IsByRegular ends row asked theirs
