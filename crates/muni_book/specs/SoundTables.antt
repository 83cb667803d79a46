-- Tables of the desk that are sound, with figures that are right.
use Rattle.muni_keep.specs.Tables.{Tables}
use Rattle.muni_book_step.specs.Sound.{IsSound}
use Rattle.muni_answer.specs.RightFigures.{AreRightFigures}

abbrev pub AreSoundTables : Tables → Type 0
AreSoundTables tables = IsSound AreRightFigures tables
