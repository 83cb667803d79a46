-- The positions of a desk, as they are listed.
use Rattle.std.specs.Prelude.{ℕ, List, Option, Some, None, ⊤}
use Rattle.muni_keep.specs.Tables.{Tables}
use Rattle.muni_position.specs.Holdings.{HasTooMany}
use Rattle.muni_position.specs.Line.{position_lines}
use Rattle.muni_position.specs.Positions.{last_versions, positions_of}

-- the lines of the positions of a desk over tables
abbrev pub positions_text : List ℕ → Tables → List ℕ
positions_text desk tables = position_lines (positions_of (last_versions desk tables))

-- the trades of a desk may be more than are summed, or are not exposed
abbrev pub MayNotSum : List ℕ → Option Tables → Type 0
MayNotSum desk None = ⊤
MayNotSum desk (Some tables) = HasTooMany desk tables
