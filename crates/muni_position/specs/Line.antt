-- The line of a position.
use Rattle.std.specs.Prelude.{ℕ, ◌-ℤ◌, pos, List, [], ◌∷◌, ◌++◌, decimal, length, Option, Some, None, if◌then◌else◌, nat_lt}
use Rattle.std.specs.Fmt.{signed_decimal}
use Rattle.muni_dec.specs.Decimal.{signed_text}
use Rattle.muni_dec.specs.Line.{line}
use Rattle.std.specs.FinMap.{entries}
use Rattle.muni_keep.specs.Tables.{Tables}
use Rattle.muni_keep.specs.Trades.{own}
use Rattle.muni_position.specs.Positions.{last_versions, positions_of}
use Rattle.muni_position.specs.declared.position.Position.{Position}

-- the CUSIP, how many trades stand, what was bought, sold and is left, and the money in dollars
unfoldable pub position_line : List ℕ → Position → List ℕ
position_line cusip position =
    line (cusip ∷ decimal position.live ∷ decimal position.bought ∷ decimal position.sold
    ∷ signed_decimal (pos position.bought -ℤ pos position.sold) ∷ signed_text 2 position.money ∷ [])

-- the lines of positions, one after the other
abbrev pub position_lines : List (List ℕ × Position) → List ℕ
position_lines [] = []
position_lines (held ∷ positions) = position_line held.0 held.1 ++ position_lines positions

-- the lines of the positions of a desk, if it has no more trades than are summed
abbrev pub summed_text : List ℕ → Tables → Option (List ℕ)
summed_text desk tables =
    if nat_lt 100_000_000 (length (entries (own desk tables.desks))) then None
    else Some (position_lines (positions_of (last_versions desk tables)))
