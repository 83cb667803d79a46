-- What a walk has left to write.
use Rattle.std.specs.Prelude.{ℕ, List, [], ◌++◌, Option, Some, None}
use Rattle.std.specs.List.{flat_map}
use Rattle.muni_keep.specs.Tables.{Tables}
use Rattle.muni_keep.specs.Trades.{past}
use Rattle.muni_desk_export.specs.Issues.{issues_left}
use Rattle.muni_desk_export.specs.Trades.{trades_left}
use Rattle.muni_desk_export.specs.declared.trades.Style.TheVariants as style
use Rattle.muni_desk_export.specs.declared.walk.Walk.{Walk}
use Rattle.muni_desk_export.specs.declared.walk.Walk.TheVariants as walk

-- the rows of all trades of a desk
abbrev pub desk_rows : Tables → List ℕ → List ℕ
desk_rows tables desk = trades_left tables style.Rows desk None

-- those of the desks after one, if one is given, in the order of their names
abbrev pub desks_after : Tables → Option (List ℕ) → List ℕ
desks_after tables desk = flat_map (λ entry. desk_rows tables entry.0) (past desk tables.desks)

-- those of the desk at hand after a reference
abbrev pub desk_left : Tables → Option (List ℕ) → Option (List ℕ) → List ℕ
desk_left tables None after = []
desk_left tables (Some desk) after = trades_left tables style.Rows desk after

-- and of the desks after it
abbrev pub desks_left : Tables → Option (List ℕ) → Option (List ℕ) → List ℕ
desks_left tables desk after = desk_left tables desk after ++ desks_after tables desk

abbrev pub left : Tables → Walk → List ℕ
left tables (walk.Issues named after) = issues_left tables named after
left tables (walk.Trades desk style after) = trades_left tables style desk after
left tables (walk.Desks desk after) = desks_left tables desk after
