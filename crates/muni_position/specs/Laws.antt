-- What holds of the positions of each desk.
use Rattle.std.specs.Prelude.{◌≡◌, ℕ, List, Option, Some, None, if◌then◌else◌, nat_lt}
use Rattle.std.specs.List.Sorted.{IsStrictlySortedBy}
use Rattle.std.specs.Map.{keys_of, lookup}
use Rattle.std.specs.BTreeMap.{is_at}
use Rattle.muni_msg.specs.declared.version.Version.{Version}
use Rattle.muni_msg.specs.declared.command.Key.{Key}
use Rattle.muni_keep.specs.Tables.{Tables, with_version}
use Rattle.muni_keep.specs.Trades.{by_bytes}
use Rattle.muni_position.specs.Change.{HasNoRoomFor}
use Rattle.muni_position.specs.Holdings.{HasFew}
use Rattle.muni_position.specs.Positions.{position_of, positions_of}
use Rattle.muni_position.specs.declared.position.Position.{Position}

-- a position, if any trade of it is live
abbrev pub if_live : Position → Option Position
if_live position = if nat_lt 0 position.live then Some position else None

-- positions stand in the order of their CUSIPs, each once; and a CUSIP is among them, with its position,
-- exactly if a trade of it is live
pub record AreThoseHeld (versions : List Version) (positions : List (List ℕ × Position)) : Type 0 where
  pub rising : IsStrictlySortedBy by_bytes (keys_of positions)
  pub held : (cusip : List ℕ) → lookup (is_at (by_bytes cusip)) positions ≡ if_live (position_of cusip versions)

abbrev pub PositionsAreThoseHeld : Type 0
PositionsAreThoseHeld = (versions : List Version) → AreThoseHeld versions (positions_of versions)

-- a desk that has at most 100,000,000 trades after a put has room for it
abbrev pub FewTradesHaveRoom : Type 0
FewTradesHaveRoom =
    (watched : Option (List ℕ)) (key : Key) (version : Version) (tables : Tables)
    → HasFew key.desk (with_version key version tables) → ¬ (HasNoRoomFor watched key version tables)
