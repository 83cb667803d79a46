-- How a put changes the holdings of a desk.
use Rattle.std.specs.Prelude.{◌≡◌, ◌<◌, ℕ, true, List, Option, Some, None, if◌then◌else◌}
use Rattle.std.specs.Ordering.{eq_by_cmp}
use Rattle.muni_msg.specs.declared.version.Version.{Version}
use Rattle.muni_msg.specs.declared.command.Key.{Key}
use Rattle.muni_keep.specs.Tables.{Tables, with_version}
use Rattle.muni_keep.specs.Trades.{by_bytes}
use Rattle.muni_position.specs.Holding.{plus, share, share_of_last, IsInRange}
use Rattle.muni_position.specs.Holdings.{Holdings, kept, is_watched}
use Rattle.muni_position.specs.Positions.{last_versions, position_of}
use Rattle.muni_position.specs.declared.holding.Holding.{Holding}
use Rattle.muni_position.specs.declared.change.Change.{Change}
use Rattle.muni_position.specs.declared.position.Position.{Position}

-- the CUSIP that a trade named before a version, or that of the version if it is the first
abbrev pub named_before : Option (ℕ × Version) → Version → List ℕ
named_before None version = version.terms.asked.cusip
named_before (Some last) version = last.1.terms.asked.cusip

-- a holding after a put: what the last version added is gone, and what the next one adds is there
abbrev pub IsMoved : List ℕ → Option (ℕ × Version) → Version → Holding → Holding → Type 0
IsMoved cusip last version old new = plus new (share_of_last cusip last) ≡ plus old (share cusip version)

-- the holdings of the two CUSIPs after a put
pub record IsChange (holdings : Holdings) (last : Option (ℕ × Version)) (version : Version) (change : Change) : Type 0 where
  pub before : change.before ≡ named_before last version
  pub cusip : change.cusip ≡ version.terms.asked.cusip
  pub left : IsMoved change.before last version (kept holdings change.before) change.left
  pub held : IsMoved change.cusip last version (kept holdings change.cusip) change.held
  pub left_range : IsInRange change.left
  pub held_range : IsInRange change.held

-- no holding in its range comes after the put of a version
abbrev pub HasNoRoom : Holdings → Option (ℕ × Version) → Version → List ℕ → Type 0
HasNoRoom holdings last version cusip =
    (h : Holding) → IsInRange h → ¬ (IsMoved cusip last version (kept holdings cusip) h)

-- what is kept of a CUSIP after a change
abbrev pub after_change : Change → Holdings → List ℕ → Holding
after_change change holdings cusip =
    if eq_by_cmp by_bytes change.cusip cusip then change.held
    else (if eq_by_cmp by_bytes change.before cusip then change.left else kept holdings cusip)

-- the position of a CUSIP that the desk of a key would have after a put
abbrev pub position_after : List ℕ → Key → Version → Tables → Position
position_after cusip key version tables = position_of cusip (last_versions key.desk (with_version key version tables))

-- the desk is watched, and after a put more than 100,000,000 of its trades would be live in some CUSIP
abbrev pub HasNoRoomFor : Option (List ℕ) → Key → Version → Tables → Type 0
HasNoRoomFor watched key version tables =
    (is_watched watched key.desk ≡ true)
    × ((cusip : List ℕ) × (100_000_000 < (position_after cusip key version tables).live))
