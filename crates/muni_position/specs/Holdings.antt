-- The holdings that are kept beside a keeper, and those of its tables.
use Rattle.std.specs.Prelude.{◌≡◌, ℕ, ◌≤◌, ◌<◌, List, Option, Some, None, Bool, false, length}
use Rattle.std.specs.List.{AllByRecursion}
use Rattle.std.specs.Ordering.{eq_by_cmp}
use Rattle.std.specs.Option.{unwrap_or}
use Rattle.std.specs.FinMap.{entries}
use Rattle.std.specs.BTreeMap as tree
use Rattle.std.specs.BTreeMap.{BTreeMap}
use Rattle.std.specs.declared.ops.Bound.{Bound}
use Rattle.std.specs.declared.ops.Bound.TheVariants.{Excluded, Unbounded}
use Rattle.muni_msg.specs.declared.version.Version.{Version}
use Rattle.muni_keep.specs.Tables.{Tables}
use Rattle.muni_keep.specs.Trades.{by_bytes, own}
use Rattle.muni_position.specs.Holding.{nothing, holding_of, IsBounded, IsInRange}
use Rattle.muni_position.specs.Positions.{last_versions}
use Rattle.muni_position.specs.declared.holding.Holding.{Holding}

-- holdings by CUSIP
abbrev pub Holdings : Type 0
Holdings = BTreeMap (List ℕ) Holding

-- what is kept of a CUSIP; if none is, it is nothing
abbrev pub kept : Holdings → List ℕ → Holding
kept holdings cusip = unwrap_or (tree.get by_bytes holdings cusip) nothing

-- each is in its range
abbrev pub AreInRange : Holdings → Type 0
AreInRange holdings = (cusip : List ℕ) → IsInRange (kept holdings cusip)

-- they are those of these versions, each of which is bounded
pub record AreOf (versions : List Version) (holdings : Holdings) : Type 0 where
  pub sums : (cusip : List ℕ) → kept holdings cusip ≡ holding_of cusip versions
  pub bounded : AllByRecursion IsBounded versions

-- if a desk is watched and the tables are exposed, they are those of its trades
abbrev pub AreRight : Option (List ℕ) → Option Tables → Holdings → Type 0
AreRight watched told holdings =
    (desk : List ℕ) (tables : Tables) → watched ≡ Some desk → told ≡ Some tables → AreOf (last_versions desk tables) holdings

-- whether a desk is the one that is watched
abbrev pub is_watched : Option (List ℕ) → List ℕ → Bool
is_watched None desk = false
is_watched (Some watched) desk = eq_by_cmp by_bytes watched desk

-- where those after a CUSIP begin
abbrev pub bound_past : Option (List ℕ) → Bound (List ℕ)
bound_past None = Unbounded
bound_past (Some after) = Excluded after

-- a desk has more trades than are summed
abbrev pub HasTooMany : List ℕ → Tables → Type 0
HasTooMany desk tables = 100_000_000 < length (entries (own desk tables.desks))

-- and it has no more than that
abbrev pub HasFew : List ℕ → Tables → Type 0
HasFew desk tables = length (entries (own desk tables.desks)) ≤ 100_000_000
