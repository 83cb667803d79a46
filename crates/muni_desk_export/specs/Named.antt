-- The CUSIPs that the trades of a desk name.
use Rattle.std.specs.Prelude.{ℕ, Bool, List, is_some}
use Rattle.std.specs.List.{list_any}
use Rattle.std.specs.Ordering.{eq_by_cmp}
use Rattle.std.specs.BTreeMap as tree
use Rattle.std.specs.BTreeMap.{BTreeMap}
use Rattle.muni_msg.specs.declared.command.Line.{Line}
use Rattle.muni_msg.specs.declared.version.Version.{Version}
use Rattle.muni_keep.specs.Tables.{Tables}
use Rattle.muni_keep.specs.Trades.{by_bytes}
use Rattle.muni_desk_export.specs.Trades.{key_of, lines_of_desk, versions_at}

-- a CUSIP is among those of a set
abbrev pub has : BTreeMap (List ℕ) (Unit {0}) → List ℕ → Bool
has named cusip = is_some (tree.get by_bytes named cusip)

-- a version is of this CUSIP
abbrev pub is_of : List ℕ → Version → Bool
is_of cusip version = eq_by_cmp by_bytes version.terms.asked.cusip cusip

-- one of the versions of a desk's trade is
abbrev pub names : Tables → List ℕ → List ℕ → Line → Bool
names tables desk cusip trade = list_any (is_of cusip) (versions_at tables (key_of desk trade.reference))

-- one of the trades of a desk names a CUSIP
abbrev pub is_named : Tables → List ℕ → List ℕ → Bool
is_named tables desk cusip = list_any (names tables desk cusip) (lines_of_desk tables desk)
