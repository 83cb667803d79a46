-- What a desk holds of each security: its positions.
use Rattle.std.specs.Prelude.{ℕ, ◌==◌, ◌&&◌, ◌-ℤ◌, pos, Bool, true, false, List, Option, length, map}
use Rattle.std.specs.List.{filter, sum_by}
use Rattle.std.specs.Ordering.{eq_by_cmp}
use Rattle.std.specs.FinMap.{from_entries, entries}
use Rattle.muni_msg.specs.Codes.{side_code}
use Rattle.muni_msg.specs.declared.asked.Side.{Side}
use Rattle.muni_msg.specs.declared.asked.Side.TheVariants.{Buy, Sell}
use Rattle.muni_msg.specs.declared.version.Act.{Act}
use Rattle.muni_msg.specs.declared.version.Act.TheVariants.{Entered, Corrected, Canceled}
use Rattle.muni_msg.specs.declared.version.Version.{Version}
use Rattle.muni_keep.specs.Tables.{Tables}
use Rattle.muni_keep.specs.Trades.{by_bytes, own, is_past}
use Rattle.muni_position.specs.declared.position.Position.{Position}

-- the last versions of the trades of a desk
abbrev pub last_versions : List ℕ → Tables → List Version
last_versions desk tables = map (λ trade. trade.1.last) (entries (own desk tables.desks))

-- all acts but a cancel leave a trade that stands
abbrev pub is_live : Act → Bool
is_live Entered = true
is_live Corrected = true
is_live Canceled = false

-- a version counts for a CUSIP if its trade is live and names it
abbrev pub counts : List ℕ → Version → Bool
counts cusip version = is_live version.act && eq_by_cmp by_bytes version.terms.asked.cusip cusip

-- it is on this side
abbrev pub is_on : Side → Version → Bool
is_on side version = side_code version.terms.asked.side == side_code side

-- the versions that count for a CUSIP on one side
abbrev pub counted_on : Side → List ℕ → List Version → List Version
counted_on side cusip versions = filter (is_on side) (filter (counts cusip) versions)

-- the sums of their par and of their totals
abbrev pub par_on : Side → List ℕ → List Version → ℕ
par_on side cusip versions =
    sum_by (λ version. version.terms.asked.par) (counted_on side cusip versions)

abbrev pub money_on : Side → List ℕ → List Version → ℕ
money_on side cusip versions =
    sum_by (λ version. version.figures.total) (counted_on side cusip versions)

-- the position of a CUSIP over versions: how many count, the sums of what was bought and sold, and what
-- was paid less what was received
unfoldable pub position_of : List ℕ → List Version → Position
position_of cusip versions =
    record {
      live = length (filter (counts cusip) versions);
      bought = par_on Buy cusip versions;
      sold = par_on Sell cusip versions;
      money = pos (money_on Buy cusip versions) -ℤ pos (money_on Sell cusip versions);
    }

-- the position of each CUSIP that a standing trade names, in the order of CUSIPs
unfoldable pub positions_of : List Version → List (List ℕ × Position)
positions_of versions =
    entries (from_entries {R = by_bytes} (map (λ version. (version.terms.asked.cusip, position_of version.terms.asked.cusip versions)) (filter (λ version. is_live version.act) versions)))

-- those after a CUSIP, if one is given
abbrev pub past : {X : Type 0} → Option (List ℕ) → List (List ℕ × X) → List (List ℕ × X)
past after positions = filter (λ position. is_past after position.0) positions
