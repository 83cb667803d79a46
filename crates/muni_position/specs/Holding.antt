-- What is summed of one security: a holding.
use Rattle.std.specs.Prelude.{ℕ, ◌+◌, ◌*◌, ◌-ℤ◌, ◌≤◌, pos, if◌then◌else◌, List, Option, Some, None}
use Rattle.std.specs.List.{sum_by}
use Rattle.muni_msg.specs.declared.asked.Side.{Side}
use Rattle.muni_msg.specs.declared.asked.Side.TheVariants.{Buy, Sell}
use Rattle.muni_msg.specs.declared.version.Version.{Version}
use Rattle.muni_position.specs.Positions.{counts}
use Rattle.muni_position.specs.declared.holding.Holding.{Holding}
use Rattle.muni_position.specs.declared.position.Position.{Position}

-- nothing
abbrev pub nothing : Holding
nothing = record { live = 0; bought = 0; sold = 0; paid = 0; received = 0 }

-- one trade, by its side
abbrev pub one : Side → ℕ → ℕ → Holding
one Buy par total = record { live = 1; bought = par; sold = 0; paid = total; received = 0 }
one Sell par total = record { live = 1; bought = 0; sold = par; paid = 0; received = total }

-- what a version adds to the holding of a CUSIP
unfoldable pub share : List ℕ → Version → Holding
share cusip version =
    if counts cusip version
    then one version.terms.asked.side version.terms.asked.par version.figures.total
    else nothing

-- and what the last version of a trade does, if any is kept
abbrev pub share_of_last : List ℕ → Option (ℕ × Version) → Holding
share_of_last cusip None = nothing
share_of_last cusip (Some last) = share cusip last.1

-- two holdings together
abbrev pub plus : Holding → Holding → Holding
plus a b =
    record {
      live = a.live + b.live;
      bought = a.bought + b.bought;
      sold = a.sold + b.sold;
      paid = a.paid + b.paid;
      received = a.received + b.received;
    }

-- the holding of a CUSIP over versions
unfoldable pub holding_of : List ℕ → List Version → Holding
holding_of cusip versions =
    record {
      live = sum_by (λ version. (share cusip version).live) versions;
      bought = sum_by (λ version. (share cusip version).bought) versions;
      sold = sum_by (λ version. (share cusip version).sold) versions;
      paid = sum_by (λ version. (share cusip version).paid) versions;
      received = sum_by (λ version. (share cusip version).received) versions;
    }

-- of at most the greatest par and the greatest total
pub record IsBounded (version : Version) : Type 0 where
  pub par : version.terms.asked.par ≤ 1_000_000_000
  pub total : version.figures.total ≤ 9_223_372_036_854_775_807

-- as many trades as a desk may have, each of at most the greatest par and the greatest total
pub record IsInRange (h : Holding) : Type 0 where
  pub few : h.live ≤ 100_000_000
  pub par : h.bought + h.sold ≤ h.live * 1_000_000_000
  pub money : h.paid + h.received ≤ h.live * 9_223_372_036_854_775_807

-- the position that a holding comes to
abbrev pub position_in : Holding → Position
position_in h =
    record {
      live = h.live;
      bought = h.bought;
      sold = h.sold;
      money = pos h.paid -ℤ pos h.received;
    }
