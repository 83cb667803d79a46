-- The month of the last quasi-coupon date, by its place in the order of months.
use Rattle.std.specs.Prelude.{◌≡◌, ℕ, ◌+◌, ◌*◌, ◌%◌, ◌<◌, ◌≤◌}
use Rattle.muni_rule.specs.Civil.{Civil, month_index, order_of}

-- The month at a place is that of the last quasi-coupon date not after a date: that one is reached,
-- and the one six months later, 186 places on in the order of dates, is not.
pub record IsLastMonth (anchor date : Civil) (index : ℕ) : Type 0 where
  pub half_years : index % 6 ≡ month_index anchor % 6
  pub reached : 31 * index + 31 + anchor.day ≤ order_of date
  pub next_not_reached : order_of date < 31 * index + 217 + anchor.day
  pub from : 22_800 ≤ index
  pub below : index < 26_400
