-- A discounted security (MSRB Rule G-33(c)), which pays no interest and is redeemed at par.
-- Amounts are whole numbers of 1/(B * 10^9) dollars per 100 of par, where B is the days of a year, and
-- rates of 10^-6.
use Rattle.std.specs.Prelude.{ℤ, pos, ◌-ℤ◌, ◌*ℤ◌}
use Rattle.muni_rule.specs.Accuracy.{price_amount}
use Rattle.muni_rule.specs.Redemptions.{par_price}
use Rattle.muni_rule.specs.SinglePayment.{SinglePayment}
use Rattle.muni_rule.specs.declared.basis.Basis.{Basis}

-- its redemption, 100 dollars
abbrev pub par_amount : Basis → ℤ
par_amount basis = price_amount basis par_price

-- the exact price at a discount rate: par less rate * days/B of it
abbrev pub discount_price : Basis → ℤ → ℤ → ℤ
discount_price basis rate days = par_amount basis -ℤ (pos 100_000 *ℤ (rate *ℤ days))

-- its one payment to come, so many days after the settlement; the return on a price is the yield at
-- that price, (par - price) / price * B/days
abbrev pub discounted : Basis → ℤ → SinglePayment
discounted basis days =
    record { due = par_amount basis; accrued = pos 0; left = days; basis = basis }
