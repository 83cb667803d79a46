-- The rules of a trade: on which basis it is done, its net price, and its total.
use Rattle.std.specs.Prelude.{ℕ, ◌+◌, ◌-◌, ◌*◌, ◌==◌, ◌||◌, not, nat_lt, Bool, true, false, if◌then◌else◌, List, Option, Some, None, option_map}
use Rattle.muni_terms.specs.declared.row.Kind.{Kind}
use Rattle.muni_terms.specs.declared.row.Kind.TheVariants.{Periodic, Zero, AtRedemption, Discount}
use Rattle.muni_sched.specs.Range.{side_of_first}
use Rattle.muni_sched.specs.declared.candidate.Candidate.{Candidate}
use Rattle.muni_msg.specs.Refusal.{range_of}
use Rattle.muni_msg.specs.declared.asked.Given.{Given}
use Rattle.muni_msg.specs.declared.asked.Given.TheVariants.{AtYield, AtPrice, AtRate}
use Rattle.muni_msg.specs.declared.asked.Side.{Side}
use Rattle.muni_msg.specs.declared.asked.Side.TheVariants.{Buy, Sell}
use Rattle.muni_msg.specs.declared.refusal.Range.{Range}
use Rattle.muni_msg.specs.declared.refusal.Range.TheVariants.{Below, Above}

-- a note that is sold at a discount
abbrev pub is_discount : Kind → Bool
is_discount (Periodic first) = false
is_discount Zero = false
is_discount AtRedemption = false
is_discount Discount = true

-- a yield for a discounted note, a discount rate for another kind, or a commission beside either:
-- only a price is given without its commission
abbrev pub is_wrong_basis : Kind → Given → ℕ → Bool
is_wrong_basis kind (AtYield y) fee = is_discount kind || nat_lt 0 fee
is_wrong_basis kind (AtPrice price) fee = false
is_wrong_basis kind (AtRate rate) fee = not (is_discount kind) || nat_lt 0 fee

-- The net price, in 10^-6 dollars: what a buyer pays with the commission, and what it leaves to a
-- seller, which is nothing if the commission is the price or more.
abbrev pub net_price : Side → ℕ → ℕ → ℕ
net_price Buy price fee = price + 1000 * fee
net_price Sell price fee = price - 1000 * fee

-- the side on which a given price leaves its range: it or the net price is nothing, or the net price
-- is above all prices
abbrev pub price_side : ℕ → ℕ → Option Range
price_side price net =
    if (price == 0) || (net == 0) then Some Below
    else (if nat_lt 999_999_999 net then Some Above else None)

-- the side on which what is given leaves its range: a yield or a rate that of the first candidate that
-- excludes it, and a price by the net price
abbrev pub side_left : Given → Side → ℕ → List Candidate → Option Range
side_left (AtYield y) side fee list = option_map range_of (side_of_first y list)
side_left (AtPrice price) side fee list = price_side price (net_price side price fee)
side_left (AtRate rate) side fee list = option_map range_of (side_of_first rate list)

-- the total, from principal and accrued interest together: a buyer pays the commission on top, and to
-- a seller it is taken off
abbrev pub total : Side → ℕ → ℕ → ℕ
total Buy gross commission = gross + commission
total Sell gross commission = gross - commission
