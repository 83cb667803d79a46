-- The numbers by which issues and trades are stored.
use Rattle.std.specs.Prelude.{ℕ, zero, suc, ℤ, pos, negsuc, Option, Some, None, option_map}
use Rattle.muni_rule.specs.declared.basis.Basis.{Basis}
use Rattle.muni_rule.specs.declared.basis.Basis.TheVariants.{Thirty360, Actual365}
use Rattle.muni_dec.specs.Values.{if_price, if_yield}
use Rattle.muni_rule.specs.declared.label.Label.{Label}
use Rattle.muni_rule.specs.declared.label.Label.TheVariants.{Maturity, ParOption, Call, Called}
use Rattle.muni_terms.specs.declared.row.Kind.{Kind}
use Rattle.muni_terms.specs.declared.row.Kind.TheVariants.{Periodic, Zero, AtRedemption, Discount}
use Rattle.muni_msg.specs.declared.asked.Given.{Given}
use Rattle.muni_msg.specs.declared.asked.Given.TheVariants.{AtYield, AtPrice, AtRate}
use Rattle.muni_msg.specs.declared.asked.Side.{Side}
use Rattle.muni_msg.specs.declared.asked.Side.TheVariants.{Buy, Sell}
use Rattle.muni_msg.specs.declared.version.Act.{Act}
use Rattle.muni_msg.specs.declared.version.Act.TheVariants.{Entered, Corrected, Canceled}

-- sides
abbrev pub side_code : Side → ℕ
side_code Buy = 0
side_code Sell = 1

abbrev pub side_of_code : ℕ → Option Side
side_of_code zero = Some Buy
side_of_code (suc zero) = Some Sell
side_of_code (suc (suc more)) = None

-- acts
abbrev pub act_code : Act → ℕ
act_code Entered = 0
act_code Corrected = 1
act_code Canceled = 2

abbrev pub act_of_code : ℕ → Option Act
act_of_code zero = Some Entered
act_of_code (suc zero) = Some Corrected
act_of_code (suc (suc zero)) = Some Canceled
act_of_code (suc (suc (suc more))) = None

-- redemptions
abbrev pub label_code : Label → ℕ
label_code Maturity = 0
label_code ParOption = 1
label_code Call = 2
label_code Called = 3

abbrev pub label_of_code : ℕ → Option Label
label_of_code zero = Some Maturity
label_of_code (suc zero) = Some ParOption
label_of_code (suc (suc zero)) = Some Call
label_of_code (suc (suc (suc zero))) = Some Called
label_of_code (suc (suc (suc (suc more)))) = None

-- day count bases
abbrev pub basis_code : Basis → ℕ
basis_code Thirty360 = 0
basis_code Actual365 = 1

abbrev pub basis_of_code : ℕ → Option Basis
basis_of_code zero = Some Thirty360
basis_of_code (suc zero) = Some Actual365
basis_of_code (suc (suc more)) = None

-- kinds of security
abbrev pub kind_code : Kind → ℕ
kind_code (Periodic first) = 0
kind_code Zero = 1
kind_code AtRedemption = 2
kind_code Discount = 3

-- what is given, and its units
abbrev pub given_code : Given → ℕ
given_code (AtYield y) = 0
given_code (AtPrice price) = 1
given_code (AtRate rate) = 2

abbrev pub given_units : Given → ℤ
given_units (AtYield y) = y
given_units (AtPrice price) = pos price
given_units (AtRate rate) = rate

abbrev pub price_of_units : ℤ → Option ℕ
price_of_units (pos units) = if_price units
price_of_units (negsuc less) = None

abbrev pub given_of_code : ℕ → ℤ → Option Given
given_of_code zero units = option_map AtYield (if_yield units)
given_of_code (suc zero) units = option_map AtPrice (price_of_units units)
given_of_code (suc (suc zero)) units = option_map AtRate (if_yield units)
given_of_code (suc (suc (suc more))) units = None
