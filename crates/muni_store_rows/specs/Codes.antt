-- Numbers in columns, in the ranges of what they stand for.
use Rattle.std.specs.Prelude.{ℕ, ◌^◌, ◌==◌, nat_lt, if◌then◌else◌, ℤ, pos, negsuc, List, length, Option, Some, None, option_and_then}
use Rattle.muni_dec.specs.Values.{if_price, if_printed_price, if_coupon, if_par, if_fee, if_money}
use Rattle.muni_rule.specs.declared.basis.Basis.{Basis}
use Rattle.muni_rule.specs.declared.label.Label.{Label}
use Rattle.muni_msg.specs.Codes.{act_of_code, basis_of_code, given_of_code, label_of_code, side_of_code}
use Rattle.muni_msg.specs.Fields.{◌>>=◌}
use Rattle.muni_msg.specs.declared.asked.Given.{Given}
use Rattle.muni_msg.specs.declared.asked.Side.{Side}
use Rattle.muni_msg.specs.declared.version.Act.{Act}

-- a number from 0 up
abbrev pub natural : ℤ → Option ℕ
natural (pos units) = Some units
natural (negsuc less) = None

-- a number of 8 bits from 0 up
unfoldable pub code_in : ℤ → Option ℕ
code_in (pos units) = if nat_lt units (2 ^ 8) then Some units else None
code_in (negsuc less) = None

-- a number of 32 bits from 0 up
unfoldable pub count : ℤ → Option ℕ
count (pos units) = if nat_lt units (2 ^ 32) then Some units else None
count (negsuc less) = None

-- a number of 32 bits on either side of zero
unfoldable pub signed_count : ℤ → Option ℤ
signed_count (pos units) = if nat_lt units (2 ^ 31) then Some (pos units) else None
signed_count (negsuc less) = if nat_lt less (2 ^ 31) then Some (negsuc less) else None

-- what a code stands for
abbrev pub basis_of : ℤ → Option Basis
basis_of column = code_in column >>= basis_of_code

abbrev pub act_of : ℤ → Option Act
act_of column = code_in column >>= act_of_code

abbrev pub side_of : ℤ → Option Side
side_of column = code_in column >>= side_of_code

abbrev pub label_of : ℤ → Option Label
label_of column = code_in column >>= label_of_code

-- what is given by a code and so many units
abbrev pub given_of : ℤ → ℤ → Option Given
given_of column units = code_in column >>= λ code. given_of_code code units

-- figures in units, in their ranges
unfoldable pub price_of : ℤ → Option ℕ
price_of column = option_and_then if_price (natural column)

unfoldable pub printed_price_of : ℤ → Option ℕ
printed_price_of column = option_and_then if_printed_price (natural column)

unfoldable pub coupon_of : ℤ → Option ℕ
coupon_of column = option_and_then if_coupon (natural column)

unfoldable pub par_of : ℤ → Option ℕ
par_of column = option_and_then if_par (natural column)

unfoldable pub fee_of : ℤ → Option ℕ
fee_of column = option_and_then if_fee (natural column)

unfoldable pub money_of : ℤ → Option ℕ
money_of column = option_and_then if_money (natural column)

-- nine bytes
unfoldable pub cusip_of : List ℕ → Option (List ℕ)
cusip_of text = if length text == 9 then Some text else None
