-- The kinds of decimals: their places, their ranges, and what a text says as one of them.
use Rattle.std.specs.Prelude.{ℕ, nat_le, nat_lt, ◌&&◌, if◌then◌else◌, List, Option, Some, None, is_none, Result, Ok, Err, ℤ, pos, negsuc}
use Rattle.std.specs.Option.{ok_or}
use Rattle.muni_rule.specs.Ranges.{side_of, one_period_prints}
use Rattle.muni_dec.specs.Decimal.{reading, signed_reading, digits_reading, decimal_text, signed_text}
use Rattle.muni_dec.specs.declared.fault.DecFault.{DecFault}
use Rattle.muni_dec.specs.declared.fault.DecFault.TheVariants.{OutOfRange}

-- these units, if they lie in a range
abbrev pub if_amount : ℕ → ℕ → ℕ → Option ℕ
if_amount least greatest units =
    if nat_le least units && nat_le units greatest then Some units else None

-- the same on both sides of zero, the least given by its magnitude
abbrev pub if_percent : ℕ → ℕ → ℤ → Option ℤ
if_percent below greatest (pos units) = if nat_le units greatest then Some (pos units) else None
if_percent below greatest (negsuc less) = if nat_lt less below then Some (negsuc less) else None

-- what was read, if it lies in a range
abbrev pub amount_in : ℕ → ℕ → Result ℕ DecFault → Result ℕ DecFault
amount_in least greatest (Ok units) = ok_or (if_amount least greatest units) OutOfRange
amount_in least greatest (Err fault) = Err fault

-- the same on both sides of zero, the least given by its magnitude
abbrev pub percent_in : ℕ → ℕ → Result ℤ DecFault → Result ℤ DecFault
percent_in below greatest (Ok units) = ok_or (if_percent below greatest units) OutOfRange
percent_in below greatest (Err fault) = Err fault

-- what a text says with at most so many decimals, in a range
unfoldable pub amount_reading : ℕ → ℕ → ℕ → List ℕ → Result ℕ DecFault
amount_reading places least greatest text = amount_in least greatest (reading places text)

-- the same on both sides of zero, the least given by its magnitude
unfoldable pub percent_reading : ℕ → ℕ → ℕ → List ℕ → Result ℤ DecFault
percent_reading places below greatest text =
    percent_in below greatest (signed_reading places text)

-- a given price or a redemption price: six decimals, from 0 to 999.999999 dollars per 100 of par
abbrev pub if_price : ℕ → Option ℕ
if_price units = if_amount 0 999_999_999 units

unfoldable pub price_reading : List ℕ → Result ℕ DecFault
price_reading text = amount_reading 6 0 999_999_999 text

abbrev pub price_text : ℕ → List ℕ
price_text units = decimal_text 6 units

-- a printed price: three decimals, from 0 to the greatest number of the widths of the desk
abbrev pub if_printed_price : ℕ → Option ℕ
if_printed_price units = if_amount 0 9_223_372_036_854_775_807 units

abbrev pub printed_price_text : ℕ → List ℕ
printed_price_text units = decimal_text 3 units

-- a coupon: seven decimals, from 0 to 30 dollars per 100 of par and year
abbrev pub if_coupon : ℕ → Option ℕ
if_coupon units = if_amount 0 300_000_000 units

unfoldable pub coupon_reading : List ℕ → Result ℕ DecFault
coupon_reading text = amount_reading 7 0 300_000_000 text

abbrev pub coupon_text : ℕ → List ℕ
coupon_text units = decimal_text 7 units

-- a commission: three decimals, from 0 to 10 dollars per 100 of par
abbrev pub if_fee : ℕ → Option ℕ
if_fee units = if_amount 0 10_000 units

unfoldable pub fee_reading : List ℕ → Result ℕ DecFault
fee_reading text = amount_reading 3 0 10_000 text

abbrev pub fee_text : ℕ → List ℕ
fee_text units = decimal_text 3 units

-- money: cents, two decimals of a dollar, from 0 to the greatest number of the widths of the desk
abbrev pub if_money : ℕ → Option ℕ
if_money units = if_amount 0 9_223_372_036_854_775_807 units

abbrev pub money_text : ℕ → List ℕ
money_text units = decimal_text 2 units

-- a given yield or a discount rate: four decimals, from -99.9999 to 999.9999 percent
abbrev pub if_yield : ℤ → Option ℤ
if_yield units = if_percent 999_999 9_999_999 units

unfoldable pub yield_reading : List ℕ → Result ℤ DecFault
yield_reading text = percent_reading 4 999_999 9_999_999 text

abbrev pub yield_text : ℤ → List ℕ
yield_text units = signed_text 4 units

-- a printed yield, of any security: three decimals, and the widest range is that of one period
abbrev pub if_printed_yield : ℤ → Option ℤ
if_printed_yield units = if is_none (side_of one_period_prints units) then Some units else None

abbrev pub printed_yield_text : ℤ → List ℕ
printed_yield_text units = signed_text 3 units

-- a par: whole dollars from 1 to 1,000,000,000; a point does not belong in it
abbrev pub if_par : ℕ → Option ℕ
if_par units = if_amount 1 1_000_000_000 units

unfoldable pub par_reading : List ℕ → Result ℕ DecFault
par_reading text = amount_in 1 1_000_000_000 (digits_reading text)
