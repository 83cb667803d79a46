-- The texts that name a kind of security, a day count basis, a call, a side and what is given, in words,
-- rows and messages.
use Rattle.std.specs.Prelude.{ℕ, ◌+◌, ◌-◌, ◌==◌, if◌then◌else◌, List, length, take, drop, position, codes, Option, Some, None, option_map, option_and_then}
use Rattle.std.specs.List.{last_or}
use Rattle.std.specs.Result.{result_ok}
use Rattle.std.specs.Str.{bytes_eq}
use Rattle.muni_rule.specs.declared.basis.Basis.{Basis}
use Rattle.muni_rule.specs.declared.basis.Basis.TheVariants.{Thirty360, Actual365}
use Rattle.muni_rule.specs.declared.call_term.CallTerm.{CallTerm}
use Rattle.muni_rule.specs.declared.call_term.CallTerm.TheVariants.{OnDay, OnOrAfter, Called}
use Rattle.muni_dec.specs.Digits.{number_reading}
use Rattle.muni_dec.specs.Values.{price_reading, yield_reading, fee_reading}
use Rattle.muni_days.specs.Day.{day_reading}
use Rattle.muni_days.specs.declared.day.Day.{Day}
use Rattle.muni_terms.specs.declared.row.Call.{Call}
use Rattle.muni_terms.specs.declared.row.Kind.{Kind}
use Rattle.muni_terms.specs.declared.row.Kind.TheVariants.{Periodic, Zero, AtRedemption, Discount}
use Rattle.muni_msg.specs.declared.asked.Given.{Given}
use Rattle.muni_msg.specs.declared.asked.Given.TheVariants.{AtYield, AtPrice, AtRate}
use Rattle.muni_msg.specs.declared.asked.Side.{Side}
use Rattle.muni_msg.specs.declared.asked.Side.TheVariants.{Buy, Sell}

infixl 10 ◌>>=◌
abbrev pub ◌>>=◌ : {A B : Type 0} → Option A → (A → Option B) → Option B
o >>= f = option_and_then f o

-- a text as a day
abbrev pub day_in : List ℕ → Option Day
day_in text = result_ok (day_reading text)

-- a kind that has no first interest date
abbrev pub plain_kind : List ℕ → Option Kind
plain_kind text =
    if bytes_eq text (codes "zero") then Some Zero
    else (if bytes_eq text (codes "at-redemption") then Some AtRedemption
    else (if bytes_eq text (codes "discount") then Some Discount else None))

-- a text as a kind, with the text of the first interest date, which is there exactly for `periodic`
abbrev pub kind_reading : List ℕ → Option (List ℕ) → Option Kind
kind_reading text (Some first) =
    if bytes_eq text (codes "periodic") then option_map (λ date. Periodic date) (day_in first)
    else None
kind_reading text None = plain_kind text

-- a text without its mark, and on which days a call with the mark stands: `+` is 43 and `!` 33
abbrev pub split_by : Option ℕ → List ℕ → List ℕ × CallTerm
split_by None text = (text, OnDay)
split_by (Some mark) text =
    if mark == 43 then (take (length text - 1) text, OnOrAfter)
    else (if mark == 33 then (take (length text - 1) text, Called) else (text, OnDay))

abbrev pub split_mark : List ℕ → List ℕ × CallTerm
split_mark text = split_by (last_or None text) text

-- a text as the price of a call, with its mark
abbrev pub call_price_reading : List ℕ → Option (ℕ × CallTerm)
call_price_reading text =
    option_map (λ price. (price, (split_mark text).1)) (result_ok (price_reading (split_mark text).0))

-- a text as a call, with the place of the colon between its date and its price
abbrev pub call_reading_at : List ℕ → ℕ → Option Call
call_reading_at text colon = do
  date ← day_in (take colon text)
  found ← call_price_reading (drop (colon + 1) text)
  Some (record { date = date; price = found.0; term = found.1 })

-- a text as a call: a date, a colon, and a price with its mark, which may hold no colon more
abbrev pub call_reading : List ℕ → Option Call
call_reading text = position (λ b. b == 58) text >>= λ colon. call_reading_at text colon

-- a text as a day count basis
abbrev pub basis_reading : List ℕ → Option Basis
basis_reading text =
    if bytes_eq text (codes "30/360") then Some Thirty360
    else (if bytes_eq text (codes "actual/365") then Some Actual365 else None)

-- the same, which may be left out for 30/360
abbrev pub basis_field : List ℕ → Option Basis
basis_field text = if length text == 0 then Some Thirty360 else basis_reading text

-- a text as a side
abbrev pub side_reading : List ℕ → Option Side
side_reading text =
    if bytes_eq text (codes "buy") then Some Buy
    else (if bytes_eq text (codes "sell") then Some Sell else None)

-- the texts of a basis and of its value as what is given
abbrev pub given_reading : List ℕ → List ℕ → Option Given
given_reading basis value =
    if bytes_eq basis (codes "yield")
    then option_map (λ y. AtYield y) (result_ok (yield_reading value))
    else (if bytes_eq basis (codes "price")
    then option_map (λ price. AtPrice price) (result_ok (price_reading value))
    else (if bytes_eq basis (codes "rate")
    then option_map (λ rate. AtRate rate) (result_ok (yield_reading value)) else None))

-- a text as a commission, which may be left out
abbrev pub fee_field : List ℕ → Option ℕ
fee_field text = if length text == 0 then Some 0 else result_ok (fee_reading text)

-- a text as the number of a version, in one to nine digits
abbrev pub version_number : List ℕ → Option ℕ
version_number text = number_reading 9 0 999_999_999 text
