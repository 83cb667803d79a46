-- The command `quote-one`: what its words ask for, and the price that answers them.
use Rattle.std.specs.Prelude.{◌≡◌, ℕ, ◌+◌, ◌==◌, ◌&&◌, Bool, if◌then◌else◌, MatchOption, List, length, Option, Some, None, option_map, Result, Ok, Err, ℤ, pos, negsuc, ◌-ℤ◌}
use Rattle.std.specs.Result.{result_ok}
use Rattle.muni_rule.specs.Civil.{Civil, is_before, is_not_after, months_on}
use Rattle.muni_rule.specs.DayCount.{days360}
use Rattle.muni_rule.specs.Accrued.{interest, half_year_interest}
use Rattle.muni_rule.specs.Payments.{redemption_amount}
use Rattle.muni_rule.specs.SinglePayment.{SinglePayment, AtLeast}
use Rattle.muni_rule.specs.Printed.{IsPrintedPrice, IsBelowZero}
use Rattle.muni_rule.specs.declared.basis.Basis.TheVariants.{Thirty360}
use Rattle.muni_rule.specs.Ranges.{one_period_yields, side_of}
use Rattle.muni_dec.specs.Values.{coupon_reading, price_reading, yield_reading}
use Rattle.muni_days.specs.Day.{civil, day_reading}
use Rattle.muni_msg.specs.Refusal.{range_of}
use Rattle.muni_msg.specs.declared.refusal.Range.TheVariants.{PriceBelowZero}
use Rattle.muni_msg.specs.declared.refusal.Refusal.{Refusal}
use Rattle.muni_msg.specs.declared.refusal.Refusal.TheVariants.{SettleOutside, GivenOutOfRange}
use Rattle.muni_desk.specs.NextInterestDate.{if_next}
use Rattle.muni_desk.specs.Words.{◌>>=◌, word}
use Rattle.muni_desk.specs.declared.command.DeskCommand.TheVariants.{QuoteOne}
use Rattle.muni_desk.specs.declared.command.CommandLine.{CommandLine}
use Rattle.muni_desk.specs.declared.one_period.QuoteOneRequest.{QuoteOneRequest}

-- the five values that texts say, if each of them reads
abbrev pub values_reading : (coupon next settlement redemption yld : List ℕ) → Option CommandLine
values_reading coupon next settlement redemption yld = do
  c ← result_ok (coupon_reading coupon)
  n ← result_ok (day_reading next)
  s ← result_ok (day_reading settlement)
  r ← result_ok (price_reading redemption)
  y ← result_ok (yield_reading yld)
  date ← if_next n
  Some (record {
    command = QuoteOne (record { coupon = c; next = date; settlement = s; redemption = r; yld = y });
    workers = 1;
  })

-- what words ask for after the name of the command: they are the five values, in order
abbrev pub quote_one_of : List (List ℕ) → Option CommandLine
quote_one_of words =
    if length words == 5
    then values_reading (word words 0) (word words 1) (word words 2) (word words 3) (word words 4)
    else None

-- the interest period begins six months before the next interest date
abbrev pub period_start : QuoteOneRequest → Civil
period_start request = months_on (civil request.next) (negsuc 5)

-- the settlement lies in the period: it is not before its first day, and before the next interest date
abbrev pub settles : QuoteOneRequest → Bool
settles request =
    is_not_after (period_start request) (civil request.settlement)
    && is_before (civil request.settlement) (civil request.next)

-- the days of accrued interest
abbrev pub accrued_days : QuoteOneRequest → ℤ
accrued_days request = days360 (period_start request) (civil request.settlement)

-- half a year's interest and the redemption are due; the interest of the days since the period began
-- has accrued, and the others of its 180 days are left
abbrev pub payment_of : QuoteOneRequest → SinglePayment
payment_of request = record {
  due = pos (half_year_interest request.coupon + redemption_amount request.redemption);
  accrued = pos (interest request.coupon (accrued_days request));
  left = pos 180 -ℤ accrued_days request;
  basis = Thirty360;
}

-- the side on which a yield leaves the range of those with six months or less to redemption
abbrev pub range_refusal : ℤ → Option Refusal
range_refusal y =
    option_map (λ side. GivenOutOfRange (range_of side)) (side_of one_period_yields y)

-- the refusal before a price is asked for, if there is one: of the settlement, then of the yield
abbrev pub early_refusal : QuoteOneRequest → Option Refusal
early_refusal request = if settles request then range_refusal request.yld else Some SettleOutside

-- so many thousandths of a dollar are the price
abbrev pub IsPrice : QuoteOneRequest → ℕ → Type 0
IsPrice request t =
    (early_refusal request ≡ None) × IsPrintedPrice (AtLeast (payment_of request) request.yld) t

-- the refusal applies: an early one, or that of a price below zero
abbrev pub IsRefusal : QuoteOneRequest → Refusal → Type 0
IsRefusal request refusal =
    MatchOption (early_refusal request)
    (IsBelowZero (AtLeast (payment_of request) request.yld)
    × (refusal ≡ GivenOutOfRange PriceBelowZero))
    (λ early. refusal ≡ early)

-- the answer is right
abbrev pub IsPriced : QuoteOneRequest → Result ℕ Refusal → Type 0
IsPriced request (Ok t) = IsPrice request t
IsPriced request (Err refusal) = IsRefusal request refusal
