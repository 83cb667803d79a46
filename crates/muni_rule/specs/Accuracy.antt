-- The accuracy of printed figures, which is this desk's own choice.
-- Amounts are whole numbers of 1/(B * 10^9) dollars per 100 of par, where B is the days of a year by the
-- basis of the issue: so the interest of whole days is a whole amount.
use Rattle.std.specs.Prelude.{ℕ, suc, ◌+◌, ◌*◌, ◌/◌, ℤ, pos, negsuc, neg_ℤ, ◌≤ℤ◌}
use Rattle.muni_rule.specs.DayCount.{year_of}
use Rattle.muni_rule.specs.declared.basis.Basis.{Basis}
use Rattle.muni_rule.specs.declared.basis.Basis.TheVariants.{Thirty360}

-- a price in 10^-6 dollars, as an amount
abbrev pub price_amount : Basis → ℕ → ℤ
price_amount basis price = pos (year_of basis * 1_000 * price)

-- so many thousandths of a dollar, as an amount
abbrev pub thousandths_by : Basis → ℕ → ℤ
thousandths_by basis t = pos (year_of basis * 1_000_000 * t)

-- An exact price need not be a whole amount: it is told by the amounts that it is at least.
-- Truncated to thousandths it is t: it is at least t thousandths, and not one more.
pub record TruncatesBy (basis : Basis) (AtLeast : ℤ → Type 0) (t : ℕ) : Type 0 where
  pub reached : AtLeast (thousandths_by basis t)
  pub next_not_reached : ¬ (AtLeast (thousandths_by basis (t + 1)))

-- the same of 30/360, by which all issues count that are no notes
abbrev pub thousandths : ℕ → ℤ
thousandths t = thousandths_by Thirty360 t

abbrev pub TruncatesTo : (ℤ → Type 0) → ℕ → Type 0
TruncatesTo AtLeast t = TruncatesBy Thirty360 AtLeast t

-- an exact price that is a whole amount reaches each amount that is not above it
abbrev pub Reaches : ℤ → ℤ → Type 0
Reaches price amount = amount ≤ℤ price

-- A yield of so many 10^-6, which has four decimals of the percentage, is rounded to three: a last
-- digit of five or above raises the digit before it. A negative yield goes by its magnitude.
abbrev pub rounded_yield : ℤ → ℤ
rounded_yield (pos y) = pos ((y + 5) / 10)
rounded_yield (negsuc less) = neg_ℤ (pos ((suc less + 5) / 10))

-- the accrued interest of a trade, truncated to thousandths of a dollar: of a coupon in 10^-7 dollars
-- per 100 of par and year, a par in dollars, days, and the days of a year
abbrev pub accrued_thousandths : ℕ → ℕ → ℕ → ℕ → ℕ
accrued_thousandths coupon par days year = coupon * par * days / (year * 1_000_000)

-- and rounded to cents
abbrev pub accrued_cents : ℕ → ℕ → ℕ → ℕ → ℕ
accrued_cents coupon par days year = (accrued_thousandths coupon par days year + 5) / 10

-- the principal of a trade, rounded to cents: of a par in dollars and a price in thousandths
abbrev pub principal_cents : ℕ → ℕ → ℕ
principal_cents par price = (par * price + 500) / 1000

-- the commission of a trade, rounded to cents: of a par in dollars and a fee in thousandths per 100 of par
abbrev pub commission_cents : ℕ → ℕ → ℕ
commission_cents par fee = (par * fee + 500) / 1000
