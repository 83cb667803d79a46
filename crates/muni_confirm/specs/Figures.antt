-- The lines that show the figures of a trade.
use Rattle.std.specs.Prelude.{ℕ, nat_lt, if◌then◌else◌, List, [], ◌∷◌, ◌++◌, codes, ℤ}
use Rattle.std.specs.Fmt.{signed_decimal}
use Rattle.muni_dec.specs.Decimal.{decimal_text, signed_text}
use Rattle.muni_days.specs.Day.{civil, day_text}
use Rattle.muni_rule.specs.declared.label.Label.{Label}
use Rattle.muni_rule.specs.declared.label.Label.TheVariants.{Maturity, ParOption, Call, Called}
use Rattle.muni_msg.specs.declared.asked.Given.{Given}
use Rattle.muni_msg.specs.declared.asked.Given.TheVariants.{AtYield, AtPrice, AtRate}
use Rattle.muni_msg.specs.declared.figures.Figures.{Figures}
use Rattle.muni_dec.specs.Line.{line}

-- whether the price was given or computed
abbrev pub price_source : Given → List ℕ
price_source (AtYield yld) = codes "COMPUTED"
price_source (AtPrice price) = codes "GIVEN"
price_source (AtRate rate) = codes "COMPUTED"

-- whether the yield was given or computed
abbrev pub yield_source : Given → List ℕ
yield_source (AtYield yld) = codes "GIVEN"
yield_source (AtPrice price) = codes "COMPUTED"
yield_source (AtRate rate) = codes "COMPUTED"

-- a discount rate has a line if it was given
abbrev pub rate_line : Given → List ℕ
rate_line (AtYield yld) = []
rate_line (AtPrice price) = []
rate_line (AtRate rate) = line (codes "RATE" ∷ signed_text 4 rate ∷ codes "GIVEN" ∷ [])

-- the price, the yield, and the rate if it was given
unfoldable pub price_lines : Figures → Given → List ℕ
price_lines figures given =
    line (codes "PRICE" ∷ decimal_text 3 figures.price ∷ price_source given ∷ [])
    ++ line (codes "YIELD" ∷ signed_text 3 figures.yld ∷ yield_source given ∷ [])
    ++ rate_line given

-- which redemption it is
abbrev pub label_text : Label → List ℕ
label_text Maturity = codes "MATURITY"
label_text ParOption = codes "PAR OPTION"
label_text Call = codes "CALL"
label_text Called = codes "CALLED"

-- the disclosed redemption: its date, its price and which one it is
unfoldable pub redemption_line : Figures → List ℕ
redemption_line figures =
    line (codes "REDEMPTION" ∷ day_text (civil figures.redemption) ∷ decimal_text 6 figures.at
    ∷ label_text figures.label ∷ [])

-- the days of accrued interest
unfoldable pub days_line : ℤ → List ℕ
days_line days = line (codes "ACCRUED DAYS" ∷ signed_decimal days ∷ [])

-- a commission has a line where one is asked
abbrev pub commission_line : Figures → ℕ → List ℕ
commission_line figures fee =
    if nat_lt 0 fee then line (codes "COMMISSION" ∷ decimal_text 2 figures.commission ∷ []) else []

-- the money, in dollars
unfoldable pub money_lines : Figures → ℕ → List ℕ
money_lines figures fee =
    line (codes "PRINCIPAL" ∷ decimal_text 2 figures.principal ∷ [])
    ++ line (codes "ACCRUED" ∷ decimal_text 2 figures.accrued ∷ [])
    ++ commission_line figures fee
    ++ line (codes "TOTAL" ∷ decimal_text 2 figures.total ∷ [])

-- the lines of the figures, in their order
unfoldable pub figure_text : Figures → Given → ℕ → List ℕ
figure_text figures given fee =
    price_lines figures given ++ redemption_line figures ++ days_line figures.days
    ++ money_lines figures fee
