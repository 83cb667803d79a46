-- The lines of figures, their header and their total.
use Rattle.std.specs.Prelude.{◌≤◌, ℕ, ◌+◌, Bool, true, false, if◌then◌else◌, List, [], ◌∷◌, ◌++◌, codes, decimal, Option, Some, None, ⊤}
use Rattle.std.specs.Fmt.{signed_decimal}
use Rattle.std.specs.List.{sum_by, count_by}
use Rattle.muni_dec.specs.Decimal.{decimal_text}
use Rattle.muni_dec.specs.Values.{money_text, price_text, printed_price_text, printed_yield_text}
use Rattle.muni_days.specs.Day.{civil, day_text}
use Rattle.muni_confirm.specs.Figures.{label_text}
use Rattle.muni_import.specs.Line.{behind_commas, refused_fields, bad_fields}
use Rattle.muni_msg.specs.declared.figures.Figures.{Figures}
use Rattle.muni_risk.specs.declared.Risk.{Risk}
use Rattle.muni_figures.specs.declared.command.FiguresOptions.{FiguresOptions}
use Rattle.muni_figures.specs.declared.said.RiskColumns.{RiskColumns}
use Rattle.muni_figures.specs.declared.said.RiskColumns.TheVariants.{LeftOut, Shown}
use Rattle.muni_figures.specs.declared.said.FiguresSaid.{FiguresSaid}
use Rattle.muni_figures.specs.declared.said.FiguresSaid.TheVariants.{Priced, Refused, Bad}

-- a refusal has a number from 1 to 15
abbrev pub HasName : FiguresSaid → Type 0
HasName (Priced cusip figures columns) = ⊤
HasName (Refused number) = (1 ≤ number) × (number ≤ 15)
HasName (Bad fault) = ⊤

-- the issue, the price and the yield
unfoldable pub price_fields : List ℕ → Figures → List ℕ
price_fields cusip figures =
    behind_commas (codes "figures" ∷ cusip
    ∷ printed_price_text figures.price ∷ printed_yield_text figures.yld ∷ [])

-- the redemption with its price and its label
unfoldable pub redemption_fields : Figures → List ℕ
redemption_fields figures =
    behind_commas (day_text (civil figures.redemption) ∷ price_text figures.at
    ∷ label_text figures.label ∷ [])

-- the money, in dollars
unfoldable pub money_fields : Figures → List ℕ
money_fields figures =
    behind_commas (money_text figures.principal ∷ money_text figures.accrued
    ∷ money_text figures.commission ∷ money_text figures.total ∷ [])

-- all figures of a row
abbrev pub figure_fields : List ℕ → Figures → List ℕ
figure_fields cusip figures =
    price_fields cusip figures ++ redemption_fields figures
    ++ behind_commas (signed_decimal figures.days ∷ []) ++ money_fields figures

-- a current yield, or an empty column
abbrev pub current_text : Option ℕ → List ℕ
current_text None = []
current_text (Some current) = decimal_text 3 current

-- the sensitivities
unfoldable pub sensitivity_fields : Risk → List ℕ
sensitivity_fields risk =
    behind_commas (current_text risk.current_yield ∷ decimal_text 3 risk.sensitivities.duration
    ∷ decimal_text 3 risk.sensitivities.convexity ∷ decimal_text 6 risk.sensitivities.dv01 ∷ [])

-- the columns of the sensitivities, which are empty if there are none
unfoldable pub risk_fields : RiskColumns → List ℕ
risk_fields LeftOut = []
risk_fields (Shown None) = behind_commas ([] ∷ [] ∷ [] ∷ [] ∷ [])
risk_fields (Shown (Some risk)) = sensitivity_fields risk

-- what is told of a row
unfoldable pub said_fields : FiguresSaid → List ℕ
said_fields (Priced cusip figures columns) = figure_fields cusip figures ++ risk_fields columns
said_fields (Refused number) = refused_fields number
said_fields (Bad fault) = bad_fields fault

-- the line of a row, which begins with its place
abbrev pub said_line : ℕ → FiguresSaid → List ℕ
said_line place said = decimal place ++ said_fields said ++ 10 ∷ []

-- the lines of rows, whose places are counted on
abbrev pub said_lines : ℕ → List FiguresSaid → List ℕ
said_lines place [] = []
said_lines place (said ∷ more) = said_line place said ++ said_lines (place + 1) more

-- whether a row has figures, and its total in cents
abbrev pub is_priced : FiguresSaid → Bool
is_priced (Priced cusip figures columns) = true
is_priced (Refused number) = false
is_priced (Bad fault) = false

abbrev pub total_of : FiguresSaid → ℕ
total_of (Priced cusip figures columns) = figures.total
total_of (Refused number) = 0
total_of (Bad fault) = 0

-- how many rows have figures, and the sum of their totals
abbrev pub priced_count : List FiguresSaid → ℕ
priced_count said = count_by is_priced said

abbrev pub priced_sum : List FiguresSaid → ℕ
priced_sum said = sum_by total_of said

-- the last line
unfoldable pub total_line : (priced sum rows : ℕ) → List ℕ
total_line priced sum rows =
    codes "TOTAL" ++ behind_commas (decimal priced ∷ decimal_text 2 sum ∷ decimal rows ∷ []) ++ 10 ∷ []

-- the names of the columns
abbrev pub names : List ℕ
names =
    codes "place,answer,cusip,price,yield,redemption,redemption_price,redemption_label,days,principal,accrued,commission,total"

-- and those of the sensitivities
abbrev pub risk_names : Bool → List ℕ
risk_names has_risk = if has_risk then codes ",current_yield,duration,convexity,dv01" else []

-- as a line
abbrev pub names_line : Bool → List ℕ
names_line has_risk = names ++ risk_names has_risk ++ 10 ∷ []

-- which comes before all lines if it is asked for
abbrev pub header : FiguresOptions → List ℕ
header options = if options.has_header then names_line options.has_risk else []
