-- The lines of a list of trades.
use Rattle.std.specs.Prelude.{ℕ, List, [], ◌∷◌, ◌++◌, codes, decimal}
use Rattle.std.specs.Fmt.{signed_decimal}
use Rattle.muni_dec.specs.Values.{money_text, price_text, printed_price_text, printed_yield_text}
use Rattle.muni_days.specs.Day.{civil, day_text}
use Rattle.muni_confirm.specs.Figures.{label_text}
use Rattle.muni_msg.specs.declared.command.Line.{Line}
use Rattle.muni_msg.specs.declared.figures.Figures.{Figures}
use Rattle.muni_msg.specs.declared.version.Act.{Act}
use Rattle.muni_msg.specs.declared.version.Act.TheVariants.{Entered, Corrected, Canceled}
use Rattle.muni_export.specs.Rows.{row, terms_fields}

-- whether the last version left the trade in force
abbrev pub state : Act → List ℕ
state Entered = codes "LIVE"
state Corrected = codes "LIVE"
state Canceled = codes "CANCELED"

-- the price and the yield, and the redemption with its price and its label
unfoldable pub figure_fields : Figures → List (List ℕ)
figure_fields figures =
    printed_price_text figures.price
    ∷ printed_yield_text figures.yld
    ∷ day_text (civil figures.redemption)
    ∷ price_text figures.at
    ∷ label_text figures.label
    ∷ []

-- the days of accrued interest, and the money
unfoldable pub money_fields : Figures → List (List ℕ)
money_fields figures =
    signed_decimal figures.days
    ∷ money_text figures.principal
    ∷ money_text figures.accrued
    ∷ money_text figures.commission
    ∷ money_text figures.total
    ∷ []

-- a trade: its reference, its last version with its number and its state, the terms and the figures
abbrev pub line_fields : Line → List (List ℕ)
line_fields line =
    line.reference ∷ decimal line.number ∷ state line.version.act
    ∷ terms_fields line.version.terms.asked
    ++ figure_fields line.version.figures
    ++ money_fields line.version.figures

abbrev pub list_line : Line → List ℕ
list_line line = row (line_fields line)

-- the names of the columns
abbrev pub column_names : List (List ℕ)
column_names =
    codes "reference" ∷ codes "version" ∷ codes "state"
    ∷ codes "cusip" ∷ codes "side" ∷ codes "par" ∷ codes "settlement"
    ∷ codes "basis" ∷ codes "value" ∷ codes "fee"
    ∷ codes "price" ∷ codes "yield"
    ∷ codes "redemption" ∷ codes "redemption_price" ∷ codes "redemption_label"
    ∷ codes "days" ∷ codes "principal" ∷ codes "accrued" ∷ codes "commission" ∷ codes "total"
    ∷ []

abbrev pub list_names : List ℕ
list_names = row column_names
