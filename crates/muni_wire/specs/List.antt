-- The lines of a list of trades.
use Rattle.std.specs.Prelude.{ℕ, List, [], ◌∷◌, codes, decimal}
use Rattle.std.specs.List.{flat_map}
use Rattle.muni_dec.specs.Decimal.{decimal_text, signed_text}
use Rattle.muni_dec.specs.Line.{behind_blanks, line}
use Rattle.muni_msg.specs.declared.command.Line.{Line}
use Rattle.muni_msg.specs.declared.version.Act.{Act}
use Rattle.muni_msg.specs.declared.version.Act.TheVariants.{Entered, Corrected, Canceled}

-- whether the last version left the trade in force
abbrev pub state : Act → List ℕ
state Entered = codes "LIVE"
state Corrected = codes "LIVE"
state Canceled = codes "CANCELED"

-- the par, the price and the yield
abbrev pub amount_parts : Line → List (List ℕ)
amount_parts trade =
    decimal trade.version.terms.asked.par
    ∷ decimal_text 3 trade.version.figures.price
    ∷ signed_text 3 trade.version.figures.yld
    ∷ []

abbrev pub amounts : Line → List ℕ
amounts trade = behind_blanks (amount_parts trade)

-- the line of a trade
abbrev pub list_line : Line → List ℕ
list_line trade =
    line (trade.reference ∷ decimal trade.number ∷ state trade.version.act ∷ amount_parts trade)

-- a line for each trade
abbrev pub list_text : List Line → List ℕ
list_text trades = flat_map list_line trades
