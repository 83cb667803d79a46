-- The lines of a report on rows.
use Rattle.std.specs.Prelude.{ℕ, List, [], ◌∷◌, ◌++◌, codes, decimal, Result, Ok, Err}
use Rattle.muni_dec.specs.Decimal.{decimal_text, signed_text}
use Rattle.muni_days.specs.Day.{civil, day_text}
use Rattle.muni_msg.specs.Refusal.{number_of}
use Rattle.muni_msg.specs.declared.command.Key.{Key}
use Rattle.muni_msg.specs.declared.command.Reply.{Reply}
use Rattle.muni_msg.specs.declared.command.Reply.TheVariants.{Added, Amended, Quoted, Listed, Confirmed, Refused}
use Rattle.muni_msg.specs.declared.figures.Figures.{Figures}
use Rattle.muni_import.specs.Line.{behind_commas, refused_fields, bad_fields}
use Rattle.muni_import.specs.declared.row.RowFault.{RowFault}

-- what came of a row
abbrev pub Said : Type 0
Said = Result Reply RowFault

-- the price and the yield of a trade
unfoldable pub price_fields : Figures → List ℕ
price_fields figures =
    behind_commas (decimal_text 3 figures.price ∷ signed_text 3 figures.yld ∷ [])

-- its redemption and its total
unfoldable pub total_fields : Figures → List ℕ
total_fields figures =
    behind_commas (day_text (civil figures.redemption) ∷ decimal_text 2 figures.total ∷ [])

-- a trade that is kept, with the number of its version and its figures
unfoldable pub confirmed_fields : Key → ℕ → Figures → List ℕ
confirmed_fields key number figures =
    behind_commas (codes "confirmed" ∷ key.reference ∷ decimal number ∷ [])
    ++ price_fields figures ++ total_fields figures

-- what is told of a reply; no row asks for figures or for a list
abbrev pub reply_fields : Reply → List ℕ
reply_fields (Added cusip) = behind_commas (codes "added" ∷ cusip ∷ [])
reply_fields (Amended cusip number) = behind_commas (codes "amended" ∷ cusip ∷ decimal number ∷ [])
reply_fields (Quoted issue asked figures shown) = []
reply_fields (Listed lines) = []
reply_fields (Confirmed issue key number version) = confirmed_fields key number version.figures
reply_fields (Refused refusal) = refused_fields (number_of refusal)

-- what is told of a row
abbrev pub row_fields : Said → List ℕ
row_fields (Ok reply) = reply_fields reply
row_fields (Err fault) = bad_fields fault

-- the line of a row, which begins with its place
abbrev pub row_line : ℕ → Said → List ℕ
row_line place said = decimal place ++ row_fields said ++ 10 ∷ []
