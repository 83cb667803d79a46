-- The lines of redemption candidates, each with its own figure.
use Rattle.std.specs.Prelude.{ℕ, List, [], ◌∷◌, codes}
use Rattle.muni_dec.specs.Decimal.{decimal_text, signed_text}
use Rattle.muni_dec.specs.Line.{line}
use Rattle.muni_days.specs.Day.{civil, day_text}
use Rattle.muni_msg.specs.declared.each.EachFigure.{EachFigure}
use Rattle.muni_msg.specs.declared.each.EachFigure.TheVariants.{Price, Yield, Undecided, Below, Above, NoTime}
use Rattle.muni_msg.specs.declared.each.EachRedemption.{EachRedemption}
use Rattle.muni_confirm.specs.Figures.{label_text}
use Rattle.muni_confirm.specs.Refusal.{boundary_parts}

-- the figure with three decimals, or why there is none
abbrev pub figure_parts : EachFigure → List (List ℕ)
figure_parts (Price price) = codes "PRICE" ∷ decimal_text 3 price ∷ []
figure_parts (Yield yld) = codes "YIELD" ∷ signed_text 3 yld ∷ []
figure_parts (Undecided boundary) = codes "UNDECIDED" ∷ boundary_parts boundary
figure_parts Below = codes "BELOW" ∷ []
figure_parts Above = codes "ABOVE" ∷ []
figure_parts NoTime = codes "NO TIME" ∷ []

-- a candidate: its date, its price, which redemption it is, and its figure
unfoldable pub each_text : EachRedemption → List ℕ
each_text redemption =
    line (codes "EACH" ∷ day_text (civil redemption.date) ∷ decimal_text 6 redemption.price
    ∷ label_text redemption.label ∷ figure_parts redemption.figure)
