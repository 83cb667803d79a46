-- The lines of how the price of a trade moves with its yield.
use Rattle.std.specs.Prelude.{ℕ, List, [], ◌∷◌, ◌++◌, codes, Option, Some, None}
use Rattle.muni_dec.specs.Decimal.{decimal_text}
use Rattle.muni_dec.specs.Line.{line}
use Rattle.muni_risk.specs.declared.Risk.{Risk}
use Rattle.muni_risk.specs.declared.Sensitivities.{Sensitivities}

-- the current yield in percent, which has a line if there is one
abbrev pub current_yield_line : Option ℕ → List ℕ
current_yield_line (Some current) = line (codes "CURRENT YIELD" ∷ decimal_text 3 current ∷ [])
current_yield_line None = []

-- the duration in years, the convexity in years squared, and the DV01 in dollars per 100 of par
unfoldable pub sensitivity_lines : Sensitivities → List ℕ
sensitivity_lines sensitivities =
    line (codes "DURATION" ∷ decimal_text 3 sensitivities.duration ∷ [])
    ++ line (codes "CONVEXITY" ∷ decimal_text 3 sensitivities.convexity ∷ [])
    ++ line (codes "DV01" ∷ decimal_text 6 sensitivities.dv01 ∷ [])

-- a discounted note has none of these lines
abbrev pub risk_lines : Option Risk → List ℕ
risk_lines (Some risk) = current_yield_line risk.current_yield ++ sensitivity_lines risk.sensitivities
risk_lines None = []
