-- The text of a quote.
use Rattle.std.specs.Prelude.{ℕ, List, [], ◌++◌, None}
use Rattle.std.specs.List.{flat_map}
use Rattle.muni_msg.specs.declared.asked.Asked.{Asked}
use Rattle.muni_msg.specs.declared.figures.Figures.{Figures}
use Rattle.muni_confirm.specs.Each.{each_text}
use Rattle.muni_confirm.specs.Figures.{figure_text}
use Rattle.muni_confirm.specs.Risk.{risk_lines}
use Rattle.muni_confirm.specs.declared.details.Details.{Details}

-- the redemption candidates that are shown, and then how the price moves with the yield
abbrev pub details_text : Details → List ℕ
details_text details = flat_map each_text details.each.items ++ risk_lines details.risk

-- nothing after the figures
abbrev pub no_details : Details
no_details = record { each = record { items = [] }; risk = None }

-- figures, and what is shown after them
abbrev pub quoted_text : Figures → Asked → Details → List ℕ
quoted_text figures asked details = figure_text figures asked.given asked.fee ++ details_text details
