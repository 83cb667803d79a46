-- What a quote shows after its figures.
use Rattle.std.specs.Prelude.{◌≡◌, Bool, true, false, List, Option, None, ℤ}
use Rattle.muni_rule.specs.Payments.{PaymentSeries}
use Rattle.muni_rule.specs.WorthEnds.{WorthEnds}
use Rattle.muni_terms.specs.declared.row.IssueRow.{IssueRow}
use Rattle.muni_risk.specs.declared.Risk.{Risk}
use Rattle.muni_msg.specs.declared.asked.Asked.{Asked}
use Rattle.muni_msg.specs.declared.each.EachRedemption.{EachRedemption}
use Rattle.muni_msg.specs.declared.figures.Figures.{Figures}
use Rattle.muni_msg.specs.declared.shown.Shown.{Shown}
use Rattle.muni_book.specs.Each.{AreEach, AreRightEach, AreWanted}
use Rattle.muni_book.specs.Risk.{IsRiskOf}
use Rattle.muni_confirm.specs.declared.details.Details.{Details}

-- how the price moves with the yield is shown if it is wanted
abbrev pub IsRiskWanted : Bool → (Option Risk → Type 0) → Option Risk → Type 0
IsRiskWanted true Is risk = Is risk
IsRiskWanted false Is risk = risk ≡ None

-- the redemption candidates are these, and how the price moves is that of the figures, each if it is to be shown
pub record AreShownDetails
    (Each : List EachRedemption → Type 0) (row : IssueRow) (asked : Asked) (figures : Figures)
    (shown : Shown) (details : Details)
    : Type 0 where
  pub each : AreWanted shown.each Each details.each.items
  pub risk : IsRiskWanted shown.risk (IsRiskOf row asked figures) details.risk

-- with what is answered of each, or with what is right
abbrev pub AreDetails : (ends : PaymentSeries → ℤ → WorthEnds) → IssueRow → Asked → Figures → Shown
    → Details → Type 0
AreDetails ends row asked figures shown details =
    AreShownDetails (AreEach ends row asked figures) row asked figures shown details

abbrev pub AreRightDetails : IssueRow → Asked → Figures → Shown → Details → Type 0
AreRightDetails row asked figures shown details =
    AreShownDetails (AreRightEach row asked figures) row asked figures shown details
