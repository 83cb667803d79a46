-- How the disclosed price of a trade moves with its yield.
use Rattle.std.specs.Prelude.{◌≡◌, ℕ, ◌==◌, Bool, List, Contains, Option, Some, None, ℤ, pos, ◌*ℤ◌}
use Rattle.muni_rule.specs.ManyPeriods.{PeriodicPayments, to_come}
use Rattle.muni_rule.specs.Redemptions.{Redemption}
use Rattle.muni_rule.specs.Sensitivities.{IsPrintedThousandths, IsPrintedDv01, IsPrintedFor, duration, convexity, single_duration, single_convexity, single_dv01, current_yield}
use Rattle.muni_rule.specs.SinglePayment.{SinglePayment}
use Rattle.muni_days.specs.Day.{civil, place_of}
use Rattle.muni_days.specs.declared.day.Day.{Day}
use Rattle.muni_terms.specs.declared.row.Kind.{Kind}
use Rattle.muni_terms.specs.declared.row.Kind.TheVariants as kind
use Rattle.muni_terms.specs.declared.row.IssueRow.{IssueRow}
use Rattle.muni_simple.specs.Single.{payment_of}
use Rattle.muni_sched.specs.Candidates.{AreCandidates, redemption_of}
use Rattle.muni_sched.specs.declared.candidate.Candidate.{Candidate}
use Rattle.muni_sched.specs.declared.candidate.Shape.{Shape}
use Rattle.muni_sched.specs.declared.candidate.Shape.TheVariants.{Many, One, AtRedemption, Discount}
use Rattle.muni_risk.specs.declared.Risk.{Risk}
use Rattle.muni_risk.specs.declared.Sensitivities.{Sensitivities}
use Rattle.muni_msg.specs.declared.asked.Asked.{Asked}
use Rattle.muni_msg.specs.declared.figures.Figures.{Figures}

-- with two payments or more to come, each is printed for the exact one
pub record AreOfMany (bond : PeriodicPayments) (y : ℤ) (shown : Sensitivities) : Type 0 where
  pub duration : IsPrintedThousandths (duration bond y) shown.duration
  pub convexity : IsPrintedThousandths (convexity bond y) shown.convexity
  pub dv01 : IsPrintedDv01 bond y shown.dv01

-- and so with one payment left
pub record AreOfSingle (payment : SinglePayment) (y : ℤ) (shown : Sensitivities) : Type 0 where
  pub duration : IsPrintedThousandths (single_duration payment y) shown.duration
  pub convexity : IsPrintedThousandths (single_convexity payment y) shown.convexity
  pub dv01 : IsPrintedFor (single_dv01 payment y) shown.dv01

-- by what is to come of a redemption; a discounted note has none
abbrev pub AreOfShape : Shape → ℤ → Sensitivities → Type 0
AreOfShape (Many series) y shown = AreOfMany (to_come series) y shown
AreOfShape (One payment) y shown = AreOfSingle (payment_of payment) y shown
AreOfShape (AtRedemption payment) y shown = AreOfSingle (payment_of payment) y shown
AreOfShape (Discount days basis) y shown = ⊥

-- the yield as it is shown, which has three decimals of the percentage, in 10^-6
abbrev pub shown_yield : ℤ → ℤ
shown_yield yld = yld *ℤ pos 10

-- a candidate is redeemed on a day
abbrev pub is_on : Day → Candidate → Bool
is_on day candidate = place_of candidate.date == place_of day

-- the redemption that figures disclose
abbrev pub disclosed_redemption : Figures → Redemption
disclosed_redemption figures =
    record { date = civil figures.redemption; price = figures.at; label = figures.label }

-- the current yield on a price, of an issue that pays its interest periodically
abbrev pub current_yield_of : Kind → ℕ → ℕ → Option ℕ
current_yield_of (kind.Periodic first) coupon price = current_yield coupon price
current_yield_of kind.Zero coupon price = None
current_yield_of kind.AtRedemption coupon price = None
current_yield_of kind.Discount coupon price = None

-- The sensitivities are those of the redemption that is disclosed, at the yield that is shown, and the current
-- yield is that on the price that is shown.
pub record IsRisk (row : IssueRow) (asked : Asked) (figures : Figures) (risk : Risk) : Type 0 where
  pub list : List Candidate
  pub candidates : AreCandidates row asked.settle list
  pub disclosed : Candidate
  pub among : Contains list disclosed
  pub redemption : redemption_of disclosed ≡ disclosed_redemption figures
  pub moves : AreOfShape disclosed.shape (shown_yield figures.yld) risk.sensitivities
  pub current : risk.current_yield ≡ current_yield_of row.kind row.coupon figures.price

-- a discounted note has none of them, and every other security has them
abbrev pub IsRiskOf : IssueRow → Asked → Figures → Option Risk → Type 0
IsRiskOf row asked figures (Some risk) = IsRisk row asked figures risk
IsRiskOf row asked figures None = row.kind ≡ kind.Discount
