-- Laws of the readings: where each of them is the rule itself, and how far it is from it.
use Rattle.std.specs.Prelude.{◌≡◌, ℕ, ◌+◌, ◌-◌, ◌*◌, ◌≤◌, ◌↔◌, List, [], false, true, Some, None, IfSome, Ok, ℤ, pos, ◌+ℤ◌, ◌<ℤ◌}
use Rattle.std.specs.List.{slice_get}
use Rattle.muni_rule.specs.Accuracy.{TruncatesBy, price_amount}
use Rattle.muni_rule.specs.Civil.{Civil}
use Rattle.muni_rule.specs.DayCount.{days360}
use Rattle.muni_rule.specs.Payments.{PaymentSeries}
use Rattle.muni_rule.specs.ManyPeriods as many
use Rattle.muni_rule.specs.ManyPeriods.{PeriodicPayments}
use Rattle.muni_rule.specs.SinglePayment as one
use Rattle.muni_rule.specs.SinglePayment.{SinglePayment, growth}
use Rattle.muni_rule.specs.declared.basis.Basis.{Basis}
use Rattle.muni_rule.specs.declared.basis.Basis.TheVariants.{Thirty360}
use Rattle.muni_rule.specs.declared.label.Label.TheVariants.{Maturity}
use Rattle.muni_terms.specs.Check.{fault_of}
use Rattle.muni_terms.specs.declared.row.IssueRow.{IssueRow}
use Rattle.muni_sched.specs.Candidates.{AreCandidates}
use Rattle.muni_sched.specs.declared.candidate.Candidate.{Candidate}
use Rattle.muni_sched.specs.declared.candidate.Shape.{Shape}
use Rattle.muni_sched.specs.declared.candidate.Shape.TheVariants.{Many}
use Rattle.muni_msg.specs.declared.asked.Asked.{Asked}
use Rattle.muni_msg.specs.declared.asked.Given.TheVariants.{AtPrice}
use Rattle.muni_msg.specs.declared.figures.Figures.{Figures}
use Rattle.muni_answer.specs.Answers.{IsRightAnswer}
use Rattle.muni_readings.specs.Compounded.{IsCompoundedOf}
use Rattle.muni_readings.specs.February.{ends_february, february_days}
use Rattle.muni_readings.specs.OtherTerms.{Ends, IsByMaturity, IsByFirstCall, IsByGross}
use Rattle.muni_readings.specs.Regular.{IsByRegular, regular_terms}
use Rattle.muni_readings.specs.Rounded.{IsRoundedAt}
use Rattle.muni_readings.specs.Stated.{first_difference}
use Rattle.muni_readings.specs.declared.stated.Stated.{Stated}

-- a law of an issue that passes every test of its terms, and of the right figures for what is asked of it
abbrev pub OfRightFigures : (Ends → IssueRow → Asked → Figures → Type 0) → Type 0
OfRightFigures Law =
    (ends : Ends) (row : IssueRow) (asked : Asked) (figures : Figures)
    → fault_of row ≡ None → IsRightAnswer ends row asked (Ok figures) → Law ends row asked figures

-- MATURITY is the rule for an issue without calls,
abbrev pub MaturityOfUncalled : Type 0
MaturityOfUncalled =
    OfRightFigures (λ ends row asked figures.
    row.calls.items ≡ [] → IsByMaturity ends row asked (Some figures))

-- FIRST CALL if no call is to come,
abbrev pub FirstCallOfUncalled : Type 0
FirstCallOfUncalled =
    OfRightFigures (λ ends row asked figures. (list : List Candidate) (first : Candidate)
    → AreCandidates row asked.settle list → slice_get list 0 ≡ Some first → first.label ≡ Maturity
    → IsByFirstCall ends row asked (Some figures))

-- ROUNDED at a given price,
abbrev pub GivenPricesStay : Type 0
GivenPricesStay =
    (asked : Asked) (figures : Figures) (shape : Shape) (half given : ℕ)
    → asked.given ≡ AtPrice given → IsRoundedAt half asked figures shape (Some figures)

-- which else prints the thousandth that is nearest to the exact price, and the upper one if both are:
-- the exact price is at least half a thousandth below it, and less than half a thousandth above it
pub record IsNearest (basis : Basis) (AtLeast : ℤ → Type 0) (t : ℕ) : Type 0 where
  pub from : AtLeast (price_amount basis (1_000 * t - 500))
  pub below : ¬ (AtLeast (price_amount basis (1_000 * t + 500)))

abbrev pub RoundsToNearest : Basis → (ℤ → Type 0) → ℕ → Type 0
RoundsToNearest basis AtLeast t =
    TruncatesBy basis AtLeast t
    → (AtLeast (price_amount basis (1_000 * t + 500)) → IsNearest basis AtLeast (t + 1))
    × (¬ (AtLeast (price_amount basis (1_000 * t + 500))) → IsNearest basis AtLeast t)

-- with several payments to come, and with one
abbrev pub SeriesRoundToNearest : Type 0
SeriesRoundToNearest =
    (bond : PeriodicPayments) (y : ℤ) (t : ℕ)
    → RoundsToNearest Thirty360 (many.AtLeast bond y) t

abbrev pub PaymentsRoundToNearest : Type 0
PaymentsRoundToNearest =
    (payment : SinglePayment) (y : ℤ) (t : ℕ) → pos 0 <ℤ growth payment y
    → RoundsToNearest payment.basis (one.AtLeast payment y) t

-- COMPOUNDED if several payments are to come,
abbrev pub SeveralAreCompounded : Type 0
SeveralAreCompounded =
    (asked : Asked) (figures : Figures) (series : PaymentSeries)
    → IsCompoundedOf asked figures (Many series) (Some figures)

-- GROSS without a commission,
abbrev pub GrossWithoutFee : Type 0
GrossWithoutFee =
    OfRightFigures (λ ends row asked figures.
    asked.fee ≡ 0 → IsByGross ends row asked figures (Some figures))

-- and REGULAR if the first coupon is no odd one.
abbrev pub RegularOfRegular : Type 0
RegularOfRegular =
    OfRightFigures (λ ends row asked figures.
    regular_terms row ≡ Some row → IsByRegular ends row asked (Some figures))

-- FEBRUARY counts the days of the rule, save from the last of February: then so many less as are missing from 30
abbrev pub FebruaryCountsElsewhere : Type 0
FebruaryCountsElsewhere =
    (first last : Civil) → ends_february first ≡ false → february_days first last ≡ days360 first last

abbrev pub FebruaryCountsLess : Type 0
FebruaryCountsLess =
    (first last : Civil) → ends_february first ≡ true → first.day ≤ 29
    → (february_days first last +ℤ pos (30 - first.day)) ≡ days360 first last

-- figures are right exactly if each that is stated is the same
pub record AreAsStated (figures : Figures) (stated : Stated) : Type 0 where
  pub price : IfSome stated.price (λ other. figures.price ≡ other)
  pub yld : IfSome stated.yld (λ other. figures.yld ≡ other)
  pub redemption : IfSome stated.redemption (λ other. figures.redemption ≡ other)
  pub days : IfSome stated.days (λ other. figures.days ≡ other)
  pub principal : IfSome stated.principal (λ other. figures.principal ≡ other)
  pub accrued : IfSome stated.accrued (λ other. figures.accrued ≡ other)
  pub total : IfSome stated.total (λ other. figures.total ≡ other)

abbrev pub RightIsAsStated : Type 0
RightIsAsStated =
    (figures : Figures) (stated : Stated)
    → (first_difference figures stated ≡ None) ↔ AreAsStated figures stated
