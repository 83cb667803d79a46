-- The outcome of a candidate is true of its exact price, and unsure only in doubt.
use Rattle.std.proofs.Common.{◌≡◌, ◌<◌, ◌≤◌, ◌+◌, ◌-◌, ◌*◌, ℕ, zero, suc, List, [], ◌∷◌, length, refl, ap, sym, subst, inl, ⊎_elim, arith, ◌∙◌, ℤ, pos, negsuc, ◌+ℤ◌, ◌-ℤ◌, ◌<ℤ◌, ◌≢◌}
use Rattle.std.specs.List.{AllZip}
use Rattle.std.proofs.lemmas.Bool.{cases_lt}
use Rattle.std.proofs.lemmas.Int.{ints}
use Rattle.muni_rule.specs.declared.basis.Basis.{Basis}
use Rattle.muni_rule.specs.declared.basis.Basis.TheVariants.{Thirty360}
use Rattle.muni_rule.specs.Accuracy.{thousandths, thousandths_by}
use Rattle.muni_rule.specs.Doubt.{IsDoubtful}
use Rattle.muni_rule.specs.ManyPeriods as periods
use Rattle.muni_rule.specs.ManyPeriods.{to_come}
use Rattle.muni_rule.specs.Payments.{PaymentSeries, IsSeries}
use Rattle.muni_rule.specs.Printed.{IsPrintedPriceBy, IsBelowZero, IsClosed}
use Rattle.muni_rule.specs.Ranges.{IsWithin, IsManyPeriodsBoundary}
use Rattle.muni_rule.specs.Schedule.{ExactOutcome, prints, is_below, is_above, no_time, IsFrom}
use Rattle.muni_rule.specs.SinglePayment.{SinglePayment, growth, AtLeast}
use Rattle.muni_rule.specs.Verdicts.{at_least_verdict, dirty_thousandths, IsUndecidedAt}
use Rattle.muni_rule.specs.WorthEnds.{WorthEnds, ends_of}
use Rattle.muni_rule.specs.declared.verdict.Verdict.{Verdict}
use Rattle.muni_rule.specs.declared.verdict.Verdict.TheVariants as verdict
use Rattle.muni_rule.proofs.AtLeastLemmas.{AtLeast-closed, many-closed}
use Rattle.muni_rule.proofs.EnclosedLemmas.{IsEnclosed, at_least-true}
use Rattle.muni_rule.proofs.OnePriceLemmas.{printed-one, thousandths-from}
use Rattle.muni_multi.specs.Prices as multi
use Rattle.muni_multi.specs.declared.price.PriceAnswer.{PriceAnswer}
use Rattle.muni_multi.specs.declared.price.PriceAnswer.TheVariants as found
use Rattle.muni_multi.proofs.PriceLemmas.{outcome-exact, outcome-doubtful}
use Rattle.muni_simple.specs.Single as simple
use Rattle.muni_simple.specs.declared.price.SimplePrice.{SimplePrice}
use Rattle.muni_simple.specs.declared.price.SimplePrice.TheVariants as exact
use Rattle.muni_simple.specs.declared.single.Shape1.TheVariants as single
use Rattle.muni_simple.proofs.GrowthLemmas.{growth-within}
use Rattle.muni_sched.specs.declared.candidate.Candidate.{Candidate}
use Rattle.muni_sched.specs.declared.candidate.Shape.{Shape}
use Rattle.muni_sched.specs.declared.candidate.Shape.TheVariants.{Many, One, AtRedemption, Discount}
use Rattle.muni_sched.specs.declared.outcome.CandidateOutcome.{CandidateOutcome}
use Rattle.muni_sched.specs.declared.outcome.CandidateOutcome.TheVariants.{Print, Unsure, Below, Above, NoTime}
use Rattle.muni_sched.specs.GivenFigure.{at_yield, IsFigureInDoubt}
use Rattle.muni_sched.specs.Candidates.{IsCandidate}
use Rattle.muni_sched.specs.Exact.{IsExactPriceBy, IsExactPriceOf}
use Rattle.muni_sched.specs.Lowest.{outcome_at, AllAreAbove}
use Rattle.muni_sched.specs.PriceOutcome.{IsShapeAtYield, IsAtYield, price_outcome, one_price, IsPriceOutcomeFor, IsCandidatePrice, IsPrintable}
use Rattle.muni_sched.specs.Range.{IsGivenFor, given_range}
use Rattle.muni_sched.specs.Shape.{IsPriceable}
use Rattle.muni_sched.specs.Sound.{IsSoundUnsure, IsSound}
use Rattle.muni_sched.specs.ToCome.{ToCome, many, one, to_come_of}

-- ---- what is to come is in range
abbrev pub IsPriced : ℤ → ToCome → Type 0
IsPriced y (many series) = IsSeries series × (2 ≤ series.n) × IsManyPeriodsBoundary y
IsPriced y (one least payment) = pos 0 <ℤ growth payment y

shape-priced : (y : ℤ) (shape : Shape) → IsPriceable shape → IsShapeAtYield shape → IsWithin (given_range shape) y → IsPriced y (to_come_of shape)
shape-priced y (Many series) is basis given = (is.0, is.1, (let least = given.0 in omega (arith, ints, least), let most = given.1 in omega (arith, ints, most)))
shape-priced y (One payment) is basis given = let within = (growth-within payment.basis single.OnePeriod payment.left y is.left.0 is.left.1 given).0 in omega (arith, ints, within)
shape-priced y (AtRedemption payment) is basis given = let within = (growth-within payment.basis single.AtRedemption payment.left y is.left.0 is.left.1 given).0 in omega (arith, ints, within)
shape-priced y (Discount days year) is basis given = absurd basis

pub priced : (y : ℤ) (candidate : Candidate) → IsCandidate candidate → IsAtYield candidate → IsGivenFor y candidate → IsPriced y (to_come_of candidate.shape)
priced y candidate is basis given = shape-priced y candidate.shape is basis given

-- ---- an answer as an exact outcome
pub printed-same : (basis : Basis) (Reaches : ℤ → Type 0) (t : ℕ) (exactly : ExactOutcome) → IsClosed Reaches → IsPrintedPriceBy basis Reaches t → IsExactPriceBy basis Reaches exactly → exactly ≡ prints (pos t)
printed-same basis Reaches t (prints (pos u)) closed print is = let same = printed-one basis Reaches t u closed print is in ap (λ v. prints (pos v)) (sym same)
printed-same basis Reaches t (prints (negsuc u)) closed print is = absurd is
printed-same basis Reaches t is_below closed print is = absurd (is.zero_not_reached (closed (thousandths_by basis t) (pos 0) (thousandths-from basis t) print.reached))
printed-same basis Reaches t is_above closed print is = absurd is
printed-same basis Reaches t no_time closed print is = absurd is

pub below-same : (basis : Basis) (Reaches : ℤ → Type 0) (exactly : ExactOutcome) → IsClosed Reaches → IsBelowZero Reaches → IsExactPriceBy basis Reaches exactly → exactly ≡ is_below
below-same basis Reaches (prints (pos u)) closed below is = absurd (below.zero_not_reached (closed (thousandths_by basis u) (pos 0) (thousandths-from basis u) is.reached))
below-same basis Reaches (prints (negsuc u)) closed below is = absurd is
below-same basis Reaches is_below closed below is = refl
below-same basis Reaches is_above closed below is = absurd is
below-same basis Reaches no_time closed below is = absurd is

price-timed : (Reaches : ℤ → Type 0) (exactly : ExactOutcome) → IsExactPriceBy Thirty360 Reaches exactly → ¬ (exactly ≡ no_time)
price-timed Reaches exactly is never = subst (IsExactPriceBy Thirty360 Reaches) never is

price-from : (Reaches : ℤ → Type 0) (t : ℕ) (exactly : ExactOutcome) → IsClosed Reaches → Reaches (thousandths t) → IsExactPriceBy Thirty360 Reaches exactly → IsFrom (pos t) exactly
price-from Reaches t (prints (pos u)) closed reached is =
    ⊎_elim
    (λ (less : u < t). absurd (is.next_not_reached (closed (thousandths t) (thousandths (u + 1)) (omega (arith, ints)) reached)))
    (λ (order : t ≤ u). omega (arith, ints))
    (cases_lt u t)
price-from Reaches t (prints (negsuc u)) closed reached is = absurd is
price-from Reaches t is_below closed reached is = is.zero_not_reached (closed (thousandths t) (pos 0) (omega (arith, ints)) reached)
price-from Reaches t is_above closed reached is = absurd is
price-from Reaches t no_time closed reached is = absurd is

-- ---- many payments
-- below the least boundary that is left open each is reached
not_no : (said : Verdict) → ¬ (said ≡ verdict.Unsure) → ¬ (said ≡ verdict.No) → said ≡ verdict.Yes
not_no verdict.Yes open_yet missed = refl
not_no verdict.No open_yet missed = absurd (missed refl)
not_no verdict.Unsure open_yet missed = absurd (open_yet refl)

reached-below : (said : ℕ → Verdict) (b t : ℕ) → IsUndecidedAt said b → t < b → said t ≡ verdict.Yes
reached-below said b zero is less = not_no (said zero) (is.least zero less) is.not_below_zero
reached-below said b (suc t) is less =
    let before : t < b = omega arith in
    let next : t + 1 ≡ suc t = omega arith in
    not_no (said (suc t)) (is.least (suc t) less) (λ missed. is.not_printed t (reached-below said b t is before) (ap said next ∙ missed))

not-least : (b : ℕ) → (pos b -ℤ pos 1) ≢ negsuc 0 → 0 < b
not-least zero other = absurd (other (omega (arith, ints)))
not-least (suc b) other = omega arith

many-unsure : (series : PaymentSeries) (y : ℤ) (enclosure : WorthEnds) (b : ℕ) (exactly : ExactOutcome) → IsEnclosed series y enclosure → IsUndecidedAt (λ t. at_least_verdict (ends_of series y enclosure) (dirty_thousandths series.accrued t)) b → IsDoubtful series y (thousandths b) → IsExactPriceOf y (many series) exactly
    → IsSoundUnsure (negsuc 0) (IsFigureInDoubt (at_yield y) (many series)) (pos b -ℤ pos 1) exactly
many-unsure series y enclosure b exactly given is doubt exact_is = record {
  doubtful = let next : ((pos b -ℤ pos 1) +ℤ pos 1) ≡ pos b = omega (arith, ints) in subst (IsFigureInDoubt (at_yield y) (many series)) (sym next) doubt;
  timed = price-timed (periods.AtLeast (to_come series) y) exactly exact_is;
  reached = λ other.
      let some : 0 < b = not-least b other in
      let said = reached-below (λ t. at_least_verdict (ends_of series y enclosure) (dirty_thousandths series.accrued t)) b (b - 1) is (omega (arith, some)) in
      let reached : periods.AtLeast (to_come series) y (thousandths (b - 1)) = at_least-true series y enclosure (360000000 * (b - 1)) _ given refl said in
      let before : pos (b - 1) ≡ (pos b -ℤ pos 1) = omega (arith, ints, some) in
      subst (λ t. IsFrom t exactly) before (price-from (periods.AtLeast (to_come series) y) (b - 1) exactly (many-closed (to_come series) y) reached exact_is);
}

many-sound : (series : PaymentSeries) (y : ℤ) (enclosure : WorthEnds) (answer : PriceAnswer) (exactly : ExactOutcome) → IsEnclosed series y enclosure → multi.IsSeriesPriceOutcome (λ t. at_least_verdict (ends_of series y enclosure) (dirty_thousandths series.accrued t)) answer → IsExactPriceOf y (many series) exactly
    → IsSound (negsuc 0) (IsFigureInDoubt (at_yield y) (many series)) (price_outcome answer) exactly
many-sound series y enclosure (found.Price t) exactly given is exact_is =
    printed-same Thirty360 (periods.AtLeast (to_come series) y) t exactly (many-closed (to_come series) y) (outcome-exact series y enclosure (found.Price t) given is) exact_is
many-sound series y enclosure found.BelowZero exactly given is exact_is =
    below-same Thirty360 (periods.AtLeast (to_come series) y) exactly (many-closed (to_come series) y) (outcome-exact series y enclosure found.BelowZero given is) exact_is
many-sound series y enclosure (found.Undecided b) exactly given is exact_is =
    many-unsure series y enclosure b exactly given is (outcome-doubtful series y enclosure (found.Undecided b) given is) exact_is

-- ---- one payment
single-sound : (payment : SinglePayment) (y : ℤ) (answer : SimplePrice) (IsDoubtfulAt : ℤ → Type 0) (exactly : ExactOutcome) → pos 0 <ℤ growth payment y → simple.IsPriceAnswer payment.basis (AtLeast payment y) answer → IsExactPriceBy payment.basis (AtLeast payment y) exactly → IsSound (negsuc 0) IsDoubtfulAt (one_price answer) exactly
single-sound payment y (exact.Price t) D exactly above is exact_is =
    printed-same payment.basis (AtLeast payment y) t exactly (AtLeast-closed payment y above) is exact_is
single-sound payment y exact.BelowZero D exactly above is exact_is =
    below-same payment.basis (AtLeast payment y) exactly (AtLeast-closed payment y above) is exact_is

-- ---- each candidate
-- two ends enclose the worth of every series at this yield
abbrev pub AreEnclosedAt : (ends : PaymentSeries → ℤ → WorthEnds) → ℤ → Type 0
AreEnclosedAt ends y = (series : PaymentSeries) → IsSeries series → 2 ≤ series.n → IsManyPeriodsBoundary y → IsEnclosed series y (ends series y)

pub price-sound : (ends : PaymentSeries → ℤ → WorthEnds) (y : ℤ) (to_be : ToCome) (outcome : CandidateOutcome) (exactly : ExactOutcome) → IsPriced y to_be → AreEnclosedAt ends y → IsPriceOutcomeFor ends y to_be outcome → IsExactPriceOf y to_be exactly
    → IsSound (negsuc 0) (IsFigureInDoubt (at_yield y) to_be) outcome exactly
price-sound ends y (many series) outcome exactly range law is exact_is =
    subst (λ x. IsSound (negsuc 0) (IsFigureInDoubt (at_yield y) (many series)) x exactly) (sym is.2)
    (many-sound series y (ends series y) is.0 exactly (law series range.0 range.1 range.2) is.1 exact_is)
price-sound ends y (one least payment) outcome exactly range law is exact_is =
    subst (λ x. IsSound (negsuc 0) (IsFigureInDoubt (at_yield y) (one least payment)) x exactly) (sym is.2) (single-sound payment y is.0 (IsFigureInDoubt (at_yield y) (one least payment)) exactly range is.1 exact_is)

-- ---- doubt
simple-sure : (answer : SimplePrice) (s : ℤ) → ¬ (one_price answer ≡ Unsure s)
simple-sure (exact.Price t) s same = cc
simple-sure exact.BelowZero s same = cc

found-doubt : (series : PaymentSeries) (y : ℤ) (s : ℤ) (answer : PriceAnswer) → multi.IsDoubtfulAnswer series y answer → price_outcome answer ≡ Unsure s → IsFigureInDoubt (at_yield y) (many series) (s +ℤ pos 1)
found-doubt series y s (found.Price t) doubt same = absurd (let never : Print (pos t) ≡ Unsure s = same in cc)
found-doubt series y s found.BelowZero doubt same = absurd (let never : Below ≡ Unsure s = same in cc)
found-doubt series y s (found.Undecided b) doubt same =
    let figure : (pos b -ℤ pos 1) ≡ s = cc in
    let next : (s +ℤ pos 1) ≡ pos b = omega (arith, ints, figure) in
    subst (IsFigureInDoubt (at_yield y) (many series)) (sym next) doubt

pub price-doubt : (ends : PaymentSeries → ℤ → WorthEnds) (y s : ℤ) (to_be : ToCome) (outcome : CandidateOutcome) → IsPriced y to_be → AreEnclosedAt ends y → IsPriceOutcomeFor ends y to_be outcome → outcome ≡ Unsure s → IsFigureInDoubt (at_yield y) to_be (s +ℤ pos 1)
price-doubt ends y s (many series) outcome range law is same =
    found-doubt series y s is.0 (outcome-doubtful series y (ends series y) is.0 (law series range.0 range.1 range.2) is.1) (sym is.2 ∙ same)
price-doubt ends y s (one least payment) outcome range law is same = absurd (simple-sure is.0 s (sym is.2 ∙ same))

-- ---- a price is neither above all figures nor without time
many-timed : (answer : PriceAnswer) → ¬ (price_outcome answer ≡ NoTime)
many-timed (found.Price t) never = cc
many-timed found.BelowZero never = cc
many-timed (found.Undecided b) never = cc

one-timed : (answer : SimplePrice) → ¬ (one_price answer ≡ NoTime)
one-timed (exact.Price t) never = cc
one-timed exact.BelowZero never = cc

many-not_above : (answer : PriceAnswer) → ¬ (price_outcome answer ≡ Above)
many-not_above (found.Price t) never = cc
many-not_above found.BelowZero never = cc
many-not_above (found.Undecided b) never = cc

one-not_above : (answer : SimplePrice) → ¬ (one_price answer ≡ Above)
one-not_above (exact.Price t) never = cc
one-not_above exact.BelowZero never = cc

timed : (ends : PaymentSeries → ℤ → WorthEnds) (y : ℤ) (to_be : ToCome) (outcome : CandidateOutcome) → IsPriceOutcomeFor ends y to_be outcome → ¬ (outcome ≡ NoTime)
timed ends y (many series) outcome is never = many-timed is.0 (sym is.2 ∙ never)
timed ends y (one least payment) outcome is never = one-timed is.0 (sym is.2 ∙ never)

pub all-timed : (ends : PaymentSeries → ℤ → WorthEnds) (y : ℤ) (list : List Candidate) (outcomes : List CandidateOutcome) → AllZip (IsCandidatePrice ends y) list outcomes → (c : ℕ) → ¬ (outcome_at outcomes c ≡ NoTime)
all-timed ends y [] [] is c never = let wrong : Above ≡ NoTime = never in cc
all-timed ends y [] (x ∷ outcomes) is c never = absurd is
all-timed ends y (candidate ∷ list) [] is c never = absurd is
all-timed ends y (candidate ∷ list) (x ∷ outcomes) is zero never = timed ends y (to_come_of candidate.shape) x is.0 never
all-timed ends y (candidate ∷ list) (x ∷ outcomes) is (suc c) never = all-timed ends y list outcomes is.1 c never

-- if all are above, the first is none of these
not-above : (outcomes : List CandidateOutcome) (outcome : CandidateOutcome) → outcome_at outcomes 0 ≡ outcome → ¬ (outcome ≡ Above) → ¬ (outcome ≡ NoTime) → ¬ (AllAreAbove (negsuc 0) outcomes)
not-above outcomes (Print t) same other time all = all.none_printed t 0 same
not-above outcomes (Unsure s) same other time all = all.none_material s 0 (record { unsure = same; matters = λ m h print. absurd (all.none_printed m h print.first.such) })
not-above outcomes Below same other time all = all.reach.none_below 0 (inl same)
not-above outcomes Above same other time all = other refl
not-above outcomes NoTime same other time all = time refl

first-below_all : (ends : PaymentSeries → ℤ → WorthEnds) (y : ℤ) (to_be : ToCome) (outcome : CandidateOutcome) → IsPriceOutcomeFor ends y to_be outcome → ¬ (outcome ≡ Above)
first-below_all ends y (many series) outcome is never = many-not_above is.0 (sym is.2 ∙ never)
first-below_all ends y (one least payment) outcome is never = one-not_above is.0 (sym is.2 ∙ never)

pub never-above : (ends : PaymentSeries → ℤ → WorthEnds) (y : ℤ) (list : List Candidate) (outcomes : List CandidateOutcome) → 0 < length list → AllZip (IsCandidatePrice ends y) list outcomes → ¬ (AllAreAbove (negsuc 0) outcomes)
never-above ends y [] outcomes some is all = absurd (omega arith)
never-above ends y (candidate ∷ list) [] some is all = absurd is
never-above ends y (candidate ∷ list) (x ∷ outcomes) some is all =
    not-above (x ∷ outcomes) x refl (first-below_all ends y (to_come_of candidate.shape) x is.0) (timed ends y (to_come_of candidate.shape) x is.0) all

-- a price in its range is one that a candidate may have
pub printable : (answer : PriceAnswer) → multi.figure answer ≤ 100_000_000 → IsPrintable answer
printable (found.Price t) small = (omega (arith, ints), omega (arith, ints, small))
printable found.BelowZero small = tt
printable (found.Undecided b) small = (omega (arith, ints), omega (arith, ints, small))
