-- The outcome of a candidate is true of its exact yield, and unsure only in doubt.
use Rattle.std.proofs.Common.{◌≡◌, ◌≢◌, ◌<◌, ◌≤◌, ◌*◌, ℕ, refl, ap, sym, subst, ⊎_elim, arith, ◌∙◌, ℤ, pos, negsuc, ◌+ℤ◌, ◌≤ℤ◌, ◌<ℤ◌}
use Rattle.std.proofs.lemmas.Int.{ints}
use Rattle.muni_rule.specs.Accuracy.{price_amount}
use Rattle.muni_rule.specs.declared.basis.Basis.{Basis}
use Rattle.muni_rule.specs.declared.basis.Basis.TheVariants.{Thirty360, Actual365}
use Rattle.muni_rule.specs.ManyPeriods as periods
use Rattle.muni_rule.specs.ManyPeriods.{to_come}
use Rattle.muni_rule.specs.Outcomes.{IsBelow, IsAbove, IsPrint, HasOneOutcome}
use Rattle.muni_rule.specs.Payments.{PaymentSeries, IsSeries}
use Rattle.muni_rule.specs.PrintedYield.{Reached, Falls}
use Rattle.muni_rule.specs.Schedule.{ExactOutcome, prints, is_below, is_above, no_time, IsFrom}
use Rattle.muni_rule.specs.SinglePayment.{SinglePayment, AtLeast, More}
use Rattle.muni_rule.specs.declared.verdict.Verdict.{Verdict}
use Rattle.muni_rule.proofs.ManyPeriodFallLemmas.{many_periods-fall, at_least-decided, more-decided}
use Rattle.muni_rule.proofs.OutcomeLemmas.{one_outcome}
use Rattle.muni_rule.proofs.YieldLemmas.{reached-le}
use Rattle.muni_rule.specs.WorthEnds.{WorthEnds}
use Rattle.muni_simple.specs.Yields.{IsYieldAnswer, greatest_printed}
use Rattle.muni_simple.specs.declared.yields.SimpleYield.{SimpleYield}
use Rattle.muni_simple.specs.declared.yields.SimpleYield.TheVariants as simple
use Rattle.muni_simple.proofs.OneAnswer.{answer-same}
use Rattle.muni_yield.specs.Outcome as search
use Rattle.muni_yield.specs.Outcome.{IsDoubtfulAbove, IsDoubtfulOutcome, IsVerdictOutcome}
use Rattle.muni_yield.specs.Places.{place_verdict, yield_verdict}
use Rattle.muni_yield.specs.Settled.{final_of}
use Rattle.muni_yield.specs.declared.outcome.Outcome as yields
use Rattle.muni_yield.specs.declared.outcome.Outcome.TheVariants as found
use Rattle.muni_yield.proofs.FinalLemmas.{final-verdict, final-true, final-doubtful}
use Rattle.muni_yield.proofs.PlaceLemmas.{AreEnclosed}
use Rattle.muni_sched.specs.declared.candidate.Shape.{Shape}
use Rattle.muni_sched.specs.declared.candidate.Shape.TheVariants.{Many, One, AtRedemption, Discount}
use Rattle.muni_sched.specs.declared.outcome.CandidateOutcome.{CandidateOutcome}
use Rattle.muni_sched.specs.declared.outcome.CandidateOutcome.TheVariants.{Print, Unsure, Below, Above}
use Rattle.muni_sched.specs.GivenFigure.{at_price, IsFigureInDoubt}
use Rattle.muni_sched.specs.Exact.{IsExactIn, IsExactSingle, IsExactYieldOf}
use Rattle.muni_sched.specs.Shape.{IsPriceable}
use Rattle.muni_sched.specs.Sound.{IsSoundUnsure, IsSound}
use Rattle.muni_sched.specs.ToCome.{ToCome, many, one, to_come_of}
use Rattle.muni_sched.specs.YieldOutcome.{many_yield, one_yield, IsOneOutcome, IsYieldOutcomeFor, final}
use Rattle.muni_sched.proofs.IntLemmas.{less_or_not}

-- ---- what is to come is in range
-- of many payments: the bounds of a series, and two or more; of one, that it does not pay less than nothing
abbrev pub IsBounded : ToCome → Type 0
IsBounded (many series) = IsSeries series × (2 ≤ series.n)
IsBounded (one least payment) = (negsuc 90000 ≤ℤ least) × (least ≤ℤ pos 0) × (pos 0 ≤ℤ payment.accrued)

pub bounded : (shape : Shape) → IsPriceable shape → IsBounded (to_come_of shape)
bounded (Many series) is = is
bounded (One payment) is = (omega (arith, ints), omega (arith, ints), is.accrued.0)
bounded (AtRedemption payment) is = (omega (arith, ints), omega (arith, ints), is.accrued.0)
bounded (Discount days basis) is = (omega (arith, ints), omega (arith, ints), omega (arith, ints))

-- and the days left are counted from 0 up
abbrev pub IsTimed : ToCome → Type 0
IsTimed (many series) = IsBounded (many series)
IsTimed (one least payment) = IsBounded (one least payment) × (pos 0 ≤ℤ payment.left)

pub timed : (shape : Shape) → IsPriceable shape → IsTimed (to_come_of shape)
timed (Many series) is = bounded (Many series) is
timed (One payment) is = (bounded (One payment) is, is.left.0)
timed (AtRedemption payment) is = (bounded (AtRedemption payment) is, is.left.0)
timed (Discount days basis) is = (bounded (Discount days basis) is, is.0)

pub bounds : (to_be : ToCome) → IsTimed to_be → IsBounded to_be
bounds (many series) is = is
bounds (one least payment) is = is.0

-- a printed yield is at each one that is reached, or above
print-from : {AtLeast More : ℤ → Type 0} → Falls AtLeast More → (least greatest s t : ℤ) → IsPrint least greatest AtLeast More t → Reached AtLeast More s → s ≤ℤ t
print-from falls least greatest s t print reached =
    ⊎_elim
    (λ (past : t <ℤ s). absurd (print.printed.next_not_reached (reached-le falls (t +ℤ pos 1) s (omega (arith, ints, past)) reached)))
    (λ (order : s ≤ℤ t). order)
    (less_or_not t s)

-- ---- many payments
abbrev pub AtPrice : PaymentSeries → ℕ → ℤ → Type 0
AtPrice series price y = periods.AtLeast (to_come series) y (pos (360000 * price))

abbrev pub MoreThan : PaymentSeries → ℕ → ℤ → Type 0
MoreThan series price y = periods.More (to_come series) y (pos (360000 * price))

-- an outcome is the exact one
pub in-print : (least greatest : ℤ) (AtLeast More : ℤ → Type 0) (t : ℤ) (exact : ExactOutcome) → HasOneOutcome least greatest AtLeast More → IsPrint least greatest AtLeast More t → IsExactIn least greatest AtLeast More exact → exact ≡ prints t
in-print least greatest AtLeast More t (prints u) has print is = ap prints (has.one_is_printed u t is print)
in-print least greatest AtLeast More t is_below has print is = absurd (has.not_below_and_printed t is print)
in-print least greatest AtLeast More t is_above has print is = absurd (has.not_above_and_printed t is print)
in-print least greatest AtLeast More t no_time has print is = absurd is

pub in-below : (least greatest : ℤ) (AtLeast More : ℤ → Type 0) (exact : ExactOutcome) → HasOneOutcome least greatest AtLeast More → IsBelow least AtLeast More → IsExactIn least greatest AtLeast More exact → exact ≡ is_below
in-below least greatest AtLeast More (prints u) has below is = absurd (has.not_below_and_printed u below is)
in-below least greatest AtLeast More is_below has below is = refl
in-below least greatest AtLeast More is_above has below is = absurd (has.not_below_and_above below is)
in-below least greatest AtLeast More no_time has below is = absurd is

pub in-above : (least greatest : ℤ) (AtLeast More : ℤ → Type 0) (exact : ExactOutcome) → HasOneOutcome least greatest AtLeast More → IsAbove greatest AtLeast More → IsExactIn least greatest AtLeast More exact → exact ≡ is_above
in-above least greatest AtLeast More (prints u) has above is = absurd (has.not_above_and_printed u above is)
in-above least greatest AtLeast More is_below has above is = absurd (has.not_below_and_above is above)
in-above least greatest AtLeast More is_above has above is = refl
in-above least greatest AtLeast More no_time has above is = absurd is

exact-timed : (least greatest : ℤ) (AtLeast More : ℤ → Type 0) (exact : ExactOutcome) → IsExactIn least greatest AtLeast More exact → ¬ (exact ≡ no_time)
exact-timed least greatest AtLeast More exact is never = subst (IsExactIn least greatest AtLeast More) never is

exact-from : (least greatest : ℤ) (AtLeast More : ℤ → Type 0) (s : ℤ) (exact : ExactOutcome) → Falls AtLeast More → least ≤ℤ s → Reached AtLeast More s → IsExactIn least greatest AtLeast More exact → IsFrom s exact
exact-from least greatest AtLeast More s (prints t) falls from reached is = print-from falls least greatest s t is reached
exact-from least greatest AtLeast More s is_below falls from reached is = is.least_not_reached (reached-le falls least s from reached)
exact-from least greatest AtLeast More s is_above falls from reached is = tt
exact-from least greatest AtLeast More s no_time falls from reached is = is

not-least : (lower : ℤ) → negsuc 5000 ≤ℤ lower → lower ≢ negsuc 5000 → negsuc 4999 ≤ℤ lower
not-least lower from other =
    ⊎_elim
    (λ (more : negsuc 5000 <ℤ lower). omega (arith, ints, more))
    (λ (least : lower ≤ℤ negsuc 5000). absurd (other (omega (arith, ints, from, least))))
    (less_or_not (negsuc 5000) lower)

many-unsure : (series : PaymentSeries) (price : ℕ) (lower : ℤ) (exact : ExactOutcome) → IsSeries series → 2 ≤ series.n → negsuc 5000 ≤ℤ lower → IsDoubtfulAbove series price lower → IsExactYieldOf price (many series) exact
    → IsSoundUnsure (negsuc 5000) (IsFigureInDoubt (at_price price) (many series)) lower exact
many-unsure series price lower exact is more from doubt exactly = record {
  doubtful = doubt.doubtful;
  timed = exact-timed search.least_printed search.greatest_printed (AtPrice series price) (MoreThan series price) exact exactly;
  reached = λ other. ⊎_elim
      (λ (least : lower ≡ negsuc 5000). absurd (other least))
      (λ (reached : Reached (AtPrice series price) (MoreThan series price) lower).
      exact-from search.least_printed search.greatest_printed (AtPrice series price) (MoreThan series price) lower exact (many_periods-fall series (pos (360000 * price)) is more) (not-least lower from other) reached exactly)
      doubt.reached;
}

many-sound : (series : PaymentSeries) (price : ℕ) (outcome : yields.Outcome) (exact : ExactOutcome) (said : ℤ → Verdict) → IsSeries series → 2 ≤ series.n → HasOneOutcome search.least_printed search.greatest_printed (AtPrice series price) (MoreThan series price)
    → search.IsYieldOutcome (AtPrice series price) (MoreThan series price) outcome → IsDoubtfulOutcome series price outcome → IsVerdictOutcome said outcome → IsExactYieldOf price (many series) exact
    → IsSound (negsuc 5000) (IsFigureInDoubt (at_price price) (many series)) (many_yield outcome) exact
many-sound series price (found.Print t) exact said is more has holds doubt verdict exactly =
    in-print search.least_printed search.greatest_printed (AtPrice series price) (MoreThan series price) t exact has holds exactly
many-sound series price found.Below exact said is more has holds doubt verdict exactly = in-below search.least_printed search.greatest_printed (AtPrice series price) (MoreThan series price) exact has holds exactly
many-sound series price found.Above exact said is more has holds doubt verdict exactly = in-above search.least_printed search.greatest_printed (AtPrice series price) (MoreThan series price) exact has holds exactly
many-sound series price (found.Unsure lower) exact said is more has holds doubt verdict exactly = many-unsure series price lower exact is more verdict.least doubt exactly

pub many-outcome : (series : PaymentSeries) (price : ℕ) → IsSeries series → 2 ≤ series.n → HasOneOutcome search.least_printed search.greatest_printed (AtPrice series price) (MoreThan series price)
many-outcome series price is more =
    one_outcome search.least_printed search.greatest_printed (AtPrice series price) (MoreThan series price) (many_periods-fall series (pos (360000 * price)) is more)
    (λ y. at_least-decided (to_come series) y (pos (360000 * price))) (λ y. more-decided (to_come series) y (pos (360000 * price))) (omega (arith, ints))

final-sound : (ends : PaymentSeries → ℤ → WorthEnds) (series : PaymentSeries) (price : ℕ) (exact : ExactOutcome) → IsSeries series → 2 ≤ series.n → 0 < price → AreEnclosed series (ends series) → IsExactYieldOf price (many series) exact
    → IsSound (negsuc 5000) (IsFigureInDoubt (at_price price) (many series)) (final (place_verdict ends) price series) exact
final-sound ends series price exact is more some law exactly =
    many-sound series price (final_of (place_verdict ends) series price) exact (yield_verdict (ends series) series price) is more
    (many-outcome series price is more)
    (final-true ends series price is more some law) (final-doubtful ends series price more some law) (final-verdict ends series price more some) exactly

-- ---- one payment
-- an exact outcome as the calculator answers it
abbrev simple-of : ExactOutcome → SimpleYield
simple-of (prints t) = simple.Print t
simple-of is_below = simple.Below
simple-of is_above = simple.Above
simple-of no_time = simple.NoTime

in-answer : (least : ℤ) (payment : SinglePayment) (amount : ℤ) (exact : ExactOutcome) → pos 0 <ℤ payment.left → IsExactIn least greatest_printed (λ y. AtLeast payment y amount) (λ y. More payment y amount) exact → IsYieldAnswer least payment amount (simple-of exact)
in-answer least payment amount (prints t) left is = (left, is)
in-answer least payment amount is_below left is = (left, is)
in-answer least payment amount is_above left is = (left, is)
in-answer least payment amount no_time left is = absurd is

exact-answer : (least : ℤ) (payment : SinglePayment) (amount : ℤ) (exact : ExactOutcome) → IsExactSingle least payment amount exact → IsYieldAnswer least payment amount (simple-of exact)
exact-answer least payment amount exact is =
    ⊎_elim
    (λ (none : (payment.left ≡ pos 0) × (exact ≡ no_time)). subst (λ e. IsYieldAnswer least payment amount (simple-of e)) (sym none.1) none.0)
    (λ (some : (pos 0 <ℤ payment.left) × IsExactIn least greatest_printed (λ y. AtLeast payment y amount) (λ y. More payment y amount) exact). in-answer least payment amount exact some.0 some.1)
    is

simple-sound : (exact : ExactOutcome) (IsDoubtfulAt : ℤ → Type 0) → IsSound (negsuc 5000) IsDoubtfulAt (one_yield (simple-of exact)) exact
simple-sound (prints t) D = refl
simple-sound is_below D = refl
simple-sound is_above D = refl
simple-sound no_time D = refl

-- a price above 0 is some amount, with the accrued interest
amount-above : (basis : Basis) (accrued : ℤ) (price : ℕ) → pos 0 ≤ℤ accrued → 0 < price → pos 0 <ℤ (price_amount basis price +ℤ accrued)
amount-above Thirty360 accrued price from some = omega (arith, ints, from, some)
amount-above Actual365 accrued price from some = omega (arith, ints, from, some)

pub price-above : (payment : SinglePayment) (price : ℕ) → pos 0 ≤ℤ payment.accrued → 0 < price → pos 0 <ℤ (price_amount payment.basis price +ℤ payment.accrued)
price-above payment price accrued some = amount-above payment.basis payment.accrued price accrued some

single-sound : (least : ℤ) (payment : SinglePayment) (price : ℕ) (outcome : CandidateOutcome) (IsDoubtfulAt : ℤ → Type 0) (exact : ExactOutcome) → IsBounded (one least payment) → 0 < price → IsOneOutcome price least payment outcome → IsExactSingle least payment (price_amount payment.basis price) exact → IsSound (negsuc 5000) IsDoubtfulAt outcome exact
single-sound least payment price outcome D exact range some told exactly =
    let above = price-above payment price range.2 some in
    let wanted = exact-answer least payment (price_amount payment.basis price) exact exactly in
    let least_order : least ≤ℤ greatest_printed = let most = range.1 in omega (arith, ints, most) in
    let same = answer-same least payment (price_amount payment.basis price) told.0 (simple-of exact) least_order above told.1 wanted in
    subst (λ x. IsSound (negsuc 5000) D x exact) (sym (told.2 ∙ ap one_yield same)) (simple-sound exact D)

-- ---- what is to come of a candidate
-- two ends enclose the worth of every series at every yield
abbrev pub EncloseAll : (ends : PaymentSeries → ℤ → WorthEnds) → Type 0
EncloseAll ends = (series : PaymentSeries) → IsSeries series → 2 ≤ series.n → AreEnclosed series (ends series)

pub yield-sound : (ends : PaymentSeries → ℤ → WorthEnds) (price : ℕ) (to_be : ToCome) (outcome : CandidateOutcome) (exact : ExactOutcome) → IsBounded to_be → 0 < price → EncloseAll ends → IsYieldOutcomeFor (place_verdict ends) price to_be outcome → IsExactYieldOf price to_be exact
    → IsSound (negsuc 5000) (IsFigureInDoubt (at_price price) to_be) outcome exact
yield-sound ends price (many series) outcome exact range some law is exactly =
    subst (λ x. IsSound (negsuc 5000) (IsFigureInDoubt (at_price price) (many series)) x exact) (sym is) (final-sound ends series price exact range.0 range.1 some (law series range.0 range.1) exactly)
yield-sound ends price (one least payment) outcome exact range some law is exactly = single-sound least payment price outcome (IsFigureInDoubt (at_price price) (one least payment)) exact range some is exactly

-- ---- doubt, if nothing is known of the exact yields
-- if an outcome is unsure, what is to come is in doubt at the next figure
simple-sure : (answer : SimpleYield) (s : ℤ) → ¬ (one_yield answer ≡ Unsure s)
simple-sure (simple.Print t) s same = cc
simple-sure simple.Below s same = cc
simple-sure simple.Above s same = cc
simple-sure simple.NoTime s same = cc

found-doubt : (series : PaymentSeries) (price : ℕ) (s : ℤ) (outcome : yields.Outcome) → IsDoubtfulOutcome series price outcome → many_yield outcome ≡ Unsure s → IsFigureInDoubt (at_price price) (many series) (s +ℤ pos 1)
found-doubt series price s (found.Print t) doubt same = absurd (let never : Print t ≡ Unsure s = same in cc)
found-doubt series price s found.Below doubt same = absurd (let never : Below ≡ Unsure s = same in cc)
found-doubt series price s found.Above doubt same = absurd (let never : Above ≡ Unsure s = same in cc)
found-doubt series price s (found.Unsure lower) doubt same =
    let figure : lower ≡ s = cc in
    subst (λ t. IsFigureInDoubt (at_price price) (many series) (t +ℤ pos 1)) figure doubt.doubtful

pub yield-doubt : (ends : PaymentSeries → ℤ → WorthEnds) (price : ℕ) (s : ℤ) (to_be : ToCome) (outcome : CandidateOutcome) → IsBounded to_be → 0 < price → EncloseAll ends → IsYieldOutcomeFor (place_verdict ends) price to_be outcome → outcome ≡ Unsure s → IsFigureInDoubt (at_price price) to_be (s +ℤ pos 1)
yield-doubt ends price s (many series) outcome range some law is same =
    found-doubt series price s (final_of (place_verdict ends) series price) (final-doubtful ends series price range.1 some (law series range.0 range.1)) (sym is ∙ same)
yield-doubt ends price s (one least payment) outcome range some law is same = absurd (simple-sure is.0 s (sym is.2 ∙ same))
