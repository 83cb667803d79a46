-- A candidate has one exact outcome.
use Rattle.std.proofs.Common.{◌≡◌, ◌<◌, ℕ, [], ◌∷◌, refl, arith, ◌⊎◌, ⊎_elim, inl, inr, ℤ, pos, ◌+ℤ◌, ◌*ℤ◌, ◌≤ℤ◌, ◌<ℤ◌}
use Rattle.std.proofs.lemmas.Int.{ints}
use Rattle.std.proofs.lemmas.List.Elements.{All-head}
use Rattle.muni_rule.specs.Accuracy.{price_amount}
use Rattle.muni_rule.specs.declared.basis.Basis as rule
use Rattle.muni_rule.specs.declared.basis.Basis.TheVariants.{Thirty360}
use Rattle.muni_rule.specs.ManyPeriods as periods
use Rattle.muni_rule.specs.ManyPeriods.{to_come, discount_divisor, asked_power, worth_power}
use Rattle.muni_rule.specs.Outcomes.{IsBelow, IsAbove, IsPrint, HasOneOutcome}
use Rattle.muni_rule.specs.Printed.{IsPrintedPriceBy, IsBelowZero, IsClosed, HasOnePriceBy}
use Rattle.muni_rule.specs.Schedule.{prints, is_below, is_above, no_time}
use Rattle.muni_rule.specs.SinglePayment.{SinglePayment, no_growth, growth, AtLeast, More}
use Rattle.muni_rule.proofs.AtLeastLemmas.{AtLeast-closed, many-closed}
use Rattle.muni_rule.proofs.EnclosedLemmas.{divisor-least}
use Rattle.muni_rule.proofs.FallLemmas.{price_falls}
use Rattle.muni_rule.proofs.OnePriceLemmas.{one_payment-price, many_periods-price}
use Rattle.muni_rule.proofs.OutcomeLemmas.{Decided, one_outcome}
use Rattle.muni_simple.specs.Yields.{greatest_printed}
use Rattle.muni_yield.specs.Outcome as search
use Rattle.muni_sched.specs.declared.candidate.Candidate.{Candidate}
use Rattle.muni_sched.specs.AnswerLaws.{HasOne, HasOneExactOutcome, HaveOneExactOutcomes}
use Rattle.muni_sched.specs.GivenFigure.{GivenFigure, at_yield, at_price, IsExact}
use Rattle.muni_sched.specs.Exact.{IsExactIn, IsExactSingle, IsExactYieldOf, IsExactPriceBy, IsExactPriceOf}
use Rattle.muni_sched.specs.ToCome.{ToCome, many, one, to_come_of}
use Rattle.muni_sched.proofs.AllSoundLemmas.{IsAskable, all-askable}
use Rattle.muni_sched.proofs.IntLemmas.{less_or_not}
use Rattle.muni_sched.proofs.PriceSoundLemmas.{IsPriced, printed-same, below-same}
use Rattle.muni_sched.proofs.YieldSoundLemmas.{IsTimed, AtPrice, MoreThan, many-outcome, in-print, in-below, in-above, price-above}
use Rattle.muni_sched.proofs.ZipLemmas.{zip-has_one}

-- ---- yields
-- one of the three outcomes is the exact one, and no other
in-one : (least greatest : ℤ) (AtLeast More : ℤ → Type 0) → HasOneOutcome least greatest AtLeast More → HasOne (IsExactIn least greatest AtLeast More)
in-one least greatest AtLeast More has =
    ⊎_elim
    (λ (below : IsBelow least AtLeast More). record { value = is_below; such = below; only = λ exact is. in-below least greatest AtLeast More exact has below is })
    (λ (rest : IsAbove greatest AtLeast More ⊎ ((t : ℤ) × IsPrint least greatest AtLeast More t)). ⊎_elim
    (λ (above : IsAbove greatest AtLeast More). record { value = is_above; such = above; only = λ exact is. in-above least greatest AtLeast More exact has above is })
    (λ (print : (t : ℤ) × IsPrint least greatest AtLeast More t). record { value = prints print.0; such = print.1; only = λ exact is. in-print least greatest AtLeast More print.0 exact has print.1 is })
    rest)
    has.some

le-decided : (x y : ℤ) → Decided (x ≤ℤ y)
le-decided x y =
    ⊎_elim
    (λ (less : y <ℤ x). inr (λ order. omega (arith, ints, less, order)))
    (λ (order : x ≤ℤ y). inl order)
    (less_or_not y x)

lt-decided : (x y : ℤ) → Decided (x <ℤ y)
lt-decided x y =
    ⊎_elim
    (λ (less : x <ℤ y). inl less)
    (λ (order : y ≤ℤ x). inr (λ less. omega (arith, ints, order, less)))
    (less_or_not x y)

single-outcome : (least : ℤ) (payment : SinglePayment) (amount : ℤ) → least ≤ℤ greatest_printed → pos 0 <ℤ payment.left → pos 0 <ℤ (amount +ℤ payment.accrued) → HasOneOutcome least greatest_printed (λ y. AtLeast payment y amount) (λ y. More payment y amount)
single-outcome least payment amount order left above =
    one_outcome least greatest_printed (λ y. AtLeast payment y amount) (λ y. More payment y amount) (price_falls payment amount left above)
    (λ y. le-decided ((amount +ℤ payment.accrued) *ℤ growth payment y) (payment.due *ℤ no_growth payment))
    (λ y. lt-decided ((amount +ℤ payment.accrued) *ℤ growth payment y) (payment.due *ℤ no_growth payment))
    order

-- with no day left there is no yield, and with some there is one outcome
none-left : (least : ℤ) (payment : SinglePayment) (amount : ℤ) → payment.left ≡ pos 0 → HasOne (IsExactSingle least payment amount)
none-left least payment amount none = record {
  value = no_time;
  such = inl (none, refl);
  only = λ exact is. ⊎_elim
      (λ (same : (payment.left ≡ pos 0) × (exact ≡ no_time)). same.1)
      (λ (some : (pos 0 <ℤ payment.left) × IsExactIn least greatest_printed (λ y. AtLeast payment y amount) (λ y. More payment y amount) exact). absurd (let left = some.0 in omega (arith, ints, none, left)))
      is;
}

some-left : (least : ℤ) (payment : SinglePayment) (amount : ℤ) → pos 0 <ℤ payment.left → HasOne (IsExactIn least greatest_printed (λ y. AtLeast payment y amount) (λ y. More payment y amount)) → HasOne (IsExactSingle least payment amount)
some-left least payment amount left has = record {
  value = has.value;
  such = inr (left, has.such);
  only = λ exact is. ⊎_elim
      (λ (none : (payment.left ≡ pos 0) × (exact ≡ no_time)). absurd (let zero_left = none.0 in omega (arith, ints, zero_left, left)))
      (λ (some : (pos 0 <ℤ payment.left) × IsExactIn least greatest_printed (λ y. AtLeast payment y amount) (λ y. More payment y amount) exact). has.only exact some.1)
      is;
}

single-one : (least : ℤ) (payment : SinglePayment) (amount : ℤ) → least ≤ℤ greatest_printed → pos 0 ≤ℤ payment.left → pos 0 <ℤ (amount +ℤ payment.accrued) → HasOne (IsExactSingle least payment amount)
single-one least payment amount order from above =
    ⊎_elim
    (λ (left : pos 0 <ℤ payment.left).
    some-left least payment amount left (in-one least greatest_printed (λ y. AtLeast payment y amount) (λ y. More payment y amount) (single-outcome least payment amount order left above)))
    (λ (to : payment.left ≤ℤ pos 0). none-left least payment amount (omega (arith, ints, from, to)))
    (less_or_not (pos 0) payment.left)

yield-one : (price : ℕ) (to_be : ToCome) → 0 < price → IsTimed to_be → HasOne (IsExactYieldOf price to_be)
yield-one price (many series) some is = in-one search.least_printed search.greatest_printed (AtPrice series price) (MoreThan series price) (many-outcome series price is.0 is.1)
yield-one price (one least payment) some is =
    let above = price-above payment price is.0.2 some in
    let order : least ≤ℤ greatest_printed = let most = is.0.1 in omega (arith, ints, most) in
    single-one least payment (price_amount payment.basis price) order is.1 above

-- ---- prices
-- a printed price is the exact outcome, and so is none
price-has_one : (basis : rule.Basis) (Reaches : ℤ → Type 0) → IsClosed Reaches → HasOnePriceBy basis Reaches → HasOne (IsExactPriceBy basis Reaches)
price-has_one basis Reaches closed has =
    ⊎_elim
    (λ (below : IsBelowZero Reaches). record { value = is_below; such = below; only = λ exact is. below-same basis Reaches exact closed below is })
    (λ (print : (t : ℕ) × IsPrintedPriceBy basis Reaches t). record { value = prints (pos print.0); such = print.1; only = λ exact is. printed-same basis Reaches print.0 exact closed print.1 is })
    has.some

price-one : (y : ℤ) (to_be : ToCome) → IsPriced y to_be → HasOne (IsExactPriceOf y to_be)
price-one y (many series) range =
    let divisor = divisor-least y range.2 in
    price-has_one Thirty360 (periods.AtLeast (to_come series) y) (many-closed (to_come series) y) (many_periods-price (to_come series) y (omega (arith, divisor)))
price-one y (one least payment) range =
    price-has_one payment.basis (AtLeast payment y) (AtLeast-closed payment y range) (one_payment-price payment y range)

-- ---- either
exact-one : (given : GivenFigure) (candidate : Candidate) → IsAskable given (to_come_of candidate.shape) → HasOne (IsExact given candidate)
exact-one (at_yield y) candidate range = price-one y (to_come_of candidate.shape) range
exact-one (at_price price) candidate range = yield-one price (to_come_of candidate.shape) range.0 range.1

pub candidate-one : HasOneExactOutcome
candidate-one given candidate all = exact-one given candidate (All-head (λ (it : Candidate). IsAskable given (to_come_of it.shape)) candidate [] (all-askable given (candidate ∷ []) all))

pub list-one : HaveOneExactOutcomes
list-one given list all = zip-has_one (λ (it : Candidate). IsAskable given (to_come_of it.shape)) (IsExact given) list (exact-one given) (all-askable given list all)
