-- Printed prices read off two whole ends.
use Rattle.std.proofs.Common.{◌≡◌, ℕ, ◌+◌, ◌*◌, ◌/◌, ◌<◌, ◌≤◌, ◌⊎◌, ⊎_elim, inl, inr, refl, sym, ap, ◌∙◌, arith, Bool, ℤ}
use Rattle.std.specs.Prelude.{nat_lt, nat_le, if◌then◌else◌}
use Rattle.std.proofs.lemmas.Bool.{le-leb, lt-leb, lt-ltb, le-ltb, cases_lt}
use Rattle.std.proofs.lemmas.Nat.{le-div, div_below}
use Rattle.std.proofs.Math.Nat.{div-mul-le_self, mul-le-mul_right}
use Rattle.muni_rule.specs.Payments.{PaymentSeries}
use Rattle.muni_rule.specs.ManyPeriods.{to_come, AtLeast}
use Rattle.muni_rule.specs.Verdicts.{at_least_verdict, dirty_thousandths}
use Rattle.muni_rule.specs.WorthEnds.{WorthEnds, ends_of}
use Rattle.muni_rule.specs.declared.verdict.Verdict.{Verdict}
use Rattle.muni_rule.specs.declared.verdict.Verdict.TheVariants.{Yes, No, Unsure}
use Rattle.muni_rule.specs.Printed.{HasOnePrice}
use Rattle.muni_rule.proofs.EnclosedLemmas.{IsEnclosed, divisor-least, at_least-true, at_least-false, at_least-doubtful}
use Rattle.muni_rule.proofs.OnePriceLemmas.{many_periods-price}
use Rattle.muni_multi.specs.declared.price.PriceAnswer.{PriceAnswer}
use Rattle.muni_multi.specs.declared.price.PriceAnswer.TheVariants.{Price, BelowZero, Undecided}
use Rattle.muni_multi.specs.Prices.{IsSeriesPrice, IsDoubtfulAnswer, IsSeriesPriceOutcome, whole_verdict, IsDecidedPrice, OnePriceIsRight}

chosen : (a b p q : Bool) → a ≡ p → b ≡ q → (if a then Yes else (if b then No else Unsure)) ≡ (if p then Yes else (if q then No else Unsure))
chosen a b p q first second = rw (first, second) refl

-- whole ends tell what the ends tell
not_more : (a b : ℕ) → (a ≤ b) ⊎ (b < a)
not_more a b = ⊎_elim (λ less. inr less) (λ order. inl order) (cases_lt b a)

same-low : (x lo unit : ℕ) → 0 < unit → nat_le x (lo / unit) ≡ nat_le (x * unit) lo
same-low x lo unit some =
    let floor : lo / unit * unit ≤ lo = div-mul-le_self lo unit in
    ⊎_elim
    (λ order. let whole : x ≤ lo / unit = le-div x lo unit some order in le-leb x (lo / unit) whole ∙ sym (le-leb (x * unit) lo order))
    (λ less. ⊎_elim
    (λ whole. lt-leb x (lo / unit) whole ∙ sym (lt-leb (x * unit) lo less))
    (λ whole. let times : x * unit ≤ lo / unit * unit = mul-le-mul_right unit whole in absurd (omega (arith, times, less)))
    (cases_lt (lo / unit) x))
    (not_more (x * unit) lo)

same-high : (x hi unit : ℕ) → 0 < unit → nat_lt (hi / unit) x ≡ nat_lt hi (x * unit)
same-high x hi unit some =
    ⊎_elim
    (λ order. let whole : x ≤ hi / unit = le-div x hi unit some order in le-ltb (hi / unit) x whole ∙ sym (le-ltb hi (x * unit) order))
    (λ less. let whole : hi / unit < x = div_below hi unit x some less in lt-ltb (hi / unit) x whole ∙ sym (lt-ltb hi (x * unit) less))
    (not_more (x * unit) hi)

same-verdict : (ends : WorthEnds) (x : ℕ) → 0 < ends.unit → whole_verdict (ends.lo / ends.unit) (ends.hi / ends.unit) x ≡ at_least_verdict ends x
same-verdict ends x some =
    chosen (nat_le x (ends.lo / ends.unit)) (nat_lt (ends.hi / ends.unit) x) (nat_le (x * ends.unit) ends.lo) (nat_lt ends.hi (x * ends.unit)) (same-low x ends.lo ends.unit some) (same-high x ends.hi ends.unit some)

same-outcome : (one other : ℕ → Verdict) (answer : PriceAnswer) → ((t : ℕ) → one t ≡ other t) → IsSeriesPriceOutcome one answer → IsSeriesPriceOutcome other answer
same-outcome one other (Price t) same outcome = (sym (same t) ∙ outcome.0, sym (same (t + 1)) ∙ outcome.1)
same-outcome one other BelowZero same outcome = sym (same 0) ∙ outcome
same-outcome one other (Undecided boundary) same outcome = record {
  unsure = sym (same boundary) ∙ outcome.unsure;
  least = λ t less said. outcome.least t less (same t ∙ said);
  not_below_zero = λ said. outcome.not_below_zero (same 0 ∙ said);
  not_printed = λ t said next. outcome.not_printed t (same t ∙ said) (same (t + 1) ∙ next);
}

same-at : (ends : WorthEnds) (low high own accrued t : ℕ) → 0 < ends.unit → low ≡ ends.lo / ends.unit → high ≡ ends.hi / ends.unit → own ≡ accrued → whole_verdict low high (dirty_thousandths own t) ≡ at_least_verdict ends (dirty_thousandths accrued t)
same-at ends low high own accrued t some lower upper same = rw (lower, upper, same) (same-verdict ends (dirty_thousandths accrued t) some)

pub ends-outcome : (series : PaymentSeries) (y : ℤ) (enclosure : WorthEnds) (ends : WorthEnds) (low high accrued : ℕ) (answer : PriceAnswer) → ends ≡ ends_of series y enclosure → 0 < ends.unit → low ≡ ends.lo / ends.unit → high ≡ ends.hi / ends.unit → accrued ≡ series.accrued
    → IsSeriesPriceOutcome (λ t. whole_verdict low high (dirty_thousandths accrued t)) answer
    → IsSeriesPriceOutcome (λ t. at_least_verdict (ends_of series y enclosure) (dirty_thousandths series.accrued t)) answer
ends-outcome series y enclosure ends low high accrued answer is some lower upper same outcome =
    same-outcome (λ t. whole_verdict low high (dirty_thousandths accrued t)) (λ t. at_least_verdict (ends_of series y enclosure) (dirty_thousandths series.accrued t)) answer
    (λ t. same-at ends low high accrued series.accrued t some lower upper same ∙ ap (λ (x : WorthEnds). at_least_verdict x (dirty_thousandths series.accrued t)) is)
    outcome

-- and an outcome is true
pub outcome-exact : (series : PaymentSeries) (y : ℤ) (enclosure : WorthEnds) (answer : PriceAnswer) → IsEnclosed series y enclosure → IsSeriesPriceOutcome (λ t. at_least_verdict (ends_of series y enclosure) (dirty_thousandths series.accrued t)) answer → IsSeriesPrice (AtLeast (to_come series) y) answer
outcome-exact series y enclosure (Price t) given outcome = record {
  reached = at_least-true series y enclosure (360000000 * t) _ given refl outcome.0;
  next_not_reached = at_least-false series y enclosure (360000000 * (t + 1)) _ given refl outcome.1;
}
outcome-exact series y enclosure BelowZero given outcome = record { zero_not_reached = at_least-false series y enclosure 0 _ given refl outcome }
outcome-exact series y enclosure (Undecided boundary) given outcome = tt

pub outcome-doubtful : (series : PaymentSeries) (y : ℤ) (enclosure : WorthEnds) (answer : PriceAnswer) → IsEnclosed series y enclosure → IsSeriesPriceOutcome (λ t. at_least_verdict (ends_of series y enclosure) (dirty_thousandths series.accrued t)) answer → IsDoubtfulAnswer series y answer
outcome-doubtful series y enclosure (Price t) given outcome = tt
outcome-doubtful series y enclosure BelowZero given outcome = tt
outcome-doubtful series y enclosure (Undecided boundary) given outcome = at_least-doubtful series y enclosure (360000000 * boundary) _ given refl outcome.unsure

-- at a yield one price is right
one-price : (Reaches : ℤ → Type 0) (one other : PriceAnswer) → HasOnePrice Reaches → IsDecidedPrice one → IsDecidedPrice other → IsSeriesPrice Reaches one → IsSeriesPrice Reaches other → one ≡ other
one-price Reaches (Price t) (Price u) has sure settled is also = ap Price (has.one_is_printed t u is also)
one-price Reaches (Price t) BelowZero has sure settled is also = absurd (has.none_below_zero t is also)
one-price Reaches (Price t) (Undecided b) has sure settled is also = absurd settled
one-price Reaches BelowZero (Price u) has sure settled is also = absurd (has.none_below_zero u also is)
one-price Reaches BelowZero BelowZero has sure settled is also = refl
one-price Reaches BelowZero (Undecided b) has sure settled is also = absurd settled
one-price Reaches (Undecided b) other has sure settled is also = absurd sure

pub one_price-right : OnePriceIsRight
one_price-right series y one other within sure settled is also =
    let divisor = divisor-least y within in
    one-price (AtLeast (to_come series) y) one other (many_periods-price (to_come series) y (omega (arith, divisor))) sure settled is also
