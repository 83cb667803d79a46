-- Of one list of candidates the rule allows one answer.
use Rattle.std.proofs.Common.{◌≡◌, ◌<◌, ◌≤◌, ◌+◌, ◌*◌, ℕ, refl, ap, sym, subst, arith, ◌∙◌, ⊎_elim, ℤ, ◌≤ℤ◌}
use Rattle.std.proofs.Math.Nat.{mul-le-mul_right}
use Rattle.std.proofs.lemmas.Bool.{cases_lt}
use Rattle.std.proofs.lemmas.Int.{ints}
use Rattle.muni_rule.specs.Accuracy.{price_amount}
use Rattle.muni_rule.specs.Payments.{PaymentSeries}
use Rattle.muni_rule.specs.Printed.{HasOnePriceBy}
use Rattle.muni_rule.specs.SinglePayment.{SinglePayment, AtLeast}
use Rattle.muni_rule.specs.Verdicts.{at_least_verdict, dirty_thousandths, IsUndecidedAt}
use Rattle.muni_rule.specs.WorthEnds.{WorthEnds, ends_of}
use Rattle.muni_rule.specs.declared.verdict.Verdict.{Verdict}
use Rattle.muni_rule.specs.declared.verdict.Verdict.TheVariants as verdict
use Rattle.muni_rule.proofs.OnePriceLemmas.{one_payment-price}
use Rattle.muni_multi.specs.Prices as multi
use Rattle.muni_multi.specs.declared.price.PriceAnswer.{PriceAnswer}
use Rattle.muni_multi.specs.declared.price.PriceAnswer.TheVariants as found
use Rattle.muni_simple.specs.Single as simple
use Rattle.muni_simple.specs.Yields.{greatest_printed}
use Rattle.muni_simple.specs.declared.price.SimplePrice.{SimplePrice}
use Rattle.muni_simple.specs.declared.price.SimplePrice.TheVariants as exact
use Rattle.muni_simple.proofs.OneAnswer.{answer-same}
use Rattle.muni_yield.specs.Places.{place_verdict}
use Rattle.muni_sched.specs.declared.candidate.Candidate.{Candidate}
use Rattle.muni_sched.specs.declared.outcome.CandidateOutcome.{CandidateOutcome}
use Rattle.muni_sched.specs.Answer.{dated}
use Rattle.muni_sched.specs.AnswerLaws.{AllowsOneAnswer}
use Rattle.muni_sched.specs.GivenFigure.{GivenFigure, at_yield, at_price, kind_of, IsOutcome}
use Rattle.muni_sched.specs.Figures.{least_unsure}
use Rattle.muni_sched.specs.Lowest.{IsLowest}
use Rattle.muni_sched.specs.PriceOutcome.{price_outcome, one_price, IsPriceOutcomeFor}
use Rattle.muni_sched.specs.ToCome.{ToCome, many, one, to_come_of}
use Rattle.muni_sched.specs.YieldOutcome.{one_yield, IsYieldOutcomeFor}
use Rattle.muni_sched.proofs.AllSoundLemmas.{IsAskable, all-askable, some-same}
use Rattle.muni_sched.proofs.PriceSoundLemmas.{IsPriced}
use Rattle.muni_sched.proofs.SameLemmas.{lowest-same}
use Rattle.muni_sched.proofs.YieldSoundLemmas.{IsBounded, bounds, price-above}
use Rattle.muni_sched.proofs.ZipLemmas.{zip-same}

-- ---- yields
yield-same : (verdicts : PaymentSeries → ℕ → ℕ → Verdict) (price : ℕ) (to_be : ToCome) (x z : CandidateOutcome) → IsBounded to_be → 0 < price → IsYieldOutcomeFor verdicts price to_be x → IsYieldOutcomeFor verdicts price to_be z → x ≡ z
yield-same verdicts price (many series) x z range some is also = is ∙ sym also
yield-same verdicts price (one least payment) x z range some is also =
    let above = price-above payment price range.2 some in
    let order : least ≤ℤ greatest_printed = let most = range.1 in omega (arith, ints, most) in
    is.2 ∙ ap one_yield (answer-same least payment (price_amount payment.basis price) is.0 also.0 order above is.1 also.1) ∙ sym also.2

-- ---- prices
simple-same : (payment : SinglePayment) (Reaches : ℤ → Type 0) (said other : SimplePrice) → HasOnePriceBy payment.basis Reaches → simple.IsPriceAnswer payment.basis Reaches said → simple.IsPriceAnswer payment.basis Reaches other → said ≡ other
simple-same payment Reaches (exact.Price s) (exact.Price t) has is also = ap exact.Price (has.one_is_printed s t is also)
simple-same payment Reaches (exact.Price s) exact.BelowZero has is also = absurd (has.none_below_zero s is also)
simple-same payment Reaches exact.BelowZero (exact.Price t) has is also = absurd (has.none_below_zero t also is)
simple-same payment Reaches exact.BelowZero exact.BelowZero has is also = refl

-- what is not reached by a verdict is reached by none at a higher amount
abbrev IsFalling : (ℕ → Verdict) → Type 0
IsFalling said = (t u : ℕ) → t ≤ u → said t ≡ verdict.No → ¬ (said u ≡ verdict.Yes)

ends-fall : (ends : WorthEnds) (x z : ℕ) → x ≤ z → at_least_verdict ends x ≡ verdict.No → ¬ (at_least_verdict ends z ≡ verdict.Yes)
ends-fall ends x z order missed reached =
    let times : x * ends.unit ≤ z * ends.unit = mul-le-mul_right ends.unit order in
    grind (arith, times)

falling : (series : PaymentSeries) (y : ℤ) (enclosure : WorthEnds) → IsFalling (λ t. at_least_verdict (ends_of series y enclosure) (dirty_thousandths series.accrued t))
falling series y enclosure t u order = ends-fall (ends_of series y enclosure) (dirty_thousandths series.accrued t) (dirty_thousandths series.accrued u) (omega (arith, order))

figure-same : (said : ℕ → Verdict) (s t : ℕ) → IsFalling said → multi.IsSeriesPriceOutcome said (found.Price s) → multi.IsSeriesPriceOutcome said (found.Price t) → s ≡ t
figure-same said s t falls is also =
    ⊎_elim
    (λ (less : s < t). absurd (falls (s + 1) t (omega (arith, less)) is.1 also.0))
    (λ (from : t ≤ s). ⊎_elim
    (λ (more : t < s). absurd (falls (t + 1) s (omega (arith, more)) also.1 is.0))
    (λ (to : s ≤ t). omega (arith, from, to))
    (cases_lt t s))
    (cases_lt s t)

open-same : (said : ℕ → Verdict) (a b : ℕ) → IsUndecidedAt said a → IsUndecidedAt said b → a ≡ b
open-same said a b is also =
    ⊎_elim
    (λ (less : a < b). absurd (also.least a less is.unsure))
    (λ (from : b ≤ a). ⊎_elim
    (λ (more : b < a). absurd (is.least b more also.unsure))
    (λ (to : a ≤ b). omega (arith, from, to))
    (cases_lt b a))
    (cases_lt a b)

verdict-same : (said : ℕ → Verdict) (answer other : PriceAnswer) → IsFalling said → multi.IsSeriesPriceOutcome said answer → multi.IsSeriesPriceOutcome said other → answer ≡ other
verdict-same said (found.Price s) (found.Price t) falls is also = ap found.Price (figure-same said s t falls is also)
verdict-same said (found.Price s) found.BelowZero falls is also = absurd (falls 0 s (omega arith) also is.0)
verdict-same said (found.Price s) (found.Undecided b) falls is also = absurd (also.not_printed s is.0 is.1)
verdict-same said found.BelowZero (found.Price t) falls is also = absurd (falls 0 t (omega arith) is also.0)
verdict-same said found.BelowZero found.BelowZero falls is also = refl
verdict-same said found.BelowZero (found.Undecided b) falls is also = absurd (also.not_below_zero is)
verdict-same said (found.Undecided a) (found.Price t) falls is also = absurd (is.not_printed t also.0 also.1)
verdict-same said (found.Undecided a) found.BelowZero falls is also = absurd (is.not_below_zero also)
verdict-same said (found.Undecided a) (found.Undecided b) falls is also = ap found.Undecided (open-same said a b is also)

price-same : (ends : PaymentSeries → ℤ → WorthEnds) (y : ℤ) (to_be : ToCome) (x z : CandidateOutcome) → IsPriced y to_be → IsPriceOutcomeFor ends y to_be x → IsPriceOutcomeFor ends y to_be z → x ≡ z
price-same ends y (many series) x z range is also =
    is.2
    ∙ ap price_outcome (verdict-same (λ t. at_least_verdict (ends_of series y (ends series y)) (dirty_thousandths series.accrued t)) is.0 also.0 (falling series y (ends series y)) is.1 also.1)
    ∙ sym also.2
price-same ends y (one least payment) x z range is also =
    is.2
    ∙ ap one_price (simple-same payment (AtLeast payment y) is.0 also.0 (one_payment-price payment y range) is.1 also.1)
    ∙ sym also.2

-- ---- each candidate, and the answer over all
outcome-same : (ends : PaymentSeries → ℤ → WorthEnds) (given : GivenFigure) (candidate : Candidate) (x z : CandidateOutcome) → IsAskable given (to_come_of candidate.shape) → IsOutcome ends given candidate x → IsOutcome ends given candidate z → x ≡ z
outcome-same ends (at_yield y) candidate x z range is also = price-same ends y (to_come_of candidate.shape) x z range is also
outcome-same ends (at_price price) candidate x z range is also = yield-same (place_verdict ends) price (to_come_of candidate.shape) x z (bounds (to_come_of candidate.shape) range.1) range.0 is also

pub one-answer : AllowsOneAnswer
one-answer ends given list said other all is also =
    let kind = kind_of given in
    let same : is.outcomes ≡ also.outcomes =
    zip-same (λ (candidate : Candidate). IsAskable given (to_come_of candidate.shape)) (IsOutcome ends given) list is.outcomes also.outcomes (outcome-same ends given) (all-askable given list all) is.each also.each in
    let rule : IsLowest (least_unsure kind) also.outcomes is.lowest = subst (λ xs. IsLowest (least_unsure kind) xs is.lowest) same is.rule in
    let found : is.lowest ≡ also.lowest = lowest-same (least_unsure kind) also.outcomes is.lowest also.lowest rule also.rule in
    some-same said other (is.answered ∙ ap (dated kind list) found ∙ sym also.answered)
