-- What is asked at a place, and what the answer says.
use Rattle.std.proofs.Common.{◌≡◌, ℕ, zero, suc, ◌+◌, ◌*◌, ◌<◌, ◌≤◌, refl, sym, ap, ◌∙◌, arith, ℤ, pos, negsuc, ◌≤ℤ◌, ◌<ℤ◌}
use Rattle.std.proofs.lemmas.Int.{ints}
use Rattle.muni_rule.specs.Doubt.{IsDoubtful}
use Rattle.muni_rule.specs.ManyPeriods.{to_come, AtLeast, More}
use Rattle.muni_rule.specs.Payments.{PaymentSeries}
use Rattle.muni_rule.specs.PrintedYield.{boundary, Reached}
use Rattle.muni_rule.specs.Ranges.{IsManyPeriodsBoundary}
use Rattle.muni_rule.specs.Verdicts.{at_least_verdict, more_verdict}
use Rattle.muni_rule.specs.WorthEnds.{WorthEnds, ends_of}
use Rattle.muni_rule.specs.declared.verdict.Verdict.{Verdict}
use Rattle.muni_rule.specs.declared.verdict.Verdict.TheVariants.{Yes, No, Unsure}
use Rattle.muni_rule.proofs.EnclosedLemmas.{IsEnclosed, at_least-true, at_least-false, at_least-doubtful, more-true, more-false, more-doubtful}
use Rattle.muni_yield.specs.Places.{yield_at, reached_verdict, yield_verdict, place_verdict}

verdict-above : (ends : ℤ → WorthEnds) (amount : ℕ) (t : ℤ) → pos 0 <ℤ t → reached_verdict ends amount t ≡ at_least_verdict (ends (boundary t)) amount
verdict-above ends amount (pos zero) above = absurd (omega (arith, ints))
verdict-above ends amount (pos (suc less)) above = refl
verdict-above ends amount (negsuc less) above = absurd (omega (arith, ints))

verdict-below : (ends : ℤ → WorthEnds) (amount : ℕ) (t : ℤ) → t ≤ℤ pos 0 → reached_verdict ends amount t ≡ more_verdict (ends (boundary t)) amount
verdict-below ends amount (pos zero) below = refl
verdict-below ends amount (pos (suc less)) below = absurd (omega (arith, ints))
verdict-below ends amount (negsuc less) below = refl

pub asked-above : (ends : PaymentSeries → ℤ → WorthEnds) (series : PaymentSeries) (price place : ℕ) (y : ℤ) (verdict : Verdict) → 5001 < place → y ≡ boundary (yield_at place) → verdict ≡ at_least_verdict (ends_of series y (ends series y)) (360000 * price + series.accrued) → verdict ≡ place_verdict ends series price place
asked-above ends series price place y verdict above at said =
    let worth : ℤ → WorthEnds = λ z. ends_of series z (ends series z) in
    let amount : ℕ = 360000 * price + series.accrued in
    said ∙ (ap (λ z. at_least_verdict (worth z) amount) at ∙ sym (verdict-above worth amount (yield_at place) (omega (arith, ints))))

pub asked-below : (ends : PaymentSeries → ℤ → WorthEnds) (series : PaymentSeries) (price place : ℕ) (y : ℤ) (verdict : Verdict) → place ≤ 5001 → y ≡ boundary (yield_at place) → verdict ≡ more_verdict (ends_of series y (ends series y)) (360000 * price + series.accrued) → verdict ≡ place_verdict ends series price place
asked-below ends series price place y verdict below at said =
    let worth : ℤ → WorthEnds = λ z. ends_of series z (ends series z) in
    let amount : ℕ = 360000 * price + series.accrued in
    said ∙ (ap (λ z. more_verdict (worth z) amount) at ∙ sym (verdict-below worth amount (yield_at place) (omega (arith, ints))))

-- what a verdict on a printed yield says
abbrev pub Tells : PaymentSeries → ℕ → ℤ → Verdict → Type 0
Tells series price t Yes = Reached (λ y. AtLeast (to_come series) y (pos (360000 * price))) (λ y. More (to_come series) y (pos (360000 * price))) t
Tells series price t No = ¬ (Reached (λ y. AtLeast (to_come series) y (pos (360000 * price))) (λ y. More (to_come series) y (pos (360000 * price))) t)
Tells series price t Unsure = IsDoubtful series (boundary t) (pos (360000 * price))

-- two ends enclose the worth at every yield that may be asked for
abbrev pub AreEnclosed : PaymentSeries → (ℤ → WorthEnds) → Type 0
AreEnclosed series ends = (y : ℤ) → IsManyPeriodsBoundary y → IsEnclosed series y (ends y)

pub in-range : (t : ℤ) → negsuc 4999 ≤ℤ t → t ≤ℤ pos 100001 → IsManyPeriodsBoundary (boundary t)
in-range t least most = (omega (arith, ints), omega (arith, ints))

pub tells : (series : PaymentSeries) (ends : ℤ → WorthEnds) (price : ℕ) (t : ℤ) (verdict : Verdict) → AreEnclosed series ends → negsuc 4999 ≤ℤ t → t ≤ℤ pos 100001 → yield_verdict ends series price t ≡ verdict → Tells series price t verdict
tells series ends price (pos zero) Yes law least most said = more-true series (boundary (pos zero)) _ (360000 * price) _ (law (boundary (pos zero)) (in-range (pos zero) least most)) refl said
tells series ends price (pos zero) No law least most said = more-false series (boundary (pos zero)) _ (360000 * price) _ (law (boundary (pos zero)) (in-range (pos zero) least most)) refl said
tells series ends price (pos zero) Unsure law least most said = more-doubtful series (boundary (pos zero)) _ (360000 * price) _ (law (boundary (pos zero)) (in-range (pos zero) least most)) refl said
tells series ends price (pos (suc less)) Yes law least most said = at_least-true series (boundary (pos (suc less))) _ (360000 * price) _ (law (boundary (pos (suc less))) (in-range (pos (suc less)) least most)) refl said
tells series ends price (pos (suc less)) No law least most said = at_least-false series (boundary (pos (suc less))) _ (360000 * price) _ (law (boundary (pos (suc less))) (in-range (pos (suc less)) least most)) refl said
tells series ends price (pos (suc less)) Unsure law least most said = at_least-doubtful series (boundary (pos (suc less))) _ (360000 * price) _ (law (boundary (pos (suc less))) (in-range (pos (suc less)) least most)) refl said
tells series ends price (negsuc less) Yes law least most said = more-true series (boundary (negsuc less)) _ (360000 * price) _ (law (boundary (negsuc less)) (in-range (negsuc less) least most)) refl said
tells series ends price (negsuc less) No law least most said = more-false series (boundary (negsuc less)) _ (360000 * price) _ (law (boundary (negsuc less)) (in-range (negsuc less) least most)) refl said
tells series ends price (negsuc less) Unsure law least most said = more-doubtful series (boundary (negsuc less)) _ (360000 * price) _ (law (boundary (negsuc less)) (in-range (negsuc less) least most)) refl said
