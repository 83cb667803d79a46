-- What verdicts say if the worth is enclosed narrowly.
use Rattle.std.proofs.Common.{◌≡◌, ℕ, ◌+◌, ◌<◌, ◌≤◌, sym, ◌∙◌, arith, ℤ, pos, negsuc}
use Rattle.std.proofs.lemmas.Int.{ints}
use Rattle.muni_rule.specs.Payments.{PaymentSeries, IsSeries}
use Rattle.muni_rule.specs.ManyPeriods.{to_come, discount_divisor, IsWorthAtLeast, IsWorthMore}
use Rattle.muni_rule.specs.Doubt.{IsNear, IsDoubtful}
use Rattle.muni_rule.specs.Ranges.{IsManyPeriodsBoundary}
use Rattle.muni_rule.specs.WorthEnds.{WorthEnds, HoldsWorth, IsNarrow, exactly, ends_of}
use Rattle.muni_rule.specs.Verdicts.{at_least_verdict, more_verdict}
use Rattle.muni_rule.specs.declared.verdict.Verdict.{Verdict}
use Rattle.muni_rule.specs.declared.verdict.Verdict.TheVariants.{Yes, No, Unsure}
use Rattle.muni_rule.proofs.ExactLemmas.{by-cases, ends-hold}
use Rattle.muni_rule.proofs.VerdictLemmas.{at_least-yes, at_least-no, more-yes, more-no, exactly-sure, exactly-sure_more, unsure-near, unsure-near_more}
use Rattle.muni_rule.proofs.ManyPeriodLemmas.{not_exact-sentence}

-- the divisor of a yield in range
pub divisor-least : (y : ℤ) → IsManyPeriodsBoundary y → 1949995 ≤ discount_divisor y
divisor-least (pos n) within = omega arith
divisor-least (negsuc n) within = let least = within.0 in omega (arith, ints, least)

pub divisor-most : (y : ℤ) → IsManyPeriodsBoundary y → discount_divisor y ≤ 3000005
divisor-most (pos n) within = let most = within.1 in omega (arith, ints, most)
divisor-most (negsuc n) within = omega arith

-- what an encloser says of a series at a yield
pub record IsEnclosed (series : PaymentSeries) (y : ℤ) (enclosure : WorthEnds) : Type 0 where
  pub series_is : IsSeries series
  pub divisor : 0 < discount_divisor y
  pub holds : HoldsWorth (to_come series) y enclosure
  pub narrow : IsNarrow enclosure

pub enclosed : (series : PaymentSeries) (y : ℤ) (enclosure : WorthEnds) → IsSeries series → IsManyPeriodsBoundary y → HoldsWorth (to_come series) y enclosure → IsNarrow enclosure → IsEnclosed series y enclosure
enclosed series y enclosure is within holds narrow = record {
  series_is = is;
  divisor = (let least = divisor-least y within in omega (arith, least));
  holds = holds;
  narrow = narrow;
}

pub enclosed-holds : (series : PaymentSeries) (y : ℤ) (enclosure : WorthEnds) → IsEnclosed series y enclosure → HoldsWorth (to_come series) y (ends_of series y enclosure)
enclosed-holds series y enclosure given = ends-hold series y enclosure given.series_is.skip given.divisor given.holds

pub at_least-true : (series : PaymentSeries) (y : ℤ) (enclosure : WorthEnds) (amount : ℕ) (verdict : Verdict) → IsEnclosed series y enclosure → verdict ≡ at_least_verdict (ends_of series y enclosure) (amount + series.accrued) → verdict ≡ Yes → IsWorthAtLeast (to_come series) y (amount + series.accrued)
at_least-true series y enclosure amount verdict given is said =
    at_least-yes (to_come series) y (ends_of series y enclosure) (amount + series.accrued) (enclosed-holds series y enclosure given) (sym is ∙ said)

pub at_least-false : (series : PaymentSeries) (y : ℤ) (enclosure : WorthEnds) (amount : ℕ) (verdict : Verdict) → IsEnclosed series y enclosure → verdict ≡ at_least_verdict (ends_of series y enclosure) (amount + series.accrued) → verdict ≡ No → IsWorthAtLeast (to_come series) y (amount + series.accrued) → ⊥
at_least-false series y enclosure amount verdict given is said =
    at_least-no (to_come series) y (ends_of series y enclosure) (amount + series.accrued) given.divisor (enclosed-holds series y enclosure given) (sym is ∙ said)

pub more-true : (series : PaymentSeries) (y : ℤ) (enclosure : WorthEnds) (amount : ℕ) (verdict : Verdict) → IsEnclosed series y enclosure → verdict ≡ more_verdict (ends_of series y enclosure) (amount + series.accrued) → verdict ≡ Yes → IsWorthMore (to_come series) y (amount + series.accrued)
more-true series y enclosure amount verdict given is said =
    more-yes (to_come series) y (ends_of series y enclosure) (amount + series.accrued) given.divisor (enclosed-holds series y enclosure given) (sym is ∙ said)

pub more-false : (series : PaymentSeries) (y : ℤ) (enclosure : WorthEnds) (amount : ℕ) (verdict : Verdict) → IsEnclosed series y enclosure → verdict ≡ more_verdict (ends_of series y enclosure) (amount + series.accrued) → verdict ≡ No → IsWorthMore (to_come series) y (amount + series.accrued) → ⊥
more-false series y enclosure amount verdict given is said =
    more-no (to_come series) y (ends_of series y enclosure) (amount + series.accrued) (enclosed-holds series y enclosure given) (sym is ∙ said)

-- Unsure is read off an enclosure alone, and only if the price is near
doubtful-by : (series : PaymentSeries) (y : ℤ) (enclosure : WorthEnds) (amount : ℕ) (read : WorthEnds → Verdict) → IsSeries series → ((top unit : ℕ) → read (exactly top unit) ≡ Unsure → ⊥) → (read enclosure ≡ Unsure → IsNear (to_come series) y (pos amount)) → read (ends_of series y enclosure) ≡ Unsure → IsDoubtful series y (pos amount)
doubtful-by series y enclosure amount read is sure near =
    by-cases series y enclosure (λ ends. read ends ≡ Unsure → IsDoubtful series y (pos amount))
    (λ _ said. absurd (sure _ _ said))
    (λ _ said. absurd (sure _ _ said))
    (λ _ said. absurd (sure _ _ said))
    (λ not_exact said. record { near = near said; not_exact = not_exact-sentence series y is not_exact })

pub at_least-doubtful : (series : PaymentSeries) (y : ℤ) (enclosure : WorthEnds) (amount : ℕ) (verdict : Verdict) → IsEnclosed series y enclosure → verdict ≡ at_least_verdict (ends_of series y enclosure) (amount + series.accrued) → verdict ≡ Unsure → IsDoubtful series y (pos amount)
at_least-doubtful series y enclosure amount verdict given is said =
    doubtful-by series y enclosure amount (λ ends. at_least_verdict ends (amount + series.accrued)) given.series_is
    (λ top unit. exactly-sure top unit (amount + series.accrued))
    (unsure-near (to_come series) y enclosure amount given.divisor given.holds given.narrow)
    (sym is ∙ said)

pub more-doubtful : (series : PaymentSeries) (y : ℤ) (enclosure : WorthEnds) (amount : ℕ) (verdict : Verdict) → IsEnclosed series y enclosure → verdict ≡ more_verdict (ends_of series y enclosure) (amount + series.accrued) → verdict ≡ Unsure → IsDoubtful series y (pos amount)
more-doubtful series y enclosure amount verdict given is said =
    doubtful-by series y enclosure amount (λ ends. more_verdict ends (amount + series.accrued)) given.series_is
    (λ top unit. exactly-sure_more top unit (amount + series.accrued))
    (unsure-near_more (to_come series) y enclosure amount given.divisor given.holds given.narrow)
    (sym is ∙ said)
