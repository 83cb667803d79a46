-- The rule allows one answer.
use Rattle.std.proofs.Common.{◌≡◌, ◌<◌, ◌≤◌, ℕ, List, refl, ap, sym, subst, ⊎_elim, inl, inr, arith, ◌∙◌, ◌⊎◌, ℤ, ◌<ℤ◌}
use Rattle.std.proofs.lemmas.Int.{ints}
use Rattle.std.proofs.lemmas.Bool.{cases_lt}
use Rattle.muni_rule.specs.Schedule.{IsFirst}
use Rattle.muni_sched.specs.declared.outcome.CandidateOutcome.{CandidateOutcome}
use Rattle.muni_sched.specs.declared.outcome.CandidateOutcome.TheVariants.{Unsure, Below, NoTime}
use Rattle.muni_sched.specs.LowestFigure as lowest
use Rattle.muni_sched.specs.Lowest.{outcome_at, MayBeBelow, IsPrintedAt, IsFirstBelow, IsUndecided, IsLowestFigure, AllReachFigures}
use Rattle.muni_sched.specs.LowestLaws.{AllowsOneLowest}

-- what is first is one
first-same : (Such : ℕ → Type 0) (c d : ℕ) → IsFirst Such c → IsFirst Such d → c ≡ d
first-same Such c d is also =
    ⊎_elim
    (λ (less : c < d). absurd (also.none_before c less is.such))
    (λ (from : d ≤ c). ⊎_elim
    (λ (more : d < c). absurd (is.none_before d more also.such))
    (λ (to : c ≤ d). omega (arith, from, to))
    (cases_lt d c))
    (cases_lt c d)

below-same : (least : ℤ) (outcomes : List CandidateOutcome) (x z : CandidateOutcome) (c d : ℕ) → IsFirstBelow least outcomes x c → IsFirstBelow least outcomes z d → (c ≡ d) × (x ≡ z)
below-same least outcomes x z c d is also =
    let same : c ≡ d = first-same (λ k. MayBeBelow least (outcome_at outcomes k)) c d is.first also.first in
    (same, sym is.there ∙ ap (outcome_at outcomes) same ∙ also.there)

open-same : (least : ℤ) (outcomes : List CandidateOutcome) (s r : ℤ) (c d : ℕ) → IsUndecided least outcomes s c → IsUndecided least outcomes r d → (s ≡ r) × (c ≡ d)
open-same least outcomes s r c d is also =
    ⊎_elim
    (λ (less : s <ℤ r). ⊎_elim
    (λ (more : r <ℤ s). absurd (omega (arith, ints, less, more)))
    (λ (same : (r ≡ s) × (d ≤ c)). absurd (omega (arith, ints, less, same.0)))
    (also.lowest.none_lower s c is.lowest.material))
    (λ (same : (s ≡ r) × (c ≤ d)). ⊎_elim
    (λ (more : r <ℤ s). absurd (omega (arith, ints, more, same.0)))
    (λ (back : (r ≡ s) × (d ≤ c)). (same.0, omega (arith, same.1, back.1)))
    (also.lowest.none_lower s c is.lowest.material))
    (is.lowest.none_lower r d also.lowest.material)

low-same : (least : ℤ) (outcomes : List CandidateOutcome) (t u : ℤ) (c d : ℕ) → IsLowestFigure least outcomes t c → IsLowestFigure least outcomes u d → (t ≡ u) × (c ≡ d)
low-same least outcomes t u c d is also =
    let same : t ≡ u = omega (arith, ints, is.lowest.none_lower d u also.lowest.first.such, also.lowest.none_lower c t is.lowest.first.such) in
    (same, first-same (λ k. IsPrintedAt u (outcome_at outcomes k)) c d (subst (λ v. IsFirst (λ k. IsPrintedAt v (outcome_at outcomes k)) c) same is.lowest.first) also.lowest.first)

-- if all reach figures none is below them, nor without time
not-below : (least : ℤ) (outcomes : List CandidateOutcome) (x : CandidateOutcome) (c : ℕ) → AllReachFigures least outcomes → ¬ (IsFirstBelow least outcomes x c)
not-below least outcomes x c reach is = reach.none_below c is.first.such

-- undecided, by whether the candidate may be below its figures
abbrev IsOpen : (least : ℤ) (outcomes : List CandidateOutcome) (s : ℤ) (c : ℕ) → Type 0
IsOpen least outcomes s c = IsFirstBelow least outcomes (Unsure s) c ⊎ IsUndecided least outcomes s c

undecided-same : (least : ℤ) (outcomes : List CandidateOutcome) (s r : ℤ) (c d : ℕ) → IsOpen least outcomes s c → IsOpen least outcomes r d → lowest.Undecided s c ≡ lowest.Undecided r d
undecided-same least outcomes s r c d (inl is) (inl also) = let both = below-same least outcomes (Unsure s) (Unsure r) c d is also in let candidate = both.0 in let outcome = both.1 in cc
undecided-same least outcomes s r c d (inl is) (inr also) = absurd (not-below least outcomes (Unsure s) c also.reach is)
undecided-same least outcomes s r c d (inr is) (inl also) = absurd (not-below least outcomes (Unsure r) d is.reach also)
undecided-same least outcomes s r c d (inr is) (inr also) = let both = open-same least outcomes s r c d is also in let figure = both.0 in let candidate = both.1 in cc

not-open : (least : ℤ) (outcomes : List CandidateOutcome) (s : ℤ) (c : ℕ) → AllReachFigures least outcomes → (¬ (IsUndecided least outcomes s c)) → ¬ (IsOpen least outcomes s c)
not-open least outcomes s c reach none (inl is) = not-below least outcomes (Unsure s) c reach is
not-open least outcomes s c reach none (inr is) = none is

open-timed : (least : ℤ) (outcomes : List CandidateOutcome) (s : ℤ) (c k : ℕ) → IsOpen least outcomes s c → ¬ (outcome_at outcomes k ≡ NoTime)
open-timed least outcomes s c k (inl is) = is.timed k
open-timed least outcomes s c k (inr is) = is.reach.timed k

below-or_open : (least : ℤ) (outcomes : List CandidateOutcome) (s : ℤ) (c d : ℕ) → IsFirstBelow least outcomes Below c → ¬ (IsOpen least outcomes s d)
below-or_open least outcomes s c d is (inl also) = let both = below-same least outcomes Below (Unsure s) c d is also in let never : Below ≡ Unsure s = both.1 in cc
below-or_open least outcomes s c d is (inr also) = not-below least outcomes Below c also.reach is

pub lowest-same : AllowsOneLowest
lowest-same least outcomes (lowest.NoTime c) (lowest.NoTime d) is also = ap lowest.NoTime (first-same (λ k. outcome_at outcomes k ≡ NoTime) c d is also)
lowest-same least outcomes (lowest.NoTime c) (lowest.Below d) is also = absurd (also.timed c is.such)
lowest-same least outcomes (lowest.NoTime c) (lowest.Undecided r d) is also = absurd (open-timed least outcomes r d c also is.such)
lowest-same least outcomes (lowest.NoTime c) (lowest.Low u d) is also = absurd (also.reach.timed c is.such)
lowest-same least outcomes (lowest.NoTime c) lowest.Above is also = absurd (also.reach.timed c is.such)
lowest-same least outcomes (lowest.Below c) (lowest.NoTime d) is also = absurd (is.timed d also.such)
lowest-same least outcomes (lowest.Below c) (lowest.Below d) is also = ap lowest.Below (below-same least outcomes Below Below c d is also).0
lowest-same least outcomes (lowest.Below c) (lowest.Undecided r d) is also = absurd (below-or_open least outcomes r c d is also)
lowest-same least outcomes (lowest.Below c) (lowest.Low u d) is also = absurd (not-below least outcomes Below c also.reach is)
lowest-same least outcomes (lowest.Below c) lowest.Above is also = absurd (not-below least outcomes Below c also.reach is)
lowest-same least outcomes (lowest.Undecided s c) (lowest.NoTime d) is also = absurd (open-timed least outcomes s c d is also.such)
lowest-same least outcomes (lowest.Undecided s c) (lowest.Below d) is also = absurd (below-or_open least outcomes s d c also is)
lowest-same least outcomes (lowest.Undecided s c) (lowest.Undecided r d) is also = undecided-same least outcomes s r c d is also
lowest-same least outcomes (lowest.Undecided s c) (lowest.Low u d) is also = absurd (not-open least outcomes s c also.reach (λ it. also.none_material s c it.lowest.material) is)
lowest-same least outcomes (lowest.Undecided s c) lowest.Above is also = absurd (not-open least outcomes s c also.reach (λ it. also.none_material s c it.lowest.material) is)
lowest-same least outcomes (lowest.Low t c) (lowest.NoTime d) is also = absurd (is.reach.timed d also.such)
lowest-same least outcomes (lowest.Low t c) (lowest.Below d) is also = absurd (not-below least outcomes Below d is.reach also)
lowest-same least outcomes (lowest.Low t c) (lowest.Undecided r d) is also = absurd (not-open least outcomes r d is.reach (λ it. is.none_material r d it.lowest.material) also)
lowest-same least outcomes (lowest.Low t c) (lowest.Low u d) is also = let both = low-same least outcomes t u c d is also in let figure = both.0 in let candidate = both.1 in cc
lowest-same least outcomes (lowest.Low t c) lowest.Above is also = absurd (also.none_printed t c is.lowest.first.such)
lowest-same least outcomes lowest.Above (lowest.NoTime d) is also = absurd (is.reach.timed d also.such)
lowest-same least outcomes lowest.Above (lowest.Below d) is also = absurd (not-below least outcomes Below d is.reach also)
lowest-same least outcomes lowest.Above (lowest.Undecided r d) is also = absurd (not-open least outcomes r d is.reach (λ it. is.none_material r d it.lowest.material) also)
lowest-same least outcomes lowest.Above (lowest.Low u d) is also = absurd (is.none_printed u d also.lowest.first.such)
lowest-same least outcomes lowest.Above lowest.Above is also = refl
