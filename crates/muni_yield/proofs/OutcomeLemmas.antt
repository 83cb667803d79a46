-- What a settled search and its outcome tell.
use Rattle.std.proofs.Common.{◌≡◌, ◌<◌, ◌≤◌, ◌+◌, ◌*◌, ℕ, Bool, true, false, refl, ap, sym, ◌∙◌, subst, ◌⊎◌, ⊎_elim, inl, inr, arith, ℤ, pos, negsuc, ◌+ℤ◌, ◌≤ℤ◌, Some, None}
use Rattle.std.specs.Prelude.{if◌then◌else◌, unsigned_abs}
use Rattle.std.proofs.lemmas.Int.{ints}
use Rattle.std.proofs.lemmas.Bool.{cases_lt}
use Rattle.std.proofs.lemmas.Bool.Decides.{nat_tests}
use Rattle.muni_rule.specs.ManyPeriods.{to_come, AtLeast, More}
use Rattle.muni_rule.specs.Outcomes.{HasOneOutcome}
use Rattle.muni_rule.specs.Payments.{PaymentSeries, IsSeries}
use Rattle.muni_rule.specs.declared.verdict.Verdict.{Verdict}
use Rattle.muni_rule.specs.declared.verdict.Verdict.TheVariants as verdict
use Rattle.muni_rule.specs.WorthEnds.{WorthEnds}
use Rattle.muni_rule.proofs.YieldLemmas.{print-in_range}
use Rattle.muni_rule.proofs.OutcomeLemmas.{one_outcome}
use Rattle.muni_rule.proofs.ManyPeriodFallLemmas.{many_periods-fall, at_least-decided, more-decided}
use Rattle.muni_yield.specs.Places.{yield_at, yield_verdict}
use Rattle.muni_yield.specs.Bracket.{YieldBracket, start_of, is_settled, run, IsBracket, IsMissed, IsVerdictKept}
use Rattle.muni_yield.specs.Settled.{printed_as, outcome_at, outcome_of, settled_as, final_of}
use Rattle.muni_yield.specs.Outcome.{least_printed, greatest_printed, IsYieldOutcome, IsDoubtfulOutcome, IsVerdictOutcome, IsOutcomeInRange, IsSure, OneYieldIsRight}
use Rattle.muni_yield.specs.declared.outcome.Outcome.{Outcome}
use Rattle.muni_yield.specs.declared.outcome.Outcome.TheVariants.{Print, Below, Above, Unsure}
use Rattle.muni_yield.proofs.PlaceLemmas.{AreEnclosed, tells}
use Rattle.muni_yield.proofs.BracketLemmas.{settled-next, run-settled}

yield-next : (place : ℕ) → yield_at (place + 1) ≡ yield_at place +ℤ pos 1
yield-next place = omega (arith, ints)

-- what is known at the two places of a settled search
record IsEnd (said : ℤ → Verdict) (low : ℕ) (at_high : Verdict) : Type 0 where
  most : low ≤ 105002
  reached : (low ≡ 0) ⊎ (said (yield_at low) ≡ verdict.Yes)
  missed : ((low ≡ 105002) × (at_high ≡ verdict.No)) ⊎ ((low < 105002) × (said (yield_at (low + 1)) ≡ at_high) × ¬ (at_high ≡ verdict.Yes))

bracket-end : (said : ℤ → Verdict) (bracket : YieldBracket) → IsBracket bracket → bracket.high ≡ bracket.low + 1 → IsVerdictKept (λ place. said (yield_at place)) bracket → IsEnd said bracket.low bracket.at_high
bracket-end said bracket is next answered =
    let top = is.top in
    record {
      most = omega (arith, top, next);
      reached = answered.low;
      missed = ⊎_elim
          (λ (unasked : (bracket.high ≡ 105003) × (bracket.at_high ≡ verdict.No)). inl (omega (arith, unasked.0, next), unasked.1))
          (λ (missed : IsMissed (λ place. said (yield_at place)) bracket.high bracket.at_high). let most = missed.most in inr (omega (arith, most, next), subst (λ place. said (yield_at place) ≡ bracket.at_high) next missed.same, missed.not_reached))
          answered.high;
    }

said-next : (said : ℤ → Verdict) (low : ℕ) (at_high : Verdict) → said (yield_at (low + 1)) ≡ at_high → said (yield_at low +ℤ pos 1) ≡ at_high
said-next said low at_high same = subst (λ t. said t ≡ at_high) (yield-next low) same

first-printed : printed_as 0 ≡ Below
first-printed = refl

last-printed : printed_as 105002 ≡ Above
last-printed = refl

middle-printed : (low : ℕ) → 0 < low → low < 105002 → printed_as low ≡ Print (yield_at low)
middle-printed low some less = grind (arith, nat_tests)

printed-verdict : (said : ℤ → Verdict) (low : ℕ) → IsEnd said low verdict.No → IsVerdictOutcome said (printed_as low)
printed-verdict said low end =
    ⊎_elim
    (λ (none : low < 1).
    let zero_low : low ≡ 0 = omega arith in
    let no : said (yield_at (low + 1)) ≡ verdict.No = ⊎_elim (λ (last : (low ≡ 105002) × (verdict.No ≡ verdict.No)). absurd (omega (arith, last.0))) (λ (missed : (low < 105002) × (said (yield_at (low + 1)) ≡ verdict.No) × ¬ (verdict.No ≡ verdict.Yes)). missed.1) end.missed in
    subst (λ place. IsVerdictOutcome said (printed_as place)) (sym zero_low) (subst (λ place. said (yield_at (place + 1)) ≡ verdict.No) zero_low no))
    (λ (some : 1 ≤ low).
    let yes : said (yield_at low) ≡ verdict.Yes = ⊎_elim (λ (none : low ≡ 0). absurd (omega arith)) (λ (yes : said (yield_at low) ≡ verdict.Yes). yes) end.reached in
    ⊎_elim
    (λ (less : low < 105002).
    let no : said (yield_at (low + 1)) ≡ verdict.No = ⊎_elim (λ (last : (low ≡ 105002) × (verdict.No ≡ verdict.No)). absurd (omega (arith, last.0))) (λ (missed : (low < 105002) × (said (yield_at (low + 1)) ≡ verdict.No) × ¬ (verdict.No ≡ verdict.Yes)). missed.1) end.missed in
    subst (IsVerdictOutcome said) (sym (middle-printed low (omega arith) less)) (record {
      reached = yes;
      next_not_reached = said-next said low verdict.No no;
      least = omega (arith, ints);
      most = omega (arith, ints);
    }))
    (λ (last : 105002 ≤ low).
    let place : low ≡ 105002 = let most = end.most in omega (arith, most) in
    subst (λ at. IsVerdictOutcome said (printed_as at)) (sym place) (subst (λ at. said (yield_at at) ≡ verdict.Yes) place yes))
    (cases_lt low 105002))
    (cases_lt low 1)

unsure-verdict : (said : ℤ → Verdict) (low : ℕ) → IsEnd said low verdict.Unsure → IsVerdictOutcome said (Unsure (yield_at low))
unsure-verdict said low end =
    let missed : (low < 105002) × (said (yield_at (low + 1)) ≡ verdict.Unsure) =
    ⊎_elim
    (λ (last : (low ≡ 105002) × (verdict.Unsure ≡ verdict.No)). let never : verdict.Unsure ≡ verdict.No = last.1 in cc)
    (λ (missed : (low < 105002) × (said (yield_at (low + 1)) ≡ verdict.Unsure) × ¬ (verdict.Unsure ≡ verdict.Yes)). (missed.0, missed.1))
    end.missed in
    let less = missed.0 in
    record {
      unsure = said-next said low verdict.Unsure missed.1;
      reached = ⊎_elim (λ (none : low ≡ 0). inl (omega (arith, ints))) (λ (yes : said (yield_at low) ≡ verdict.Yes). inr yes) end.reached;
      least = omega (arith, ints);
      most = omega (arith, ints);
    }

end-verdict : (said : ℤ → Verdict) (low : ℕ) (at_high : Verdict) → IsEnd said low at_high → IsVerdictOutcome said (outcome_at low at_high)
end-verdict said low verdict.Yes end =
    absurd (⊎_elim
    (λ (last : (low ≡ 105002) × (verdict.Yes ≡ verdict.No)). let never : verdict.Yes ≡ verdict.No = last.1 in cc)
    (λ (missed : (low < 105002) × (said (yield_at (low + 1)) ≡ verdict.Yes) × ¬ (verdict.Yes ≡ verdict.Yes)). missed.2 refl)
    end.missed)
end-verdict said low verdict.No end = printed-verdict said low end
end-verdict said low verdict.Unsure end = unsure-verdict said low end

pub settled-verdict : (said : ℤ → Verdict) (bracket : YieldBracket) → IsBracket bracket → is_settled bracket ≡ true → IsVerdictKept (λ place. said (yield_at place)) bracket → IsVerdictOutcome said (outcome_of bracket)
settled-verdict said bracket is settled answered =
    end-verdict said bracket.low bracket.at_high (bracket-end said bracket is (settled-next bracket settled) answered)

-- the outcome that a settled search gives
some-from : (test : Bool) (one other : Outcome) → (if test then Some one else None) ≡ Some other → (test ≡ true) × (one ≡ other)
some-from true one other same = (refl, cc)
some-from false one other same = cc

none-from : (test : Bool) (one : Outcome) → (if test then Some one else None) ≡ None → test ≡ false
none-from true one same = cc
none-from false one same = refl

pub settled-some : (bracket : YieldBracket) (outcome : Outcome) → settled_as bracket ≡ Some outcome → (is_settled bracket ≡ true) × (outcome_of bracket ≡ outcome)
settled-some bracket outcome same = some-from (is_settled bracket) (outcome_of bracket) outcome same

pub settled-none : (bracket : YieldBracket) → settled_as bracket ≡ None → is_settled bracket ≡ false
settled-none bracket same = none-from (is_settled bracket) (outcome_of bracket) same

pub settled-final : (verdicts : PaymentSeries → ℕ → ℕ → Verdict) (series : PaymentSeries) (price count : ℕ) (bracket : YieldBracket) → is_settled bracket ≡ true → run count verdicts bracket ≡ run 19 verdicts (start_of series price) → outcome_of bracket ≡ final_of verdicts series price
unfolding final_of
settled-final verdicts series price count bracket settled same = ap outcome_of (sym (run-settled count verdicts bracket settled) ∙ same)

-- an outcome by verdicts is true
pub outcome-true : (series : PaymentSeries) (ends : ℤ → WorthEnds) (price : ℕ) (outcome : Outcome) → IsSeries series → 2 ≤ series.n → AreEnclosed series ends → IsVerdictOutcome (yield_verdict ends series price) outcome → IsYieldOutcome (λ y. AtLeast (to_come series) y (pos (360000 * price))) (λ y. More (to_come series) y (pos (360000 * price))) outcome
outcome-true series ends price (Print t) is many law said =
    let least = said.least in
    let most = said.most in
    print-in_range (many_periods-fall series (pos (360000 * price)) is many) least_printed greatest_printed t least most
    (record {
      reached = tells series ends price t verdict.Yes law least (omega (arith, ints, most)) said.reached;
      next_not_reached = tells series ends price (t +ℤ pos 1) verdict.No law (omega (arith, ints, least)) (omega (arith, ints, most)) said.next_not_reached;
    })
outcome-true series ends price Below is many law said = record { least_not_reached = tells series ends price least_printed verdict.No law (omega (arith, ints)) (omega (arith, ints)) said }
outcome-true series ends price Above is many law said = tells series ends price (greatest_printed +ℤ pos 1) verdict.Yes law (omega (arith, ints)) (omega (arith, ints)) said
outcome-true series ends price (Unsure lower) is many law said = tt

not-least : (lower : ℤ) → negsuc 5000 ≤ℤ lower → (lower ≡ negsuc 5000) ⊎ (negsuc 4999 ≤ℤ lower)
not-least lower least =
    ⊎_elim
    (λ (less : unsigned_abs (lower +ℤ pos 5001) < 1). inl (omega (arith, ints)))
    (λ (more : 1 ≤ unsigned_abs (lower +ℤ pos 5001)). inr (omega (arith, ints)))
    (cases_lt (unsigned_abs (lower +ℤ pos 5001)) 1)

pub outcome-doubtful : (series : PaymentSeries) (ends : ℤ → WorthEnds) (price : ℕ) (outcome : Outcome) → AreEnclosed series ends → IsVerdictOutcome (yield_verdict ends series price) outcome → IsDoubtfulOutcome series price outcome
outcome-doubtful series ends price (Print t) law said = tt
outcome-doubtful series ends price Below law said = tt
outcome-doubtful series ends price Above law said = tt
outcome-doubtful series ends price (Unsure lower) law said =
    let least = said.least in
    let most = said.most in
    record {
      doubtful = tells series ends price (lower +ℤ pos 1) verdict.Unsure law (omega (arith, ints, least)) (omega (arith, ints, most)) said.unsure;
      reached = ⊎_elim
          (λ (below : lower ≡ negsuc 5000). inl below)
          (λ (yes : yield_verdict ends series price lower ≡ verdict.Yes). ⊎_elim
          (λ (below : lower ≡ negsuc 5000). inl below)
          (λ (from : negsuc 4999 ≤ℤ lower). inr (tells series ends price lower verdict.Yes law from (omega (arith, ints, most)) yes))
          (not-least lower least))
          said.reached;
    }

pub outcome-in_range : (said : ℤ → Verdict) (outcome : Outcome) → IsVerdictOutcome said outcome → IsOutcomeInRange outcome
outcome-in_range said (Print t) told = (told.least, told.most)
outcome-in_range said Below told = tt
outcome-in_range said Above told = tt
outcome-in_range said (Unsure lower) told = (told.least, told.most)

-- at most one outcome is right
one-right : (AtLeast More : ℤ → Type 0) (one other : Outcome) → HasOneOutcome least_printed greatest_printed AtLeast More → IsSure one → IsSure other → IsYieldOutcome AtLeast More one → IsYieldOutcome AtLeast More other → one ≡ other
one-right AtLeast More (Print s) (Print t) has sure too left right = ap Print (has.one_is_printed s t left right)
one-right AtLeast More (Print s) Below has sure too left right = absurd (has.not_below_and_printed s right left)
one-right AtLeast More (Print s) Above has sure too left right = absurd (has.not_above_and_printed s right left)
one-right AtLeast More Below (Print t) has sure too left right = absurd (has.not_below_and_printed t left right)
one-right AtLeast More Below Below has sure too left right = refl
one-right AtLeast More Below Above has sure too left right = absurd (has.not_below_and_above left right)
one-right AtLeast More Above (Print t) has sure too left right = absurd (has.not_above_and_printed t left right)
one-right AtLeast More Above Below has sure too left right = absurd (has.not_below_and_above right left)
one-right AtLeast More Above Above has sure too left right = refl
one-right AtLeast More (Unsure lower) other has sure too left right = absurd sure
one-right AtLeast More one (Unsure lower) has sure too left right = absurd too

pub one-yield : OneYieldIsRight
one-yield series amount one other is many sure too left right =
    one-right (λ y. AtLeast (to_come series) y amount) (λ y. More (to_come series) y amount) one other
    (one_outcome least_printed greatest_printed (λ y. AtLeast (to_come series) y amount) (λ y. More (to_come series) y amount) (many_periods-fall series amount is many)
    (λ y. at_least-decided (to_come series) y amount) (λ y. more-decided (to_come series) y amount) (omega (arith, ints)))
    sure too left right
