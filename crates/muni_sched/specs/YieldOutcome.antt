-- What is known of the yield of a candidate at a price.
use Rattle.std.specs.Prelude.{◌≡◌, ℕ, ⊤, Option, Some, None, ℤ, pos, negsuc, ◌≤ℤ◌}
use Rattle.muni_rule.specs.Accuracy.{price_amount}
use Rattle.muni_rule.specs.Payments.{PaymentSeries}
use Rattle.muni_rule.specs.SinglePayment.{SinglePayment}
use Rattle.muni_rule.specs.declared.verdict.Verdict.{Verdict}
use Rattle.muni_simple.specs.Yields.{IsYieldAnswer}
use Rattle.muni_simple.specs.declared.yields.SimpleYield.{SimpleYield}
use Rattle.muni_simple.specs.declared.yields.SimpleYield.TheVariants as simple
use Rattle.muni_yield.specs.Settled.{final_of}
use Rattle.muni_yield.specs.declared.outcome.Outcome as search
use Rattle.muni_yield.specs.declared.outcome.Outcome.TheVariants as found
use Rattle.muni_sched.specs.declared.candidate.Candidate.{Candidate}
use Rattle.muni_sched.specs.declared.outcome.CandidateOutcome.{CandidateOutcome}
use Rattle.muni_sched.specs.declared.outcome.CandidateOutcome.TheVariants.{Print, Unsure, Below, Above, NoTime}
use Rattle.muni_sched.specs.ToCome.{ToCome, many, one, to_come_of}

-- the outcome of a search
abbrev pub many_yield : search.Outcome → CandidateOutcome
many_yield (found.Print t) = Print t
many_yield (found.Unsure lower) = Unsure lower
many_yield found.Below = Below
many_yield found.Above = Above

-- if it is unsure, it is from -5.001 to 100.001 percent
abbrev pub IsSearched : search.Outcome → Type 0
IsSearched (found.Unsure lower) = (negsuc 5_000 ≤ℤ lower) × (lower ≤ℤ pos 100_001)
IsSearched (found.Print t) = ⊤
IsSearched found.Below = ⊤
IsSearched found.Above = ⊤

-- and an answer for one payment to come
abbrev pub one_yield : SimpleYield → CandidateOutcome
one_yield (simple.Print t) = Print t
one_yield simple.Below = Below
one_yield simple.Above = Above
one_yield simple.NoTime = NoTime

-- one payment to come has its exact outcome
abbrev pub IsOneOutcome : ℕ → ℤ → SinglePayment → CandidateOutcome → Type 0
IsOneOutcome price least payment outcome =
    (answer : SimpleYield)
    × IsYieldAnswer least payment (price_amount payment.basis price) answer
    × (outcome ≡ one_yield answer)

-- many have that of a search by verdicts, when all questions were asked
abbrev pub final : (PaymentSeries → ℕ → ℕ → Verdict) → ℕ → PaymentSeries → CandidateOutcome
final verdicts price series = many_yield (final_of verdicts series price)

abbrev pub IsYieldOutcomeFor : (PaymentSeries → ℕ → ℕ → Verdict) → ℕ → ToCome → CandidateOutcome → Type 0
IsYieldOutcomeFor verdicts price (many series) outcome = outcome ≡ final verdicts price series
IsYieldOutcomeFor verdicts price (one least payment) outcome =
    IsOneOutcome price least payment outcome

abbrev pub IsCandidateYield : (PaymentSeries → ℕ → ℕ → Verdict) → ℕ → Candidate → CandidateOutcome → Type 0
IsCandidateYield verdicts price candidate outcome =
    IsYieldOutcomeFor verdicts price (to_come_of candidate.shape) outcome

-- before the first question nothing is known of many payments
abbrev pub IsKnownFor : ℕ → ToCome → Option CandidateOutcome → Type 0
IsKnownFor price (many series) known = known ≡ None
IsKnownFor price (one least payment) known =
    (outcome : CandidateOutcome) × IsOneOutcome price least payment outcome × (known ≡ Some outcome)

abbrev pub IsKnownFirst : ℕ → Candidate → Option CandidateOutcome → Type 0
IsKnownFirst price candidate known = IsKnownFor price (to_come_of candidate.shape) known
