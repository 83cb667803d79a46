-- Between which yields the outcome of a search lies.
use Rattle.std.proofs.Common.{◌≡◌, ◌≢◌, ◌<◌, ◌≤◌, ◌+◌, ℕ, List, true, get_or, Option, Some, refl, sym, subst, ⊎_elim, arith, ℤ, negsuc, ◌<ℤ◌, ◌≤ℤ◌}
use Rattle.std.proofs.lemmas.Bool.{cases_lt}
use Rattle.std.proofs.lemmas.Bool.Decides.{nat_tests}
use Rattle.std.proofs.lemmas.Int.{ints}
use Rattle.muni_rule.specs.Payments.{PaymentSeries}
use Rattle.muni_rule.specs.declared.verdict.Verdict.{Verdict}
use Rattle.muni_rule.specs.declared.verdict.Verdict.TheVariants as verdict
use Rattle.muni_yield.specs.Bracket.{YieldBracket, IsBracket, IsVerdictKept, is_settled, run}
use Rattle.muni_yield.specs.Known.{IsWindow}
use Rattle.muni_yield.specs.Places.{yield_at}
use Rattle.muni_yield.specs.Settled.{printed_as, outcome_at, outcome_of}
use Rattle.muni_yield.specs.declared.outcome.Outcome.TheVariants as found
use Rattle.muni_yield.specs.declared.window.Window.{Window}
use Rattle.muni_yield.proofs.BracketLemmas.{settled-next}
use Rattle.muni_yield.proofs.FinalLemmas.{run-out, run-held}
use Rattle.muni_sched.specs.FigureKind.{Yield}
use Rattle.muni_sched.specs.declared.outcome.CandidateOutcome.{CandidateOutcome}
use Rattle.muni_sched.specs.declared.outcome.CandidateOutcome.TheVariants.{Unsure, Above}
use Rattle.muni_sched.specs.Figures.{IsOf}
use Rattle.muni_sched.specs.Lowest as lowest
use Rattle.muni_sched.specs.Ranks.{rank}
use Rattle.muni_sched.specs.YieldOutcome.{many_yield}
use Rattle.muni_sched.proofs.IntLemmas.{int_eq-same, int_eq-other}

-- the outcome of candidate k, its rank, and what is known of it: past the last one it is known to be Above
abbrev pub at : List CandidateOutcome → ℕ → CandidateOutcome
at outcomes k = lowest.outcome_at outcomes k

abbrev pub rank_of : CandidateOutcome → ℤ
rank_of outcome = rank (negsuc 5000) outcome

abbrev pub known_at : List (Option CandidateOutcome) → ℕ → Option CandidateOutcome
known_at known k = get_or known k (Some Above)

-- ---- the rank of the outcome that a bracket comes to
-- it lies between the yields at two places
pub record IsBetween (low high : ℕ) (outcome : CandidateOutcome) : Type 0 where
  pub least : 1 ≤ low → yield_at low ≤ℤ rank_of outcome
  pub most : high ≤ 105002 → rank_of outcome <ℤ yield_at high
  pub of : IsOf Yield outcome

-- of the outcome at the end, if the two are neighbours
record IsBeside (low : ℕ) (outcome : CandidateOutcome) : Type 0 where
  from : 1 ≤ low → yield_at low ≤ℤ rank_of outcome
  to : low < 105002 → rank_of outcome <ℤ yield_at (low + 1)
  of : IsOf Yield outcome

pub rank-unsure : (s : ℤ) → s ≢ negsuc 5000 → rank_of (Unsure s) ≡ s
rank-unsure s other = rw (int_eq-other s (negsuc 5000) other) refl

pub rank-least : (s : ℤ) → s ≡ negsuc 5000 → rank_of (Unsure s) ≡ negsuc 2147483646
rank-least s same = rw (int_eq-same s (negsuc 5000) same) refl

beside-unsure : (low : ℕ) → low ≤ 105002 → IsBeside low (Unsure (yield_at low))
beside-unsure low most =
    ⊎_elim
    (λ (none : low < 1).
    let own = rank-least (yield_at low) (omega (arith, ints, none)) in
    record { from = λ some. absurd (omega (arith, none)); to = λ less. omega (arith, ints, own, none); of = (omega (arith, ints), omega (arith, ints, most)) })
    (λ (some : 1 ≤ low).
    let own = rank-unsure (yield_at low) (λ same. omega (arith, ints, same, some)) in
    record { from = λ _. omega (arith, ints, own); to = λ _. omega (arith, ints, own); of = (omega (arith, ints), omega (arith, ints, most)) })
    (cases_lt low 1)

beside-printed : (low : ℕ) → low ≤ 105002 → IsBeside low (many_yield (printed_as low))
beside-printed low most =
    ⊎_elim
    (λ (none : low < 1).
    let zero_low : low ≡ 0 = omega arith in
    rw zero_low (record { from = λ some. absurd (omega arith); to = λ less. omega (arith, ints); of = tt }))
    (λ (some : 1 ≤ low). ⊎_elim
    (λ (less : low < 105002).
    let printed : printed_as low ≡ found.Print (yield_at low) = grind (arith, nat_tests) in
    subst (λ outcome. IsBeside low (many_yield outcome)) (sym printed)
    (record { from = λ _. omega (arith, ints); to = λ _. omega (arith, ints); of = (omega (arith, ints), omega (arith, ints, less)) }))
    (λ (last : 105002 ≤ low).
    let end : low ≡ 105002 = omega arith in
    rw end (record { from = λ _. omega (arith, ints); to = λ less. absurd (omega arith); of = tt }))
    (cases_lt low 105002))
    (cases_lt low 1)

beside : (low : ℕ) (said : Verdict) → low ≤ 105002 → IsBeside low (many_yield (outcome_at low said))
beside low verdict.Unsure most = beside-unsure low most
beside low verdict.Yes most = beside-printed low most
beside low verdict.No most = beside-printed low most

between-last : (low high : ℕ) (last : YieldBracket) → IsBracket last → is_settled last ≡ true → low ≤ last.low → last.high ≤ high → IsBetween low high (many_yield (outcome_of last))
between-last low high last bracket settled from to =
    let next = settled-next last settled in
    let top = bracket.top in
    let is = beside last.low last.at_high (omega (arith, next, top)) in
    record {
      least = λ some. let least = is.from (omega (arith, from, some)) in omega (arith, ints, from, least);
      most = λ asked. let most = is.to (omega (arith, to, next, asked)) in omega (arith, ints, to, next, most);
      of = is.of;
    }

pub between : (count : ℕ) (verdicts : PaymentSeries → ℕ → ℕ → Verdict) (bracket : YieldBracket) → IsBracket bracket → 19 ≤ count + bracket.halvings → IsBetween bracket.low bracket.high (many_yield (outcome_of (run count verdicts bracket)))
between count verdicts bracket is enough =
    let out = run-out count verdicts bracket is enough in
    between-last bracket.low bracket.high (run count verdicts bracket) out.is out.settled out.low out.high

-- and within the places that are known
pub within-window : (count : ℕ) (verdicts : PaymentSeries → ℕ → ℕ → Verdict) (bracket : YieldBracket) (window : Window) → IsBracket bracket → 19 ≤ count + bracket.halvings → IsVerdictKept (verdicts bracket.series bracket.price) bracket → IsWindow (verdicts bracket.series bracket.price) window
    → IsBetween window.yes window.no (many_yield (outcome_of (run count verdicts bracket)))
within-window count verdicts bracket window is enough answered known =
    let out = run-out count verdicts bracket is enough in
    let held = run-held count verdicts bracket window is enough answered known in
    let next = settled-next (run count verdicts bracket) out.settled in
    let no = held.no in
    between-last window.yes window.no (run count verdicts bracket) out.is out.settled held.yes (omega (arith, next, no))
