-- What is left of a search after its last question, and that its outcome is true.
use Rattle.std.proofs.lemmas.Bool.{cases_lt}
use Rattle.std.proofs.Common.{◌≡◌, ◌<◌, ◌≤◌, ◌+◌, ◌*◌, ℕ, zero, suc, Bool, true, false, refl, sym, ◌∙◌, subst, inl, inr, ⊎_elim, arith, ◌⊎◌, ℤ, pos}
use Rattle.muni_rule.specs.ManyPeriods.{to_come, AtLeast, More}
use Rattle.muni_rule.specs.Payments.{PaymentSeries, IsSeries}
use Rattle.muni_rule.specs.declared.verdict.Verdict.{Verdict}
use Rattle.muni_rule.specs.declared.verdict.Verdict.TheVariants.{Yes, No}
use Rattle.muni_rule.specs.WorthEnds.{WorthEnds}
use Rattle.muni_yield.specs.Bracket.{YieldBracket, start_of, is_settled, halved, run, IsBracket, IsMissed, IsVerdictKept}
use Rattle.muni_yield.specs.Known.{IsWindow}
use Rattle.muni_yield.specs.declared.window.Window.{Window}
use Rattle.muni_yield.specs.Outcome.{IsYieldOutcome, IsDoubtfulOutcome, IsVerdictOutcome}
use Rattle.muni_yield.specs.Places.{place_verdict, yield_verdict}
use Rattle.muni_yield.specs.Settled.{final_of}
use Rattle.muni_yield.proofs.PlaceLemmas.{AreEnclosed}
use Rattle.muni_yield.proofs.BracketLemmas.{settled-next, few-asked, halved-next, halved-answered, start-is, run-pending, run-settled, answered-next}
use Rattle.muni_yield.proofs.OutcomeLemmas.{settled-verdict, outcome-true, outcome-doubtful}

-- a search from a bracket that has come to its end
pub record IsRunOut (bracket last : YieldBracket) : Type 0 where
  pub is : IsBracket last
  pub settled : is_settled last ≡ true
  pub low : bracket.low ≤ last.low
  pub high : last.high ≤ bracket.high

either : (test : Bool) → (test ≡ true) ⊎ (test ≡ false)
either true = inl refl
either false = inr refl

pub settled-or_pending : (bracket : YieldBracket) → (is_settled bracket ≡ true) ⊎ (is_settled bracket ≡ false)
settled-or_pending bracket = either (is_settled bracket)

pub run-out : (count : ℕ) (verdicts : PaymentSeries → ℕ → ℕ → Verdict) (bracket : YieldBracket) → IsBracket bracket → 19 ≤ count + bracket.halvings → IsRunOut bracket (run count verdicts bracket)
run-out zero verdicts bracket is enough =
    ⊎_elim
    (λ (settled : is_settled bracket ≡ true). subst (IsRunOut bracket) (sym (run-settled zero verdicts bracket settled)) (record { is = is; settled = settled; low = omega arith; high = omega arith }))
    (λ (pending : is_settled bracket ≡ false). absurd (omega (arith, few-asked bracket is pending)))
    (settled-or_pending bracket)
run-out (suc count) verdicts bracket is enough =
    ⊎_elim
    (λ (settled : is_settled bracket ≡ true). subst (IsRunOut bracket) (sym (run-settled (suc count) verdicts bracket settled)) (record { is = is; settled = settled; low = omega arith; high = omega arith }))
    (λ (pending : is_settled bracket ≡ false).
    let next = halved-next verdicts bracket is pending in
    let rest = run-out count verdicts (halved verdicts bracket) next.is (omega (arith, next.halvings)) in
    subst (IsRunOut bracket) (sym (run-pending count verdicts bracket pending))
    (record { is = rest.is; settled = rest.settled; low = omega (arith, next.low, rest.low); high = omega (arith, next.high, rest.high) }))
    (settled-or_pending bracket)

pub run-answered : (count : ℕ) (verdicts : PaymentSeries → ℕ → ℕ → Verdict) (series : PaymentSeries) (price : ℕ) (bracket : YieldBracket) → IsBracket bracket → bracket.series ≡ series → bracket.price ≡ price → IsVerdictKept (verdicts series price) bracket → IsVerdictKept (verdicts series price) (run count verdicts bracket)
unfolding run
run-answered zero verdicts series price bracket is same_series same_price answered = answered
run-answered (suc count) verdicts series price bracket is same_series same_price answered =
    ⊎_elim
    (λ (settled : is_settled bracket ≡ true). subst (IsVerdictKept (verdicts series price)) (sym (run-settled (suc count) verdicts bracket settled)) answered)
    (λ (pending : is_settled bracket ≡ false).
    let next = halved-next verdicts bracket is pending in
    subst (IsVerdictKept (verdicts series price)) (sym (run-pending count verdicts bracket pending))
    (run-answered count verdicts series price (halved verdicts bracket) next.is (next.series ∙ same_series) (next.price ∙ same_price)
    (answered-next verdicts series price bracket (halved verdicts bracket) same_series same_price (halved-answered verdicts bracket is pending) answered)))
    (settled-or_pending bracket)

-- a search comes to its end within the places that are known
pub record IsHeld (window : Window) (last : YieldBracket) : Type 0 where
  pub yes : window.yes ≤ last.low
  pub no : last.low < window.no

last-held : (verdict : ℕ → Verdict) (last : YieldBracket) (window : Window) → IsBracket last → last.high ≡ last.low + 1 → IsVerdictKept verdict last → IsWindow verdict window → IsHeld window last
last-held verdict last window is next answered known =
    let top = is.top in
    let most = known.most in
    let some = known.some in
    record {
      yes = ⊎_elim
          (λ (less : last.low < window.yes). absurd (⊎_elim
          (λ (unasked : (last.high ≡ 105003) × (last.at_high ≡ No)). omega (arith, unasked.0, next, less, most))
          (λ (missed : IsMissed verdict last.high last.at_high). missed.not_reached (sym missed.same ∙ known.yes last.high (omega (arith, next)) (omega (arith, next, less))))
          answered.high))
          (λ (order : window.yes ≤ last.low). order)
          (cases_lt last.low window.yes);
      no = ⊎_elim
          (λ (less : last.low < window.no). less)
          (λ (order : window.no ≤ last.low). absurd (⊎_elim
          (λ (none : last.low ≡ 0). omega (arith, none, order, some))
          (λ (yes : verdict last.low ≡ Yes). let no = known.no last.low order (omega (arith, top, next)) in let never : Yes ≡ No = sym yes ∙ no in cc)
          answered.low))
          (cases_lt last.low window.no);
    }

pub run-held : (count : ℕ) (verdicts : PaymentSeries → ℕ → ℕ → Verdict) (bracket : YieldBracket) (window : Window) → IsBracket bracket → 19 ≤ count + bracket.halvings → IsVerdictKept (verdicts bracket.series bracket.price) bracket → IsWindow (verdicts bracket.series bracket.price) window → IsHeld window (run count verdicts bracket)
run-held count verdicts bracket window is enough answered known =
    let out = run-out count verdicts bracket is enough in
    last-held (verdicts bracket.series bracket.price) (run count verdicts bracket) window out.is (settled-next (run count verdicts bracket) out.settled)
    (run-answered count verdicts bracket.series bracket.price bracket is refl refl answered) known

-- the final outcome is that of verdicts
pub final-verdict : (ends : PaymentSeries → ℤ → WorthEnds) (series : PaymentSeries) (price : ℕ) → 2 ≤ series.n → 0 < price → IsVerdictOutcome (yield_verdict (ends series) series price) (final_of (place_verdict ends) series price)
unfolding final_of
final-verdict ends series price many some =
    let verdicts = place_verdict ends in
    let start = start_of series price in
    let is = start-is series price many some in
    let out = run-out 19 verdicts start is (omega arith) in
    settled-verdict (yield_verdict (ends series) series price) (run 19 verdicts start) out.is out.settled
    (run-answered 19 verdicts series price start is refl refl (record { low = inl refl; high = inl (refl, refl) }))

-- so it is true, and unsure only in doubt
pub final-true : (ends : PaymentSeries → ℤ → WorthEnds) (series : PaymentSeries) (price : ℕ) → IsSeries series → 2 ≤ series.n → 0 < price → AreEnclosed series (ends series) → IsYieldOutcome (λ y. AtLeast (to_come series) y (pos (360000 * price))) (λ y. More (to_come series) y (pos (360000 * price))) (final_of (place_verdict ends) series price)
final-true ends series price is many some law =
    outcome-true series (ends series) price (final_of (place_verdict ends) series price) is many law (final-verdict ends series price many some)

pub final-doubtful : (ends : PaymentSeries → ℤ → WorthEnds) (series : PaymentSeries) (price : ℕ) → 2 ≤ series.n → 0 < price → AreEnclosed series (ends series) → IsDoubtfulOutcome series price (final_of (place_verdict ends) series price)
final-doubtful ends series price many some law =
    outcome-doubtful series (ends series) price (final_of (place_verdict ends) series price) law (final-verdict ends series price many some)
