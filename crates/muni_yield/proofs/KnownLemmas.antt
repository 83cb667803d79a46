-- A clear verdict at one place decides those at all places on one side of it.
use Rattle.std.proofs.Common.{◌≡◌, ℕ, zero, suc, Bool, true, false, ◌+◌, ◌-◌, ◌*◌, ◌^◌, ◌<◌, ◌≤◌, refl, sym, ◌∙◌, subst, ⊎_elim, arith, Some, None, ℤ, pos, negsuc, ◌-ℤ◌, ◌<ℤ◌, ◌≤ℤ◌}
use Rattle.std.specs.Prelude.{if◌then◌else◌, length, nat_le, nat_lt}
use Rattle.std.proofs.Math.Nat.{pow-lt-pow_left, mul-lt-mul_of_pos_right, one-le-pow}
use Rattle.std.proofs.lemmas.Bool.{cases_lt, leb-true, ltb-true}
use Rattle.std.proofs.lemmas.Int.{ints}
use Rattle.muni_rule.specs.ManyPeriods.{PeriodicPayments, to_come, discount_divisor, sum_to, AtLeast, More, IsWorthAtLeast, IsWorthMore}
use Rattle.muni_rule.specs.Payments.{PaymentSeries, IsSeries, payment_at}
use Rattle.muni_rule.specs.PrintedYield.{boundary, Reached}
use Rattle.muni_rule.specs.Verdicts.{at_least_verdict}
use Rattle.muni_rule.specs.WorthEnds.{WorthEnds, ends_of}
use Rattle.muni_rule.specs.declared.verdict.Verdict.{Verdict}
use Rattle.muni_rule.specs.declared.verdict.Verdict.TheVariants.{Yes, No, Unsure}
use Rattle.muni_rule.proofs.AtLeastLemmas.{many-closed}
use Rattle.muni_rule.proofs.EnclosedLemmas.{IsEnclosed, enclosed, at_least-true, at_least-false}
use Rattle.muni_rule.proofs.ManyPeriodFallLemmas.{many_periods-fall}
use Rattle.muni_rule.proofs.ManyPeriodLemmas.{zero_yield-sum}
use Rattle.muni_rule.proofs.PowerLemmas.{not-zero}
use Rattle.muni_multi.specs.Readings.{is_yes, is_no, is_clear}
use Rattle.muni_multi.specs.declared.verdicts.Reading.{Reading}
use Rattle.muni_yield.specs.Places.{yield_at, yield_verdict, place_verdict, ends_at}
use Rattle.muni_yield.specs.Known.{IsWindow, AreNarrow, window_at, learnt_of, learnt, window_first, known_at}
use Rattle.muni_yield.specs.declared.window.Window.{Window}
use Rattle.muni_yield.proofs.PlaceLemmas.{AreEnclosed, Tells, tells, in-range}

-- the payments and the price of a search, and what is known of their ends
pub record MayBeAsked (series : PaymentSeries) (ends : ℤ → WorthEnds) (price : ℕ) : Type 0 where
  pub is : IsSeries series
  pub many : 2 ≤ series.n
  pub some : 0 < price
  pub narrow : AreNarrow series ends

are-enclosed : (series : PaymentSeries) (ends : ℤ → WorthEnds) (price : ℕ) → MayBeAsked series ends price → AreEnclosed series ends
are-enclosed series ends price may = λ y within. let at = may.narrow y within in enclosed series y (ends y) may.is within at.holds at.narrow

-- ---- what a clear verdict says at its own place
yes-said : (verdict : Verdict) → is_yes verdict ≡ true → verdict ≡ Yes
yes-said Yes said = refl
yes-said No said = cc
yes-said Unsure said = cc

no-said : (verdict : Verdict) → is_no verdict ≡ true → verdict ≡ No
no-said Yes said = cc
no-said No said = refl
no-said Unsure said = cc

clear-reached : (series : PaymentSeries) (y : ℤ) (enclosure : WorthEnds) (price : ℕ) → IsEnclosed series y enclosure → is_clear Yes (ends_of series y enclosure) (360000 * price + series.accrued) ≡ true → AtLeast (to_come series) y (pos (360000 * price + 360))
clear-reached series y enclosure price given clear =
    let order : 360000 * price + series.accrued + 360 ≡ 360000 * price + 360 + series.accrued = omega arith in
    let said : at_least_verdict (ends_of series y enclosure) (360000 * price + 360 + series.accrued) ≡ Yes = subst (λ x. at_least_verdict (ends_of series y enclosure) x ≡ Yes) order (yes-said (at_least_verdict (ends_of series y enclosure) (360000 * price + series.accrued + 360)) clear) in
    at_least-true series y enclosure (360000 * price + 360) _ given refl said

clear-missed : (series : PaymentSeries) (y : ℤ) (enclosure : WorthEnds) (price : ℕ) → 0 < price → IsEnclosed series y enclosure → is_clear No (ends_of series y enclosure) (360000 * price + series.accrued) ≡ true → AtLeast (to_come series) y (pos (360000 * price - 360)) → ⊥
clear-missed series y enclosure price some given clear =
    let order : 360000 * price + series.accrued - 360 ≡ 360000 * price - 360 + series.accrued = omega arith in
    let said : at_least_verdict (ends_of series y enclosure) (360000 * price - 360 + series.accrued) ≡ No = subst (λ x. at_least_verdict (ends_of series y enclosure) x ≡ No) order (no-said (at_least_verdict (ends_of series y enclosure) (360000 * price + series.accrued - 360)) clear) in
    at_least-false series y enclosure (360000 * price - 360) _ given refl said

-- ---- what the price says of the verdict at a place
more-less : (bond : PeriodicPayments) (y : ℤ) (x z : ℕ) → 0 < discount_divisor y → x < z → IsWorthAtLeast bond y z → IsWorthMore bond y x
more-less bond y x z some less at =
    let divisor = discount_divisor y ^ ((length bond.payments - 1) * 180 + (180 - bond.a)) in
    let raised : x ^ 180 < z ^ 180 = pow-lt-pow_left less not-zero in
    let times : x ^ 180 * divisor < z ^ 180 * divisor = mul-lt-mul_of_pos_right raised (one-le-pow ((length bond.payments - 1) * 180 + (180 - bond.a)) (discount_divisor y) some) in
    let reached = at.at_least in
    record { more = omega (arith, times, reached) }

reached-more : (series : PaymentSeries) (amount : ℕ) (y : ℤ) → 0 < discount_divisor y → AtLeast (to_come series) y (pos (amount + 360)) → More (to_come series) y (pos amount)
reached-more series amount y some at = more-less (to_come series) y (amount + series.accrued) (amount + 360 + series.accrued) some (omega arith) at

reached-above : (series : PaymentSeries) (amount : ℕ) (t : ℤ) → 0 < discount_divisor (boundary t) → AtLeast (to_come series) (boundary t) (pos (amount + 360)) → Reached (λ y. AtLeast (to_come series) y (pos amount)) (λ y. More (to_come series) y (pos amount)) t
reached-above series amount (pos zero) some at = reached-more series amount (boundary (pos zero)) some at
reached-above series amount (pos (suc less)) some at = many-closed (to_come series) (boundary (pos (suc less))) (pos (amount + 360)) (pos amount) (omega (arith, ints)) at
reached-above series amount (negsuc less) some at = reached-more series amount (boundary (negsuc less)) some at

at_least-reached : (series : PaymentSeries) (amount t : ℤ) → IsSeries series → 2 ≤ series.n → Reached (λ y. AtLeast (to_come series) y amount) (λ y. More (to_come series) y amount) t → AtLeast (to_come series) (boundary t) amount
at_least-reached series amount (pos zero) is many reached = (many_periods-fall series amount is many).more (boundary (pos zero)) reached
at_least-reached series amount (pos (suc less)) is many reached = reached
at_least-reached series amount (negsuc less) is many reached = (many_periods-fall series amount is many).more (boundary (negsuc less)) reached

yes-by : (series : PaymentSeries) (price : ℕ) (t : ℤ) (verdict : Verdict) → 0 < discount_divisor (boundary t) → AtLeast (to_come series) (boundary t) (pos (360000 * price + 360)) → Tells series price t verdict → verdict ≡ Yes
yes-by series price t Yes some at told = refl
yes-by series price t No some at told = absurd (told (reached-above series (360000 * price) t some at))
yes-by series price t Unsure some at told = absurd (told.near.not_far_above at)

no-by : (series : PaymentSeries) (price : ℕ) (t : ℤ) (verdict : Verdict) → IsSeries series → 2 ≤ series.n → 0 < price → (AtLeast (to_come series) (boundary t) (pos (360000 * price - 360)) → ⊥) → Tells series price t verdict → verdict ≡ No
no-by series price t Yes is many some missed told =
    absurd (missed (many-closed (to_come series) (boundary t) (pos (360000 * price)) (pos (360000 * price - 360)) (omega (arith, ints)) (at_least-reached series (pos (360000 * price)) t is many told)))
no-by series price t No is many some missed told = refl
no-by series price t Unsure is many some missed told =
    let less : (pos (360000 * price) -ℤ pos 360) ≡ pos (360000 * price - 360) = omega (arith, ints) in
    absurd (missed (subst (λ amount. AtLeast (to_come series) (boundary t) amount) less told.near.not_far_below))

-- ---- places on one side
place-from : (place : ℕ) → 1 ≤ place → negsuc 4999 ≤ℤ yield_at place
place-from place from = omega (arith, ints)

place-to : (place : ℕ) → place ≤ 105002 → yield_at place ≤ℤ pos 100001
place-to place to = omega (arith, ints)

place-rises : (place other : ℕ) → place < other → boundary (yield_at place) <ℤ boundary (yield_at other)
place-rises place other less = omega (arith, ints)

verdict-yes : (series : PaymentSeries) (ends : ℤ → WorthEnds) (price place : ℕ) → MayBeAsked series ends price → 1 ≤ place → place ≤ 105002 → AtLeast (to_come series) (boundary (yield_at place)) (pos (360000 * price + 360)) → yield_verdict ends series price (yield_at place) ≡ Yes
verdict-yes series ends price place may from to at =
    let t = yield_at place in
    let law = are-enclosed series ends price may in
    let within = in-range t (place-from place from) (place-to place to) in
    yes-by series price t (yield_verdict ends series price t) (law (boundary t) within).divisor at
    (tells series ends price t (yield_verdict ends series price t) law (place-from place from) (place-to place to) refl)

verdict-no : (series : PaymentSeries) (ends : ℤ → WorthEnds) (price place : ℕ) → MayBeAsked series ends price → 1 ≤ place → place ≤ 105002 → (AtLeast (to_come series) (boundary (yield_at place)) (pos (360000 * price - 360)) → ⊥) → yield_verdict ends series price (yield_at place) ≡ No
verdict-no series ends price place may from to missed =
    let t = yield_at place in
    let law = are-enclosed series ends price may in
    no-by series price t (yield_verdict ends series price t) may.is may.many may.some missed
    (tells series ends price t (yield_verdict ends series price t) law (place-from place from) (place-to place to) refl)

reached-below : (series : PaymentSeries) (amount y z : ℤ) → IsSeries series → 2 ≤ series.n → y <ℤ z → AtLeast (to_come series) z amount → AtLeast (to_come series) y amount
reached-below series amount y z is many less at = let falls = many_periods-fall series amount is many in falls.more y (falls.lower y z less at)

yes-reached : (series : PaymentSeries) (ends : ℤ → WorthEnds) (price place other : ℕ) → MayBeAsked series ends price → 1 ≤ other → other ≤ place → place ≤ 105002 → AtLeast (to_come series) (boundary (yield_at place)) (pos (360000 * price + 360)) → yield_verdict ends series price (yield_at other) ≡ Yes
yes-reached series ends price place other may from order to at =
    ⊎_elim
    (λ (less : other < place). verdict-yes series ends price other may from (omega arith) (reached-below series (pos (360000 * price + 360)) (boundary (yield_at other)) (boundary (yield_at place)) may.is may.many (place-rises other place less) at))
    (λ (same : place ≤ other). let here : place ≡ other = omega arith in verdict-yes series ends price other may from (omega arith) (subst (λ p. AtLeast (to_come series) (boundary (yield_at p)) (pos (360000 * price + 360))) here at))
    (cases_lt other place)

yes-below : (series : PaymentSeries) (ends : ℤ → WorthEnds) (price place other : ℕ) → MayBeAsked series ends price → 1 ≤ other → other ≤ place → place ≤ 105002 → is_clear Yes (ends_of series (boundary (yield_at place)) (ends (boundary (yield_at place)))) (360000 * price + series.accrued) ≡ true → yield_verdict ends series price (yield_at other) ≡ Yes
yes-below series ends price place other may from order to clear =
    let z = boundary (yield_at place) in
    let law = are-enclosed series ends price may in
    yes-reached series ends price place other may from order to
    (clear-reached series z (ends z) price (law z (in-range (yield_at place) (place-from place (omega arith)) (place-to place to))) clear)

no-above : (series : PaymentSeries) (ends : ℤ → WorthEnds) (price place other : ℕ) → MayBeAsked series ends price → 1 ≤ place → place ≤ other → other ≤ 105002 → is_clear No (ends_of series (boundary (yield_at place)) (ends (boundary (yield_at place)))) (360000 * price + series.accrued) ≡ true → yield_verdict ends series price (yield_at other) ≡ No
no-above series ends price place other may from order to clear =
    let z = boundary (yield_at place) in
    let law = are-enclosed series ends price may in
    let missed = clear-missed series z (ends z) price may.some (law z (in-range (yield_at place) (place-from place from) (place-to place (omega arith)))) clear in
    ⊎_elim
    (λ (less : place < other). verdict-no series ends price other may (omega arith) to (λ at. missed (reached-below series (pos (360000 * price - 360)) z (boundary (yield_at other)) may.is may.many (place-rises place other less) at)))
    (λ (same : other ≤ place). let here : other ≡ place = omega arith in verdict-no series ends price other may (omega arith) to (λ at. missed (subst (λ p. AtLeast (to_come series) (boundary (yield_at p)) (pos (360000 * price - 360))) here at)))
    (cases_lt place other)

-- ---- windows
learnt-by : (ends : PaymentSeries → ℤ → WorthEnds) (series : PaymentSeries) (price place : ℕ) (window : Window) (verdict : Verdict) (clear : Bool) → MayBeAsked series (ends series) price → 1 ≤ place → place ≤ 105002 → clear ≡ is_clear verdict (ends_at ends series place) (360000 * price + series.accrued) → IsWindow (place_verdict ends series price) window → IsWindow (place_verdict ends series price) (if clear then learnt_of verdict place window else window)
learnt-by ends series price place window verdict false may from to is before = before
learnt-by ends series price place window Yes true may from to is before = record {
  most = to;
  some = before.some;
  yes = λ other some order. yes-below series (ends series) price place other may some order to (sym is);
  no = before.no;
}
learnt-by ends series price place window No true may from to is before = record {
  most = before.most;
  some = from;
  yes = before.yes;
  no = λ other order most. no-above series (ends series) price place other may from order most (sym is);
}
learnt-by ends series price place window Unsure true may from to is before = before

pub learnt-window : (ends : PaymentSeries → ℤ → WorthEnds) (series : PaymentSeries) (price place : ℕ) (window : Window) (told : Reading) → MayBeAsked series (ends series) price → 1 ≤ place → place ≤ 105002 → told.clear ≡ is_clear told.verdict (ends_at ends series place) (360000 * price + series.accrued) → IsWindow (place_verdict ends series price) window → IsWindow (place_verdict ends series price) (learnt place told window)
learnt-window ends series price place window told may from to is before = learnt-by ends series price place window told.verdict told.clear may from to is before

-- nothing is known without a question
pub unknown-window : (verdict : ℕ → Verdict) → IsWindow verdict (window_at 0 105003)
unknown-window verdict = record {
  most = omega arith;
  some = omega arith;
  yes = λ other some order. absurd (omega (arith, some, order));
  no = λ other order most. absurd (omega (arith, order, most));
}

-- payments that are worth more than the price at a place reach all places up to it
pub reached-window : (ends : PaymentSeries → ℤ → WorthEnds) (series : PaymentSeries) (price place : ℕ) (window : Window) → MayBeAsked series (ends series) price → 1 ≤ place → place ≤ 105002 → AtLeast (to_come series) (boundary (yield_at place)) (pos (360000 * price + 360)) → IsWindow (place_verdict ends series price) window → IsWindow (place_verdict ends series price) (window_at place window.no)
reached-window ends series price place window may from to at before = record {
  most = to;
  some = before.some;
  yes = λ other some order. yes-reached series (ends series) price place other may some order to at;
  no = before.no;
}

sum-reached : (series : PaymentSeries) (price : ℕ) → IsSeries series → 360000 * price + series.accrued + 360 ≤ sum_to (payment_at series) series.n → AtLeast (to_come series) (pos 0) (pos (360000 * price + 360))
sum-reached series price is order = ((zero_yield-sum series is).at_least (pos (360000 * price + 360))).1 (omega (arith, ints, order))

sum-missed : (series : PaymentSeries) (price : ℕ) → IsSeries series → 0 < price → sum_to (payment_at series) series.n + 360 < 360000 * price + series.accrued → AtLeast (to_come series) (pos 0) (pos (360000 * price - 360)) → ⊥
sum-missed series price is some less at =
    let order = ((zero_yield-sum series is).at_least (pos (360000 * price - 360))).0 at in
    omega (arith, ints, less, order)

zero-above : (place : ℕ) → place ≤ 5001 → boundary (yield_at place) <ℤ pos 0
zero-above place below = omega (arith, ints)

zero-below : (place : ℕ) → 5002 ≤ place → pos 0 <ℤ boundary (yield_at place)
zero-below place above = omega (arith, ints)

first-by : (ends : PaymentSeries → ℤ → WorthEnds) (series : PaymentSeries) (price : ℕ) (reached missed : Bool) → MayBeAsked series (ends series) price → (reached ≡ true → AtLeast (to_come series) (pos 0) (pos (360000 * price + 360))) → (missed ≡ true → AtLeast (to_come series) (pos 0) (pos (360000 * price - 360)) → ⊥)
    → IsWindow (place_verdict ends series price) (if reached then window_at 5001 105003 else (if missed then window_at 0 5002 else window_at 0 105003))
first-by ends series price true missed may reach miss = record {
  most = omega arith;
  some = omega arith;
  yes = λ place from to. verdict-yes series (ends series) price place may from (omega (arith, to)) (reached-below series (pos (360000 * price + 360)) (boundary (yield_at place)) (pos 0) may.is may.many (zero-above place to) (reach refl));
  no = λ place from to. absurd (omega (arith, from, to));
}
first-by ends series price false true may reach miss = record {
  most = omega arith;
  some = omega arith;
  yes = λ place from to. absurd (omega (arith, from, to));
  no = λ place from to. verdict-no series (ends series) price place may (omega (arith, from)) to (λ at. miss refl (reached-below series (pos (360000 * price - 360)) (pos 0) (boundary (yield_at place)) may.is may.many (zero-below place from) at));
}
first-by ends series price false false may reach miss = record {
  most = omega arith;
  some = omega arith;
  yes = λ place from to. absurd (omega (arith, from, to));
  no = λ place from to. absurd (omega (arith, from, to));
}

pub first-window : (ends : PaymentSeries → ℤ → WorthEnds) (series : PaymentSeries) (price : ℕ) → MayBeAsked series (ends series) price → IsWindow (place_verdict ends series price) (window_first series price)
first-window ends series price may =
    let sum = sum_to (payment_at series) series.n in
    let dirty = 360000 * price + series.accrued in
    first-by ends series price (nat_le (dirty + 360) sum) (nat_lt (sum + 360) dirty) may
    (λ test. sum-reached series price may.is (leb-true (dirty + 360) sum test))
    (λ test at. sum-missed series price may.is may.some (ltb-true (sum + 360) dirty test) at)

known-by : (verdict : ℕ → Verdict) (place : ℕ) (reached missed : Bool) (said : Verdict) → (reached ≡ true → verdict place ≡ Yes) → (missed ≡ true → verdict place ≡ No) → (if reached then Some Yes else (if missed then Some No else None)) ≡ Some said → verdict place ≡ said
known-by verdict place true missed said reach miss is = let same : Yes ≡ said = cc in reach refl ∙ same
known-by verdict place false true said reach miss is = let same : No ≡ said = cc in miss refl ∙ same
known-by verdict place false false said reach miss is = cc

-- what is known at a place is the verdict there
pub known-verdict : (verdict : ℕ → Verdict) (window : Window) (place : ℕ) (said : Verdict) → 1 ≤ place → place ≤ 105002 → IsWindow verdict window → known_at window place ≡ Some said → verdict place ≡ said
known-verdict verdict window place said from to is told =
    known-by verdict place (nat_le place window.yes) (nat_le window.no place) said
    (λ test. is.yes place from (leb-true place window.yes test))
    (λ test. is.no place (leb-true window.no place test) to)
    told
