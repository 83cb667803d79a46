-- What a question does to a search.
use Rattle.std.proofs.Common.{◌≡◌, ◌<◌, ◌≤◌, ◌+◌, ◌-◌, ◌*◌, ◌/◌, ◌^◌, ℕ, zero, suc, true, false, refl, ap, sym, ◌∙◌, subst, ⊎_elim, inr, arith}
use Rattle.std.specs.Prelude.{if◌then◌else◌}
use Rattle.std.proofs.lemmas.Bool.{cases_lt, eq-eqb, eqb-true}
use Rattle.std.proofs.lemmas.Bool.Decides.{nat_tests}
use Rattle.std.proofs.Math.Nat.{pow-suc}
use Rattle.muni_rule.specs.Payments.{PaymentSeries}
use Rattle.muni_rule.specs.declared.verdict.Verdict.{Verdict}
use Rattle.muni_rule.specs.declared.verdict.Verdict.TheVariants.{Yes, No, Unsure}
use Rattle.muni_yield.specs.Bracket.{YieldBracket, start_of, is_settled, question, answered, halved, run, IsBracket, IsQuestion, IsVerdictKept}

half-power : (halvings : ℕ) → halvings < 19 → 2 ^ (19 - halvings) ≡ 2 * 2 ^ (19 - (halvings + 1))
half-power halvings few =
    let more : 19 - halvings ≡ suc (19 - (halvings + 1)) = omega arith in
    ap (λ n. 2 ^ n) more ∙ omega (arith, pow-suc 2 (19 - (halvings + 1)))

-- nothing is answered by yes yet, or nothing at the top, or both
by-places : {A : Type 0} (bracket : YieldBracket) → IsBracket bracket → (bracket.low ≡ 0 → A) → (1 ≤ bracket.low → bracket.high ≡ 105003 → A) → (1 ≤ bracket.low → bracket.high ≤ 105002 → A) → A
by-places bracket is first second later =
    let top = is.top in
    ⊎_elim
    (λ (some : 0 < bracket.low). ⊎_elim
    (λ (asked : bracket.high < 105003). later (omega (arith, some)) (omega (arith, asked)))
    (λ (top_open : 105003 ≤ bracket.high). second (omega (arith, some)) (omega (arith, top_open, top)))
    (cases_lt bracket.high 105003))
    (λ (none : bracket.low ≤ 0). first (omega (arith, none)))
    (cases_lt 0 bracket.low)

pub pending-apart : (bracket : YieldBracket) → IsBracket bracket → is_settled bracket ≡ false → bracket.low + 1 < bracket.high
pending-apart bracket is pending =
    let apart = is.apart in
    ⊎_elim
    (λ (less : bracket.low + 1 < bracket.high). less)
    (λ (order : bracket.high ≤ bracket.low + 1).
    let settled : is_settled bracket ≡ true = eq-eqb bracket.high (bracket.low + 1) (omega (arith, apart)) in
    let never : true ≡ false = sym settled ∙ pending in cc)
    (cases_lt (bracket.low + 1) bracket.high)

pub settled-next : (bracket : YieldBracket) → is_settled bracket ≡ true → bracket.high ≡ bracket.low + 1
settled-next bracket settled = eqb-true bracket.high (bracket.low + 1) settled

pub few-asked : (bracket : YieldBracket) → IsBracket bracket → is_settled bracket ≡ false → bracket.halvings < 19
few-asked bracket is pending =
    let apart = pending-apart bracket is pending in
    let few = is.few in
    by-places bracket is
    (λ none. let first = is.first none apart in omega (arith, first))
    (λ some top_open. let second = is.second some top_open apart in omega (arith, second))
    (λ some asked. ⊎_elim
    (λ (less : bracket.halvings < 19). less)
    (λ (all : 19 ≤ bracket.halvings).
    let none : 19 - bracket.halvings ≡ 0 = omega arith in
    let one : 2 ^ (19 - bracket.halvings) ≡ 1 = ap (λ n. 2 ^ n) none in
    absurd (omega (arith, is.later some asked, apart, one)))
    (cases_lt bracket.halvings 19))

question-first : (bracket : YieldBracket) → bracket.low ≡ 0 → question bracket ≡ 1
question-first bracket none = grind (arith, nat_tests)

question-second : (bracket : YieldBracket) → 1 ≤ bracket.low → bracket.high ≡ 105003 → question bracket ≡ 105002
question-second bracket some top_open = grind (arith, nat_tests)

question-later : (bracket : YieldBracket) → 1 ≤ bracket.low → bracket.high ≤ 105002 → question bracket ≡ bracket.low + (bracket.high - bracket.low) / 2
question-later bracket some asked = grind (arith, nat_tests)

pub is-question : (bracket : YieldBracket) → IsBracket bracket → is_settled bracket ≡ false → IsQuestion bracket (question bracket)
is-question bracket is pending =
    let apart = pending-apart bracket is pending in
    let few = few-asked bracket is pending in
    by-places bracket is
    (λ none. let first = is.first none apart in let asks = question-first bracket none in record {
      above = omega (arith, asks, none);
      below = omega (arith, asks, first);
      most = omega (arith, asks);
      first = λ _. asks;
      second = λ some _. absurd (omega (arith, none, some));
      near_low = λ some _. absurd (omega (arith, none, some));
      near_high = λ some _. absurd (omega (arith, none, some));
    })
    (λ some top_open. let second = is.second some top_open apart in let asks = question-second bracket some top_open in record {
      above = omega (arith, asks, second);
      below = omega (arith, asks, top_open);
      most = omega (arith, asks);
      first = λ none. absurd (omega (arith, none, some));
      second = λ _ _. asks;
      near_low = λ _ asked. absurd (omega (arith, asked, top_open));
      near_high = λ _ asked. absurd (omega (arith, asked, top_open));
    })
    (λ some asked. let half = half-power bracket.halvings few in let near = is.later some asked in let asks = question-later bracket some asked in record {
      above = omega (arith, asks, apart);
      below = omega (arith, asks, apart);
      most = omega (arith, asks, apart, asked);
      first = λ none. absurd (omega (arith, none, some));
      second = λ _ top_open. absurd (omega (arith, asked, top_open));
      near_low = λ _ _. omega (arith, asks, apart, half, near);
      near_high = λ _ _. omega (arith, asks, apart, half, near);
    })

pub middle-question : (bracket : YieldBracket) → IsBracket bracket → is_settled bracket ≡ false → 1 ≤ bracket.low → bracket.high ≤ 105002 → IsQuestion bracket (bracket.low + (bracket.high - bracket.low) / 2)
middle-question bracket is pending some asked = subst (IsQuestion bracket) (question-later bracket some asked) (is-question bracket is pending)

lowered : (bracket : YieldBracket) (place : ℕ) (verdict : Verdict) → IsBracket bracket → is_settled bracket ≡ false → IsQuestion bracket place → IsBracket (record { series = bracket.series; price = bracket.price; low = bracket.low; high = place; at_high = verdict; halvings = bracket.halvings + 1 })
lowered bracket place verdict is pending asked =
    let few = few-asked bracket is pending in
    let apart = pending-apart bracket is pending in
    let most = asked.most in
    record {
      many = is.many;
      price = is.price;
      apart = asked.above;
      top = omega (arith, most);
      first = λ none wide. absurd (omega (arith, asked.first none, none, wide));
      second = λ some top_open. absurd (omega (arith, most, top_open));
      later = λ some _. by-places bracket is
          (λ none. absurd (omega (arith, none, some)))
          (λ _ top_open. let second = is.second some top_open apart in let width : 2 ^ (19 - (bracket.halvings + 1)) ≡ 131072 = ap (λ n. 2 ^ (19 - (n + 1))) second.1 in omega (arith, asked.second some top_open, width))
          (λ _ known. asked.near_low some known);
      few = omega (arith, few);
    }

raised : (bracket : YieldBracket) (place : ℕ) → IsBracket bracket → is_settled bracket ≡ false → IsQuestion bracket place → IsBracket (record { series = bracket.series; price = bracket.price; low = place; high = bracket.high; at_high = bracket.at_high; halvings = bracket.halvings + 1 })
raised bracket place is pending asked =
    let few = few-asked bracket is pending in
    let apart = pending-apart bracket is pending in
    let above = asked.above in
    record {
      many = is.many;
      price = is.price;
      apart = asked.below;
      top = is.top;
      first = λ none _. absurd (omega (arith, none, above));
      second = λ _ top_open wide. by-places bracket is
          (λ none. let first = is.first none apart in (asked.first none, omega (arith, first)))
          (λ some _. absurd (omega (arith, asked.second some top_open, top_open, wide)))
          (λ _ known. absurd (omega (arith, known, top_open)));
      later = λ _ known. by-places bracket is
          (λ none. let first = is.first none apart in absurd (omega (arith, first, known)))
          (λ _ top_open. absurd (omega (arith, top_open, known)))
          (λ some _. asked.near_high some known);
      few = omega (arith, few);
    }

-- what a question leaves
pub record IsNext (bracket next : YieldBracket) : Type 0 where
  pub is : IsBracket next
  pub series : next.series ≡ bracket.series
  pub price : next.price ≡ bracket.price
  pub halvings : next.halvings ≡ bracket.halvings + 1
  pub low : bracket.low ≤ next.low
  pub high : next.high ≤ bracket.high

next : (bracket : YieldBracket) (place : ℕ) (verdict : Verdict) → IsBracket bracket → is_settled bracket ≡ false → IsQuestion bracket place → IsNext bracket (answered verdict place bracket)
next bracket place Yes is pending asked = record { is = raised bracket place is pending asked; series = refl; price = refl; halvings = refl; low = omega (arith, asked.above); high = omega arith }
next bracket place No is pending asked = record { is = lowered bracket place No is pending asked; series = refl; price = refl; halvings = refl; low = omega arith; high = omega (arith, asked.below) }
next bracket place Unsure is pending asked = record { is = lowered bracket place Unsure is pending asked; series = refl; price = refl; halvings = refl; low = omega arith; high = omega (arith, asked.below) }

pub halved-next : (verdicts : PaymentSeries → ℕ → ℕ → Verdict) (bracket : YieldBracket) → IsBracket bracket → is_settled bracket ≡ false → IsNext bracket (halved verdicts bracket)
halved-next verdicts bracket is pending =
    next bracket (question bracket) (verdicts bracket.series bracket.price (question bracket)) is pending (is-question bracket is pending)

pub start-is : (series : PaymentSeries) (price : ℕ) → 2 ≤ series.n → 0 < price → IsBracket (start_of series price)
start-is series price many some = record {
  many = many;
  price = some;
  apart = omega arith;
  top = omega arith;
  first = λ _ _. (refl, refl);
  second = λ from. absurd (omega (arith, from));
  later = λ from. absurd (omega (arith, from));
  few = omega arith;
}

-- what was answered
answered-more : (verdict : ℕ → Verdict) (bracket : YieldBracket) (place : ℕ) (said : Verdict) → place ≤ 105002 → verdict place ≡ said → IsVerdictKept verdict bracket → IsVerdictKept verdict (answered said place bracket)
answered-more verdict bracket place Yes most same before = record { low = inr same; high = before.high }
answered-more verdict bracket place No most same before = record { low = before.low; high = inr (record { most = most; same = same; not_reached = λ never. cc }) }
answered-more verdict bracket place Unsure most same before = record { low = before.low; high = inr (record { most = most; same = same; not_reached = λ never. cc }) }

pub halved-answered : (verdicts : PaymentSeries → ℕ → ℕ → Verdict) (bracket : YieldBracket) → IsBracket bracket → is_settled bracket ≡ false → IsVerdictKept (verdicts bracket.series bracket.price) bracket → IsVerdictKept (verdicts bracket.series bracket.price) (halved verdicts bracket)
halved-answered verdicts bracket is pending before =
    let asked = is-question bracket is pending in
    answered-more (verdicts bracket.series bracket.price) bracket (question bracket) (verdicts bracket.series bracket.price (question bracket)) asked.most refl before

-- the run of questions, by its first
pub run-pending : (count : ℕ) (verdicts : PaymentSeries → ℕ → ℕ → Verdict) (bracket : YieldBracket) → is_settled bracket ≡ false → run (suc count) verdicts bracket ≡ run count verdicts (halved verdicts bracket)
unfolding run
run-pending count verdicts bracket pending = ap (λ settled. if settled then bracket else run count verdicts (halved verdicts bracket)) pending

pub run-settled : (count : ℕ) (verdicts : PaymentSeries → ℕ → ℕ → Verdict) (bracket : YieldBracket) → is_settled bracket ≡ true → run count verdicts bracket ≡ bracket
unfolding run
run-settled zero verdicts bracket settled = refl
run-settled (suc count) verdicts bracket settled = ap (λ test. if test then bracket else run count verdicts (halved verdicts bracket)) settled

pub run-next : (halvings : ℕ) (verdicts : PaymentSeries → ℕ → ℕ → Verdict) (bracket : YieldBracket) → halvings < 19 → is_settled bracket ≡ false → run (19 - halvings) verdicts bracket ≡ run (19 - (halvings + 1)) verdicts (halved verdicts bracket)
run-next halvings verdicts bracket few pending =
    let more : 19 - halvings ≡ suc (19 - (halvings + 1)) = omega arith in
    ap (λ count. run count verdicts bracket) more ∙ run-pending (19 - (halvings + 1)) verdicts bracket pending

-- the rest of the run from here is the whole run
pub rest-next : (verdicts : PaymentSeries → ℕ → ℕ → Verdict) (start bracket more : YieldBracket) → bracket.halvings < 19 → is_settled bracket ≡ false → more ≡ halved verdicts bracket → more.halvings ≡ bracket.halvings + 1 → run (19 - bracket.halvings) verdicts bracket ≡ run 19 verdicts start → run (19 - more.halvings) verdicts more ≡ run 19 verdicts start
rest-next verdicts start bracket more few pending is count rest =
    ap (λ halvings. run (19 - halvings) verdicts more) count
    ∙ (ap (λ b. run (19 - (bracket.halvings + 1)) verdicts b) is
    ∙ (sym (run-next bracket.halvings verdicts bracket few pending) ∙ rest))

pub answered-next : (verdicts : PaymentSeries → ℕ → ℕ → Verdict) (series : PaymentSeries) (price : ℕ) (bracket more : YieldBracket) → bracket.series ≡ series → bracket.price ≡ price → (IsVerdictKept (verdicts bracket.series bracket.price) bracket → IsVerdictKept (verdicts bracket.series bracket.price) more) → IsVerdictKept (verdicts series price) bracket → IsVerdictKept (verdicts series price) more
answered-next verdicts series price bracket more same_series same_price step before =
    let verdict : verdicts bracket.series bracket.price ≡ verdicts series price = rw (same_series, same_price) refl in
    subst (λ v. IsVerdictKept v more) verdict (step (subst (λ v. IsVerdictKept v bracket) (sym verdict) before))
