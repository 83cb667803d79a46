-- All brackets of a round are one, since of two that part the upper one is dropped.
use Rattle.std.proofs.Common.{◌≡◌, ◌<◌, ◌≤◌, ◌+◌, ◌-◌, ℕ, List, [], ◌∷◌, Bool, true, false, not, ◌&&◌, All, get_or, Option, Some, None, refl, ap, sym, subst, inl, inr, ⊎_elim, arith, ◌∙◌, ◌⊎◌, ℤ, ◌<ℤ◌, ◌≤ℤ◌}
use Rattle.std.specs.Prelude.{if◌then◌else◌, nat_le}
use Rattle.std.specs.List.{filter}
use Rattle.std.proofs.lemmas.Bool.{and_from, le-leb}
use Rattle.std.proofs.lemmas.Int.{ints, clamps}
use Rattle.std.proofs.lemmas.List.Elements.{All-head, All-tail, All-filter, filter_passes}
use Rattle.muni_rule.specs.Payments.{PaymentSeries}
use Rattle.muni_rule.specs.declared.verdict.Verdict.{Verdict}
use Rattle.muni_rule.specs.declared.verdict.Verdict.TheVariants as verdict
use Rattle.muni_yield.specs.Bracket.{YieldBracket, IsBracket, is_settled, question, answered, halved, run}
use Rattle.muni_yield.specs.Places.{yield_at}
use Rattle.muni_yield.specs.Settled.{outcome_of}
use Rattle.muni_yield.proofs.BracketLemmas.{halved-next, is-question, run-next}
use Rattle.muni_sched.specs.declared.outcome.CandidateOutcome.{CandidateOutcome}
use Rattle.muni_sched.specs.Rounds.{missed_by, ceiling_over, is_kept}
use Rattle.muni_sched.specs.Search.{lower_of, is_at_ceiling, is_passed}
use Rattle.muni_sched.specs.YieldOutcome.{many_yield}
use Rattle.muni_sched.proofs.IntLemmas.{less_or_not}
use Rattle.muni_sched.proofs.BetweenLemmas.{rank_of, IsBetween, between}
use Rattle.muni_sched.proofs.SearchLemmas.{IsPast, yield-rises, past-lower}

-- the outcome that a bracket comes to
abbrev pub end_of : (PaymentSeries → ℕ → ℕ → Verdict) → ℕ → YieldBracket → CandidateOutcome
end_of verdicts r bracket = many_yield (outcome_of (run (19 - r) verdicts bracket))

-- a bracket before round r: between two places, and of an outcome that is not lower than the least
pub record IsLevel (verdicts : PaymentSeries → ℕ → ℕ → Verdict) (r low high : ℕ) (least : ℤ) (bracket : YieldBracket) : Type 0 where
  pub is : IsBracket bracket
  pub pending : is_settled bracket ≡ false
  pub halvings : bracket.halvings ≡ r
  pub low_is : bracket.low ≡ low
  pub high_is : bracket.high ≡ high
  pub from : least ≤ℤ rank_of (end_of verdicts r bracket)

-- and as a halving leaves it, beside the lowest
pub record IsBesideLead (lead bracket : YieldBracket) : Type 0 where
  pub place : ((bracket.low ≡ lead.low) × (bracket.high ≡ lead.high)) ⊎ ((bracket.low ≡ lead.high) × (lead.high ≤ 105002))
  pub high : lead.high ≤ bracket.high

-- ---- one halving
same-question : (it other : YieldBracket) → it.low ≡ other.low → it.high ≡ other.high → question it ≡ question other
same-question it other low high = rw (low, high) refl

beside-by : (said told : Verdict) (place : ℕ) (lead it : YieldBracket) (least rank : CandidateOutcome) → lead.low < place → place < lead.high → place ≤ 105002 → it.low ≡ lead.low → it.high ≡ lead.high → IsBetween (answered said place lead).low (answered said place lead).high least → IsBetween (answered told place it).low (answered told place it).high rank → rank_of least ≤ℤ rank_of rank → IsBesideLead (answered said place lead) (answered told place it)
beside-by verdict.Yes verdict.Yes place lead it least rank above below most low high held other order = record { place = inl (refl, high); high = omega (arith, high) }
beside-by verdict.Yes verdict.No place lead it least rank above below most low high held other order =
    let from = held.least (omega (arith, above)) in let to = other.most most in absurd (omega (arith, ints, from, to, order))
beside-by verdict.Yes verdict.Unsure place lead it least rank above below most low high held other order =
    let from = held.least (omega (arith, above)) in let to = other.most most in absurd (omega (arith, ints, from, to, order))
beside-by verdict.No verdict.Yes place lead it least rank above below most low high held other order = record { place = inr (refl, most); high = omega (arith, below, high) }
beside-by verdict.No verdict.No place lead it least rank above below most low high held other order = record { place = inl (low, refl); high = omega arith }
beside-by verdict.No verdict.Unsure place lead it least rank above below most low high held other order = record { place = inl (low, refl); high = omega arith }
beside-by verdict.Unsure verdict.Yes place lead it least rank above below most low high held other order = record { place = inr (refl, most); high = omega (arith, below, high) }
beside-by verdict.Unsure verdict.No place lead it least rank above below most low high held other order = record { place = inl (low, refl); high = omega arith }
beside-by verdict.Unsure verdict.Unsure place lead it least rank above below most low high held other order = record { place = inl (low, refl); high = omega arith }

-- the outcome stays
pub same-end : (verdicts : PaymentSeries → ℕ → ℕ → Verdict) (r : ℕ) (bracket : YieldBracket) → r < 19 → is_settled bracket ≡ false → end_of verdicts (r + 1) (halved verdicts bracket) ≡ end_of verdicts r bracket
same-end verdicts r bracket few pending = ap (λ (last : YieldBracket). many_yield (outcome_of last)) (sym (run-next r verdicts bracket few pending))

after-between : (verdicts : PaymentSeries → ℕ → ℕ → Verdict) (r low high : ℕ) (least : ℤ) (bracket : YieldBracket) → r < 19 → IsLevel verdicts r low high least bracket → IsBetween (halved verdicts bracket).low (halved verdicts bracket).high (end_of verdicts r bracket)
after-between verdicts r low high least bracket few level =
    let next = halved-next verdicts bracket level.is level.pending in
    let halvings = level.halvings in
    subst (IsBetween (halved verdicts bracket).low (halved verdicts bracket).high) (same-end verdicts r bracket few level.pending)
    (between (19 - (r + 1)) verdicts (halved verdicts bracket) next.is (omega (arith, next.halvings, halvings, few)))

beside-lead : (verdicts : PaymentSeries → ℕ → ℕ → Verdict) (r : ℕ) (lead it : YieldBracket) → r < 19 → IsLevel verdicts r lead.low lead.high (rank_of (end_of verdicts r lead)) lead → IsLevel verdicts r lead.low lead.high (rank_of (end_of verdicts r lead)) it → IsBesideLead (halved verdicts lead) (halved verdicts it)
beside-lead verdicts r lead it few own level =
    let asks = is-question lead own.is own.pending in
    let same = same-question it lead level.low_is level.high_is in
    let from = after-between verdicts r lead.low lead.high (rank_of (end_of verdicts r lead)) it few level in
    let said = verdicts lead.series lead.price (question lead) in
    subst (λ (place : ℕ). IsBesideLead (halved verdicts lead) (answered (verdicts it.series it.price place) place it)) (sym same)
    (beside-by said (verdicts it.series it.price (question lead)) (question lead) lead it (end_of verdicts r lead) (end_of verdicts r it) asks.above asks.below asks.most level.low_is level.high_is
    (after-between verdicts r lead.low lead.high (rank_of (end_of verdicts r lead)) lead few own)
    (subst (λ (place : ℕ). IsBetween (answered (verdicts it.series it.price place) place it).low (answered (verdicts it.series it.price place) place it).high (end_of verdicts r it)) same from)
    level.from)

-- ---- ceilings
pub past-at : (ceiling : Option ℤ) (t : ℤ) → IsPast ceiling t → is_at_ceiling ceiling t ≡ true
past-at None t past = absurd past
past-at (Some c) t past = grind (arith, ints)

past-either : (ceiling other : Option ℤ) (t : ℤ) → IsPast (lower_of ceiling other) t → IsPast ceiling t ⊎ IsPast other t
past-either None other t past = inr past
past-either (Some c) None t past = inl past
past-either (Some c) (Some o) t past =
    ⊎_elim
    (λ (less : c <ℤ o). inl (omega (arith, ints, clamps, less, past)))
    (λ (more : o ≤ℤ c). inr (omega (arith, ints, clamps, more, past)))
    (less_or_not c o)

past-second : (ceiling other : Option ℤ) (t : ℤ) → IsPast other t → IsPast (lower_of ceiling other) t
past-second None other t past = past
past-second (Some c) None t past = absurd past
past-second (Some c) (Some o) t past = omega (arith, ints, clamps, past)

pub past-over : (ceiling : Option ℤ) (asked : List YieldBracket) (t : ℤ) → IsPast ceiling t → IsPast (ceiling_over ceiling asked) t
past-over ceiling [] t past = past
past-over ceiling (it ∷ rest) t past = past-over (lower_of ceiling (missed_by it)) rest t (past-lower ceiling (missed_by it) t past)

missed-past : (test : Bool) (figure t : ℤ) → IsPast (if test then Some figure else None) t → figure ≤ℤ t
missed-past true figure t past = past
missed-past false figure t past = absurd past

missed-is : (bracket : YieldBracket) → bracket.high ≤ 105002 → IsPast (missed_by bracket) (yield_at bracket.high)
missed-is bracket most = let test = le-leb bracket.high 105002 most in subst (λ test. IsPast (if test then Some (yield_at bracket.high) else None) (yield_at bracket.high)) (sym test) (omega (arith, ints))

-- a bracket is in a list
abbrev pub Has : YieldBracket → List YieldBracket → Type 0
Has bracket [] = ⊥
Has bracket (it ∷ rest) = (it ≡ bracket) ⊎ Has bracket rest

pub has-ceiling : (ceiling : Option ℤ) (asked : List YieldBracket) (lead : YieldBracket) → Has lead asked → lead.high ≤ 105002 → IsPast (ceiling_over ceiling asked) (yield_at lead.high)
has-ceiling ceiling [] lead has most = absurd has
has-ceiling ceiling (it ∷ rest) lead has most =
    ⊎_elim
    (λ (here : it ≡ lead). past-over (lower_of ceiling (missed_by it)) rest (yield_at lead.high)
    (past-second ceiling (missed_by it) (yield_at lead.high) (subst (λ b. IsPast (missed_by b) (yield_at lead.high)) (sym here) (missed-is lead most))))
    (λ (later : Has lead rest). has-ceiling (lower_of ceiling (missed_by it)) rest lead later most)
    has

-- below all that is missed a ceiling says what it said before
pub below-same : (ceiling : Option ℤ) (asked : List YieldBracket) (high : ℕ) (t : ℤ) → All (λ (it : YieldBracket). high ≤ it.high) asked → t <ℤ yield_at high → IsPast (ceiling_over ceiling asked) t → IsPast ceiling t
below-same ceiling [] high t all less past = past
below-same ceiling (it ∷ rest) high t all less past =
    let here = All-head (λ (it : YieldBracket). high ≤ it.high) it rest all in
    ⊎_elim
    (λ (before : IsPast ceiling t). before)
    (λ (missed : IsPast (missed_by it) t). let over = missed-past (nat_le it.high 105002) (yield_at it.high) t missed in let rises = yield-rises high it.high here in absurd (omega (arith, ints, over, rises, less)))
    (past-either ceiling (missed_by it) t
    (below-same (lower_of ceiling (missed_by it)) rest high t (All-tail (λ (it : YieldBracket). high ≤ it.high) it rest all) less past))

-- ---- one round of a list
pub record IsAfter (verdicts : PaymentSeries → ℕ → ℕ → Verdict) (r : ℕ) (lead : YieldBracket) (least : ℤ) (it : YieldBracket) : Type 0 where
  pub is : IsBracket it
  pub halvings : it.halvings ≡ r
  pub from : least ≤ℤ rank_of (end_of verdicts r it)
  pub beside : IsBesideLead lead it

pub one-after : (verdicts : PaymentSeries → ℕ → ℕ → Verdict) (r : ℕ) (lead it : YieldBracket) → r < 19 → IsLevel verdicts r lead.low lead.high (rank_of (end_of verdicts r lead)) lead → IsLevel verdicts r lead.low lead.high (rank_of (end_of verdicts r lead)) it → IsAfter verdicts (r + 1) (halved verdicts lead) (rank_of (end_of verdicts (r + 1) (halved verdicts lead))) (halved verdicts it)
one-after verdicts r lead it few own level =
    let next = halved-next verdicts it level.is level.pending in
    let halvings = level.halvings in
    let least = ap rank_of (same-end verdicts r lead few own.pending) in
    let rank = ap rank_of (same-end verdicts r it few level.pending) in
    let from = level.from in
    record {
      is = next.is;
      halvings = omega (arith, next.halvings, halvings);
      from = omega (arith, ints, least, rank, from);
      beside = beside-lead verdicts r lead it few own level;
    }

kept-parts : (settled passed : Bool) → (not settled && not passed) ≡ true → (settled ≡ false) × (passed ≡ false)
kept-parts true passed kept = cc
kept-parts false true kept = cc
kept-parts false false kept = (refl, refl)

false-true : (test : Bool) → test ≡ false → test ≡ true → ⊥
false-true test not is = cc

passed-if : (ceiling : Option ℤ) (bracket : YieldBracket) → 1 ≤ bracket.low → IsPast ceiling (yield_at bracket.low) → is_passed ceiling bracket ≡ true
passed-if ceiling bracket some past = and_from (nat_le 1 bracket.low) (is_at_ceiling ceiling (yield_at bracket.low)) (le-leb 1 bracket.low some) (past-at ceiling (yield_at bracket.low) past)

-- one that is kept is beside the lead, at its two places
pub kept-level : (verdicts : PaymentSeries → ℕ → ℕ → Verdict) (r : ℕ) (lead it : YieldBracket) (least : ℤ) (ceiling : Option ℤ) → lead.low < lead.high → (lead.high ≤ 105002 → IsPast ceiling (yield_at lead.high)) → IsAfter verdicts r lead least it → is_kept ceiling it ≡ true → IsLevel verdicts r lead.low lead.high least it
kept-level verdicts r lead it least ceiling apart past after kept =
    let parts = kept-parts (is_settled it) (is_passed ceiling it) kept in
    ⊎_elim
    (λ (same : (it.low ≡ lead.low) × (it.high ≡ lead.high)). record { is = after.is; pending = parts.0; halvings = after.halvings; low_is = same.0; high_is = same.1; from = after.from })
    (λ (upper : (it.low ≡ lead.high) × (lead.high ≤ 105002)).
    let passed = passed-if ceiling it (omega (arith, upper.0, apart)) (subst (λ place. IsPast ceiling (yield_at place)) (sym upper.0) (past upper.1)) in
    absurd (false-true (is_passed ceiling it) parts.1 passed))
    after.beside.place

kept-same : (ceiling : Option ℤ) (it other : YieldBracket) → it.low ≡ other.low → it.high ≡ other.high → is_kept ceiling it ≡ is_kept ceiling other
kept-same ceiling it other low high = rw (low, high) refl

pub filter-none : {X : Type 0} (test : X → Bool) (Good : X → Type 0) (xs : List X) → ((x : X) → Good x → test x ≡ false) → All Good xs → filter test xs ≡ []
filter-none test Good [] none all = refl
filter-none test Good (x ∷ rest) none all =
    let here : test x ≡ false = none x (All-head Good x rest all) in
    let later : filter test rest ≡ [] = filter-none test Good rest none (All-tail Good x rest all) in
    rw (here, later) refl

pub filter-all : {X : Type 0} (test : X → Bool) (Good Kept : X → Type 0) (xs : List X) → ((x : X) → Good x → test x ≡ true → Kept x) → All Good xs → All Kept (filter test xs)
filter-all test Good Kept xs keep all = λ k d inside. keep (get_or (filter test xs) k d) (All-filter test Good xs all k d inside) (filter_passes test xs k d inside)

pub either : (test : Bool) → (test ≡ true) ⊎ (test ≡ false)
either true = inl refl
either false = inr refl

-- if the lead is not kept none is
pub none-false : (verdicts : PaymentSeries → ℕ → ℕ → Verdict) (r : ℕ) (lead it : YieldBracket) (least : ℤ) (ceiling : Option ℤ) → lead.low < lead.high → (lead.high ≤ 105002 → IsPast ceiling (yield_at lead.high)) → is_kept ceiling lead ≡ false → IsAfter verdicts r lead least it → is_kept ceiling it ≡ false
none-false verdicts r lead it least ceiling apart past dropped after =
    ⊎_elim
    (λ (kept : is_kept ceiling it ≡ true).
    let level = kept-level verdicts r lead it least ceiling apart past after kept in
    absurd (false-true (is_kept ceiling lead) dropped (sym (kept-same ceiling it lead level.low_is level.high_is) ∙ kept)))
    (λ (none : is_kept ceiling it ≡ false). none)
    (either (is_kept ceiling it))

has-if : (test : Bool) (it : YieldBracket) (brackets : List YieldBracket) (lead : YieldBracket) → Has lead brackets → Has lead (if test then it ∷ brackets else brackets)
has-if true it brackets lead has = inr has
has-if false it brackets lead has = has

pub has-filter : (test : YieldBracket → Bool) (brackets : List YieldBracket) (lead : YieldBracket) → test lead ≡ true → Has lead brackets → Has lead (filter test brackets)
has-filter test [] lead kept has = absurd has
has-filter test (it ∷ rest) lead kept has =
    ⊎_elim
    (λ (here : it ≡ lead). let own : test it ≡ true = ap test here ∙ kept in subst (λ (b : Bool). Has lead (if b then it ∷ filter test rest else filter test rest)) (sym own) (inl here))
    (λ (later : Has lead rest). has-if (test it) it (filter test rest) lead (has-filter test rest lead kept later))
    has
