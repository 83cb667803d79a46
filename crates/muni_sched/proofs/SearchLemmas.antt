-- What the searches keep from round to round.
use Rattle.std.proofs.Common.{◌≡◌, ◌≢◌, ◌<◌, ◌≤◌, ◌+◌, ◌-◌, ℕ, List, [], ◌∷◌, Bool, true, false, not, ◌&&◌, All, length, slice_set, get_or, Option, Some, None, refl, ap, sym, subst, inl, inr, ⊎_elim, arith, ◌∙◌, ◌⊎◌, ℤ, pos, negsuc, ◌<ℤ◌, ◌≤ℤ◌}
use Rattle.std.specs.Prelude.{if◌then◌else◌, nat_le, nat_lt, min, ◌==◌, ⊤}
use Rattle.std.specs.Int.{int_min}
use Rattle.std.specs.List.{filter, AllZip}
use Rattle.std.proofs.lemmas.Bool.{cases_lt, cases_eq, and_parts, leb-true, ltb-false}
use Rattle.std.proofs.lemmas.Int.{ints, clamps}
use Rattle.std.proofs.lemmas.List.{get_or-set_same, get_or-set_other}
use Rattle.std.proofs.lemmas.List.Elements.{All-head, All-tail, All-cons, All-nil, All-filter, filter_passes}
use Rattle.std.proofs.lemmas.Slice.Zip.{AllZip-long}
use Rattle.std.proofs.lemmas.List.Sums.{length-filter, count_by-le-length}
use Rattle.muni_rule.specs.Payments.{PaymentSeries}
use Rattle.muni_rule.specs.declared.verdict.Verdict.{Verdict}
use Rattle.muni_yield.specs.Bracket.{YieldBracket, IsBracket, IsVerdictKept, is_settled, halved, run}
use Rattle.muni_yield.specs.Known.{IsGuided}
use Rattle.muni_yield.specs.Places.{yield_at}
use Rattle.muni_yield.specs.Settled.{outcome_of}
use Rattle.muni_yield.proofs.BracketLemmas.{few-asked, halved-next, halved-answered, run-settled, run-next}
use Rattle.muni_sched.specs.FigureKind.{Yield}
use Rattle.muni_sched.specs.declared.outcome.CandidateOutcome.{CandidateOutcome}
use Rattle.muni_sched.specs.declared.outcome.CandidateOutcome.TheVariants.{Print, Unsure, Below, Above, NoTime}
use Rattle.muni_sched.specs.declared.search.OpenSearch.{OpenSearch}
use Rattle.muni_sched.specs.Figures.{IsOf}
use Rattle.muni_sched.specs.Ranks.{rank}
use Rattle.muni_sched.specs.Search.{SearchState, CanRefine, IsHalved, IsRound, noted, recorded, missed, missed_after, lower_of, ceiling_after, is_at_ceiling, is_passed, is_needed}
use Rattle.muni_sched.specs.YieldOutcome.{many_yield}
use Rattle.muni_sched.proofs.IntLemmas.{equal_or_not, less_or_not}
use Rattle.muni_sched.proofs.RoundLemmas.{length-noted, length-recorded}
use Rattle.muni_sched.proofs.BetweenLemmas.{at, rank_of, rank-unsure, rank-least, known_at, IsBetween, between, within-window}

-- ---- what is kept
-- a search after r rounds that comes to the outcome of its candidate
pub record IsRunning (verdicts : PaymentSeries → ℕ → ℕ → Verdict) (finals : List CandidateOutcome) (r : ℕ) (one : OpenSearch) : Type 0 where
  pub is : IsBracket one.guided.bracket
  pub pending : is_settled one.guided.bracket ≡ false
  pub halvings : one.guided.bracket.halvings ≡ r
  pub within : one.candidate < length finals
  pub answered : IsVerdictKept (verdicts one.guided.bracket.series one.guided.bracket.price) one.guided.bracket
  pub guided : IsGuided verdicts one.guided
  pub same : many_yield (outcome_of (run (19 - r) verdicts one.guided.bracket)) ≡ at finals one.candidate

-- the same without knowing whether it is settled, as a question leaves it
pub record IsAsked (verdicts : PaymentSeries → ℕ → ℕ → Verdict) (finals : List CandidateOutcome) (r : ℕ) (one : OpenSearch) : Type 0 where
  pub is : IsBracket one.guided.bracket
  pub halvings : one.guided.bracket.halvings ≡ r
  pub within : one.candidate < length finals
  pub answered : IsVerdictKept (verdicts one.guided.bracket.series one.guided.bracket.price) one.guided.bracket
  pub guided : IsGuided verdicts one.guided
  pub same : many_yield (outcome_of (run (19 - r) verdicts one.guided.bracket)) ≡ at finals one.candidate

-- candidate k is still searched
abbrev pub IsSearchedFor : List OpenSearch → ℕ → Type 0
IsSearchedFor [] k = ⊥
IsSearchedFor (one ∷ rest) k = (one.candidate ≡ k) ⊎ IsSearchedFor rest k

-- a rank is at the ceiling or above
abbrev pub IsPast : Option ℤ → ℤ → Type 0
IsPast None r = ⊥
IsPast (Some ceiling) r = ceiling ≤ℤ r

-- or at a place that one is known not to reach, or above
abbrev pub IsOver : ℕ → ℤ → Type 0
IsOver missed r = (missed ≤ 105002) × (yield_at missed ≤ℤ r)

abbrev pub IsBehind : Option ℤ → ℕ → ℤ → Type 0
IsBehind ceiling missed r = IsPast ceiling r ⊎ IsOver missed r

-- the rank of some candidate's outcome is below the ceiling, if there is one
abbrev pub IsCeiling : List CandidateOutcome → Option ℤ → Type 0
IsCeiling finals None = ⊤
IsCeiling finals (Some ceiling) = (k : ℕ) × (rank_of (at finals k) <ℤ ceiling)

-- and so it is at the least place that one is known not to reach
pub record IsMissedPlace (finals : List CandidateOutcome) (missed : ℕ) : Type 0 where
  pub some : 1 ≤ missed
  pub holder : missed ≤ 105002 → (k : ℕ) × (rank_of (at finals k) <ℤ yield_at missed)

-- The outcome of candidate k is known, or it decides nothing, since that of some other has a lower rank, or
-- it is still searched.
abbrev pub IsCovered : (finals : List CandidateOutcome) (known : List (Option CandidateOutcome)) (ceiling : Option ℤ) (missed : ℕ) (searches : List OpenSearch) → ℕ → Type 0
IsCovered finals known ceiling missed searches k =
    (known_at known k ≡ Some (at finals k)) ⊎ ((known_at known k ≡ None) × (IsBehind ceiling missed (rank_of (at finals k)) ⊎ IsSearchedFor searches k))

pub record IsLeft (verdicts : PaymentSeries → ℕ → ℕ → Verdict) (finals : List CandidateOutcome) (r : ℕ) (known : List (Option CandidateOutcome)) (ceiling : Option ℤ) (missed : ℕ) (searches : List OpenSearch) : Type 0 where
  pub lengths : length known ≡ length finals
  pub of : (k : ℕ) → IsOf Yield (at finals k)
  pub ceiling_is : IsCeiling finals ceiling
  pub missed_is : IsMissedPlace finals missed
  pub each : All (IsRunning verdicts finals r) searches
  pub few : length searches ≤ 100
  pub covered : (k : ℕ) → IsCovered finals known ceiling missed searches k

abbrev pub IsRefined : (verdicts : PaymentSeries → ℕ → ℕ → Verdict) (finals : List CandidateOutcome) (r : ℕ) (search : SearchState) → Type 0
IsRefined verdicts finals r search = IsLeft verdicts finals r search.known search.ceiling search.missed search.searches

-- ---- one halving
answered-again : (verdicts : PaymentSeries → ℕ → ℕ → Verdict) (bracket next : YieldBracket) → next.series ≡ bracket.series → next.price ≡ bracket.price → IsVerdictKept (verdicts bracket.series bracket.price) next → IsVerdictKept (verdicts next.series next.price) next
answered-again verdicts bracket next series price is =
    let same : verdicts bracket.series bracket.price ≡ verdicts next.series next.price = rw (series, price) refl in
    subst (λ verdict. IsVerdictKept verdict next) same is

one-asked : (verdicts : PaymentSeries → ℕ → ℕ → Verdict) (finals : List CandidateOutcome) (r : ℕ) (one after : OpenSearch) → r < 19 → IsRunning verdicts finals r one → IsHalved verdicts one after → IsAsked verdicts finals (r + 1) after
one-asked verdicts finals r one after few running half =
    let bracket = one.guided.bracket in
    let next = halved-next verdicts bracket running.is running.pending in
    let back = sym half.bracket in
    let answered = halved-answered verdicts bracket running.is running.pending running.answered in
    record {
      is = subst IsBracket back next.is;
      halvings = omega (arith, ap (λ (b : YieldBracket). b.halvings) half.bracket, next.halvings, running.halvings);
      within = subst (λ k. k < length finals) (sym half.candidate) running.within;
      answered = subst (λ (b : YieldBracket). IsVerdictKept (verdicts b.series b.price) b) back (answered-again verdicts bracket (halved verdicts bracket) next.series next.price answered);
      guided = half.guided;
      same = ap (λ (b : YieldBracket). many_yield (outcome_of (run (19 - (r + 1)) verdicts b))) half.bracket
          ∙ (ap (λ (last : YieldBracket). many_yield (outcome_of last)) (sym (run-next r verdicts bracket few running.pending))
          ∙ (running.same ∙ ap (at finals) (sym half.candidate)));
    }

pub all-asked : (verdicts : PaymentSeries → ℕ → ℕ → Verdict) (finals : List CandidateOutcome) (r : ℕ) (searches asked : List OpenSearch) → r < 19 → AllZip (IsHalved verdicts) searches asked → All (IsRunning verdicts finals r) searches → All (IsAsked verdicts finals (r + 1)) asked
all-asked verdicts finals r [] [] few zip all = All-nil (IsAsked verdicts finals (r + 1))
all-asked verdicts finals r [] (after ∷ asked) few zip all = absurd zip
all-asked verdicts finals r (one ∷ rest) [] few zip all = absurd zip
all-asked verdicts finals r (one ∷ rest) (after ∷ asked) few zip all =
    All-cons (IsAsked verdicts finals (r + 1)) after asked
    (one-asked verdicts finals r one after few (All-head (IsRunning verdicts finals r) one rest all) zip.0)
    (all-asked verdicts finals r rest asked few zip.1 (All-tail (IsRunning verdicts finals r) one rest all))

searched-asked : (verdicts : PaymentSeries → ℕ → ℕ → Verdict) (searches asked : List OpenSearch) (k : ℕ) → AllZip (IsHalved verdicts) searches asked → IsSearchedFor searches k → IsSearchedFor asked k
searched-asked verdicts [] [] k zip has = has
searched-asked verdicts [] (after ∷ asked) k zip has = absurd zip
searched-asked verdicts (one ∷ rest) [] k zip has = absurd zip
searched-asked verdicts (one ∷ rest) (after ∷ asked) k zip has =
    ⊎_elim
    (λ (here : one.candidate ≡ k). inl (zip.0.candidate ∙ here))
    (λ (later : IsSearchedFor rest k). inr (searched-asked verdicts rest asked k zip.1 later))
    has

asked-between : (verdicts : PaymentSeries → ℕ → ℕ → Verdict) (finals : List CandidateOutcome) (r : ℕ) (one : OpenSearch) → r ≤ 19 → IsAsked verdicts finals r one → IsBetween one.guided.bracket.low one.guided.bracket.high (at finals one.candidate)
asked-between verdicts finals r one most is =
    let halvings = is.halvings in
    subst (IsBetween one.guided.bracket.low one.guided.bracket.high) is.same (between (19 - r) verdicts one.guided.bracket is.is (omega (arith, halvings)))

pub asked-within : (verdicts : PaymentSeries → ℕ → ℕ → Verdict) (finals : List CandidateOutcome) (r : ℕ) (one : OpenSearch) → r ≤ 19 → IsAsked verdicts finals r one → IsBetween one.guided.window.yes one.guided.window.no (at finals one.candidate)
asked-within verdicts finals r one most is =
    let halvings = is.halvings in
    subst (IsBetween one.guided.window.yes one.guided.window.no) is.same (within-window (19 - r) verdicts one.guided.bracket one.guided.window is.is (omega (arith, halvings)) is.answered is.guided)

-- ---- the ceiling
min-first : (a b : ℤ) → int_min a b ≤ℤ a
min-first a b = omega (arith, ints, clamps)

min-second : (a b : ℤ) → int_min a b ≤ℤ b
min-second a b = omega (arith, ints, clamps)

pub past-lower : (ceiling other : Option ℤ) (r : ℤ) → IsPast ceiling r → IsPast (lower_of ceiling other) r
past-lower None other r past = absurd past
past-lower (Some c) None r past = past
past-lower (Some c) (Some o) r past = omega (arith, ints, past, min-first c o)

past-after : (ceiling : Option ℤ) (searches : List OpenSearch) (r : ℤ) → IsPast ceiling r → IsPast (ceiling_after ceiling searches) r
past-after ceiling [] r past = past
past-after ceiling (one ∷ rest) r past = past-after (lower_of ceiling (missed one)) rest r (past-lower ceiling (missed one) r past)

pub lower-ceiling : (finals : List CandidateOutcome) (ceiling other : Option ℤ) → IsCeiling finals ceiling → IsCeiling finals other → IsCeiling finals (lower_of ceiling other)
lower-ceiling finals None other is also = also
lower-ceiling finals (Some c) None is also = is
lower-ceiling finals (Some c) (Some o) is also =
    ⊎_elim
    (λ (less : c <ℤ o). let holds = is.1 in (is.0, omega (arith, ints, clamps, less, holds)))
    (λ (more : o ≤ℤ c). let holds = also.1 in (also.0, omega (arith, ints, clamps, more, holds)))
    (less_or_not c o)

-- no rank is past that of Above
pub rank-most : (outcome : CandidateOutcome) → IsOf Yield outcome → rank_of outcome ≤ℤ pos 2147483647
rank-most (Print t) of = omega (arith, ints, of.1)
rank-most (Unsure s) of =
    ⊎_elim
    (λ (same : s ≡ negsuc 5000). omega (arith, ints, rank-least s same))
    (λ (other : s ≢ negsuc 5000). omega (arith, ints, rank-unsure s other, of.1))
    (equal_or_not s (negsuc 5000))
rank-most Below of = omega (arith, ints)
rank-most Above of = omega (arith, ints)
rank-most NoTime of = omega (arith, ints)

missed-by : (finals : List CandidateOutcome) (k : ℕ) (test : Bool) (figure : ℤ) → (test ≡ true → rank_of (at finals k) <ℤ figure) → IsCeiling finals (if test then Some figure else None)
missed-by finals k true figure below = (k, below refl)
missed-by finals k false figure below = tt

own-ceiling : (finals : List CandidateOutcome) (one : OpenSearch) → IsBetween one.guided.bracket.low one.guided.bracket.high (at finals one.candidate) → IsCeiling finals (missed one)
own-ceiling finals one is = missed-by finals one.candidate (nat_le one.guided.bracket.high 105002) (yield_at one.guided.bracket.high) (λ asked. is.most (leb-true one.guided.bracket.high 105002 asked))

ceiling-holds : (verdicts : PaymentSeries → ℕ → ℕ → Verdict) (finals : List CandidateOutcome) (r : ℕ) (ceiling : Option ℤ) (searches : List OpenSearch) → r ≤ 19 → All (IsAsked verdicts finals r) searches → IsCeiling finals ceiling → IsCeiling finals (ceiling_after ceiling searches)
ceiling-holds verdicts finals r ceiling [] most all is = is
ceiling-holds verdicts finals r ceiling (one ∷ rest) most all is =
    let here = All-head (IsAsked verdicts finals r) one rest all in
    ceiling-holds verdicts finals r (lower_of ceiling (missed one)) rest most (All-tail (IsAsked verdicts finals r) one rest all)
    (lower-ceiling finals ceiling (missed one) is (own-ceiling finals one (asked-between verdicts finals r one most here)))

-- ---- the least place that one is known not to reach
pub yield-rises : (place other : ℕ) → place ≤ other → yield_at place ≤ℤ yield_at other
yield-rises place other order = omega (arith, ints)

pub over-lower : (missed lower : ℕ) (r : ℤ) → lower ≤ missed → IsOver missed r → IsOver lower r
over-lower missed lower r order over =
    let from = over.1 in
    let rises = yield-rises lower missed order in
    (omega (arith, order, over.0), omega (arith, ints, rises, from))

pub missed-falls : (missed : ℕ) (searches : List OpenSearch) → missed_after missed searches ≤ missed
missed-falls missed [] = omega arith
missed-falls missed (one ∷ rest) =
    let more = missed-falls (min missed one.guided.window.no) rest in
    omega (arith, more)

missed-more : (finals : List CandidateOutcome) (missed : ℕ) (one : OpenSearch) → 1 ≤ one.guided.window.no → IsBetween one.guided.window.yes one.guided.window.no (at finals one.candidate) → IsMissedPlace finals missed → IsMissedPlace finals (min missed one.guided.window.no)
missed-more finals missed one some between is =
    ⊎_elim
    (λ (less : missed < one.guided.window.no). let same : min missed one.guided.window.no ≡ missed = omega arith in subst (IsMissedPlace finals) (sym same) is)
    (λ (order : one.guided.window.no ≤ missed). let same : min missed one.guided.window.no ≡ one.guided.window.no = omega arith in
    subst (IsMissedPlace finals) (sym same) (record { some = some; holder = λ most. (one.candidate, between.most most) }))
    (cases_lt missed one.guided.window.no)

pub missed-holds : (verdicts : PaymentSeries → ℕ → ℕ → Verdict) (finals : List CandidateOutcome) (r missed : ℕ) (searches : List OpenSearch) → r ≤ 19 → All (IsAsked verdicts finals r) searches → IsMissedPlace finals missed → IsMissedPlace finals (missed_after missed searches)
missed-holds verdicts finals r missed [] most all is = is
missed-holds verdicts finals r missed (one ∷ rest) most all is =
    let here = All-head (IsAsked verdicts finals r) one rest all in
    missed-holds verdicts finals r (min missed one.guided.window.no) rest most (All-tail (IsAsked verdicts finals r) one rest all)
    (missed-more finals missed one here.guided.some (asked-within verdicts finals r one most here) is)

-- ---- what is written
written-if : (test : Bool) (known : List (Option CandidateOutcome)) (c k : ℕ) (it wanted : Option CandidateOutcome) → c < length known → (c ≡ k → test ≡ true → it ≡ wanted) → known_at known k ≡ wanted → known_at (if test then slice_set known c it else known) k ≡ wanted
written-if true known c k it wanted inside right before =
    ⊎_elim
    (λ (here : c ≡ k). subst (λ n. known_at (slice_set known c it) n ≡ wanted) here (get_or-set_same known c it (Some Above) inside ∙ right here refl))
    (λ (other : c ≢ k). get_or-set_other known c k it (Some Above) (λ same. other (sym same)) ∙ before)
    (cases_eq c k)
written-if false known c k it wanted inside right before = before

written-here : (test : Bool) (known : List (Option CandidateOutcome)) (c : ℕ) (it : Option CandidateOutcome) → c < length known → test ≡ true → known_at (if test then slice_set known c it else known) c ≡ it
written-here true known c it inside settled = get_or-set_same known c it (Some Above) inside
written-here false known c it inside settled = cc

-- what was at k is still there, or the wanted outcome is
written-or : (test : Bool) (known : List (Option CandidateOutcome)) (c k : ℕ) (it wanted before : Option CandidateOutcome) → c < length known → (c ≡ k → test ≡ true → it ≡ wanted) → known_at known k ≡ before → (known_at (if test then slice_set known c it else known) k ≡ wanted) ⊎ (known_at (if test then slice_set known c it else known) k ≡ before)
written-or true known c k it wanted before inside right there =
    ⊎_elim
    (λ (here : c ≡ k). inl (subst (λ n. known_at (slice_set known c it) n ≡ wanted) here (get_or-set_same known c it (Some Above) inside ∙ right here refl)))
    (λ (other : c ≢ k). inr (get_or-set_other known c k it (Some Above) (λ same. other (sym same)) ∙ there))
    (cases_eq c k)
written-or false known c k it wanted before inside right there = inr there

settled-final : (verdicts : PaymentSeries → ℕ → ℕ → Verdict) (finals : List CandidateOutcome) (r : ℕ) (one : OpenSearch) → IsAsked verdicts finals r one → is_settled one.guided.bracket ≡ true → Some (many_yield (outcome_of one.guided.bracket)) ≡ Some (at finals one.candidate)
settled-final verdicts finals r one is settled = ap Some (ap (λ (last : YieldBracket). many_yield (outcome_of last)) (sym (run-settled (19 - r) verdicts one.guided.bracket settled)) ∙ is.same)

settled-for : (verdicts : PaymentSeries → ℕ → ℕ → Verdict) (finals : List CandidateOutcome) (r : ℕ) (one : OpenSearch) (k : ℕ) → IsAsked verdicts finals r one → one.candidate ≡ k → is_settled one.guided.bracket ≡ true → Some (many_yield (outcome_of one.guided.bracket)) ≡ Some (at finals k)
settled-for verdicts finals r one k is here settled = settled-final verdicts finals r one is settled ∙ ap (λ n. Some (at finals n)) here

noted-keeps : (verdicts : PaymentSeries → ℕ → ℕ → Verdict) (finals : List CandidateOutcome) (known : List (Option CandidateOutcome)) (r : ℕ) (one : OpenSearch) (k : ℕ) → length known ≡ length finals → IsAsked verdicts finals r one → known_at known k ≡ Some (at finals k) → known_at (noted one known) k ≡ Some (at finals k)
noted-keeps verdicts finals known r one k same is there =
    let within = is.within in
    written-if (is_settled one.guided.bracket) known one.candidate k (Some (many_yield (outcome_of one.guided.bracket))) (Some (at finals k)) (omega (arith, within, same))
    (settled-for verdicts finals r one k is) there

recorded-keeps : (verdicts : PaymentSeries → ℕ → ℕ → Verdict) (finals : List CandidateOutcome) (known : List (Option CandidateOutcome)) (r : ℕ) (searches : List OpenSearch) (k : ℕ) → length known ≡ length finals → All (IsAsked verdicts finals r) searches → known_at known k ≡ Some (at finals k) → known_at (recorded searches known) k ≡ Some (at finals k)
recorded-keeps verdicts finals known r [] k same all there = there
recorded-keeps verdicts finals known r (one ∷ rest) k same all there =
    recorded-keeps verdicts finals (noted one known) r rest k (length-noted one known ∙ same) (All-tail (IsAsked verdicts finals r) one rest all)
    (noted-keeps verdicts finals known r one k same (All-head (IsAsked verdicts finals r) one rest all) there)

recorded-or : (verdicts : PaymentSeries → ℕ → ℕ → Verdict) (finals : List CandidateOutcome) (known : List (Option CandidateOutcome)) (r : ℕ) (searches : List OpenSearch) (k : ℕ) → length known ≡ length finals → All (IsAsked verdicts finals r) searches → known_at known k ≡ None
    → (known_at (recorded searches known) k ≡ Some (at finals k)) ⊎ (known_at (recorded searches known) k ≡ None)
recorded-or verdicts finals known r [] k same all there = inr there
recorded-or verdicts finals known r (one ∷ rest) k same all there =
    let is = All-head (IsAsked verdicts finals r) one rest all in
    let others = All-tail (IsAsked verdicts finals r) one rest all in
    let more = length-noted one known ∙ same in
    let within = is.within in
    ⊎_elim
    (λ (right : known_at (noted one known) k ≡ Some (at finals k)). inl (recorded-keeps verdicts finals (noted one known) r rest k more others right))
    (λ (open_yet : known_at (noted one known) k ≡ None). recorded-or verdicts finals (noted one known) r rest k more others open_yet)
    (written-or (is_settled one.guided.bracket) known one.candidate k (Some (many_yield (outcome_of one.guided.bracket))) (Some (at finals k)) None (omega (arith, within, same))
    (settled-for verdicts finals r one k is) there)

-- ---- a search is settled, or dropped, or goes on
abbrev IsSorted : (finals : List CandidateOutcome) (known : List (Option CandidateOutcome)) (ceiling : Option ℤ) (missed : ℕ) (searches : List OpenSearch) (k : ℕ) → Type 0
IsSorted finals known ceiling missed searches k = (known_at known k ≡ Some (at finals k)) ⊎ (IsBehind ceiling missed (rank_of (at finals k)) ⊎ IsSearchedFor searches k)

kept-if : (test : Bool) (one : OpenSearch) (searches : List OpenSearch) (k : ℕ) → IsSearchedFor searches k → IsSearchedFor (if test then one ∷ searches else searches) k
kept-if true one searches k has = inr has
kept-if false one searches k has = has

needed-cases : (settled passed below : Bool) → ((not settled && (not passed && below)) ≡ true) ⊎ ((settled ≡ true) ⊎ ((passed ≡ true) ⊎ (below ≡ false)))
needed-cases true passed below = inr (inl refl)
needed-cases false true below = inr (inr (inl refl))
needed-cases false false true = inl refl
needed-cases false false false = inr (inr (inr refl))

pub at-ceiling : (ceiling : Option ℤ) (t r : ℤ) → is_at_ceiling ceiling t ≡ true → t ≤ℤ r → IsPast ceiling r
at-ceiling None t r passed order = cc
at-ceiling (Some c) t r passed order = let from : c ≤ℤ t = grind (arith, ints) in omega (arith, ints, from, order)

passed-past : (verdicts : PaymentSeries → ℕ → ℕ → Verdict) (finals : List CandidateOutcome) (r : ℕ) (ceiling : Option ℤ) (one : OpenSearch) → r ≤ 19 → IsAsked verdicts finals r one → is_passed ceiling one.guided.bracket ≡ true → IsPast ceiling (rank_of (at finals one.candidate))
passed-past verdicts finals r ceiling one most is passed =
    let both = and_parts (nat_le 1 one.guided.bracket.low) (is_at_ceiling ceiling (yield_at one.guided.bracket.low)) passed in
    at-ceiling ceiling (yield_at one.guided.bracket.low) (rank_of (at finals one.candidate)) both.1 ((asked-between verdicts finals r one most is).least (leb-true 1 one.guided.bracket.low both.0))

known-over : (verdicts : PaymentSeries → ℕ → ℕ → Verdict) (finals : List CandidateOutcome) (r missed : ℕ) (one : OpenSearch) → r ≤ 19 → 1 ≤ missed → IsAsked verdicts finals r one → nat_lt one.guided.window.yes missed ≡ false → IsOver missed (rank_of (at finals one.candidate))
known-over verdicts finals r missed one most some is test =
    let order = ltb-false one.guided.window.yes missed test in
    let from = (asked-within verdicts finals r one most is).least (omega (arith, order, some)) in
    let top = is.guided.most in
    let rises = yield-rises missed one.guided.window.yes order in
    (omega (arith, order, top), omega (arith, ints, from, rises))

sorted : (verdicts : PaymentSeries → ℕ → ℕ → Verdict) (finals : List CandidateOutcome) (known : List (Option CandidateOutcome)) (r : ℕ) (ceiling : Option ℤ) (missed : ℕ) (searches : List OpenSearch) (k : ℕ) → r ≤ 19 → 1 ≤ missed → length known ≡ length finals → All (IsAsked verdicts finals r) searches → IsSearchedFor searches k → IsSorted finals (recorded searches known) ceiling missed (filter (is_needed ceiling missed) searches) k
sorted verdicts finals known r ceiling missed [] k most some same all has = absurd has
sorted verdicts finals known r ceiling missed (one ∷ rest) k most some same all has =
    let is = All-head (IsAsked verdicts finals r) one rest all in
    let others = All-tail (IsAsked verdicts finals r) one rest all in
    let more = length-noted one known ∙ same in
    let within = is.within in
    let needed = filter (is_needed ceiling missed) rest in
    ⊎_elim
    (λ (here : one.candidate ≡ k). ⊎_elim
    (λ (need : is_needed ceiling missed one ≡ true). inr (inr (subst (λ test. IsSearchedFor (if test then one ∷ needed else needed) k) (sym need) (inl here))))
    (λ (other : (is_settled one.guided.bracket ≡ true) ⊎ ((is_passed ceiling one.guided.bracket ≡ true) ⊎ (nat_lt one.guided.window.yes missed ≡ false))). ⊎_elim
    (λ (settled : is_settled one.guided.bracket ≡ true). inl (recorded-keeps verdicts finals (noted one known) r rest k more others
    (subst (λ n. known_at (noted one known) n ≡ Some (at finals n)) here (written-here (is_settled one.guided.bracket) known one.candidate (Some (many_yield (outcome_of one.guided.bracket))) (omega (arith, within, same)) settled ∙ settled-final verdicts finals r one is settled))))
    (λ (behind : (is_passed ceiling one.guided.bracket ≡ true) ⊎ (nat_lt one.guided.window.yes missed ≡ false)). inr (inl (subst (λ n. IsBehind ceiling missed (rank_of (at finals n))) here (⊎_elim
    (λ (passed : is_passed ceiling one.guided.bracket ≡ true). inl (passed-past verdicts finals r ceiling one most is passed))
    (λ (over : nat_lt one.guided.window.yes missed ≡ false). inr (known-over verdicts finals r missed one most some is over))
    behind))))
    other)
    (needed-cases (is_settled one.guided.bracket) (is_passed ceiling one.guided.bracket) (nat_lt one.guided.window.yes missed)))
    (λ (later : IsSearchedFor rest k). ⊎_elim
    (λ (right : known_at (recorded rest (noted one known)) k ≡ Some (at finals k)). inl right)
    (λ (left : IsBehind ceiling missed (rank_of (at finals k)) ⊎ IsSearchedFor needed k). ⊎_elim
    (λ (past : IsBehind ceiling missed (rank_of (at finals k))). inr (inl past))
    (λ (goes_on : IsSearchedFor needed k). inr (inr (kept-if (is_needed ceiling missed one) one needed k goes_on)))
    left)
    (sorted verdicts finals (noted one known) r ceiling missed rest k most some more others later))
    has

-- ---- one round
pub needed-pending : (settled passed below : Bool) → (not settled && (not passed && below)) ≡ true → settled ≡ false
needed-pending true passed below need = cc
needed-pending false passed below need = refl

pub needed-running : (verdicts : PaymentSeries → ℕ → ℕ → Verdict) (finals : List CandidateOutcome) (r : ℕ) (ceiling : Option ℤ) (missed : ℕ) (one : OpenSearch) → IsAsked verdicts finals r one → is_needed ceiling missed one ≡ true → IsRunning verdicts finals r one
needed-running verdicts finals r ceiling missed one is need = record {
  is = is.is;
  pending = needed-pending (is_settled one.guided.bracket) (is_passed ceiling one.guided.bracket) (nat_lt one.guided.window.yes missed) need;
  halvings = is.halvings;
  within = is.within;
  answered = is.answered;
  guided = is.guided;
  same = is.same;
}

pub length-filter_most : (test : OpenSearch → Bool) (searches : List OpenSearch) → length (filter test searches) ≤ length searches
length-filter_most test searches = omega (arith, length-filter test searches, count_by-le-length test searches)

pub covered-next : (verdicts : PaymentSeries → ℕ → ℕ → Verdict) (finals : List CandidateOutcome) (known : List (Option CandidateOutcome)) (r : ℕ) (before ceiling : Option ℤ) (missed least : ℕ) (searches after : List OpenSearch) (k : ℕ) → r ≤ 19 → 1 ≤ least → ((rank : ℤ) → IsBehind before missed rank → IsBehind ceiling least rank) → length known ≡ length finals → All (IsAsked verdicts finals r) after → (IsSearchedFor searches k → IsSearchedFor after k)
    → IsCovered finals known before missed searches k → IsCovered finals (recorded after known) ceiling least (filter (is_needed ceiling least) after) k
covered-next verdicts finals known r before ceiling missed least searches after k most some falls same all goes covered =
    ⊎_elim
    (λ (right : known_at known k ≡ Some (at finals k)). inl (recorded-keeps verdicts finals known r after k same all right))
    (λ (left : (known_at known k ≡ None) × (IsBehind before missed (rank_of (at finals k)) ⊎ IsSearchedFor searches k)). ⊎_elim
    (λ (right : known_at (recorded after known) k ≡ Some (at finals k)). inl right)
    (λ (unknown : known_at (recorded after known) k ≡ None). ⊎_elim
    (λ (past : IsBehind before missed (rank_of (at finals k))). inr (unknown, inl (falls (rank_of (at finals k)) past)))
    (λ (has : IsSearchedFor searches k). ⊎_elim
    (λ (right : known_at (recorded after known) k ≡ Some (at finals k)). inl right)
    (λ (rest : IsBehind ceiling least (rank_of (at finals k)) ⊎ IsSearchedFor (filter (is_needed ceiling least) after) k). inr (unknown, rest))
    (sorted verdicts finals known r ceiling least after k most some same all (goes has)))
    left.1)
    (recorded-or verdicts finals known r after k same all left.0))
    covered

behind-after : (ceiling : Option ℤ) (missed : ℕ) (searches : List OpenSearch) (rank : ℤ) → IsBehind ceiling missed rank → IsBehind (ceiling_after ceiling searches) (missed_after missed searches) rank
behind-after ceiling missed searches rank behind =
    ⊎_elim
    (λ (past : IsPast ceiling rank). inl (past-after ceiling searches rank past))
    (λ (over : IsOver missed rank). inr (over-lower missed (missed_after missed searches) rank (missed-falls missed searches) over))
    behind

-- what is known after one round, by the searches as it leaves them
refined-by : (verdicts : PaymentSeries → ℕ → ℕ → Verdict) (finals : List CandidateOutcome) (r : ℕ) (search : SearchState) (asked : List OpenSearch) → r < 19 → AllZip (IsHalved verdicts) search.searches asked → IsRefined verdicts finals r search
    → IsLeft verdicts finals (r + 1) (recorded asked search.known) (ceiling_after search.ceiling asked) (missed_after search.missed asked) (filter (is_needed (ceiling_after search.ceiling asked) (missed_after search.missed asked)) asked)
refined-by verdicts finals r search asked few zip is =
    let ceiling = ceiling_after search.ceiling asked in
    let missed = missed_after search.missed asked in
    let all = all-asked verdicts finals r search.searches asked few zip is.each in
    let most : r + 1 ≤ 19 = omega arith in
    let room = is.few in
    let place = missed-holds verdicts finals (r + 1) search.missed asked most all is.missed_is in
    record {
      lengths = length-recorded asked search.known ∙ is.lengths;
      of = is.of;
      ceiling_is = ceiling-holds verdicts finals (r + 1) search.ceiling asked most all is.ceiling_is;
      missed_is = place;
      each = λ k d inside. needed-running verdicts finals (r + 1) ceiling missed (get_or (filter (is_needed ceiling missed) asked) k d) (All-filter (is_needed ceiling missed) (IsAsked verdicts finals (r + 1)) asked all k d inside) (filter_passes (is_needed ceiling missed) asked k d inside);
      few = omega (arith, length-filter_most (is_needed ceiling missed) asked, AllZip-long (IsHalved verdicts) search.searches asked zip, room);
      covered = λ k. covered-next verdicts finals search.known (r + 1) search.ceiling ceiling search.missed missed search.searches asked k most place.some (behind-after search.ceiling search.missed asked) is.lengths all (searched-asked verdicts search.searches asked k zip) (is.covered k);
    }

pub refined-keeps : (verdicts : PaymentSeries → ℕ → ℕ → Verdict) (finals : List CandidateOutcome) (r : ℕ) (search after : SearchState) → r < 19 → IsRound verdicts search after → IsRefined verdicts finals r search → IsRefined verdicts finals (r + 1) after
refined-keeps verdicts finals r search after few round is =
    let left = refined-by verdicts finals r search round.asked few round.each is in
    subst (λ known. IsLeft verdicts finals (r + 1) known after.ceiling after.missed after.searches) (sym round.known)
    (subst (λ searches. IsLeft verdicts finals (r + 1) (recorded round.asked search.known) after.ceiling after.missed searches) (sym round.searches)
    (subst (λ missed. IsLeft verdicts finals (r + 1) (recorded round.asked search.known) after.ceiling missed (filter (is_needed after.ceiling missed) round.asked)) (sym round.missed)
    (subst (λ ceiling. IsLeft verdicts finals (r + 1) (recorded round.asked search.known) ceiling (missed_after search.missed round.asked) (filter (is_needed ceiling (missed_after search.missed round.asked)) round.asked)) (sym round.ceiling)
    left)))

-- what a round asks for
pub can-refine : (verdicts : PaymentSeries → ℕ → ℕ → Verdict) (finals : List CandidateOutcome) (r : ℕ) (search : SearchState) → IsRefined verdicts finals r search → CanRefine verdicts search
can-refine verdicts finals r search is = record {
  each = λ k d inside. let running = is.each k d inside in (running.is, running.pending, running.guided);
  candidates = λ k d inside. let running = is.each k d inside in let within = running.within in omega (arith, within, is.lengths);
  few = is.few;
}

-- there is a next round only before the nineteenth
few-rounds : (verdicts : PaymentSeries → ℕ → ℕ → Verdict) (finals : List CandidateOutcome) (r : ℕ) (searches : List OpenSearch) → All (IsRunning verdicts finals r) searches → searches ≢ [] → r < 19
few-rounds verdicts finals r [] all some = absurd (some refl)
few-rounds verdicts finals r (one ∷ rest) all some =
    let here = All-head (IsRunning verdicts finals r) one rest all in
    let halvings = here.halvings in
    omega (arith, halvings, few-asked one.guided.bracket here.is here.pending)

not-over : (searches : List OpenSearch) → (length searches == 0) ≡ false → searches ≢ []
not-over searches pending none = let over : (length searches == 0) ≡ true = rw none refl in let never : true ≡ false = sym over ∙ pending in cc

pub round-few : (verdicts : PaymentSeries → ℕ → ℕ → Verdict) (finals : List CandidateOutcome) (r : ℕ) (search : SearchState) → IsRefined verdicts finals r search → (length search.searches == 0) ≡ false → r < 19
round-few verdicts finals r search is pending = few-rounds verdicts finals r search.searches is.each (not-over search.searches pending)
