-- The rounds of the search are those of the same search by halvings alone: the candidate that is the
-- lowest is dropped by neither.
use Rattle.std.proofs.Common.{◌≡◌, ◌<◌, ◌≤◌, ◌+◌, ◌-◌, ℕ, zero, suc, List, [], ◌∷◌, Bool, true, false, not, ◌&&◌, All, length, map, get_or, Option, refl, ap, sym, subst, inl, inr, ⊎_elim, arith, ◌∙◌, ◌⊎◌, ℤ, ◌<ℤ◌, ◌≤ℤ◌}
use Rattle.std.specs.Prelude.{if◌then◌else◌, nat_le, nat_lt, min, ◌==◌}
use Rattle.std.specs.List.{filter, AllZip}
use Rattle.std.proofs.lemmas.Bool.{cases_lt, lt-ltb}
use Rattle.std.proofs.lemmas.Bool.Decides.{nat_tests}
use Rattle.std.proofs.lemmas.Int.{ints}
use Rattle.std.proofs.lemmas.List.Elements.{All-head, All-tail, All-cons, All-nil, All-map, All-weaker}
use Rattle.muni_rule.specs.Payments.{PaymentSeries}
use Rattle.muni_rule.specs.declared.verdict.Verdict.{Verdict}
use Rattle.muni_yield.specs.Bracket.{YieldBracket, IsBracket, start_of, is_settled, halved}
use Rattle.muni_yield.specs.Places.{yield_at}
use Rattle.muni_yield.proofs.BracketLemmas.{halved-next, start-is}
use Rattle.muni_sched.specs.declared.candidate.Candidate.{Candidate}
use Rattle.muni_sched.specs.declared.outcome.CandidateOutcome.{CandidateOutcome}
use Rattle.muni_sched.specs.declared.search.OpenSearch.{OpenSearch}
use Rattle.muni_sched.specs.Candidates.{IsCandidate}
use Rattle.muni_sched.specs.Rounds.{brackets_for, brackets_from, missed_by, ceiling_over, is_kept, kept_by, rounds}
use Rattle.muni_sched.specs.Search.{SearchState, IsHalved, IsRound, IsStarted, missed_after, lower_of, ceiling_after, is_at_ceiling, is_passed, is_needed, is_over, searches_for, searches_from}
use Rattle.muni_sched.specs.ToCome.{ToCome, many, one, to_come_of}
use Rattle.muni_sched.proofs.IntLemmas.{less_or_not}
use Rattle.muni_sched.proofs.BetweenLemmas.{rank_of}
use Rattle.muni_sched.proofs.SearchLemmas.{IsPast, IsAsked, IsRefined, yield-rises, at-ceiling, all-asked, asked-within, refined-keeps}
use Rattle.muni_sched.proofs.StartLemmas.{MayBeSearched, may_be}
use Rattle.muni_sched.proofs.LevelLemmas.{Has, IsAfter, IsLevel, below-same, either, end_of, filter-all, filter-none, has-ceiling, has-filter, kept-level, none-false, one-after, past-at, past-over, same-end}

-- ---- the search, beside the same by halvings alone
abbrev pub bracket_of : OpenSearch → YieldBracket
bracket_of it = it.guided.bracket

abbrev pub HasSearch : YieldBracket → List OpenSearch → Type 0
HasSearch bracket searches = Has bracket (map bracket_of searches)

ceiling-map : (ceiling : Option ℤ) (searches : List OpenSearch) → ceiling_after ceiling searches ≡ ceiling_over ceiling (map bracket_of searches)
ceiling-map ceiling [] = refl
ceiling-map ceiling (it ∷ rest) = ceiling-map (lower_of ceiling (missed_by it.guided.bracket)) rest

map-halved : (verdicts : PaymentSeries → ℕ → ℕ → Verdict) (searches asked : List OpenSearch) → AllZip (IsHalved verdicts) searches asked → map bracket_of asked ≡ map (halved verdicts) (map bracket_of searches)
map-halved verdicts [] [] zip = refl
map-halved verdicts [] (after ∷ asked) zip = absurd zip
map-halved verdicts (it ∷ rest) [] zip = absurd zip
map-halved verdicts (it ∷ rest) (after ∷ asked) zip =
    let here : after.guided.bracket ≡ halved verdicts it.guided.bracket = zip.0.bracket in
    let later : map bracket_of asked ≡ map (halved verdicts) (map bracket_of rest) = map-halved verdicts rest asked zip.1 in
    rw (here, later) refl

has-halved : (verdicts : PaymentSeries → ℕ → ℕ → Verdict) (brackets : List YieldBracket) (lead : YieldBracket) → Has lead brackets → Has (halved verdicts lead) (map (halved verdicts) brackets)
has-halved verdicts [] lead has = has
has-halved verdicts (it ∷ rest) lead has =
    ⊎_elim
    (λ (here : it ≡ lead). inl (ap (halved verdicts) here))
    (λ (later : Has lead rest). inr (has-halved verdicts rest lead later))
    has

-- below a place two ceilings say the same
pub record AreSameBelow (high : ℕ) (it other : Option ℤ) : Type 0 where
  pub to : (t : ℤ) → t <ℤ yield_at high → IsPast it t → IsPast other t
  pub back : (t : ℤ) → t <ℤ yield_at high → IsPast other t → IsPast it t

pub record IsFollowed (verdicts : PaymentSeries → ℕ → ℕ → Verdict) (r : ℕ) (search : SearchState) (ceiling : Option ℤ) (brackets : List YieldBracket) : Type 0 where
  pub lead : YieldBracket
  pub own : IsLevel verdicts r lead.low lead.high (rank_of (end_of verdicts r lead)) lead
  pub level : All (IsLevel verdicts r lead.low lead.high (rank_of (end_of verdicts r lead))) brackets
  pub has : Has lead brackets
  pub searched : All (λ (it : OpenSearch). IsLevel verdicts r lead.low lead.high (rank_of (end_of verdicts r lead)) it.guided.bracket) search.searches
  pub leads : HasSearch lead search.searches
  pub below : AreSameBelow lead.high ceiling search.ceiling
  pub missed : search.missed ≤ 105002 → rank_of (end_of verdicts r lead) <ℤ yield_at search.missed

pub record AreBothOver (search : SearchState) (brackets : List YieldBracket) : Type 0 where
  pub none : brackets ≡ []
  pub over : search.searches ≡ []

abbrev pub IsInStep : (PaymentSeries → ℕ → ℕ → Verdict) → ℕ → SearchState → Option ℤ → List YieldBracket → Type 0
IsInStep verdicts r search ceiling brackets = IsFollowed verdicts r search ceiling brackets ⊎ AreBothOver search brackets

searched-after : (verdicts : PaymentSeries → ℕ → ℕ → Verdict) (r : ℕ) (lead : YieldBracket) (searches asked : List OpenSearch) → r < 19 → IsLevel verdicts r lead.low lead.high (rank_of (end_of verdicts r lead)) lead → AllZip (IsHalved verdicts) searches asked → All (λ (it : OpenSearch). IsLevel verdicts r lead.low lead.high (rank_of (end_of verdicts r lead)) it.guided.bracket) searches
    → All (λ (it : OpenSearch). IsAfter verdicts (r + 1) (halved verdicts lead) (rank_of (end_of verdicts (r + 1) (halved verdicts lead))) it.guided.bracket) asked
searched-after verdicts r lead [] [] few own zip all = All-nil (λ (it : OpenSearch). IsAfter verdicts (r + 1) (halved verdicts lead) (rank_of (end_of verdicts (r + 1) (halved verdicts lead))) it.guided.bracket)
searched-after verdicts r lead [] (after ∷ asked) few own zip all = absurd zip
searched-after verdicts r lead (it ∷ rest) [] few own zip all = absurd zip
searched-after verdicts r lead (it ∷ rest) (after ∷ asked) few own zip all =
    let Level : OpenSearch → Type 0 = λ it. IsLevel verdicts r lead.low lead.high (rank_of (end_of verdicts r lead)) it.guided.bracket in
    All-cons (λ (it : OpenSearch). IsAfter verdicts (r + 1) (halved verdicts lead) (rank_of (end_of verdicts (r + 1) (halved verdicts lead))) it.guided.bracket) after asked
    (subst (IsAfter verdicts (r + 1) (halved verdicts lead) (rank_of (end_of verdicts (r + 1) (halved verdicts lead)))) (sym zip.0.bracket) (one-after verdicts r lead it.guided.bracket few own (All-head Level it rest all)))
    (searched-after verdicts r lead rest asked few own zip.1 (All-tail Level it rest all))

-- the lead is needed, as no place that one does not reach is below its outcome
both-true : (a b : Bool) → (a ≡ true → b ≡ true) → (b ≡ true → a ≡ true) → a ≡ b
both-true true true to back = refl
both-true true false to back = sym (to refl)
both-true false true to back = back refl
both-true false false to back = refl

kept-ceiling : (it other : Option ℤ) (bracket : YieldBracket) → (IsPast it (yield_at bracket.low) → IsPast other (yield_at bracket.low)) → (IsPast other (yield_at bracket.low) → IsPast it (yield_at bracket.low)) → is_kept it bracket ≡ is_kept other bracket
kept-ceiling it other bracket to back =
    let t = yield_at bracket.low in
    let order : t ≤ℤ t = omega (arith, ints) in
    let same : is_at_ceiling it t ≡ is_at_ceiling other t = both-true (is_at_ceiling it t) (is_at_ceiling other t) (λ test. past-at other t (to (at-ceiling it t t test order))) (λ test. past-at it t (back (at-ceiling other t t test order))) in
    ap (λ test. not (is_settled bracket) && not (nat_le 1 bracket.low && test)) same

needed-kept : (settled passed below : Bool) → (not settled && (not passed && below)) ≡ true → (not settled && not passed) ≡ true
needed-kept true passed below need = cc
needed-kept false true below need = cc
needed-kept false false below need = refl

pub kept-needed : (settled passed below : Bool) → (not settled && not passed) ≡ true → below ≡ true → (not settled && (not passed && below)) ≡ true
kept-needed true passed below kept under = cc
kept-needed false true below kept under = cc
kept-needed false false below kept under = under

none-needed : (settled passed below : Bool) → (not settled && not passed) ≡ false → (not settled && (not passed && below)) ≡ false
none-needed true passed below none = refl
none-needed false true below none = refl
none-needed false false below none = cc

pub missed-above : (least : ℤ) (missed : ℕ) (asked : List OpenSearch) → (missed ≤ 105002 → least <ℤ yield_at missed) → All (λ (it : OpenSearch). it.guided.window.no ≤ 105002 → least <ℤ yield_at it.guided.window.no) asked → missed_after missed asked ≤ 105002 → least <ℤ yield_at (missed_after missed asked)
missed-above least missed [] above all most = above most
missed-above least missed (it ∷ rest) above all most =
    let Above : OpenSearch → Type 0 = λ it. it.guided.window.no ≤ 105002 → least <ℤ yield_at it.guided.window.no in
    missed-above least (min missed it.guided.window.no) rest
    (λ less. ⊎_elim
    (λ (first : missed < it.guided.window.no). let same : min missed it.guided.window.no ≡ missed = omega arith in subst (λ place. least <ℤ yield_at place) (sym same) (above (omega (arith, less, same))))
    (λ (order : it.guided.window.no ≤ missed). let same : min missed it.guided.window.no ≡ it.guided.window.no = omega arith in subst (λ place. least <ℤ yield_at place) (sym same) (All-head Above it rest all (omega (arith, less, same))))
    (cases_lt missed it.guided.window.no))
    (All-tail Above it rest all) most

search-above : (verdicts : PaymentSeries → ℕ → ℕ → Verdict) (finals : List CandidateOutcome) (r : ℕ) (lead : YieldBracket) (least : ℤ) (it : OpenSearch) → r ≤ 19 → IsAsked verdicts finals r it → IsAfter verdicts r lead least it.guided.bracket → it.guided.window.no ≤ 105002 → least <ℤ yield_at it.guided.window.no
search-above verdicts finals r lead least it most is after asked =
    let within = (asked-within verdicts finals r it most is).most asked in
    let same = ap rank_of is.same in
    let from = after.from in
    omega (arith, ints, within, same, from)

pub lead-needed : (verdicts : PaymentSeries → ℕ → ℕ → Verdict) (finals : List CandidateOutcome) (r missed : ℕ) (lead : YieldBracket) (it : OpenSearch) → r ≤ 19 → 1 ≤ missed → (missed ≤ 105002 → rank_of (end_of verdicts r lead) <ℤ yield_at missed) → it.guided.bracket ≡ lead → IsAsked verdicts finals r it → nat_lt it.guided.window.yes missed ≡ true
lead-needed verdicts finals r missed lead it most some above same is =
    ⊎_elim
    (λ (less : it.guided.window.yes < missed). lt-ltb it.guided.window.yes missed less)
    (λ (order : missed ≤ it.guided.window.yes).
    let top = is.guided.most in
    let from = (asked-within verdicts finals r it most is).least (omega (arith, order, some)) in
    let over = above (omega (arith, order, top)) in
    let rises = yield-rises missed it.guided.window.yes order in
    let rank = ap rank_of is.same in
    let own = ap (λ (b : YieldBracket). rank_of (end_of verdicts r b)) same in
    absurd (omega (arith, ints, from, over, rises, rank, own)))
    (cases_lt it.guided.window.yes missed)

has-search_if : (test : Bool) (it : OpenSearch) (searches : List OpenSearch) (lead : YieldBracket) → HasSearch lead searches → HasSearch lead (if test then it ∷ searches else searches)
has-search_if true it searches lead has = inr has
has-search_if false it searches lead has = has

pub has-needed : (ceiling : Option ℤ) (missed : ℕ) (lead : YieldBracket) (Good : OpenSearch → Type 0) (asked : List OpenSearch) → ((it : OpenSearch) → Good it → it.guided.bracket ≡ lead → is_needed ceiling missed it ≡ true) → All Good asked → HasSearch lead asked → HasSearch lead (filter (is_needed ceiling missed) asked)
has-needed ceiling missed lead Good [] need all has = absurd has
has-needed ceiling missed lead Good (it ∷ rest) need all has =
    let needed = filter (is_needed ceiling missed) rest in
    ⊎_elim
    (λ (here : it.guided.bracket ≡ lead). subst (λ (b : Bool). HasSearch lead (if b then it ∷ needed else needed)) (sym (need it (All-head Good it rest all) here)) (inl here))
    (λ (later : HasSearch lead rest). has-search_if (is_needed ceiling missed it) it needed lead (has-needed ceiling missed lead Good rest need (All-tail Good it rest all) later))
    has

-- one round
next-step : (verdicts : PaymentSeries → ℕ → ℕ → Verdict) (finals : List CandidateOutcome) (r : ℕ) (search after : SearchState) (ceiling : Option ℤ) (brackets : List YieldBracket) → r < 19 → IsRefined verdicts finals r search → IsRefined verdicts finals (r + 1) after → IsRound verdicts search after → IsFollowed verdicts r search ceiling brackets
    → IsInStep verdicts (r + 1) after (ceiling_over ceiling (map (halved verdicts) brackets)) (kept_by ceiling (map (halved verdicts) brackets))
next-step verdicts finals r search after ceiling brackets few is later round step =
    let lead = halved verdicts step.lead in
    let least = rank_of (end_of verdicts (r + 1) lead) in
    let After : YieldBracket → Type 0 = IsAfter verdicts (r + 1) lead least in
    let own : After lead = one-after verdicts r step.lead step.lead few step.own step.own in
    let apart = own.is.apart in
    let asked = map (halved verdicts) brackets in
    let all : All After asked = All-map After (halved verdicts) brackets (λ k d inside. one-after verdicts r step.lead (get_or brackets k d) few step.own (step.level k d inside)) in
    let has = has-halved verdicts brackets step.lead step.has in
    let now = ceiling_over ceiling asked in
    let past : lead.high ≤ 105002 → IsPast now (yield_at lead.high) = has-ceiling ceiling asked lead has in
    -- the same of the search
    let searches = round.asked in
    let its = map bracket_of searches in
    let each : All (λ (it : OpenSearch). After it.guided.bracket) searches = searched-after verdicts r step.lead search.searches searches few step.own round.each step.searched in
    let its_all : All After its = All-map After bracket_of searches each in
    let leads : HasSearch lead searches = subst (Has lead) (sym (map-halved verdicts search.searches searches round.each)) (has-halved verdicts (map bracket_of search.searches) step.lead step.leads) in
    let its_now : after.ceiling ≡ ceiling_over search.ceiling its = round.ceiling ∙ ceiling-map search.ceiling searches in
    let its_past : lead.high ≤ 105002 → IsPast after.ceiling (yield_at lead.high) = λ most. subst (λ c. IsPast c (yield_at lead.high)) (sym its_now) (has-ceiling search.ceiling its lead leads most) in
    let most : r + 1 ≤ 19 = omega arith in
    let answers = all-asked verdicts finals r search.searches searches few round.each is.each in
    -- both say the same below the lead's higher place
    let falls = (halved-next verdicts step.lead step.own.is step.own.pending).high in
    let rises = yield-rises lead.high step.lead.high falls in
    let high : All (λ (it : YieldBracket). lead.high ≤ it.high) asked = All-weaker After (λ (it : YieldBracket). lead.high ≤ it.high) (λ it after. after.beside.high) asked all in
    let its_high : All (λ (it : YieldBracket). lead.high ≤ it.high) its = All-weaker After (λ (it : YieldBracket). lead.high ≤ it.high) (λ it after. after.beside.high) its its_all in
    let below : AreSameBelow lead.high now after.ceiling = record {
      to = λ t less over. subst (λ c. IsPast c t) (sym its_now) (past-over search.ceiling its t (step.below.to t (omega (arith, ints, less, rises)) (below-same ceiling asked lead.high t high less over)));
      back = λ t less over. past-over ceiling asked t (step.below.back t (omega (arith, ints, less, rises)) (below-same search.ceiling its lead.high t its_high less (subst (λ c. IsPast c t) its_now over)));
    } in
    let under : yield_at lead.low <ℤ yield_at lead.high = omega (arith, ints, apart) in
    let same : is_kept now lead ≡ is_kept after.ceiling lead = kept-ceiling now after.ceiling lead (below.to (yield_at lead.low) under) (below.back (yield_at lead.low) under) in
    let before = ap rank_of (same-end verdicts r step.lead few step.own.pending) in
    let above : after.missed ≤ 105002 → least <ℤ yield_at after.missed = subst (λ missed. missed ≤ 105002 → least <ℤ yield_at missed) (sym round.missed)
    (missed-above least search.missed searches (λ less. let beyond = step.missed less in omega (arith, ints, before, beyond)) (λ k d inside. search-above verdicts finals (r + 1) lead least (get_or searches k d) most (answers k d inside) (each k d inside))) in
    ⊎_elim
    (λ (kept : is_kept now lead ≡ true). inl (record {
      lead = lead;
      own = kept-level verdicts (r + 1) lead lead least now apart past own kept;
      level = filter-all (is_kept now) After (IsLevel verdicts (r + 1) lead.low lead.high least) asked (λ it after need. kept-level verdicts (r + 1) lead it least now apart past after need) all;
      has = has-filter (is_kept now) asked lead kept has;
      searched = subst (All (λ (it : OpenSearch). IsLevel verdicts (r + 1) lead.low lead.high least it.guided.bracket)) (sym round.searches)
          (filter-all (is_needed after.ceiling after.missed) (λ (it : OpenSearch). After it.guided.bracket) (λ (it : OpenSearch). IsLevel verdicts (r + 1) lead.low lead.high least it.guided.bracket) searches
          (λ it after_one need. kept-level verdicts (r + 1) lead it.guided.bracket least after.ceiling apart its_past after_one (needed-kept (is_settled it.guided.bracket) (is_passed after.ceiling it.guided.bracket) (nat_lt it.guided.window.yes after.missed) need)) each);
      leads = subst (HasSearch lead) (sym round.searches)
          (has-needed after.ceiling after.missed lead (IsAsked verdicts finals (r + 1)) searches
          (λ it is here. kept-needed (is_settled it.guided.bracket) (is_passed after.ceiling it.guided.bracket) (nat_lt it.guided.window.yes after.missed)
          (ap (is_kept after.ceiling) here ∙ (sym same ∙ kept))
          (lead-needed verdicts finals (r + 1) after.missed lead it most later.missed_is.some above here is)) answers leads);
      below = below;
      missed = above;
    }))
    (λ (dropped : is_kept now lead ≡ false). inr (record {
      none = filter-none (is_kept now) After asked (λ it after. none-false verdicts (r + 1) lead it least now apart past dropped after) all;
      over = round.searches ∙ filter-none (is_needed after.ceiling after.missed) (λ (it : OpenSearch). After it.guided.bracket) searches
          (λ it after_one. none-needed (is_settled it.guided.bracket) (is_passed after.ceiling it.guided.bracket) (nat_lt it.guided.window.yes after.missed)
          (none-false verdicts (r + 1) lead it.guided.bracket least after.ceiling apart its_past (sym same ∙ dropped) after_one)) each;
    }))
    (either (is_kept now lead))

-- ---- before the first round
record IsFirst (bracket : YieldBracket) : Type 0 where
  is : IsBracket bracket
  pending : is_settled bracket ≡ false
  halvings : bracket.halvings ≡ 0
  low_is : bracket.low ≡ 0
  high_is : bracket.high ≡ 105003

first-for : (price : ℕ) (to_come : ToCome) (rest : List YieldBracket) → 0 < price → MayBeSearched to_come → All IsFirst rest → All IsFirst (brackets_for price to_come rest)
first-for price (many series) rest some may all = All-cons IsFirst (start_of series price) rest (record { is = start-is series price may.1 some; pending = refl; halvings = refl; low_is = refl; high_is = refl }) all
first-for price (one least payment) rest some may all = all

first-all : (price : ℕ) (list : List Candidate) → 0 < price → All IsCandidate list → All IsFirst (brackets_from price list)
first-all price [] some all = All-nil IsFirst
first-all price (candidate ∷ rest) some all = first-for price (to_come_of candidate.shape) (brackets_from price rest) some (may_be candidate.shape (All-head IsCandidate candidate rest all)) (first-all price rest some (All-tail IsCandidate candidate rest all))

map-for : (price c : ℕ) (to_come : ToCome) (searches : List OpenSearch) (brackets : List YieldBracket) → map bracket_of searches ≡ brackets → map bracket_of (searches_for price c to_come searches) ≡ brackets_for price to_come brackets
map-for price c (many series) searches brackets same = ap (λ rest. start_of series price ∷ rest) same
map-for price c (one least payment) searches brackets same = same

map-from : (price c : ℕ) (list : List Candidate) → map bracket_of (searches_from price c list) ≡ brackets_from price list
map-from price c [] = refl
map-from price c (candidate ∷ rest) = map-for price c (to_come_of candidate.shape) (searches_from price (c + 1) rest) (brackets_from price rest) (map-from price (c + 1) rest)

-- one of them comes to the lowest outcome
record HasLowest (rank : YieldBracket → ℤ) (brackets : List YieldBracket) : Type 0 where
  lead : YieldBracket
  has : Has lead brackets
  least : All (λ (it : YieldBracket). rank lead ≤ℤ rank it) brackets

lowest-more : (rank : YieldBracket → ℤ) (it : YieldBracket) (rest : List YieldBracket) → (rest ≡ []) ⊎ HasLowest rank rest → HasLowest rank (it ∷ rest)
lowest-more rank it rest found =
    let own : rank it ≤ℤ rank it = omega (arith, ints) in
    ⊎_elim
    (λ (none : rest ≡ []). record {
      lead = it;
      has = inl refl;
      least = All-cons (λ (other : YieldBracket). rank it ≤ℤ rank other) it rest own (subst (All (λ (other : YieldBracket). rank it ≤ℤ rank other)) (sym none) (All-nil (λ (other : YieldBracket). rank it ≤ℤ rank other)));
    })
    (λ (some : HasLowest rank rest). ⊎_elim
    (λ (less : rank some.lead <ℤ rank it). record {
      lead = some.lead;
      has = inr some.has;
      least = All-cons (λ (other : YieldBracket). rank some.lead ≤ℤ rank other) it rest (omega (arith, ints, less)) some.least;
    })
    (λ (order : rank it ≤ℤ rank some.lead). record {
      lead = it;
      has = inl refl;
      least = All-cons (λ (other : YieldBracket). rank it ≤ℤ rank other) it rest own (All-weaker (λ (other : YieldBracket). rank some.lead ≤ℤ rank other) (λ (other : YieldBracket). rank it ≤ℤ rank other) (λ other from. omega (arith, ints, from, order)) rest some.least);
    })
    (less_or_not (rank some.lead) (rank it)))
    found

lowest : (rank : YieldBracket → ℤ) (brackets : List YieldBracket) → (brackets ≡ []) ⊎ HasLowest rank brackets
lowest rank [] = inl refl
lowest rank (it ∷ rest) = inr (lowest-more rank it rest (lowest rank rest))

has-good : (Good : YieldBracket → Type 0) (brackets : List YieldBracket) (lead : YieldBracket) → Has lead brackets → All Good brackets → Good lead
has-good Good [] lead has all = absurd has
has-good Good (it ∷ rest) lead has all =
    ⊎_elim
    (λ (here : it ≡ lead). subst Good here (All-head Good it rest all))
    (λ (later : Has lead rest). has-good Good rest lead later (All-tail Good it rest all))
    has

map-none : (searches : List OpenSearch) → map bracket_of searches ≡ [] → searches ≡ []
map-none [] none = refl
map-none (it ∷ rest) none = cc

map-all : (Good : YieldBracket → Type 0) (searches : List OpenSearch) → All Good (map bracket_of searches) → All (λ (it : OpenSearch). Good it.guided.bracket) searches
map-all Good [] all = All-nil (λ (it : OpenSearch). Good it.guided.bracket)
map-all Good (it ∷ rest) all = All-cons (λ (it : OpenSearch). Good it.guided.bracket) it rest (All-head Good it.guided.bracket (map bracket_of rest) all) (map-all Good rest (All-tail Good it.guided.bracket (map bracket_of rest) all))

-- nothing was asked of them
pub first-low : (price : ℕ) (list : List Candidate) (search : SearchState) → 0 < price → All IsCandidate list → IsStarted price list search → All (λ (it : OpenSearch). it.guided.bracket.low ≡ 0) search.searches
first-low price list search some all is =
    let same : map bracket_of search.searches ≡ brackets_from price list = ap (map bracket_of) is.searches ∙ map-from price 0 list in
    map-all (λ (bracket : YieldBracket). bracket.low ≡ 0) search.searches
    (All-weaker IsFirst (λ (bracket : YieldBracket). bracket.low ≡ 0) (λ bracket first. first.low_is) (map bracket_of search.searches) (subst (All IsFirst) (sym same) (first-all price list some all)))

first-level : (verdicts : PaymentSeries → ℕ → ℕ → Verdict) (lead it : YieldBracket) (least : ℤ) → IsFirst lead → IsFirst it → least ≤ℤ rank_of (end_of verdicts 0 it) → IsLevel verdicts 0 lead.low lead.high least it
first-level verdicts lead it least own is from = record {
  is = is.is;
  pending = is.pending;
  halvings = is.halvings;
  low_is = is.low_is ∙ sym own.low_is;
  high_is = is.high_is ∙ sym own.high_is;
  from = from;
}

first-step : (verdicts : PaymentSeries → ℕ → ℕ → Verdict) (price : ℕ) (list : List Candidate) (search : SearchState) → 0 < price → All IsCandidate list → IsStarted price list search → IsInStep verdicts 0 search search.ceiling (brackets_from price list)
first-step verdicts price list search some all is =
    let brackets = brackets_from price list in
    let firsts = first-all price list some all in
    let same : map bracket_of search.searches ≡ brackets = ap (map bracket_of) is.searches ∙ map-from price 0 list in
    ⊎_elim
    (λ (none : brackets ≡ []). inr (record { none = none; over = map-none search.searches (same ∙ none) }))
    (λ (found : HasLowest (λ bracket. rank_of (end_of verdicts 0 bracket)) brackets).
    let lead = found.lead in
    let least = rank_of (end_of verdicts 0 lead) in
    let own = has-good IsFirst brackets lead found.has firsts in
    let level : All (IsLevel verdicts 0 lead.low lead.high least) brackets = λ k d inside. first-level verdicts lead (get_or brackets k d) least own (firsts k d inside) (found.least k d inside) in
    inl (record {
      lead = lead;
      own = first-level verdicts lead lead least own own (omega (arith, ints));
      level = level;
      has = found.has;
      searched = map-all (IsLevel verdicts 0 lead.low lead.high least) search.searches (subst (All (IsLevel verdicts 0 lead.low lead.high least)) (sym same) level);
      leads = subst (Has lead) (sym same) found.has;
      below = record { to = λ t less past. past; back = λ t less past. past };
      missed = λ most. absurd (omega (arith, most, is.missed));
    }))
    (lowest (λ bracket. rank_of (end_of verdicts 0 bracket)) brackets)

-- ---- the count
rounds-by : (verdicts : PaymentSeries → ℕ → ℕ → Verdict) (most : ℕ) (ceiling : Option ℤ) (brackets : List YieldBracket) → rounds (suc most) verdicts ceiling brackets ≡ (if length brackets == 0 then 0 else rounds most verdicts (ceiling_over ceiling (map (halved verdicts) brackets)) (kept_by ceiling (map (halved verdicts) brackets)) + 1)
unfolding rounds
rounds-by verdicts most ceiling brackets = refl

rounds-none : (verdicts : PaymentSeries → ℕ → ℕ → Verdict) (most : ℕ) (ceiling : Option ℤ) → rounds most verdicts ceiling [] ≡ 0
unfolding rounds
rounds-none verdicts zero ceiling = refl
rounds-none verdicts (suc most) ceiling = refl

has-some : (brackets : List YieldBracket) (lead : YieldBracket) → Has lead brackets → (length brackets == 0) ≡ false
has-some [] lead has = absurd has
has-some (it ∷ rest) lead has = grind (arith, nat_tests)

rounds-next : (verdicts : PaymentSeries → ℕ → ℕ → Verdict) (r : ℕ) (ceiling : Option ℤ) (brackets : List YieldBracket) → r < 19 → (length brackets == 0) ≡ false → r + rounds (19 - r) verdicts ceiling brackets ≡ r + 1 + rounds (19 - (r + 1)) verdicts (ceiling_over ceiling (map (halved verdicts) brackets)) (kept_by ceiling (map (halved verdicts) brackets))
rounds-next verdicts r ceiling brackets few pending =
    let left : 19 - r ≡ suc (19 - (r + 1)) = omega arith in
    let next = rounds (19 - (r + 1)) verdicts (ceiling_over ceiling (map (halved verdicts) brackets)) (kept_by ceiling (map (halved verdicts) brackets)) in
    let it : rounds (19 - r) verdicts ceiling brackets ≡ next + 1 = ap (λ most. rounds most verdicts ceiling brackets) left ∙ rounds-by verdicts (19 - (r + 1)) ceiling brackets ∙ ap (λ test. if test then 0 else next + 1) pending in
    omega (arith, it)

-- after r rounds those that are left are counted
pub record IsCounted (verdicts : PaymentSeries → ℕ → ℕ → Verdict) (price : ℕ) (list : List Candidate) (first : Option ℤ) (r : ℕ) (search : SearchState) : Type 0 where
  pub ceiling : Option ℤ
  pub brackets : List YieldBracket
  pub step : IsInStep verdicts r search ceiling brackets
  pub counted : r + rounds (19 - r) verdicts ceiling brackets ≡ rounds 19 verdicts first (brackets_from price list)

pub counted-first : (verdicts : PaymentSeries → ℕ → ℕ → Verdict) (price : ℕ) (list : List Candidate) (search : SearchState) → 0 < price → All IsCandidate list → IsStarted price list search → IsCounted verdicts price list search.ceiling 0 search
counted-first verdicts price list search some all is = record {
  ceiling = search.ceiling;
  brackets = brackets_from price list;
  step = first-step verdicts price list search some all is;
  counted = omega arith;
}

not-over : (search : SearchState) → search.searches ≡ [] → is_over search ≡ false → ⊥
not-over search none pending = let over : is_over search ≡ true = rw none refl in let never : true ≡ false = sym over ∙ pending in cc

pub counted-next : (verdicts : PaymentSeries → ℕ → ℕ → Verdict) (finals : List CandidateOutcome) (price : ℕ) (list : List Candidate) (first : Option ℤ) (r : ℕ) (search after : SearchState) → r < 19 → is_over search ≡ false → IsRefined verdicts finals r search → IsRound verdicts search after → IsCounted verdicts price list first r search → IsCounted verdicts price list first (r + 1) after
counted-next verdicts finals price list first r search after few pending is round counted =
    ⊎_elim
    (λ (step : IsFollowed verdicts r search counted.ceiling counted.brackets). record {
      ceiling = ceiling_over counted.ceiling (map (halved verdicts) counted.brackets);
      brackets = kept_by counted.ceiling (map (halved verdicts) counted.brackets);
      step = next-step verdicts finals r search after counted.ceiling counted.brackets few is (refined-keeps verdicts finals r search after few round is) round step;
      counted = sym (rounds-next verdicts r counted.ceiling counted.brackets few (has-some counted.brackets step.lead step.has)) ∙ counted.counted;
    })
    (λ (both : AreBothOver search counted.brackets). absurd (not-over search both.over pending))
    counted.step

pub counted-last : (verdicts : PaymentSeries → ℕ → ℕ → Verdict) (price : ℕ) (list : List Candidate) (first : Option ℤ) (r : ℕ) (search : SearchState) → search.searches ≡ [] → IsCounted verdicts price list first r search → r ≡ rounds 19 verdicts first (brackets_from price list)
counted-last verdicts price list first r search none counted =
    ⊎_elim
    (λ (step : IsFollowed verdicts r search counted.ceiling counted.brackets). absurd (subst (HasSearch step.lead) none step.leads))
    (λ (both : AreBothOver search counted.brackets).
    let no_more : rounds (19 - r) verdicts counted.ceiling counted.brackets ≡ 0 = ap (rounds (19 - r) verdicts counted.ceiling) both.none ∙ rounds-none verdicts (19 - r) counted.ceiling in
    let all = counted.counted in
    omega (arith, all, no_more))
    counted.step
