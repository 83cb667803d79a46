-- What a look at the searches leaves before the first round.
use Rattle.std.proofs.Common.{◌≡◌, ◌≢◌, ◌<◌, ◌≤◌, ◌+◌, ◌-◌, ℕ, List, [], ◌∷◌, Bool, true, false, not, ◌&&◌, All, length, slice_set, get_or, set, Option, Some, None, refl, ap, sym, subst, inl, inr, ⊎_elim, arith, ◌∙◌, ◌⊎◌, ℤ, ◌<ℤ◌, ◌≤ℤ◌}
use Rattle.std.specs.Prelude.{if◌then◌else◌, nat_le, nat_lt}
use Rattle.std.specs.List.{filter, AllZip}
use Rattle.std.proofs.lemmas.Int.{ints}
use Rattle.std.proofs.lemmas.List.{get_or-set_same, get_or-set_other, length-set}
use Rattle.std.proofs.lemmas.List.Elements.{All-head, All-tail, All-cons, All-nil, All-filter, filter_passes}
use Rattle.std.proofs.lemmas.Slice.Zip.{AllZip-long}
use Rattle.muni_rule.specs.Payments.{PaymentSeries}
use Rattle.muni_rule.specs.declared.verdict.Verdict.{Verdict}
use Rattle.muni_yield.specs.Bracket.{YieldBracket, IsBracket, IsVerdictKept, is_settled, run}
use Rattle.muni_yield.specs.Places.{yield_at}
use Rattle.muni_yield.specs.Settled.{outcome_of}
use Rattle.muni_sched.specs.declared.candidate.Candidate.{Candidate}
use Rattle.muni_sched.specs.declared.outcome.CandidateOutcome.{CandidateOutcome}
use Rattle.muni_sched.specs.declared.search.OpenSearch.{OpenSearch}
use Rattle.muni_sched.specs.Candidates.{IsCandidate}
use Rattle.muni_sched.specs.Search.{SearchState, IsLookedAt, IsLook, MayLook, IsStarted, noted, recorded, missed_after, is_at_ceiling, is_passed, is_needed}
use Rattle.muni_sched.specs.YieldOutcome.{many_yield}
use Rattle.muni_sched.proofs.BetweenLemmas.{at, rank_of}
use Rattle.muni_sched.proofs.CountLemmas.{bracket_of, HasSearch, IsCounted, IsFollowed, AreBothOver, first-low, has-needed, kept-needed, lead-needed, missed-above}
use Rattle.muni_sched.proofs.LevelLemmas.{Has, IsLevel, end_of}
use Rattle.muni_sched.proofs.SearchLemmas.{IsRunning, IsAsked, IsSearchedFor, IsRefined, IsLeft, IsCovered, IsBehind, IsOver, IsPast, asked-within, covered-next, length-filter_most, missed-falls, missed-holds, needed-running, over-lower}
use Rattle.muni_sched.proofs.StartLemmas.{IsFinal}

-- ---- one search
looked-asked : (verdicts : PaymentSeries → ℕ → ℕ → Verdict) (finals : List CandidateOutcome) (r : ℕ) (one after : OpenSearch) → IsRunning verdicts finals r one → IsLookedAt verdicts one after → IsAsked verdicts finals r after
looked-asked verdicts finals r one after running look =
    let back = sym look.bracket in
    record {
      is = subst IsBracket back running.is;
      halvings = ap (λ (b : YieldBracket). b.halvings) look.bracket ∙ running.halvings;
      within = subst (λ k. k < length finals) (sym look.candidate) running.within;
      answered = subst (λ (b : YieldBracket). IsVerdictKept (verdicts b.series b.price) b) back running.answered;
      guided = look.guided;
      same = ap (λ (b : YieldBracket). many_yield (outcome_of (run (19 - r) verdicts b))) look.bracket ∙ (running.same ∙ ap (at finals) (sym look.candidate));
    }

-- ---- all of them
all-looked : (verdicts : PaymentSeries → ℕ → ℕ → Verdict) (finals : List CandidateOutcome) (r : ℕ) (searches looked : List OpenSearch) → AllZip (IsLookedAt verdicts) searches looked → All (IsRunning verdicts finals r) searches → All (IsAsked verdicts finals r) looked
all-looked verdicts finals r [] [] zip all = All-nil (IsAsked verdicts finals r)
all-looked verdicts finals r [] (after ∷ looked) zip all = absurd zip
all-looked verdicts finals r (one ∷ rest) [] zip all = absurd zip
all-looked verdicts finals r (one ∷ rest) (after ∷ looked) zip all =
    All-cons (IsAsked verdicts finals r) after looked
    (looked-asked verdicts finals r one after (All-head (IsRunning verdicts finals r) one rest all) zip.0)
    (all-looked verdicts finals r rest looked zip.1 (All-tail (IsRunning verdicts finals r) one rest all))

not-noted : (test : Bool) (known after : List (Option CandidateOutcome)) → test ≡ false → (if test then after else known) ≡ known
not-noted true known after none = cc
not-noted false known after none = refl

-- none is settled by a look
none-recorded : (verdicts : PaymentSeries → ℕ → ℕ → Verdict) (finals : List CandidateOutcome) (r : ℕ) (searches looked : List OpenSearch) (known : List (Option CandidateOutcome)) → AllZip (IsLookedAt verdicts) searches looked → All (IsRunning verdicts finals r) searches → recorded looked known ≡ known
none-recorded verdicts finals r [] [] known zip all = refl
none-recorded verdicts finals r [] (after ∷ looked) known zip all = absurd zip
none-recorded verdicts finals r (one ∷ rest) [] known zip all = absurd zip
none-recorded verdicts finals r (one ∷ rest) (after ∷ looked) known zip all =
    let here = All-head (IsRunning verdicts finals r) one rest all in
    let pending : is_settled after.guided.bracket ≡ false = ap is_settled zip.0.bracket ∙ here.pending in
    let same : noted after known ≡ known = not-noted (is_settled after.guided.bracket) known (slice_set known after.candidate (Some (many_yield (outcome_of after.guided.bracket)))) pending in
    ap (recorded looked) same ∙ none-recorded verdicts finals r rest looked known zip.1 (All-tail (IsRunning verdicts finals r) one rest all)

searched-looked : (verdicts : PaymentSeries → ℕ → ℕ → Verdict) (searches looked : List OpenSearch) (k : ℕ) → AllZip (IsLookedAt verdicts) searches looked → IsSearchedFor searches k → IsSearchedFor looked k
searched-looked verdicts [] [] k zip has = has
searched-looked verdicts [] (after ∷ looked) k zip has = absurd zip
searched-looked verdicts (one ∷ rest) [] k zip has = absurd zip
searched-looked verdicts (one ∷ rest) (after ∷ looked) k zip has =
    ⊎_elim
    (λ (here : one.candidate ≡ k). inl (zip.0.candidate ∙ here))
    (λ (later : IsSearchedFor rest k). inr (searched-looked verdicts rest looked k zip.1 later))
    has

behind-looked : (ceiling : Option ℤ) (missed : ℕ) (looked : List OpenSearch) (rank : ℤ) → IsBehind ceiling missed rank → IsBehind ceiling (missed_after missed looked) rank
behind-looked ceiling missed looked rank behind =
    ⊎_elim
    (λ past. inl past)
    (λ (over : IsOver missed rank). inr (over-lower missed (missed_after missed looked) rank (missed-falls missed looked) over))
    behind

look-by : (verdicts : PaymentSeries → ℕ → ℕ → Verdict) (finals : List CandidateOutcome) (r : ℕ) (search : SearchState) (looked : List OpenSearch) → r ≤ 19 → AllZip (IsLookedAt verdicts) search.searches looked → IsRefined verdicts finals r search
    → IsLeft verdicts finals r search.known search.ceiling (missed_after search.missed looked) (filter (is_needed search.ceiling (missed_after search.missed looked)) looked)
look-by verdicts finals r search looked most zip is =
    let ceiling = search.ceiling in
    let missed = missed_after search.missed looked in
    let all = all-looked verdicts finals r search.searches looked zip is.each in
    let none = none-recorded verdicts finals r search.searches looked search.known zip is.each in
    let room = is.few in
    let place = missed-holds verdicts finals r search.missed looked most all is.missed_is in
    record {
      lengths = is.lengths;
      of = is.of;
      ceiling_is = is.ceiling_is;
      missed_is = place;
      each = λ k d inside. needed-running verdicts finals r ceiling missed (get_or (filter (is_needed ceiling missed) looked) k d) (All-filter (is_needed ceiling missed) (IsAsked verdicts finals r) looked all k d inside) (filter_passes (is_needed ceiling missed) looked k d inside);
      few = omega (arith, length-filter_most (is_needed ceiling missed) looked, AllZip-long (IsLookedAt verdicts) search.searches looked zip, room);
      covered = λ k. subst (λ known. IsCovered finals known ceiling missed (filter (is_needed ceiling missed) looked) k) none
          (covered-next verdicts finals search.known r ceiling ceiling search.missed missed search.searches looked k most place.some (behind-looked ceiling search.missed looked) is.lengths all (searched-looked verdicts search.searches looked k zip) (is.covered k));
    }

look-keeps : (verdicts : PaymentSeries → ℕ → ℕ → Verdict) (finals : List CandidateOutcome) (r : ℕ) (search after : SearchState) → r ≤ 19 → IsLook verdicts search after → IsRefined verdicts finals r search → IsRefined verdicts finals r after
look-keeps verdicts finals r search after most look is =
    let left = look-by verdicts finals r search look.looked most look.each is in
    subst (λ known. IsLeft verdicts finals r known after.ceiling after.missed after.searches) (sym look.known)
    (subst (λ searches. IsLeft verdicts finals r search.known after.ceiling after.missed searches) (sym look.searches)
    (subst (λ missed. IsLeft verdicts finals r search.known after.ceiling missed (filter (is_needed after.ceiling missed) look.looked)) (sym look.missed)
    (subst (λ ceiling. IsLeft verdicts finals r search.known ceiling (missed_after search.missed look.looked) (filter (is_needed ceiling (missed_after search.missed look.looked)) look.looked)) (sym look.ceiling)
    left)))

pub looked-final : (verdicts : PaymentSeries → ℕ → ℕ → Verdict) (price : ℕ) (list : List Candidate) (r : ℕ) (search after : SearchState) → r ≤ 19 → MayLook verdicts search after → IsFinal verdicts price list r search → IsFinal verdicts price list r after
looked-final verdicts price list r search after most look is =
    ⊎_elim
    (λ (same : after ≡ search). subst (IsFinal verdicts price list r) (sym same) is)
    (λ (looks : IsLook verdicts search after). record {
      finals = is.finals;
      outcomes = is.outcomes;
      refined = look-keeps verdicts is.finals r search after most looks is.refined;
    })
    look

pub looked-ceiling : (verdicts : PaymentSeries → ℕ → ℕ → Verdict) (search after : SearchState) → MayLook verdicts search after → after.ceiling ≡ search.ceiling
looked-ceiling verdicts search after look =
    ⊎_elim
    (λ (same : after ≡ search). ap (λ (it : SearchState). it.ceiling) same)
    (λ (looks : IsLook verdicts search after). looks.ceiling)
    look

-- ---- the rounds stay the same, since the candidate that is the lowest is not dropped
level-looked : (verdicts : PaymentSeries → ℕ → ℕ → Verdict) (Good : YieldBracket → Type 0) (searches looked : List OpenSearch) → AllZip (IsLookedAt verdicts) searches looked → All (λ (it : OpenSearch). Good it.guided.bracket) searches → All (λ (it : OpenSearch). Good it.guided.bracket) looked
level-looked verdicts Good [] [] zip all = All-nil (λ (it : OpenSearch). Good it.guided.bracket)
level-looked verdicts Good [] (after ∷ looked) zip all = absurd zip
level-looked verdicts Good (it ∷ rest) [] zip all = absurd zip
level-looked verdicts Good (it ∷ rest) (after ∷ looked) zip all =
    let Each : OpenSearch → Type 0 = λ it. Good it.guided.bracket in
    All-cons (λ (it : OpenSearch). Good it.guided.bracket) after looked (subst Good (sym zip.0.bracket) (All-head Each it rest all)) (level-looked verdicts Good rest looked zip.1 (All-tail Each it rest all))

has-looked : (verdicts : PaymentSeries → ℕ → ℕ → Verdict) (searches looked : List OpenSearch) (lead : YieldBracket) → AllZip (IsLookedAt verdicts) searches looked → HasSearch lead searches → HasSearch lead looked
has-looked verdicts [] [] lead zip has = has
has-looked verdicts [] (after ∷ looked) lead zip has = absurd zip
has-looked verdicts (it ∷ rest) [] lead zip has = absurd zip
has-looked verdicts (it ∷ rest) (after ∷ looked) lead zip has =
    ⊎_elim
    (λ (here : it.guided.bracket ≡ lead). inl (zip.0.bracket ∙ here))
    (λ (later : HasSearch lead rest). inr (has-looked verdicts rest looked lead zip.1 later))
    has

low-of : (searches : List OpenSearch) (lead : YieldBracket) → HasSearch lead searches → All (λ (it : OpenSearch). it.guided.bracket.low ≡ 0) searches → lead.low ≡ 0
low-of [] lead has all = absurd has
low-of (it ∷ rest) lead has all =
    ⊎_elim
    (λ (here : it.guided.bracket ≡ lead). sym (ap (λ (b : YieldBracket). b.low) here) ∙ All-head (λ (it : OpenSearch). it.guided.bracket.low ≡ 0) it rest all)
    (λ (later : HasSearch lead rest). low-of rest lead later (All-tail (λ (it : OpenSearch). it.guided.bracket.low ≡ 0) it rest all))
    has

-- nothing was asked, so none is passed
first-kept : (settled at_ceiling : Bool) (low : ℕ) → settled ≡ false → low ≡ 0 → (not settled && not (nat_le 1 low && at_ceiling)) ≡ true
first-kept settled at_ceiling low pending none = rw (pending, none) refl

looked-above : (verdicts : PaymentSeries → ℕ → ℕ → Verdict) (finals : List CandidateOutcome) (r low high : ℕ) (least : ℤ) (it : OpenSearch) → r ≤ 19 → IsAsked verdicts finals r it → IsLevel verdicts r low high least it.guided.bracket → it.guided.window.no ≤ 105002 → least <ℤ yield_at it.guided.window.no
looked-above verdicts finals r low high least it most is level asked =
    let within = (asked-within verdicts finals r it most is).most asked in
    let same = ap rank_of is.same in
    let from = level.from in
    omega (arith, ints, within, same, from)

look-step : (verdicts : PaymentSeries → ℕ → ℕ → Verdict) (finals : List CandidateOutcome) (search after : SearchState) (ceiling : Option ℤ) (brackets : List YieldBracket) → All (λ (it : OpenSearch). it.guided.bracket.low ≡ 0) search.searches → IsRefined verdicts finals 0 search → IsRefined verdicts finals 0 after → IsLook verdicts search after → IsFollowed verdicts 0 search ceiling brackets → IsFollowed verdicts 0 after ceiling brackets
look-step verdicts finals search after ceiling brackets firsts is later look step =
    let lead = step.lead in
    let least = rank_of (end_of verdicts 0 lead) in
    let Level : YieldBracket → Type 0 = IsLevel verdicts 0 lead.low lead.high least in
    let looked = look.looked in
    let answers = all-looked verdicts finals 0 search.searches looked look.each is.each in
    let level = level-looked verdicts Level search.searches looked look.each step.searched in
    let most : 0 ≤ 19 = omega arith in
    let needed : OpenSearch → Bool = is_needed after.ceiling after.missed in
    let kept = first-kept (is_settled lead) (is_at_ceiling after.ceiling (yield_at lead.low)) lead.low step.own.pending (low-of search.searches lead step.leads firsts) in
    let above : after.missed ≤ 105002 → least <ℤ yield_at after.missed = subst (λ missed. missed ≤ 105002 → least <ℤ yield_at missed) (sym look.missed)
    (missed-above least search.missed looked step.missed (λ k d inside. looked-above verdicts finals 0 lead.low lead.high least (get_or looked k d) most (answers k d inside) (level k d inside))) in
    record {
      lead = lead;
      own = step.own;
      level = step.level;
      has = step.has;
      searched = subst (All (λ (it : OpenSearch). Level it.guided.bracket)) (sym look.searches) (All-filter needed (λ (it : OpenSearch). Level it.guided.bracket) looked level);
      leads = subst (HasSearch lead) (sym look.searches)
          (has-needed after.ceiling after.missed lead (IsAsked verdicts finals 0) looked
          (λ it one here. kept-needed (is_settled it.guided.bracket) (is_passed after.ceiling it.guided.bracket) (nat_lt it.guided.window.yes after.missed)
          (subst (λ (b : YieldBracket). (not (is_settled b) && not (nat_le 1 b.low && is_at_ceiling after.ceiling (yield_at b.low))) ≡ true) (sym here) kept)
          (lead-needed verdicts finals 0 after.missed lead it most later.missed_is.some above here one)) answers (has-looked verdicts search.searches looked lead look.each step.leads));
      below = record {
        to = λ t less past. subst (λ c. IsPast c t) (sym look.ceiling) (step.below.to t less past);
        back = λ t less past. step.below.back t less (subst (λ c. IsPast c t) look.ceiling past);
      };
      missed = above;
    }

none-looked : (verdicts : PaymentSeries → ℕ → ℕ → Verdict) (searches looked : List OpenSearch) → AllZip (IsLookedAt verdicts) searches looked → searches ≡ [] → looked ≡ []
none-looked verdicts [] [] zip none = refl
none-looked verdicts [] (after ∷ looked) zip none = absurd zip
none-looked verdicts (it ∷ rest) [] zip none = absurd zip
none-looked verdicts (it ∷ rest) (after ∷ looked) zip none = cc

look-counts : (verdicts : PaymentSeries → ℕ → ℕ → Verdict) (finals : List CandidateOutcome) (price : ℕ) (list : List Candidate) (first : Option ℤ) (search after : SearchState) → All (λ (it : OpenSearch). it.guided.bracket.low ≡ 0) search.searches → IsRefined verdicts finals 0 search → IsLook verdicts search after → IsCounted verdicts price list first 0 search → IsCounted verdicts price list first 0 after
look-counts verdicts finals price list first search after firsts is look counted = record {
  ceiling = counted.ceiling;
  brackets = counted.brackets;
  step = ⊎_elim
      (λ (step : IsFollowed verdicts 0 search counted.ceiling counted.brackets). inl (look-step verdicts finals search after counted.ceiling counted.brackets firsts is (look-keeps verdicts finals 0 search after (omega arith) look is) look step))
      (λ (both : AreBothOver search counted.brackets). inr (record {
        none = both.none;
        over = look.searches ∙ ap (filter (is_needed after.ceiling after.missed)) (none-looked verdicts search.searches look.looked look.each both.over);
      }))
      counted.step;
  counted = counted.counted;
}

pub looked-counted : (verdicts : PaymentSeries → ℕ → ℕ → Verdict) (finals : List CandidateOutcome) (price : ℕ) (list : List Candidate) (first : Option ℤ) (search after : SearchState) → 0 < price → All IsCandidate list → IsStarted price list search → IsRefined verdicts finals 0 search → MayLook verdicts search after → IsCounted verdicts price list first 0 search → IsCounted verdicts price list first 0 after
looked-counted verdicts finals price list first search after some all start is look counted =
    ⊎_elim
    (λ (same : after ≡ search). subst (IsCounted verdicts price list first 0) (sym same) counted)
    (λ (looks : IsLook verdicts search after). look-counts verdicts finals price list first search after (first-low price list search some all start) is looks counted)
    look
