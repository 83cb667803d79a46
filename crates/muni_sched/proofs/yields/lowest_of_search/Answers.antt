use Rattle.std.proofs.Common.{◌≡◌, ap, sym, subst, length}
use Rattle.muni_yield.specs.Places.{place_verdict}
use Rattle.muni_sched.specs.GivenFigure.{at_price}
use Rattle.muni_sched.specs.LowAnswers.{low_yield}
use Rattle.muni_sched.specs.Lowest.{IsLowest, outcome_at}
use Rattle.muni_sched.specs.Figures.{least_unsure, IsLowestOf}
use Rattle.muni_sched.specs.FigureKind.{Yield}
use Rattle.muni_sched.specs.Ranks.{decided_by, IsRanked, IsFirstOfLeastRank}
use Rattle.muni_sched.specs.Search.{outcomes_of}
use Rattle.muni_sched.specs.SearchedOut.{AreSearchedOut}
use Rattle.muni_sched.specs.YieldOutcome.{IsCandidateYield}
use Rattle.muni_sched.proofs.AllSoundLemmas.{lowest-answer}
use Rattle.muni_sched.proofs.RankLemmas.{ranked_lowest, ranked_of}
use Rattle.muni_sched.proofs.ZipLemmas.{zip-long}
use Rattle.muni_sched.proofs.yields.lowest_of_search.Given as given
use Rattle.muni_sched.proofs.yields.lowest_of_search.Goals.{After-known-known, After-outcome_at}
use Rattle.muni_sched.proofs.yields.lowest_of_search.Goals as goal

-- the outcomes that were found, as they are read
out : (g : given.Over) (c : After-known-known g) → AreSearchedOut (g.E.Encloser.ends c.args.encloser.now) c.args.price c.args.list.now (outcomes_of c.known-known.result.now)
out g c =
    subst (λ known. AreSearchedOut (g.E.Encloser.ends c.args.encloser.now) c.args.price c.args.list.now (outcomes_of known)) (sym c.known-known.ensures) c.requires.found

pub lowest_of-candidate-requires : goal.lowest_of-candidate-requires
lowest_of-candidate-requires g c =
    (out g (goal.at.lowest_of-candidate-requires g c).After-known-known).found_range

-- the candidate that decides among the outcomes that are known decides among those of all candidates
ranked : (g : given.Over) (c : After-outcome_at g) (all : AreSearchedOut (g.E.Encloser.ends c.args.encloser.now) c.args.price c.args.list.now (outcomes_of c.known-known.result.now)) → IsRanked (least_unsure Yield) all.outcomes (decided_by c.outcome_at.result c.lowest_of-candidate.result)
ranked g c all =
    let candidate = c.lowest_of-candidate.result in
    let told = outcomes_of c.known-known.result.now in
    let first : IsFirstOfLeastRank (least_unsure Yield) told candidate = c.lowest_of-candidate.ensures.ranked in
    let there : c.outcome_at.result ≡ outcome_at told candidate = c.outcome_at.ensures in
    all.ranked (decided_by c.outcome_at.result candidate) (record { candidate = candidate; first = first; decides = ap (λ x. decided_by x candidate) there })

of : (g : given.Over) (c : After-outcome_at g) (all : AreSearchedOut (g.E.Encloser.ends c.args.encloser.now) c.args.price c.args.list.now (outcomes_of c.known-known.result.now)) → IsLowestOf Yield (length c.args.list.now) (decided_by c.outcome_at.result c.lowest_of-candidate.result)
of g c all =
    let found = decided_by c.outcome_at.result c.lowest_of-candidate.result in
    zip-long (IsCandidateYield (place_verdict (g.E.Encloser.ends c.args.encloser.now)) c.args.price) c.args.list.now all.outcomes (λ n. IsLowestOf Yield n found) all.each
    (ranked_of Yield all.outcomes found all.range (ranked g c all))

pub decided_yield-requires : goal.decided_yield-requires
decided_yield-requires g c =
    let place = (goal.at.decided_yield-requires g c) in
    of g place.After-outcome_at (out g place.After-known-known)

pub returns : goal.returns
returns g c =
    let ends = g.E.Encloser.ends c.args.encloser.now in
    let seen = goal.at.returns g c in
    let place = seen.After-outcome_at in
    let all = out g seen.After-known-known in
    let found = decided_by c.outcome_at.result c.lowest_of-candidate.result in
    let rule : IsLowest (least_unsure Yield) all.outcomes found = ranked_lowest Yield all.outcomes found all.range (ranked g place all) in
    lowest-answer ends (at_price c.args.price) c.args.list.now all.outcomes found (low_yield c.decided_yield.result)
    (c.requires.price, c.requires.candidates)
    (record { encloses = g.met.E.Encloser.encloses c.args.encloser.now; narrow = g.met.E.Encloser.narrow c.args.encloser.now })
    all.each rule (of g place all) tt c.decided_yield.ensures
