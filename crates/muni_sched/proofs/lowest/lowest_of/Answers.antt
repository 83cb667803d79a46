use Rattle.std.proofs.Common.{arith, ◌≡◌, ◌+◌, ◌<◌, sym, subst, ap, ◌∙◌, length, map}
use Rattle.std.proofs.lemmas.Int.{ints}
use Rattle.std.proofs.lemmas.List.{length-map}
use Rattle.muni_sched.specs.Figures.{least_unsure, IsLowestOf}
use Rattle.muni_sched.specs.Lowest.{outcome_at}
use Rattle.muni_sched.specs.Ranks.{rank, decided_at, IsFirstOfLeastRank}
use Rattle.muni_sched.proofs.RankLemmas.{IsLeast, outcome-of, item-of, least-taken, least-kept, least-first, least-inside, first-ranked, ranked_lowest, ranked_of}
use Rattle.muni_sched.proofs.lowest.lowest_of.Given as given
use Rattle.muni_sched.proofs.lowest.lowest_of.Goals.{After-index-outcomes-c, After-loop-c, then-rank, else-rank}
use Rattle.muni_sched.proofs.lowest.lowest_of.Goals as goal

pub rank-requires : goal.rank-requires
rank-requires g c =
    item-of g.O.Ranked.kind g.O.Ranked.outcome c.args.outcomes.now c.loop-c.c c.index-outcomes-c.result c.requires c.loop-c-test.true c.index-outcomes-c.is

-- the candidate at hand is one of them
inside : (g : given.Over) (c : After-index-outcomes-c g) → c.loop-c.candidate < length c.args.outcomes.now
inside g c =
    let more = c.loop-c-test.true in
    least-inside g.O.Ranked.kind (map g.O.Ranked.outcome c.args.outcomes.now) c.loop-c.c c.loop-c.candidate (length c.args.outcomes.now) c.loop-c.invariant (omega (arith, more)) (omega (arith, more))

pub rank-requires-in-loop-c : goal.rank-requires-in-loop-c
rank-requires-in-loop-c g c =
    let place = (goal.at.rank-requires-in-loop-c g c).After-index-outcomes-c in
    item-of g.O.Ranked.kind g.O.Ranked.outcome c.args.outcomes.now c.loop-c.candidate c.index-outcomes-candidate.result c.requires (inside g place) c.index-outcomes-candidate.is

pub loop-c-preserved : goal.loop-c-preserved
loop-c-preserved g c =
    let kind = g.O.Ranked.kind in
    let of = g.O.Ranked.outcome in
    let xs = c.args.outcomes.now in
    let outcomes = map of xs in
    let place = (goal.at.loop-c-preserved g c).After-index-outcomes-c in
    let own : c.rank.result ≡ rank (least_unsure kind) (outcome_at outcomes c.loop-c.c) =
    c.rank.ensures ∙ ap (rank (least_unsure kind)) (sym (outcome-of of xs c.loop-c.c c.index-outcomes-c.result c.loop-c-test.true c.index-outcomes-c.is)) in
    let other : c.rank-in-loop-c.result ≡ rank (least_unsure kind) (outcome_at outcomes c.loop-c.candidate) =
    c.rank-in-loop-c.ensures ∙ ap (rank (least_unsure kind)) (sym (outcome-of of xs c.loop-c.candidate c.index-outcomes-candidate.result (inside g place) c.index-outcomes-candidate.is)) in
    elim c.if-rank.branch [
      | then-rank w ↦ subst (IsLeast kind outcomes (c.loop-c.c + 1)) (sym w.candidate-is) (least-taken kind outcomes c.loop-c.c c.loop-c.candidate c.loop-c.invariant (omega (arith, ints, own, other, w.if-rank.true)))
      | else-rank w ↦ subst (IsLeast kind outcomes (c.loop-c.c + 1)) (sym w.candidate-is) (least-kept kind outcomes c.loop-c.c c.loop-c.candidate c.loop-c.invariant (omega (arith, ints, own, other, w.if-rank.false)))
    ]

-- the first of the least rank of all
first : (g : given.Over) (c : After-loop-c g) → IsFirstOfLeastRank (least_unsure g.O.Ranked.kind) (map g.O.Ranked.outcome c.args.outcomes.now) c.loop-c.candidate
first g c =
    let of = g.O.Ranked.outcome in
    let xs = c.args.outcomes.now in
    let end = c.loop-c-test.false in
    let most = c.loop-c.auto.c-end in
    let all : c.loop-c.c ≡ length (map of xs) = omega (arith, end, most, length-map xs of) in
    least-first g.O.Ranked.kind (map of xs) c.loop-c.candidate c.requires (subst (λ n. IsLeast g.O.Ranked.kind (map of xs) n c.loop-c.candidate) all c.loop-c.invariant)

pub returns-clause-ranked : goal.returns-clause-ranked
returns-clause-ranked g c = first g c

pub returns-clause-lowest : goal.returns-clause-lowest
returns-clause-lowest g c =
    let outcomes = map g.O.Ranked.outcome c.args.outcomes.now in
    ranked_lowest g.O.Ranked.kind outcomes (decided_at outcomes c.loop-c.candidate) c.requires (first-ranked (least_unsure g.O.Ranked.kind) outcomes c.loop-c.candidate (first g c))

pub returns-clause-candidate : goal.returns-clause-candidate
returns-clause-candidate g c =
    let outcomes = map g.O.Ranked.outcome c.args.outcomes.now in
    subst (λ n. IsLowestOf g.O.Ranked.kind n (decided_at outcomes c.loop-c.candidate)) (length-map c.args.outcomes.now g.O.Ranked.outcome)
    (ranked_of g.O.Ranked.kind outcomes (decided_at outcomes c.loop-c.candidate) c.requires (first-ranked (least_unsure g.O.Ranked.kind) outcomes c.loop-c.candidate (first g c)))

pub returns-clause-inside : goal.returns-clause-inside
returns-clause-inside g c = λ some.
    least-inside g.O.Ranked.kind (map g.O.Ranked.outcome c.args.outcomes.now) c.loop-c.c c.loop-c.candidate (length c.args.outcomes.now) c.loop-c.invariant c.loop-c.auto.c-end some
