use Rattle.std.proofs.Common.{arith, ◌≡◌, ◌<◌, ◌∙◌, sym, subst, ap, All, length, map, get_or}
use Rattle.std.proofs.lemmas.List.{get_or-map}
use Rattle.std.proofs.lemmas.List.Elements.{All-map}
use Rattle.std.proofs.lemmas.Slice.Zip.{AllZip-long}
use Rattle.muni_sched.specs.declared.outcome.CandidateOutcome.TheVariants.{Above}
use Rattle.muni_sched.specs.GivenFigure.{at_yield}
use Rattle.muni_sched.specs.Lowest.{IsLowest, outcome_at}
use Rattle.muni_sched.specs.PriceOutcome.{price_outcome, IsPriceAt, IsCandidatePrice}
use Rattle.muni_sched.specs.Figures.{least_unsure, IsOf, IsLowestOf}
use Rattle.muni_sched.specs.FigureKind.{Price}
use Rattle.muni_sched.specs.Ranks.{decided_by, decided_at}
use Rattle.muni_sched.specs.Answer.{dated}
use Rattle.muni_sched.specs.LowAnswers.{low_price}
use Rattle.muni_sched.proofs.AllSoundLemmas.{told, lowest-answer}
use Rattle.muni_sched.proofs.ZipLemmas.{zip-map}
use Rattle.muni_sched.proofs.prices.price_to_worst.Given as given
use Rattle.muni_sched.proofs.prices.price_to_worst.Goals.{After-lowest_of-candidate}
use Rattle.muni_sched.proofs.prices.price_to_worst.Goals as goal

pub lowest_of-candidate-requires : goal.lowest_of-candidate-requires
lowest_of-candidate-requires g c =
    subst (λ xs. All (IsOf Price) (map price_outcome xs)) (sym c.as_slice.ensures.value) (All-map (IsOf Price) price_outcome c.prices_at-prices.result.items c.prices_at-prices.ensures.range)

-- there is a price for each candidate, and so for the one that decides
long : (g : given.Over) (c : After-lowest_of-candidate g) → length c.as_slice.result.now ≡ length c.args.list.now
long g c =
    ap length c.as_slice.ensures.value ∙ AllZip-long (IsPriceAt (g.E.Encloser.ends c.args.encloser.now) c.args.y) c.args.list.now c.prices_at-prices.result.items c.prices_at-prices.ensures.each

inside : (g : given.Over) (c : After-lowest_of-candidate g) → c.lowest_of-candidate.result < length c.args.list.now
inside g c =
    let some = c.requires.some in
    let all = long g c in
    let own = c.lowest_of-candidate.ensures.inside (omega (arith, some, all)) in
    omega (arith, own, all)

pub bounds-as_slice-candidate : goal.bounds-as_slice-candidate
bounds-as_slice-candidate g c =
    let place = (goal.at.bounds-as_slice-candidate g c).After-lowest_of-candidate in
    omega (arith, inside g place, long g place, ap length c.as_slice.ensures.value, ap length c.as_slice-2.ensures.value)

pub decided_price-requires : goal.decided_price-requires
decided_price-requires g c = inside g (goal.at.decided_price-requires g c).After-lowest_of-candidate

pub returns : goal.returns
returns g c =
    let ends = g.E.Encloser.ends c.args.encloser.now in
    let list = c.args.list.now in
    let prices = c.prices_at-prices.result.items in
    let outcomes = map price_outcome prices in
    let candidate = c.lowest_of-candidate.result in
    let found = decided_at outcomes candidate in
    let place = (goal.at.returns g c).After-lowest_of-candidate in
    let each = zip-map (IsCandidatePrice ends c.args.y) price_outcome list prices c.prices_at-prices.ensures.each in
    let rule : IsLowest (least_unsure Price) outcomes found = subst (λ xs. IsLowest (least_unsure Price) (map price_outcome xs) (decided_at (map price_outcome xs) candidate)) c.as_slice.ensures.value c.lowest_of-candidate.ensures.lowest in
    let of : IsLowestOf Price (length list) found = subst (λ n. IsLowestOf Price n found) (long g place)
    (subst (λ xs. IsLowestOf Price (length c.as_slice.result.now) (decided_at (map price_outcome xs) candidate)) c.as_slice.ensures.value c.lowest_of-candidate.ensures.candidate) in
    let there : outcome_at outcomes candidate ≡ price_outcome c.index-as_slice-candidate.result =
    get_or-map price_outcome prices candidate c.index-as_slice-candidate.result Above (omega (arith, inside g place, long g place, ap length c.as_slice.ensures.value))
    ∙ ap price_outcome (sym (subst (λ xs. c.index-as_slice-candidate.result ≡ get_or xs candidate c.index-as_slice-candidate.result) c.as_slice-2.ensures.value c.index-as_slice-candidate.is)) in
    lowest-answer ends (at_yield c.args.y) list outcomes found (low_price c.decided_price.result)
    (record { candidates = c.requires.candidates; basis = c.requires.basis; in_range = c.requires.in_range })
    (record { encloses = g.met.E.Encloser.encloses c.args.encloser.now; narrow = g.met.E.Encloser.narrow c.args.encloser.now })
    each rule of (told ends (at_yield c.args.y) list outcomes found c.requires.some each rule)
    (c.decided_price.ensures ∙ ap (λ x. dated Price list (decided_by x candidate)) (sym there))
