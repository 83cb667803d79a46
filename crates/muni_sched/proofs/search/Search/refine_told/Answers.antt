use Rattle.std.proofs.Common.{rules, ◌≡◌, ◌<◌, ◌≤◌, ◌+◌, ◌-◌, [], ◌∷◌, true, false, length, refl, ap, sym, subst, ◌∙◌, arith}
use Rattle.std.specs.Prelude.{min, nat_lt}
use Rattle.std.specs.List.{refill}
use Rattle.muni_yield.specs.Bracket.{YieldBracket, IsBracket, is_settled, halved}
use Rattle.muni_yield.specs.Places.{place_verdict}
use Rattle.muni_yield.proofs.BracketLemmas.{few-asked, halved-next}
use Rattle.muni_sched.specs.declared.search.OpenSearch.{OpenSearch}
use Rattle.muni_sched.specs.Search.{IsHalved, lower_of, is_needed, is_passed, missed, recorded, state}
use Rattle.muni_sched.proofs.RoundLemmas.{recorded-now}
use Rattle.muni_sched.proofs.RoundsLemmas.{alone, more-rounds, round-needed, round-last}
use Rattle.muni_sched.proofs.SearchLemmas.{needed-pending}
use Rattle.muni_sched.proofs.search.Search.refine_told.Given as given
use Rattle.muni_sched.proofs.search.Search.refine_told.Goals.{After-halve_by, After-is_needed}
use Rattle.muni_sched.proofs.search.Search.refine_told.Goals as goal

-- the search as it is halved
abbrev next : (g : given.Over) (c : After-halve_by g) → OpenSearch
next g c = record { candidate = c.loop-verdict.search.candidate; guided = c.halve_by.new.self }

half : (g : given.Over) (c : After-halve_by g) → IsHalved (place_verdict (g.E.Encloser.ends c.args.calculator.now.encloser.now)) c.loop-verdict.search (next g c)
half g c =
    let verdicts = place_verdict (g.E.Encloser.ends c.args.calculator.now.encloser.now) in
    let known = c.loop-verdict.invariant.is.2 in
    record {
      candidate = refl;
      bracket = c.halve_by.ensures.halved verdicts (c.in-Some.ensures verdicts known);
      guided = c.halve_by.ensures.known verdicts known;
    }

is : (g : given.Over) (c : After-halve_by g) → IsBracket c.halve_by.new.self.bracket
is g c =
    let verdicts = place_verdict (g.E.Encloser.ends c.args.calculator.now.encloser.now) in
    let before = c.loop-verdict.invariant.is in
    subst IsBracket (sym (half g c).bracket) (halved-next verdicts c.loop-verdict.search.guided.bracket before.0 before.1).is

once-more : (g : given.Over) (c : After-halve_by g) → c.halve_by.new.self.bracket.halvings ≡ c.loop-verdict.search.guided.bracket.halvings + 1
once-more g c =
    let verdicts = place_verdict (g.E.Encloser.ends c.args.calculator.now.encloser.now) in
    let before = c.loop-verdict.invariant.is in
    ap (λ (b : YieldBracket). b.halvings) (half g c).bracket ∙ (halved-next verdicts c.loop-verdict.search.guided.bracket before.0 before.1).halvings

pub missed-requires : goal.missed-requires
missed-requires g c = is g (goal.at.missed-requires g c).After-halve_by

pub note_settled-requires-clause-search : goal.note_settled-requires-clause-search
note_settled-requires-clause-search g c = is g (goal.at.note_settled-requires-clause-search g c).After-halve_by

pub returns-then-not-is_needed-clause-rounds : goal.returns-then-not-is_needed-clause-rounds
returns-then-not-is_needed-clause-rounds g c =
    let verdicts = place_verdict (g.E.Encloser.ends c.args.calculator.now.encloser.now) in
    let place = (goal.at.returns-then-not-is_needed-clause-rounds g c).After-halve_by in
    let known = c.loop-verdict.self.known.items in
    let one = c.loop-verdict.search in
    let it = next g place in
    let needless : c.is_needed.result ≡ false = search rules in
    let last = round-last verdicts known (refill (length known) known c.note_settled.new.known) c.loop-verdict.self.ceiling c.lower_of-self.result c.loop-verdict.self.missed c.lower-self.result one it (half g place)
    (recorded-now (it ∷ []) (it ∷ []) known c.as_mut_slice.result.now c.note_settled.new.known refl c.as_mut_slice.ensures.value c.note_settled.ensures)
    (c.lower_of-self.ensures ∙ ap (lower_of c.loop-verdict.self.ceiling) c.missed.ensures) (search rules) (sym c.is_needed.ensures ∙ needless) in
    more-rounds verdicts c.args.round c.loop-verdict.next (state c.args.self.now c.args.slots.now) (alone known c.loop-verdict.self.ceiling c.loop-verdict.self.missed (one ∷ [])) _ c.loop-verdict.invariant.order c.loop-verdict.invariant.rounds refl last

pub loop-verdict-smaller : goal.loop-verdict-smaller
loop-verdict-smaller g c =
    let place = (goal.at.loop-verdict-smaller g c).After-halve_by in
    let before = c.loop-verdict.invariant.is in
    let few = few-asked c.loop-verdict.search.guided.bracket before.0 before.1 in
    let more = once-more g place in
    let less : 19 - c.halve_by.new.self.bracket.halvings < 19 - c.loop-verdict.search.guided.bracket.halvings = omega (arith, few, more) in
    less

pub loop-verdict-preserved : goal.loop-verdict-preserved
loop-verdict-preserved g c =
    let verdicts = place_verdict (g.E.Encloser.ends c.args.calculator.now.encloser.now) in
    let place = (goal.at.loop-verdict-preserved g c).After-halve_by in
    let so_far = c.loop-verdict.invariant in
    let known = c.loop-verdict.self.known.items in
    let one = c.loop-verdict.search in
    let it = next g place in
    let order = so_far.order in
    let few = so_far.few in
    let more = once-more g place in
    let yes : c.is_needed.result ≡ true = search rules in
    let needs : is_needed c.lower_of-self.result c.lower-self.result it ≡ true = sym c.is_needed.ensures ∙ yes in
    let pending : is_settled it.guided.bracket ≡ false = needed-pending (is_settled it.guided.bracket) (is_passed c.lower_of-self.result it.guided.bracket) (nat_lt it.guided.window.yes c.lower-self.result) needs in
    let goes_on = round-needed verdicts known c.loop-verdict.self.ceiling c.lower_of-self.result c.loop-verdict.self.missed c.lower-self.result one it (half g place)
    (c.lower_of-self.ensures ∙ ap (lower_of c.loop-verdict.self.ceiling) c.missed.ensures) (search rules) needs in
    record {
      order = omega (arith, order);
      few = omega (arith, few, more);
      one = so_far.one;
      is = (is g place, pending, (half g place).guided);
      within = so_far.within;
      rounds = more-rounds verdicts c.args.round c.loop-verdict.next (state c.args.self.now c.args.slots.now) (alone known c.loop-verdict.self.ceiling c.loop-verdict.self.missed (one ∷ [])) _ order so_far.rounds refl goes_on;
    }
