use Rattle.std.specs.Prelude.{◌==◌}
use Rattle.std.proofs.Common.{List, Bool, ◌≤◌, length, rules, arith, ◌≡◌, ◌+◌, ◌-◌, ◌<◌, ◌∙◌, ap, sym, subst, false, true}
use Rattle.muni_yield.specs.Places.{place_verdict}
use Rattle.std.proofs.lemmas.List.{length-take-le}
use Rattle.muni_sched.specs.declared.search.OpenSearch.{OpenSearch}
use Rattle.muni_sched.specs.declared.search.Search.{Search}
use Rattle.muni_sched.specs.Search.{state, is_over}
use Rattle.muni_yield.proofs.KnownLemmas.{first-window}
use Rattle.muni_sched.proofs.SearchLemmas.{round-few}
use Rattle.muni_sched.proofs.OverLemmas.{over-none}
use Rattle.muni_sched.specs.Rounds.{brackets_from, rounds}
use Rattle.muni_sched.proofs.CountLemmas.{IsCounted, counted-first, counted-last}
use Rattle.muni_sched.proofs.LookLemmas.{looked-final, looked-ceiling, looked-counted}
use Rattle.muni_sched.proofs.RoundsLemmas.{IsAfterRounds, rounds-after, rounds-few}
use Rattle.muni_sched.proofs.StartLemmas.{AreFirstKnown, IsFinal, started-final, searched-out}
use Rattle.muni_sched.proofs.yields.search_yields.Given as given
use Rattle.muni_sched.proofs.yields.search_yields.Goals.{After-begin, After-is_over}
use Rattle.muni_sched.proofs.yields.search_yields.Goals as goal

-- all that is kept before the first round
begun : (g : given.Over) (c : After-begin g) → IsFinal (place_verdict (g.E.Encloser.ends c.args.calculator.now.encloser.now)) c.args.price c.args.list.now 0 c.begin.ensures.begun.first
begun g c =
    let verdicts = place_verdict (g.E.Encloser.ends c.args.calculator.now.encloser.now) in
    let ends = g.E.Encloser.ends c.args.calculator.now.encloser.now in
    let law = g.met.E.Encloser in
    let first : AreFirstKnown verdicts c.args.price = λ series is many. first-window ends series c.args.price (record {
      is = is;
      many = many;
      some = c.requires.price;
      narrow = λ y within. record {
        holds = law.encloses c.args.calculator.now.encloser.now series y is many within;
        narrow = law.narrow c.args.calculator.now.encloser.now series y is many within;
      };
    }) in
    started-final verdicts c.args.price c.args.list.now c.begin.ensures.begun.first first c.requires.price c.requires.candidates c.requires.few c.begin.ensures.begun.started

pub loop-search-init : goal.loop-search-init
loop-search-init g c =
    let verdicts = place_verdict (g.E.Encloser.ends c.args.calculator.now.encloser.now) in
    let before = c.begin.ensures.begun.first in
    let start = c.begin.ensures.begun.started in
    let look = c.begin.ensures.begun.look in
    let final = begun g (goal.at.loop-search-init g c).After-begin in
    let after = state c.begin.new.search c.begin.new.slots in
    record {
      final = looked-final verdicts c.args.price c.args.list.now 0 before after (omega arith) look final;
      fits = c.begin.ensures.fits;
      most = omega arith;
      counted = subst (λ ceiling. IsCounted verdicts c.args.price c.args.list.now ceiling 0 after) (sym (looked-ceiling verdicts before after look))
          (looked-counted verdicts final.finals c.args.price c.args.list.now before.ceiling before after c.requires.price c.requires.candidates start final.refined look
          (counted-first verdicts c.args.price c.args.list.now before c.requires.price c.requires.candidates start));
    }

-- nothing is left to ask if no search is left
over-as : (search : Search) (slots : List OpenSearch) (over : Bool) → search.left ≤ length slots → (search.left == 0) ≡ over → is_over (state search slots) ≡ over
over-as search slots over fits is = ap (λ n. n == 0) (length-take-le search.left slots fits) ∙ is

-- all that is kept before a round
kept : (g : given.Over) (c : After-is_over g) → c.is_over.result ≡ false → IsAfterRounds (place_verdict (g.E.Encloser.ends c.args.calculator.now.encloser.now)) c.args.price c.args.list.now c.begin.new.search.ceiling c.loop-search.rounds (state c.loop-search.search c.loop-search.slots)
kept g c some = record { final = c.loop-search.invariant.final; counted = c.loop-search.invariant.counted }

few-yet : (g : given.Over) (c : After-is_over g) → c.is_over.result ≡ false → c.loop-search.rounds < 19
few-yet g c some =
    let verdicts = place_verdict (g.E.Encloser.ends c.args.calculator.now.encloser.now) in
    let is = c.loop-search.invariant.final in
    let pending = over-as c.loop-search.search c.loop-search.slots false c.loop-search.invariant.fits (sym c.is_over.ensures ∙ some) in
    round-few verdicts is.finals c.loop-search.rounds (state c.loop-search.search c.loop-search.slots) is.refined pending

pub loop-search-smaller : goal.loop-search-smaller
loop-search-smaller g c =
    let some : c.is_over.result ≡ false = search rules in
    let few = few-yet g (goal.at.loop-search-smaller g c).After-is_over some in
    let more = c.advance-rounds.ensures.more in
    let less : 19 - c.advance-rounds.result < 19 - c.loop-search.rounds = omega (arith, few, more) in
    less

pub loop-search-preserved : goal.loop-search-preserved
loop-search-preserved g c =
    let verdicts = place_verdict (g.E.Encloser.ends c.args.calculator.now.encloser.now) in
    let some : c.is_over.result ≡ false = search rules in
    let place = (goal.at.loop-search-preserved g c).After-is_over in
    let few = few-yet g place some in
    let before = kept g place some in
    let start = state c.loop-search.search c.loop-search.slots in
    let end = state c.advance-rounds.new.self c.advance-rounds.new.slots in
    let count = c.advance-rounds.result - c.loop-search.rounds in
    let more = c.advance-rounds.ensures.more in
    let number : c.loop-search.rounds + count ≡ c.advance-rounds.result = omega (arith, more) in
    let after = rounds-after verdicts c.args.price c.args.list.now c.begin.new.search.ceiling c.loop-search.rounds count start end c.advance-rounds.ensures.rounds before in
    let most = rounds-few verdicts c.args.price c.args.list.now c.begin.new.search.ceiling c.loop-search.rounds count start end c.advance-rounds.ensures.rounds (omega (arith, few)) before in
    record {
      final = subst (λ r. IsFinal verdicts c.args.price c.args.list.now r end) number after.final;
      fits = c.advance-rounds.ensures.fits;
      most = omega (arith, most, number);
      counted = subst (λ r. IsCounted verdicts c.args.price c.args.list.now c.begin.new.search.ceiling r end) number after.counted;
    }

pub returns-clause-found : goal.returns-clause-found
returns-clause-found g c =
    let last = state c.loop-search.search c.loop-search.slots in
    let over = over-as c.loop-search.search c.loop-search.slots true c.loop-search.invariant.fits (sym c.is_over.ensures ∙ search rules) in
    searched-out (g.E.Encloser.ends c.args.calculator.now.encloser.now) c.args.price c.args.list.now c.loop-search.rounds last over c.loop-search.invariant.final

pub returns-clause-rounds : goal.returns-clause-rounds
returns-clause-rounds g c =
    let verdicts = place_verdict (g.E.Encloser.ends c.args.calculator.now.encloser.now) in
    let last = state c.loop-search.search c.loop-search.slots in
    let over = over-as c.loop-search.search c.loop-search.slots true c.loop-search.invariant.fits (sym c.is_over.ensures ∙ search rules) in
    let all = counted-last verdicts c.args.price c.args.list.now c.begin.new.search.ceiling c.loop-search.rounds last (over-none last.searches over) c.loop-search.invariant.counted in
    record {
      known = c.begin.ensures.begun.first.known;
      first = c.begin.ensures.begun.started.known;
      counted = omega (arith, all, ap (λ ceiling. rounds 19 verdicts ceiling (brackets_from c.args.price c.args.list.now)) (looked-ceiling verdicts c.begin.ensures.begun.first (state c.begin.new.search c.begin.new.slots) c.begin.ensures.begun.look ∙ c.begin.ensures.begun.started.ceiling));
    }

pub returns-clause-few : goal.returns-clause-few
returns-clause-few g c = c.loop-search.invariant.most
