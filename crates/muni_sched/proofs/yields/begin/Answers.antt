use Rattle.muni_yield.specs.Places.{place_verdict}
use Rattle.muni_yield.proofs.KnownLemmas.{first-window}
use Rattle.muni_sched.specs.Search.{state}
use Rattle.muni_sched.proofs.SearchLemmas.{can-refine}
use Rattle.muni_sched.proofs.StartLemmas.{AreFirstKnown, IsFinal, started-final}
use Rattle.muni_sched.proofs.yields.begin.Given as given
use Rattle.muni_sched.proofs.yields.begin.Goals.{After-start}
use Rattle.muni_sched.proofs.yields.begin.Goals as goal

-- all that is kept before a look
begun : (g : given.Over) (c : After-start g) → IsFinal (place_verdict (g.E.Encloser.ends c.args.calculator.now.encloser.now)) c.args.price c.args.list.now 0 (state c.start.new.self c.start.new.slots)
begun g c =
    let verdicts = place_verdict (g.E.Encloser.ends c.args.calculator.now.encloser.now) in
    let ends = g.E.Encloser.ends c.args.calculator.now.encloser.now in
    let law = g.met.E.Encloser in
    let first : AreFirstKnown verdicts c.args.price = λ series is many. first-window ends series c.args.price (record {
      is = is;
      many = many;
      some = c.requires.price;
      narrow = λ y within. record {
        holds = law.encloses c.args.calculator.now.encloser.now series y is many within;
        narrow = law.narrow c.args.calculator.now.encloser.now series y is many within;
      };
    }) in
    started-final verdicts c.args.price c.args.list.now (state c.start.new.self c.start.new.slots) first c.requires.price c.requires.candidates c.requires.few c.start.ensures.started

pub look-requires-clause-can : goal.look-requires-clause-can
look-requires-clause-can g c =
    let final = begun g (goal.at.look-requires-clause-can g c).After-start in
    can-refine (place_verdict (g.E.Encloser.ends c.args.calculator.now.encloser.now)) final.finals 0 (state c.start.new.self c.start.new.slots) final.refined
