use Rattle.muni_position.proofs.KeptLemmas.{rooms_kept}
use Rattle.muni_position.proofs.holdings.set.Goals as goal

pub returns-in-Some-clause-rooms : goal.returns-in-Some-clause-rooms
returns-in-Some-clause-rooms c = λ other.
    let holding = c.args.holding in
    rooms_kept c.args.holdings.now (c.get_mut.follows.lender holding) c.args.cusip.now other holding c.requires (((c.get_mut.follows.holds holding).3 c.requires).0 other)
