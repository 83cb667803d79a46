use Rattle.std.proofs.Common.{◌≡◌, ◌++◌, ◌∷◌, [], rules}
use Rattle.muni_figures.proofs.groups.add_share.Goals as goal

pub returns-clause-added : goal.returns-clause-added
returns-clause-added g c =
    let added : c.push.new.self.items ≡ c.args.shares.now.items ++ c.new.result ∷ [] = search rules in
    record {
      share = c.new.result;
      added = added;
      taken = rw c.new.ensures c.in_ok-block.ensures.block;
    }
