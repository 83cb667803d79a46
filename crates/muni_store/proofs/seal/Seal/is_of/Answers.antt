use Rattle.muni_store.proofs.SealLemmas.{of_recorded}
use Rattle.muni_store.proofs.seal.Seal.is_of.Goals as goal

pub returns-clause-recorded : goal.returns-clause-recorded
returns-clause-recorded c recorded p q e =
    of_recorded recorded c.args.seen.now c.args.self.now.text.items c.args.self.now.made c.agrees.result c.agrees.ensures p q e
