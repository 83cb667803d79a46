use Rattle.std.proofs.Common.{sym}
use Rattle.std.specs.Option.{option_map}
use Rattle.muni_keep.proofs.MapLemmas.{get_found}
use Rattle.muni_keep.proofs.issues.Issues.get.Goals as goal

pub returns : goal.returns
returns c = sym (get_found c.self.inside.issues.entries c.args.self.now c.args.cusip.now (option_map (λ history. history.now) c.get.result) c.self.view_is c.get.ensures.value)
