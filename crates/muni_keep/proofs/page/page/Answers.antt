use Rattle.std.proofs.Common.{sym, ap, take, map, ◌∙◌}
use Rattle.muni_keep.specs.Tables.{line}
use Rattle.muni_keep.proofs.PastLemmas.{no_past}
use Rattle.muni_keep.proofs.page.page.Goals as goal

pub returns-in-None : goal.returns-in-None
returns-in-None c = c.new.ensures ∙ ap (λ trades. map line (take 50 trades)) (sym (no_past _ c.args.after.now c.in-None.ensures))
