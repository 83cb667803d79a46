use Rattle.std.proofs.Common.{◌≡◌, drop, rules, take}
use Rattle.muni_figures.proofs.BlockLemmas.{cut-off}
use Rattle.muni_figures.proofs.blocks.split_begun.Goals as goal

pub returns-clause-cuts : goal.returns-clause-cuts
returns-clause-cuts c =
    let block = c.args.block.now.items in
    let end = c.whole_len.result in
    let whole : c.split_off.new.self.items ≡ take end block = search rules in
    let begun : c.truncate.new.self.items ≡ take 4_097 (drop end block) = search rules in
    rw (whole, begun) (cut-off block end (rw c.deref.ensures.value at c.whole_len.ensures))
