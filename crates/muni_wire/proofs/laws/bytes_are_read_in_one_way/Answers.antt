use Rattle.muni_wire.proofs.SomeReadingLemmas.{some-reading}
use Rattle.muni_wire.proofs.UniqueLemmas.{heads-once, reads-once}
use Rattle.muni_wire.proofs.laws.bytes_are_read_in_one_way.Goals as goal

pub returns : goal.returns
returns c = record { heads = heads-once; others = reads-once; some = some-reading }
