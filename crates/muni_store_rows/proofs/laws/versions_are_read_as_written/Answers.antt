use Rattle.muni_store_rows.proofs.WrittenLemmas.{trade-is}
use Rattle.muni_store_rows.proofs.laws.versions_are_read_as_written.Goals as goal

pub returns : goal.returns
returns c = trade-is
