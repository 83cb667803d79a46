use Rattle.muni_store_rows.proofs.WrittenLemmas.{numbered-is}
use Rattle.muni_store_rows.proofs.laws.issues_are_read_as_written.Goals as goal

pub returns : goal.returns
returns c = numbered-is
