use Rattle.std.proofs.Common.{length}
use Rattle.muni_journal_disk.proofs.mem_shelf.+exchange.Given as goal

-- each call has one place less to look at
abbrev pub decreases-exchange : goal.decreases-exchange
decreases-exchange l = length l.places.now
