use Rattle.std.proofs.Common.{◌≡◌, ◌+◌, ◌<◌, ℕ}
use Rattle.muni_journal_disk.specs.Bytes.{byte_at}
use Rattle.muni_journal_disk.proofs.bytes.fill.Given as goal

abbrev pub invariant-loop-i : goal.invariant-loop-i
invariant-loop-i l = (k : ℕ) → k < l.i → byte_at l.room k ≡ byte_at l.bytes (l.place + k)
