-- Each read so far took at most a room of bytes, and few found nothing.
use Rattle.std.proofs.Common.{◌*◌, ◌≡◌, ◌<◌, length}
use Rattle.muni_host.specs.Bytes.{LosesAtMost}
use Rattle.muni_host.proofs.closing.read_away.Given as goal

abbrev pub invariant-loop-turn : goal.invariant-loop-turn
invariant-loop-turn g l = (length l.room ≡ 65_536) × (l.silent < 120) × LosesAtMost (l._turn * 65_536) (g.R.Read.remaining l.initial.reader) (g.R.Read.remaining l.reader)
