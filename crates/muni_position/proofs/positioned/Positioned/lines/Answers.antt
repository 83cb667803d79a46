use Rattle.muni_position.proofs.NextLemmas.{told_lines}
use Rattle.muni_position.proofs.positioned.Positioned.lines.Goals as goal
