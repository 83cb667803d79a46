use Rattle.std.proofs.Common.{◌≡◌, reverse, drop}
use Rattle.muni_keep.proofs.page.before_last.Given as goal

-- so many are passed over from the back
abbrev pub invariant-loop-count : goal.invariant-loop-count
invariant-loop-count l = reverse l.left ≡ drop l._count (reverse l.fn.trades)
