use Rattle.std.proofs.Common.{◌≡◌, ◌≤◌, length}
use Rattle.std.specs.Prelude.{All}
use Rattle.muni_figures.specs.Blocks.{most_bytes}
use Rattle.muni_figures.specs.Groups.{TakesGroup}
use Rattle.muni_figures.proofs.groups.take_group.Given as goal

-- the blocks so far
abbrev pub invariant-loop : goal.invariant-loop
invariant-loop g l = record {
  group : TakesGroup g.I.Source l.fn.blocks l.blocks l.shares.items l.fn.input l.input;
  count : length l.shares.items ≡ l.counter;
  bytes : All (λ share. length share.block.items ≤ most_bytes) l.shares.items;
}
