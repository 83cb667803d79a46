use Rattle.std.proofs.Common.{◌≡◌}
use Rattle.muni_test_book.proofs.answers.said.Given as goal

abbrev pub invariant-loop-command : goal.invariant-loop-command
invariant-loop-command g l = g.K.Keeper.lent_as l.keeper ≡ g.K.Keeper.lent_as l.fn.keeper
