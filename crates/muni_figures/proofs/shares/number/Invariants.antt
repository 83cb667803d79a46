use Rattle.std.proofs.Common.{◌≡◌, ◌<◌, ◌+◌, ◌^◌, length, take}
use Rattle.std.specs.List.{AllZip}
use Rattle.muni_figures.specs.Shares.{AreNumbered, IsSameBlock, rows_of_shares}
use Rattle.muni_figures.proofs.shares.number.Given as goal

-- the blocks so far have places
abbrev pub invariant-loop-i : goal.invariant-loop-i
invariant-loop-i l = record {
  same : AllZip IsSameBlock l.fn.shares l.shares;
  numbered : AreNumbered l.fn.first (take l.i l.shares);
  fits : l.place < 2 ^ 64;
  place : l.place ≡ l.fn.first + length (rows_of_shares (take l.i l.fn.shares));
}
