use Rattle.std.proofs.Common.{◌≡◌, ◌+◌, ◌*◌, ◌≤◌, drop, true}
use Rattle.std.specs.List.{list_all}
use Rattle.muni_rule.specs.Cusip.{check_sum, is_cusip_character}
use Rattle.muni_terms.proofs.cusip.check_sum.Given as goal

-- the sum so far and that of the characters left make up the whole
abbrev pub invariant-loop-i : goal.invariant-loop-i
invariant-loop-i l = record {
  bound : l.sum ≤ 18 * l.i;
  characters : list_all is_cusip_character (drop l.i l.characters) ≡ true;
  sum : l.sum + check_sum l.i (drop l.i l.characters) ≡ check_sum 0 l.characters;
}
