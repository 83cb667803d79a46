use Rattle.std.proofs.Common.{◌≡◌, ◌≤◌, ◌+◌, ◌*◌, ◌++◌, length, take}
use Rattle.std.specs.List.{flat_map}
use Rattle.muni_confirm.specs.Each.{each_text}
use Rattle.muni_confirm.proofs.each.push_each.Given as goal

abbrev pub invariant-loop-redemption : goal.invariant-loop-redemption
invariant-loop-redemption g l = record {
  items : l.text.items ≡ l.fn.text.items ++ flat_map each_text (take l.redemption-index l.each);
  room : length l.text.items ≤ length l.fn.text.items + 101 * l.redemption-index;
}
