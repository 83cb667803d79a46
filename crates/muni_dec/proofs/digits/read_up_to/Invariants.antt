use Rattle.std.proofs.Common.{◌≡◌, ◌+◌, ◌≤◌, min, drop}
use Rattle.std.specs.List.{list_all}
use Rattle.std.specs.Char.{is_ascii_digit}
use Rattle.std.specs.Str.Parse.{digits_value_after}
use Rattle.muni_dec.specs.Digits.{digits_end, number}
use Rattle.muni_dec.proofs.digits.read_up_to.Given as goal

-- what is read and what is left make up the whole text
abbrev pub invariant-loop-i : goal.invariant-loop-i
invariant-loop-i l = record {
  bound : l.value ≤ l.limit;
  digits : list_all is_ascii_digit (drop l.i l.text) ≡ list_all is_ascii_digit l.text;
  end : l.i + digits_end (drop l.i l.text) ≡ digits_end l.text;
  value : min l.limit (digits_value_after 10 l.value (drop l.i l.text)) ≡ min l.limit (number l.text);
}
