use Rattle.std.proofs.Common.{◌≡◌, ◌+◌, ◌*◌, ◌<◌, true, false, length, get_or, min, arith, sym, ◌∙◌}
use Rattle.std.specs.Char.{is_ascii_digit, digit_value}
use Rattle.std.proofs.lemmas.Bool.Decides.{nat_tests}
use Rattle.muni_dec.proofs.DigitsLemmas.{list_all-drop-digit, digits_end-drop-digit, min-digits_value_after-drop, list_all-drop-other, digits_end-drop-other}
use Rattle.muni_dec.proofs.digits.read_up_to.Goals as goal

pub returns-then-not-is_ascii_digit : goal.returns-then-not-is_ascii_digit
returns-then-not-is_ascii_digit c =
    let text = c.args.text.now in
    let i = c.loop-i.i in
    let in_text : i < length text = omega arith in
    let other : is_ascii_digit (get_or text i 0) ≡ false = cc in
    let all = sym c.loop-i.invariant.digits ∙ list_all-drop-other text i in_text other in
    let end = digits_end-drop-other text i in_text other in
    (grind arith, omega arith, omega arith)

pub loop-i-preserved : goal.loop-i-preserved
loop-i-preserved c =
    let text = c.args.text.now in
    let i = c.loop-i.i in
    let in_text : i < length text = omega arith in
    let digit : is_ascii_digit (get_or text i 0) ≡ true = cc in
    let value : c.min-value.result ≡ min c.args.limit (c.loop-i.value * 10 + digit_value (get_or text i 0)) = grind (arith, nat_tests) in
    record {
      bound = omega arith;
      digits = list_all-drop-digit text i in_text digit ∙ c.loop-i.invariant.digits;
      end = digits_end-drop-digit text i in_text digit ∙ c.loop-i.invariant.end;
      value = rw value (min-digits_value_after-drop _ c.loop-i.value text i in_text ∙ c.loop-i.invariant.value);
    }
