-- What few digits write.
use Rattle.std.proofs.Common.{◌≡◌, ◌≤◌, ◌<◌, ◌^◌, ℕ, true, List, length, arith}
use Rattle.std.proofs.lemmas.Str.Parse.{numerals_by_value, tells_digits, digits_value_short}
use Rattle.std.specs.Str.Parse.{AllDigits}
use Rattle.muni_dec.specs.Digits.{are_digits, number}
use Rattle.muni_dec.proofs.GrammarLemmas.{numeral}

pub number-few : (text : List ℕ) (count : ℕ) → are_digits text ≡ true → length text ≤ count → number text < 10 ^ count
number-few text count digits few = digits_value_short (numerals_by_value (AllDigits 10) tells_digits) text count (numeral text digits).1 few

pub few_digits : (text : List ℕ) → length text ≤ 4 → are_digits text ≡ true → number text ≤ 9_999
few_digits text few digits = let below = number-few text 4 digits few in omega arith
