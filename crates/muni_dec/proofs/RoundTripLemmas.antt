-- What is written as a text is read from it again.
use Rattle.std.proofs.Common.{◌≡◌, ℕ, zero, suc, ◌+◌, ◌-◌, ◌*◌, ◌/◌, ◌%◌, ◌^◌, ◌<◌, ◌≤◌, true, false, List, [], ◌∷◌, ◌++◌, length, decimal, Some, pos, negsuc, neg_ℤ, refl, ap, sym, ◌∙◌, length-append, arith}
use Rattle.std.proofs.Math.Nat.{div-div-eq-div-mul, pow-suc}
use Rattle.std.proofs.lemmas.Bool.Decides.{nat_tests}
use Rattle.std.proofs.lemmas.Fmt.{decimal_is_IsNumeral}
use Rattle.std.proofs.lemmas.List.Folds.{list_all-append}
use Rattle.std.specs.List.{list_all}
use Rattle.std.specs.Char.{is_ascii_digit, digit_value}
use Rattle.std.specs.Str.Parse.{digits_value, digits_value_after}
use Rattle.muni_dec.specs.Digits.{last_digits}
use Rattle.muni_dec.specs.Decimal.{decimal_text}
use Rattle.muni_dec.specs.Grammar.{WritesDecimal}
use Rattle.muni_dec.specs.RoundTrip.{DecimalsAreReadAgain, SignedAreReadAgain, DigitsAreReadAgain}
use Rattle.muni_dec.proofs.FaultLemmas.{numeral-some, reads_digits}
use Rattle.muni_dec.proofs.GrammarLemmas.{written-reading, written-signed_reading}

-- ---- the last digits of a number
length-last_digits : (count n : ℕ) → length (last_digits count n) ≡ count
length-last_digits zero n = refl
length-last_digits (suc count) n =
    let front = length-last_digits count (n / 10) in
    length-append (last_digits count (n / 10)) ((48 + n % 10) ∷ []) ∙ omega arith

digit-of : (n : ℕ) → is_ascii_digit (48 + n % 10) ≡ true
digit-of n = grind (arith, nat_tests)

all-last_digits : (count n : ℕ) → list_all is_ascii_digit (last_digits count n) ≡ true
all-last_digits zero n = refl
all-last_digits (suc count) n =
    list_all-append is_ascii_digit (last_digits count (n / 10)) ((48 + n % 10) ∷ []) ∙ rw (all-last_digits count (n / 10), digit-of n) refl

value-of : (n : ℕ) → digit_value (48 + n % 10) ≡ n % 10
value-of n = grind (arith, nat_tests)

digits_value_after-more : (n d : ℕ) (digits : List ℕ) → digits_value_after 10 n (digits ++ d ∷ []) ≡ digits_value_after 10 n digits * 10 + digit_value d
digits_value_after-more n d [] = refl
digits_value_after-more n d (c ∷ digits) = digits_value_after-more (n * 10 + digit_value c) d digits

-- with what comes before them they are the number
value-last_digits : (count n : ℕ) → digits_value 10 (last_digits count n) + n / 10 ^ count * 10 ^ count ≡ n
value-last_digits zero n = omega arith
value-last_digits (suc count) n =
    let front = value-last_digits count (n / 10) in
    let more = digits_value_after-more 0 (48 + n % 10) (last_digits count (n / 10)) in
    let last = value-of n in
    let power : 10 ^ suc count ≡ 10 * 10 ^ count = pow-suc 10 count ∙ omega arith in
    let halves : n / 10 / 10 ^ count ≡ n / (10 * 10 ^ count) = div-div-eq-div-mul n 10 (10 ^ count) in
    rw (power, ← halves, more, last) (omega (arith, front))

-- ---- decimals
text-writes : (places units : ℕ) → 1 ≤ places → units < 2 ^ 64 → WritesDecimal places (decimal_text places units) units
text-writes places units some small =
    let whole = units / 10 ^ places in
    let fraction = last_digits places units in
    let own = decimal_is_IsNumeral whole (omega arith) in
    let count = length-last_digits places units in
    let value = value-last_digits places units in
    let none : places - length fraction ≡ 0 = omega arith in
    record {
      magnitude = record { whole = decimal whole; fraction = Some fraction };
      valid = record {
        whole = own.0;
        fraction = (numeral-some fraction (omega arith) (all-last_digits places units), omega arith);
      };
      bytes = refl;
      value = rw (own.1, none) (omega (arith, value));
    }

pub read-again : DecimalsAreReadAgain
read-again places units some small = written-reading places (decimal_text places units) units (text-writes places units some small)

pub signed-read-again : SignedAreReadAgain
signed-read-again places (pos units) some small =
    let written = text-writes places units some small in
    written-signed_reading places (decimal_text places units) (pos units) (record {
      negative = false;
      magnitude = written.magnitude;
      valid = written.valid;
      bytes = written.bytes;
      value = ap pos written.value;
    })
signed-read-again places (negsuc less) some small =
    let written = text-writes places (suc less) some small in
    written-signed_reading places (45 ∷ decimal_text places (suc less)) (negsuc less) (record {
      negative = true;
      magnitude = written.magnitude;
      valid = written.valid;
      bytes = ap (λ t. 45 ∷ t) written.bytes;
      value = ap (λ n. neg_ℤ (pos n)) written.value;
    })

-- ---- whole numbers
pub digits-read-again : DigitsAreReadAgain
digits-read-again number small =
    let own = decimal_is_IsNumeral number small in
    (reads_digits (decimal number) number).1 (own.0, sym own.1)
