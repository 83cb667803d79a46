-- How many bytes printed numbers and dates have at most.
use Rattle.std.proofs.Common.{◌≡◌, ℕ, zero, suc, ◌+◌, ◌/◌, ◌^◌, ◌<◌, ◌≤◌, ℤ, pos, negsuc, length, refl, arith, length-append}
use Rattle.std.specs.Prelude.{unsigned_abs}
use Rattle.std.proofs.lemmas.Fmt.{length-decimal-le, length_signed_le}
use Rattle.std.specs.Int.Signed.{mag}
use Rattle.std.specs.Fmt.{decimal, signed_decimal}
use Rattle.muni_rule.specs.Civil.{Civil}
use Rattle.muni_dec.specs.Digits.{last_digits}
use Rattle.muni_dec.specs.Decimal.{decimal_text, signed_text}
use Rattle.muni_days.specs.Day.{day_text}

length-last_digits : (count n : ℕ) → length (last_digits count n) ≡ count
length-last_digits zero n = refl
length-last_digits (suc count) n =
    let front = length-last_digits count (n / 10) in simp length-append (omega arith)

pub length-decimal_text : (places units : ℕ) → units < 2 ^ 64 → length (decimal_text places units) ≤ places + 21
length-decimal_text places units small =
    let whole : units / 10 ^ places < 2 ^ 64 = omega arith in
    let digits = length-decimal-le 20 (units / 10 ^ places) (omega arith) (omega arith) whole in
    let rest = length-last_digits places units in
    simp length-append (omega arith)

pub length-signed_text : (places : ℕ) (units : ℤ) → unsigned_abs units < 2 ^ 64 → length (signed_text places units) ≤ places + 22
length-signed_text places (pos units) small = let same = length-decimal_text places units small in omega arith
length-signed_text places (negsuc less) small = let same = length-decimal_text places (suc less) small in omega arith

pub length-day_text : (date : Civil) → length (day_text date) ≡ 10
length-day_text date =
    let year = length-last_digits 4 date.year in
    let month = length-last_digits 2 date.month in
    let day = length-last_digits 2 date.day in
    simp length-append (omega arith)

-- a number of 32 bits, with its sign
pub length-days : (days : ℤ) → mag days < 2 ^ 32 → length (signed_decimal days) ≤ 11
length-days days small = length_signed_le 10 days (omega arith) (omega arith)

-- a number of 32 bits without a sign
pub length-count : (number : ℕ) → number < 2 ^ 32 → length (decimal number) ≤ 10
length-count number small = length-decimal-le 10 number (omega arith) (omega arith) (omega arith)

pub ruleset lengths = (length-decimal_text, length-signed_text, length-day_text, length-days, length-count)
