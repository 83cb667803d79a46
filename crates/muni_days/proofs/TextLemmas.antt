-- Which texts are read as days.
use Rattle.std.proofs.Common.{◌≡◌, ℕ, suc, zero, ◌+◌, ◌*◌, ◌/◌, ◌%◌, ◌^◌, ◌<◌, ◌≤◌, ◌&&◌, ◌==◌, true, List, [], ◌∷◌, ◌++◌, length, take, drop, get_or, Bool, refl, sym, ap, ◌∙◌, arith, length-append}
use Rattle.std.specs.Prelude.{nat_lt, slice_index}
use Rattle.std.proofs.lemmas.Bool.Decides.{nat_tests}
use Rattle.std.proofs.lemmas.Bool.{and_parts}
use Rattle.std.proofs.lemmas.List.{take_all, length-take, length-take-le, length-drop, drop-drop, get_or-drop}
use Rattle.std.proofs.lemmas.List.Folds.{list_all-append}
use Rattle.std.proofs.lemmas.Int.Digits.{digits_value_push}
use Rattle.std.proofs.Math.Seq.{split_at, take-suc}
use Rattle.std.specs.List.{list_all}
use Rattle.std.specs.Char.{is_ascii_digit, digit_value}
use Rattle.muni_dec.specs.Digits.{are_digits, number, last_digits}
use Rattle.muni_rule.specs.Civil.{Civil}
use Rattle.muni_days.specs.Form.{has_form, numbers}
use Rattle.muni_days.specs.Day.{day_text}
use Rattle.muni_days.proofs.FormLemmas.{number-few}
use Rattle.muni_days.specs.Laws.{IsFormed}

-- ---- the last digits of a number
digit_written : (n : ℕ) → n < 10 → (is_ascii_digit (48 + n) ≡ true) × (digit_value (48 + n) ≡ n)
digit_written n h = (grind (arith, nat_tests), grind (arith, nat_tests))

length-last_digits : (count n : ℕ) → length (last_digits count n) ≡ count
length-last_digits zero n = refl
length-last_digits (suc count) n = let few = length-last_digits count (n / 10) in simp length-append (omega arith)

all-last_digits : (count n : ℕ) → list_all is_ascii_digit (last_digits count n) ≡ true
all-last_digits zero n = refl
all-last_digits (suc count) n =
    let digit = (digit_written (n % 10) (omega arith)).0 in
    let more = all-last_digits count (n / 10) in
    list_all-append is_ascii_digit (last_digits count (n / 10)) ((48 + n % 10) ∷ []) ∙ rw (more, digit) refl

number-last_digits : (count n : ℕ) → n < 10 ^ count → number (last_digits count n) ≡ n
number-last_digits zero n few = omega arith
number-last_digits (suc count) n few =
    let digit = (digit_written (n % 10) (omega arith)).1 in
    let more = number-last_digits count (n / 10) (omega arith) in
    digits_value_push 10 (last_digits count (n / 10)) (48 + n % 10) ∙ rw (more, digit) (omega arith)

-- ---- digits as the last digits of their number
digit_at : (text : List ℕ) (i : ℕ) → list_all is_ascii_digit text ≡ true → i < length text → is_ascii_digit (get_or text i 0) ≡ true
digit_at [] i digits inside = absurd (omega arith)
digit_at (c ∷ text) zero digits inside = (and_parts (is_ascii_digit c) (list_all is_ascii_digit text) digits).0
digit_at (c ∷ text) (suc i) digits inside = digit_at text i (and_parts (is_ascii_digit c) (list_all is_ascii_digit text) digits).1 (omega arith)

digit_read : (c : ℕ) → is_ascii_digit c ≡ true → (48 + digit_value c ≡ c) × (digit_value c < 10)
digit_read c digit = (grind (arith, nat_tests), grind (arith, nat_tests))

last_digits-take : (text : List ℕ) (count : ℕ) → list_all is_ascii_digit text ≡ true → count ≤ length text → last_digits count (number (take count text)) ≡ take count text
last_digits-take text zero digits few = refl
last_digits-take text (suc count) digits few =
    let c = get_or text count 0 in
    let rest = take count text in
    let digit = digit_read c (digit_at text count digits few) in
    let taken : take (suc count) text ≡ rest ++ c ∷ [] = take-suc text count 0 few in
    let value : number (take (suc count) text) ≡ number rest * 10 + digit_value c = ap number taken ∙ digits_value_push 10 rest c in
    let front : number (take (suc count) text) / 10 ≡ number rest = omega arith in
    let last : number (take (suc count) text) % 10 ≡ digit_value c = omega arith in
    let more = last_digits-take text count digits (omega arith) in
    (λ i. last_digits count (front i) ++ (48 + last i) ∷ []) ∙ (λ i. more i ++ digit.0 i ∷ []) ∙ sym taken

last_digits-number : (text : List ℕ) (count : ℕ) → are_digits text ≡ true → length text ≡ count → last_digits count (number text) ≡ text
last_digits-number text count digits len =
    let all : take count text ≡ text = take_all count text (omega arith) in
    let each = (and_parts (nat_lt 0 (length text)) (list_all is_ascii_digit text) digits).1 in
    ap (λ it. last_digits count (number it)) (sym all) ∙ last_digits-take text count each (omega arith) ∙ all

-- ---- the form
-- a text of the form of a day, by its parts
record HasParts (text : List ℕ) : Type 0 where
  pub len : length text ≡ 10
  pub dash : get_or text 4 0 ≡ 45
  pub second_dash : get_or text 7 0 ≡ 45
  pub year : are_digits (take 4 text) ≡ true
  pub month : are_digits (take 2 (drop 5 text)) ≡ true
  pub day : are_digits (take 2 (drop 8 text)) ≡ true

has_parts : (text : List ℕ) → has_form text ≡ true → HasParts text
has_parts text form =
    let len = and_parts (length text == 10) _ form in
    let dash = and_parts (slice_index text 4 == 45) _ len.1 in
    let second = and_parts (slice_index text 7 == 45) _ dash.1 in
    let year = and_parts (are_digits (take 4 text)) _ second.1 in
    let month = and_parts (are_digits (take 2 (drop 5 text))) (are_digits (take 2 (drop 8 text))) year.1 in
    record {
      len = grind (arith, nat_tests);
      dash = grind (arith, nat_tests);
      second_dash = grind (arith, nat_tests);
      year = year.0;
      month = month.0;
      day = month.1;
    }

-- a text around the byte at a place
around : (text : List ℕ) (i c : ℕ) → i < length text → get_or text i 0 ≡ c → text ≡ take i text ++ c ∷ drop (suc i) text
around text i c inside is = split_at text i 0 inside ∙ ap (λ it. take i text ++ it ∷ drop (suc i) text) is

parts-joined : (text : List ℕ) → HasParts text → text ≡ take 4 text ++ 45 ∷ (take 2 (drop 5 text) ++ 45 ∷ take 2 (drop 8 text))
parts-joined text parts =
    let len = parts.len in
    let behind_year : length (drop 5 text) ≡ 5 = omega (arith, length-drop 5 text) in
    let behind_month : length (drop 8 text) ≡ 2 = omega (arith, length-drop 8 text) in
    let first = around text 4 45 (omega arith) parts.dash in
    let second = around (drop 5 text) 2 45 (omega arith) (get_or-drop 5 text 2 0 ∙ parts.second_dash) in
    let last : drop 3 (drop 5 text) ≡ take 2 (drop 8 text) = drop-drop 3 5 text ∙ sym (take_all 2 (drop 8 text) (omega arith)) in
    first ∙ ap (λ it. take 4 text ++ 45 ∷ it) (second ∙ ap (λ it. take 2 (drop 5 text) ++ 45 ∷ it) last)

-- a text of the form is that of its numbers
pub text-numbers : (text : List ℕ) → has_form text ≡ true → text ≡ day_text (numbers text)
text-numbers text form =
    let parts = has_parts text form in
    let len = parts.len in
    let year = last_digits-number (take 4 text) 4 parts.year (length-take-le 4 text (omega arith)) in
    let month = last_digits-number (take 2 (drop 5 text)) 2 parts.month (length-take-le 2 (drop 5 text) (omega (arith, length-drop 5 text))) in
    let day = last_digits-number (take 2 (drop 8 text)) 2 parts.day (length-take-le 2 (drop 8 text) (omega (arith, length-drop 8 text))) in
    parts-joined text parts ∙ (λ i. sym year i ++ 45 ∷ (sym month i ++ 45 ∷ sym day i))

pub is_formed : (text : List ℕ) → has_form text ≡ true → IsFormed text
is_formed text form =
    let parts = has_parts text form in
    let len = parts.len in
    record {
      date = numbers text;
      year = number-few (take 4 text) 4 parts.year (omega (arith, length-take 4 text));
      month = number-few (take 2 (drop 5 text)) 2 parts.month (omega (arith, length-take 2 (drop 5 text)));
      day = number-few (take 2 (drop 8 text)) 2 parts.day (omega (arith, length-take 2 (drop 8 text)));
      bytes = text-numbers text form;
    }

-- and the text of numbers with as many digits is of the form, and has these numbers
all_true : (a b c : Bool) → a ≡ true → b ≡ true → c ≡ true → a && (b && c) ≡ true
all_true a b c is_a is_b is_c = rw (is_a, is_b, is_c) refl

pub has_form-text : (date : Civil) → has_form (day_text date) ≡ true
has_form-text date =
    all_true (list_all is_ascii_digit (last_digits 4 date.year)) (list_all is_ascii_digit (last_digits 2 date.month)) (list_all is_ascii_digit (last_digits 2 date.day))
    (all-last_digits 4 date.year) (all-last_digits 2 date.month) (all-last_digits 2 date.day)

pub numbers-text : (date : Civil) → date.year < 10_000 → date.month < 100 → date.day < 100 → numbers (day_text date) ≡ date
numbers-text date few_years few_months few_days =
    let year = number-last_digits 4 date.year few_years in
    let month = number-last_digits 2 date.month few_months in
    let day = number-last_digits 2 date.day few_days in
    λ i. record { year = year i; month = month i; day = day i }
