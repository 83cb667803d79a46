-- A fault is at the first place whose byte continues no text of the format.
use Rattle.std.proofs.Common.{◌≡◌, ◌≢◌, ℕ, zero, suc, ◌+◌, ◌*◌, ◌^◌, ◌<◌, ◌≤◌, ◌&&◌, ◌||◌, Bool, true, false, not, eqb, ltb, List, [], ◌∷◌, ◌++◌, length, take, drop, get_or, Option, Some, None, Ok, Err, refl, ap, sym, ◌∙◌, subst, append_assoc, append-nil, length-append, arith, inl, inr}
use Rattle.std.proofs.lemmas.Bool.Decides.{nat_tests}
use Rattle.std.proofs.lemmas.Bool.{cases_lt, cases_Bool}
use Rattle.std.proofs.lemmas.List.{get_or-take, take-append-drop, length-take, length-take-le, take_all, drop_all}
use Rattle.std.proofs.lemmas.List.Folds.{list_all-append}
use Rattle.std.proofs.lemmas.List.Sums.{passes_at_first, fails_before_first}
use Rattle.std.proofs.Math.Seq.{take-length, take-append_seam, take-append-add, split_at}
use Rattle.std.specs.List.{list_all}
use Rattle.std.specs.Char.{is_ascii_digit}
use Rattle.std.specs.Str.Parse.{IsNumeral}
use Rattle.muni_dec.specs.declared.fault.DecFault.TheVariants.{Empty, NotADigit, TooManyDecimals}
use Rattle.muni_dec.specs.Digits.{are_digits, digits_end, number}
use Rattle.muni_dec.specs.Decimal.{reading, fraction_reading, units_of, digits_reading}
use Rattle.muni_dec.specs.Grammar.{Magnitude, IsFraction, fraction_bytes, magnitude_units}
use Rattle.muni_dec.specs.FaultPlaces.{GoesOn, LeavesAt, IsDecimal, TellsFaults, TellsDecimalFaults, ReadsDigits, TellsDigitFaults}
use Rattle.muni_dec.proofs.GrammarLemmas.{both, chosen, numeral, numeral_is, digits_all, point_in, point_in-digits, reading-with_point, reading-without_point, around_point, fraction_read, drop-behind_point, reading-written, written-reading}

-- ---- any format
pub same-fewer : (j k : ℕ) (one other : List ℕ) → j ≤ k → take k one ≡ take k other → take j one ≡ take j other
same-fewer zero k one other fewer same = refl
same-fewer (suc j) zero one other fewer same = absurd (omega arith)
same-fewer (suc j) (suc k) [] [] fewer same = refl
same-fewer (suc j) (suc k) [] (d ∷ other) fewer same = absurd (cc)
same-fewer (suc j) (suc k) (c ∷ one) [] fewer same = absurd (cc)
same-fewer (suc j) (suc k) (c ∷ one) (d ∷ other) fewer same =
    let first : c ≡ d = cc in
    let rest : take k one ≡ take k other = cc in
    let less : take j one ≡ take j other = same-fewer j k one other (omega arith) rest in
    cc

pub goes-fewer : (IsText : List ℕ → Type 0) (text : List ℕ) (j k : ℕ) → j ≤ k → GoesOn IsText text k → GoesOn IsText text j
goes-fewer IsText text j k fewer goes = record {
  other = goes.other;
  valid = goes.valid;
  same = same-fewer j k goes.other text fewer goes.same;
}

pub goes-whole : (IsText : List ℕ → Type 0) (text : List ℕ) (k : ℕ) → IsText text → GoesOn IsText text k
goes-whole IsText text k valid = record { other = text; valid = valid; same = refl }

-- a text leaves its format at one place
pub leaves-one : (IsText : List ℕ → Type 0) (text : List ℕ) (a b : ℕ) → LeavesAt IsText text a → LeavesAt IsText text b → a ≡ b
leaves-one IsText text a b one other =
    elim (cases_lt a b) [
      | inl less ↦ absurd (one.not_here (goes-fewer IsText text (a + 1) b (omega arith) other.before))
      | inr most ↦ elim (cases_lt b a) [
        | inl more ↦ absurd (other.not_here (goes-fewer IsText text (b + 1) a (omega arith) one.before))
        | inr least ↦ omega arith
      ]
    ]

-- ---- decimals by their parts
whole-decimal : (places : ℕ) (digits : List ℕ) → IsNumeral 10 digits → IsDecimal places digits
whole-decimal places digits is =
    let m : Magnitude = record { whole = digits; fraction = None } in (
      magnitude_units places m,
      record {
        magnitude = m;
        valid = record { whole = is; fraction = tt };
        bytes = sym (append-nil digits);
        value = refl;
      },
    )

point-decimal : (places : ℕ) (whole fraction : List ℕ) → IsNumeral 10 whole → IsNumeral 10 fraction → length fraction ≤ places → IsDecimal places (whole ++ 46 ∷ fraction)
point-decimal places whole fraction is more few =
    let m : Magnitude = record { whole = whole; fraction = Some fraction } in (
      magnitude_units places m,
      record {
        magnitude = m;
        valid = record { whole = is; fraction = (more, few) };
        bytes = refl;
        value = refl;
      },
    )

-- digits and one digit more are a numeral
numeral-more : (digits : List ℕ) (d : ℕ) → list_all is_ascii_digit digits ≡ true → is_ascii_digit d ≡ true → IsNumeral 10 (digits ++ d ∷ [])
numeral-more digits d all digit =
    let count : length (digits ++ d ∷ []) ≡ length digits + 1 = length-append digits (d ∷ []) in
    let some : ltb 0 (length (digits ++ d ∷ [])) ≡ true = grind (arith, nat_tests) in
    let every : list_all is_ascii_digit (digits ++ d ∷ []) ≡ true = list_all-append is_ascii_digit digits (d ∷ []) ∙ rw (all, digit) refl in
    numeral (digits ++ d ∷ []) (rw (some, every) refl)

-- the first of some bytes pass what all pass
front-all : (p : ℕ → Bool) (text : List ℕ) (k : ℕ) → list_all p text ≡ true → list_all p (take k text) ≡ true
front-all p text k all =
    let parts : list_all p (take k text) && list_all p (drop k text) ≡ true = sym (list_all-append p (take k text) (drop k text)) ∙ (ap (list_all p) (take-append-drop k text) ∙ all) in
    (both (list_all p (take k text)) (list_all p (drop k text)) parts).0

-- each byte of a decimal is a digit or a point
abbrev is_decimal_byte : ℕ → Bool
is_decimal_byte b = is_ascii_digit b || eqb b 46

digits-bytes : (digits : List ℕ) → list_all is_ascii_digit digits ≡ true → list_all is_decimal_byte digits ≡ true
digits-bytes [] all = refl
digits-bytes (d ∷ digits) all =
    let parts = both (is_ascii_digit d) (list_all is_ascii_digit digits) all in
    rw (parts.0, digits-bytes digits parts.1) refl

pub all-digits : (digits : List ℕ) → IsNumeral 10 digits → list_all is_ascii_digit digits ≡ true
all-digits digits is = digits_all digits is.1

fraction-bytes : (places : ℕ) (fraction : Option (List ℕ)) → IsFraction places fraction → list_all is_decimal_byte (fraction_bytes fraction) ≡ true
fraction-bytes places None is = refl
fraction-bytes places (Some digits) is = digits-bytes digits (all-digits digits is.0)

decimal-bytes : (places : ℕ) (text : List ℕ) → IsDecimal places text → list_all is_decimal_byte text ≡ true
decimal-bytes places text is =
    let m = is.1.magnitude in
    let whole = digits-bytes m.whole (all-digits m.whole is.1.valid.whole) in
    let fraction = fraction-bytes places m.fraction is.1.valid.fraction in
    ap (list_all is_decimal_byte) is.1.bytes ∙ (list_all-append is_decimal_byte m.whole (fraction_bytes m.fraction) ∙ rw (whole, fraction) refl)

-- ---- a byte that is no digit and no point, after digits
stray-byte : (places : ℕ) (digits : List ℕ) (c : ℕ) (rest : List ℕ) → list_all is_ascii_digit digits ≡ true → is_decimal_byte c ≡ false → LeavesAt (IsDecimal places) (digits ++ c ∷ rest) (length digits)
stray-byte places digits c rest all stray = record {
  before = record {
    other = digits ++ 48 ∷ [];
    valid = whole-decimal places (digits ++ 48 ∷ []) (numeral-more digits 48 all refl);
    same = take-append_seam digits (48 ∷ []) ∙ sym (take-append_seam digits (c ∷ rest));
  };
  not_here = λ goes.
      let front = goes.same ∙ take-append-add digits (c ∷ rest) 1 in
      let bytes = sym (ap (list_all is_decimal_byte) front) ∙ front-all is_decimal_byte goes.other (length digits + 1) (decimal-bytes places goes.other goes.valid) in
      let parts = both (list_all is_decimal_byte digits) (is_decimal_byte c && true) (sym (list_all-append is_decimal_byte digits (c ∷ [])) ∙ bytes) in
      let last = both (is_decimal_byte c) true parts.1 in
      absurd (cc);
}

-- ---- a point without digits before it
pub record FirstDigit (text : List ℕ) : Type 0 where
  pub digit : ℕ
  pub rest : List ℕ
  pub bytes : text ≡ digit ∷ rest
  pub is : is_ascii_digit digit ≡ true

first-of : (whole fraction : List ℕ) → IsNumeral 10 whole → FirstDigit (whole ++ fraction)
first-of [] fraction is = absurd (omega arith)
first-of (d ∷ whole) fraction is = record {
  digit = d;
  rest = whole ++ fraction;
  bytes = refl;
  is = (both (is_ascii_digit d) (list_all is_ascii_digit whole) (all-digits (d ∷ whole) is)).0;
}

-- a decimal begins with a digit
pub first-digit : (places : ℕ) (text : List ℕ) → IsDecimal places text → FirstDigit text
first-digit places text is =
    let m = is.1.magnitude in
    subst FirstDigit (sym is.1.bytes) (first-of m.whole (fraction_bytes m.fraction) is.1.valid.whole)

pub zero_decimal : (places : ℕ) → IsDecimal places (48 ∷ [])
zero_decimal places = whole-decimal places (48 ∷ []) (numeral-more [] 48 refl refl)

point-first : (places : ℕ) (rest : List ℕ) → LeavesAt (IsDecimal places) (46 ∷ rest) 0
point-first places rest = record {
  before = record { other = 48 ∷ []; valid = zero_decimal places; same = refl };
  not_here = λ goes.
      let first = first-digit places goes.other goes.valid in
      let front : first.digit ∷ [] ≡ 46 ∷ [] = sym (ap (take 1) first.bytes) ∙ goes.same in
      let same : first.digit ≡ 46 = cc in
      let digit : is_ascii_digit 46 ≡ true = subst (λ b. is_ascii_digit b ≡ true) same first.is in
      absurd (cc);
}

-- ---- what comes after a point
read-fraction : (places : ℕ) (whole fraction : List ℕ) → list_all is_ascii_digit whole ≡ true → IsDecimal places (whole ++ 46 ∷ fraction) → IsNumeral 10 fraction × (length fraction ≤ places)
read-fraction places whole fraction all is =
    let text = whole ++ 46 ∷ fraction in
    let place : point_in text ≡ length whole = point_in-digits whole (46 ∷ fraction) all ∙ omega arith in
    let count : length text ≡ length whole + (length fraction + 1) = simp length-append (omega arith) in
    let inside : point_in text < length text = omega arith in
    let read = sym (reading-with_point places text inside) ∙ written-reading places text is.0 is.1 in
    let found = chosen (are_digits (take (point_in text) text)) _ _ _ read in
    let parts = fraction_read places (take (point_in text) text) (drop (point_in text + 1) text) (point_in text + 1) is.0 found.1 in
    let rest : drop (point_in text + 1) text ≡ fraction = rw place (drop-behind_point whole fraction) in
    let numeral_is : IsNumeral 10 fraction = subst (IsNumeral 10) rest parts.0 in
    let few : length fraction ≤ places = subst (λ digits. length digits ≤ places) rest parts.1 in
    (numeral_is, few)

-- A decimal that agrees with a text as far as the m-th byte after the point: its fraction begins as
-- that of the text does, and ends with it if that is shorter.
record GoesBehind (places : ℕ) (fraction : List ℕ) (m : ℕ) : Type 0 where
  rest : List ℕ
  numeral : IsNumeral 10 (take m fraction ++ rest)
  few : length (take m fraction ++ rest) ≤ places
  ended : length fraction < m → rest ≡ []

goes-behind : (places : ℕ) (whole fraction : List ℕ) (m : ℕ) → list_all is_ascii_digit whole ≡ true → GoesOn (IsDecimal places) (whole ++ 46 ∷ fraction) (length whole + suc m) → GoesBehind places fraction m
goes-behind places whole fraction m all goes =
    let k = length whole + suc m in
    let front : take k goes.other ≡ whole ++ 46 ∷ take m fraction = goes.same ∙ take-append-add whole (46 ∷ fraction) (suc m) in
    let rest = drop k goes.other in
    let joined : goes.other ≡ whole ++ 46 ∷ (take m fraction ++ rest) = sym (take-append-drop k goes.other) ∙ (ap (λ xs. xs ++ rest) front ∙ append_assoc whole (46 ∷ take m fraction) rest) in
    let parts = read-fraction places whole (take m fraction ++ rest) all (subst (IsDecimal places) joined goes.valid) in
    record {
      rest = rest;
      numeral = parts.0;
      few = parts.1;
      ended = λ short.
          let count : length (whole ++ 46 ∷ take m fraction) ≡ length whole + (length (take m fraction) + 1) = simp length-append (omega arith) in
          let fewer = length-take m fraction in
          let all_of = length-take k goes.other in
          let same = ap length front in
          drop_all k goes.other (omega arith);
    }

-- the text ends with the point
point-last : (places : ℕ) (whole : List ℕ) → 1 ≤ places → IsNumeral 10 whole → LeavesAt (IsDecimal places) (whole ++ 46 ∷ []) (length whole + 1)
point-last places whole some is = record {
  before = record {
    other = whole ++ 46 ∷ 48 ∷ [];
    valid = point-decimal places whole (48 ∷ []) is (numeral-more [] 48 refl refl) some;
    same = take-append-add whole (46 ∷ 48 ∷ []) 1 ∙ sym (take-append-add whole (46 ∷ []) 1);
  };
  not_here = λ goes.
      let at : length whole + 1 + 1 ≡ length whole + suc 1 = omega arith in
      let behind = goes-behind places whole [] 1 (all-digits whole is) (subst (GoesOn (IsDecimal places) (whole ++ 46 ∷ [])) at goes) in
      let none = behind.ended (omega arith) in
      let empty = subst (λ rest. IsNumeral 10 rest) none behind.numeral in
      absurd (omega (arith, empty.0));
}

-- a list with more after it, and without
take-seam-whole : (xs ys : List ℕ) → take (length xs) xs ≡ take (length xs) (xs ++ ys)
take-seam-whole xs ys = take-length xs ∙ sym (take-append_seam xs ys)

-- a byte after the point that is no digit
stray-behind : (places : ℕ) (whole digits : List ℕ) (c : ℕ) (rest : List ℕ) → 1 ≤ places → length digits ≤ places → IsNumeral 10 whole → list_all is_ascii_digit digits ≡ true → is_ascii_digit c ≡ false → LeavesAt (IsDecimal places) (whole ++ 46 ∷ (digits ++ c ∷ rest)) (length whole + suc (length digits))
stray-behind places whole [] c rest some few is all stray = record {
  before = record {
    other = whole ++ 46 ∷ 48 ∷ [];
    valid = point-decimal places whole (48 ∷ []) is (numeral-more [] 48 refl refl) some;
    same = take-append-add whole (46 ∷ 48 ∷ []) 1 ∙ sym (take-append-add whole (46 ∷ c ∷ rest) 1);
  };
  not_here = λ goes.
      let at : length whole + 1 + 1 ≡ length whole + suc 1 = omega arith in
      let behind = goes-behind places whole (c ∷ rest) 1 (all-digits whole is) (subst (GoesOn (IsDecimal places) (whole ++ 46 ∷ c ∷ rest)) at goes) in
      let digit = both (is_ascii_digit c) (list_all is_ascii_digit behind.rest) (all-digits (c ∷ behind.rest) behind.numeral) in
      absurd (cc);
}
stray-behind places whole (d ∷ digits) c rest some few is all stray = record {
  before = record {
    other = whole ++ 46 ∷ d ∷ digits;
    valid = point-decimal places whole (d ∷ digits) is (numeral (d ∷ digits) (let nonempty : ltb 0 (length (d ∷ digits)) ≡ true = grind (arith, nat_tests) in rw (nonempty, all) refl)) few;
    same = take-append-add whole (46 ∷ d ∷ digits) (suc (length (d ∷ digits))) ∙ (ap (λ t. whole ++ 46 ∷ t) (take-seam-whole (d ∷ digits) (c ∷ rest)) ∙ sym (take-append-add whole (46 ∷ (d ∷ digits ++ c ∷ rest)) (suc (length (d ∷ digits)))));
  };
  not_here = λ goes.
      let fraction = d ∷ digits ++ c ∷ rest in
      let m = length (d ∷ digits) + 1 in
      let at : length whole + suc (length (d ∷ digits)) + 1 ≡ length whole + suc m = omega arith in
      let behind = goes-behind places whole fraction m (all-digits whole is) (subst (GoesOn (IsDecimal places) (whole ++ 46 ∷ fraction)) at goes) in
      let front : take m fraction ≡ (d ∷ digits) ++ c ∷ [] = take-append-add (d ∷ digits) (c ∷ rest) 1 in
      let every = sym (list_all-append is_ascii_digit (take m fraction) behind.rest) ∙ all-digits (take m fraction ++ behind.rest) behind.numeral in
      let first = both (list_all is_ascii_digit (take m fraction)) (list_all is_ascii_digit behind.rest) every in
      let split = sym (list_all-append is_ascii_digit (d ∷ digits) (c ∷ [])) ∙ (sym (ap (list_all is_ascii_digit) front) ∙ first.0) in
      let last = both (list_all is_ascii_digit (d ∷ digits)) (is_ascii_digit c && true) split in
      let digit = both (is_ascii_digit c) true last.1 in
      absurd (cc);
}

-- digits are a numeral if there is one
pub numeral-some : (digits : List ℕ) → 1 ≤ length digits → list_all is_ascii_digit digits ≡ true → IsNumeral 10 digits
numeral-some digits some all =
    let nonempty : ltb 0 (length digits) ≡ true = grind (arith, nat_tests) in
    numeral digits (rw (nonempty, all) refl)

-- a digit after all places that there are
excess-digit : (places : ℕ) (whole digits : List ℕ) (d : ℕ) (rest : List ℕ) → 1 ≤ places → length digits ≡ places → IsNumeral 10 whole → list_all is_ascii_digit digits ≡ true → LeavesAt (IsDecimal places) (whole ++ 46 ∷ (digits ++ d ∷ rest)) (length whole + suc places)
excess-digit places whole digits d rest some full is all = record {
  before = record {
    other = whole ++ 46 ∷ digits;
    valid = point-decimal places whole digits is (numeral-some digits (omega arith) all) (omega arith);
    same =
        let at : length whole + suc places ≡ length whole + suc (length digits) = omega arith in
        rw at (take-append-add whole (46 ∷ digits) (suc (length digits)) ∙ (ap (λ t. whole ++ 46 ∷ t) (take-seam-whole digits (d ∷ rest)) ∙ sym (take-append-add whole (46 ∷ (digits ++ d ∷ rest)) (suc (length digits)))));
  };
  not_here = λ goes.
      let fraction = digits ++ d ∷ rest in
      let m = length digits + 1 in
      let at : length whole + suc places + 1 ≡ length whole + suc m = omega arith in
      let behind = goes-behind places whole fraction m (all-digits whole is) (subst (GoesOn (IsDecimal places) (whole ++ 46 ∷ fraction)) at goes) in
      let front : take m fraction ≡ digits ++ d ∷ [] = take-append-add digits (d ∷ rest) 1 in
      let taken : length (take m fraction) ≡ length digits + 1 = ap length front ∙ length-append digits (d ∷ []) in
      let count = length-append (take m fraction) behind.rest in
      let few = behind.few in
      absurd (omega arith);
}

-- with one place more, the digit is right
excess-goes : (places : ℕ) (whole digits : List ℕ) (d : ℕ) (rest : List ℕ) → length digits ≡ places → IsNumeral 10 whole → list_all is_ascii_digit digits ≡ true → is_ascii_digit d ≡ true → GoesOn (IsDecimal (places + 1)) (whole ++ 46 ∷ (digits ++ d ∷ rest)) (length whole + suc places + 1)
excess-goes places whole digits d rest full is all digit =
    let count : length (digits ++ d ∷ []) ≡ length digits + 1 = length-append digits (d ∷ []) in
    let at : length whole + suc places + 1 ≡ length whole + suc (length digits + 1) = omega arith in
    record {
      other = whole ++ 46 ∷ (digits ++ d ∷ []);
      valid = point-decimal (places + 1) whole (digits ++ d ∷ []) is (numeral-more digits d all digit) (omega arith);
      same = rw at (take-append-add whole (46 ∷ (digits ++ d ∷ [])) (suc (length digits + 1)) ∙ (ap (λ t. whole ++ 46 ∷ t) (take-append-add digits (d ∷ []) 1 ∙ sym (take-append-add digits (d ∷ rest) 1)) ∙ sym (take-append-add whole (46 ∷ (digits ++ d ∷ rest)) (suc (length digits + 1)))));
    }

-- ---- the digits at the front of a text
front-digits : (text : List ℕ) (n : ℕ) → n ≤ digits_end text → list_all is_ascii_digit (take n text) ≡ true
front-digits text zero few = refl
front-digits [] (suc n) few = refl
front-digits (c ∷ text) (suc n) few =
    elim (cases_Bool (is_ascii_digit c)) [
      | inl digit ↦
          let end : digits_end (c ∷ text) ≡ 1 + digits_end text = rw digit refl in
          rw (digit, front-digits text n (omega arith)) refl
      | inr other ↦
          let end : digits_end (c ∷ text) ≡ 0 = rw other refl in
          absurd (omega arith)
    ]

digit-at : (text : List ℕ) (n : ℕ) → n < digits_end text → is_ascii_digit (get_or text n 0) ≡ true
digit-at text n few =
    let not_stray = fails_before_first (λ b. not (is_ascii_digit b)) text n 0 few in
    grind (arith, nat_tests)

-- after digits comes a byte that is no digit, or the text ends
stray-at : (text : List ℕ) → digits_end text < length text → is_ascii_digit (get_or text (digits_end text) 0) ≡ false
stray-at text inside =
    let stray = passes_at_first (λ b. not (is_ascii_digit b)) text 0 inside in
    grind (arith, nat_tests)

digits-whole : (text : List ℕ) → length text ≤ digits_end text → list_all is_ascii_digit text ≡ true
digits-whole text whole = ap (list_all is_ascii_digit) (sym (take_all (digits_end text) text whole)) ∙ front-digits text (digits_end text) (omega arith)

-- ---- how each text is read
data Told (places : ℕ) (text : List ℕ) : Type 0 where
  is_read : (units : ℕ) → reading places text ≡ Ok units → Told places text
  strays : (at : ℕ) → reading places text ≡ Err (NotADigit at) → LeavesAt (IsDecimal places) text at → LeavesAt (IsDecimal (places + 1)) text at → Told places text
  exceeds : (at : ℕ) → reading places text ≡ Err (TooManyDecimals at) → LeavesAt (IsDecimal places) text at → GoesOn (IsDecimal (places + 1)) text (at + 1) → Told places text

-- the digits end in the text
digits_end-most : (text : List ℕ) → digits_end text ≤ length text
digits_end-most [] = omega arith
digits_end-most (c ∷ text) =
    let rest = digits_end-most text in
    elim (cases_Bool (is_ascii_digit c)) [
      | inl digit ↦ let end : digits_end (c ∷ text) ≡ 1 + digits_end text = rw digit refl in omega arith
      | inr other ↦ let end : digits_end (c ∷ text) ≡ 0 = rw other refl in omega arith
    ]

-- a text cut before a place that it has
cut : (text : List ℕ) (n : ℕ) → n < length text → text ≡ take n text ++ get_or text n 0 ∷ drop (suc n) text
cut text n inside = split_at text n 0 inside

cut-count : (text : List ℕ) (n : ℕ) → n < length text → length (take n text) ≡ n
cut-count text n inside = length-take-le n text (omega arith)

-- digits with no point, up to another byte
leaves-before : (places : ℕ) (text : List ℕ) → digits_end text < length text → eqb (get_or text (digits_end text) 0) 46 ≡ false → LeavesAt (IsDecimal places) text (digits_end text)
leaves-before places text inside no_point =
    let n = digits_end text in
    let c = get_or text n 0 in
    let other : is_decimal_byte c ≡ false = rw (stray-at text inside, no_point) refl in
    let leaves = stray-byte places (take n text) c (drop (suc n) text) (front-digits text n (omega arith)) other in
    subst (λ t. LeavesAt (IsDecimal places) t n) (sym (cut text n inside))
    (subst (λ at. LeavesAt (IsDecimal places) (take n text ++ c ∷ drop (suc n) text) at) (cut-count text n inside) leaves)

-- digits after a point, up to another byte or the end
leaves-behind : (places : ℕ) (whole fraction : List ℕ) → 1 ≤ places → digits_end fraction ≤ places → are_digits fraction ≡ false → IsNumeral 10 whole → LeavesAt (IsDecimal places) (whole ++ 46 ∷ fraction) (length whole + 1 + digits_end fraction)
leaves-behind places whole [] some few not_digits is =
    let at : length whole + 1 ≡ length whole + 1 + 0 = omega arith in
    subst (LeavesAt (IsDecimal places) (whole ++ 46 ∷ [])) at (point-last places whole some is)
leaves-behind places whole (d ∷ rest) some few not_digits is =
    let fraction = d ∷ rest in
    let n = digits_end fraction in
    elim (cases_lt n (length fraction)) [
      | inl inside ↦
          let c = get_or fraction n 0 in
          let count = cut-count fraction n inside in
          let at : length whole + suc (length (take n fraction)) ≡ length whole + 1 + n = omega arith in
          let leaves = stray-behind places whole (take n fraction) c (drop (suc n) fraction) some (omega arith) is (front-digits fraction n (omega arith)) (stray-at fraction inside) in
          subst (λ t. LeavesAt (IsDecimal places) (whole ++ 46 ∷ t) (length whole + 1 + n)) (sym (cut fraction n inside))
          (subst (LeavesAt (IsDecimal places) (whole ++ 46 ∷ (take n fraction ++ c ∷ drop (suc n) fraction))) at leaves)
      | inr outside ↦
          let all = digits-whole fraction outside in
          let nonempty : ltb 0 (length fraction) ≡ true = grind (arith, nat_tests) in
          let digits : are_digits fraction ≡ true = rw (nonempty, all) refl in
          absurd (cc)
    ]

told-behind : (places : ℕ) (whole fraction : List ℕ) → 1 ≤ places → IsNumeral 10 whole → reading places (whole ++ 46 ∷ fraction) ≡ fraction_reading places whole fraction (length whole + 1) → Told places (whole ++ 46 ∷ fraction)
told-behind places whole fraction some is read =
    elim (cases_lt places (digits_end fraction)) [
      | inl over ↦
          let test : ltb places (digits_end fraction) ≡ true = grind (arith, nat_tests) in
          let within = digits_end-most fraction in
          let inside : places < length fraction = omega arith in
          let d = get_or fraction places 0 in
          let digits = take places fraction in
          let all = front-digits fraction places (omega arith) in
          let full = cut-count fraction places inside in
          let text = whole ++ 46 ∷ (digits ++ d ∷ drop (suc places) fraction) in
          let same : text ≡ whole ++ 46 ∷ fraction = ap (λ t. whole ++ 46 ∷ t) (sym (cut fraction places inside)) in
          let at : length whole + suc places ≡ length whole + 1 + places = omega arith in
          exceeds (length whole + suc places)
          (read ∙ rw test (ap (λ n. Err (TooManyDecimals n)) (sym at)))
          (subst (λ t. LeavesAt (IsDecimal places) t (length whole + suc places)) same (excess-digit places whole digits d (drop (suc places) fraction) some full is all))
          (subst (λ t. GoesOn (IsDecimal (places + 1)) t (length whole + suc places + 1)) same (excess-goes places whole digits d (drop (suc places) fraction) full is all (digit-at fraction places over)))
      | inr few ↦
          let test : ltb places (digits_end fraction) ≡ false = grind (arith, nat_tests) in
          elim (cases_Bool (are_digits fraction)) [
            | inl digits ↦ is_read (units_of places whole fraction) (read ∙ rw (test, digits) refl)
            | inr not_digits ↦
                strays (length whole + 1 + digits_end fraction) (read ∙ rw (test, not_digits) refl)
                (leaves-behind places whole fraction some few not_digits is)
                (leaves-behind (places + 1) whole fraction (omega arith) (omega arith) not_digits is)
          ]
    ]

-- a byte before the first point
before-point : (text : List ℕ) (n : ℕ) → n < point_in text → eqb (get_or (take (point_in text) text) n 0) 46 ≡ false
before-point text n before = rw (get_or-take (point_in text) text n 0 before) (fails_before_first (λ b. eqb b 46) text n 0 before)

none-empty : (digits : List ℕ) → list_all is_ascii_digit digits ≡ true → are_digits digits ≡ false → digits ≡ []
none-empty [] all not_digits = refl
none-empty (d ∷ digits) all not_digits =
    let nonempty : ltb 0 (length (d ∷ digits)) ≡ true = grind (arith, nat_tests) in
    let is : are_digits (d ∷ digits) ≡ true = rw (nonempty, all) refl in
    absurd (cc)

-- a whole part that is no number: before the point is no digit, or a byte that is no digit
leaves-whole : (places : ℕ) (text : List ℕ) → point_in text < length text → are_digits (take (point_in text) text) ≡ false → LeavesAt (IsDecimal places) text (digits_end (take (point_in text) text))
leaves-whole places text inside not_digits =
    let p = point_in text in
    let whole = take p text in
    let joined = around_point text inside in
    let count = length-take p text in
    elim (cases_lt (digits_end whole) (length whole)) [
      | inl stray ↦
          let n = digits_end whole in
          let c = get_or whole n 0 in
          let no_point : eqb c 46 ≡ false = before-point text n (omega arith) in
          let other : is_decimal_byte c ≡ false = rw (stray-at whole stray, no_point) refl in
          let rest = drop (suc n) whole ++ 46 ∷ drop (p + 1) text in
          let leaves = stray-byte places (take n whole) c rest (front-digits whole n (omega arith)) other in
          let same : take n whole ++ c ∷ rest ≡ text = sym (joined ∙ (ap (λ t. t ++ 46 ∷ drop (p + 1) text) (cut whole n stray) ∙ append_assoc (take n whole) (c ∷ drop (suc n) whole) (46 ∷ drop (p + 1) text))) in
          subst (λ t. LeavesAt (IsDecimal places) t n) same
          (subst (LeavesAt (IsDecimal places) (take n whole ++ c ∷ rest)) (cut-count whole n stray) leaves)
      | inr none ↦
          let empty : whole ≡ [] = none-empty whole (digits-whole whole none) not_digits in
          let first : 46 ∷ drop (p + 1) text ≡ text = sym (joined ∙ ap (λ t. t ++ 46 ∷ drop (p + 1) text) empty) in
          let at : 0 ≡ digits_end whole = sym (ap digits_end empty) in
          subst (LeavesAt (IsDecimal places) text) at (subst (λ t. LeavesAt (IsDecimal places) t 0) first (point-first places (drop (p + 1) text)))
    ]

-- a text with a point
told-point : (places : ℕ) (text : List ℕ) → 1 ≤ places → point_in text < length text → Told places text
told-point places text some inside =
    let p = point_in text in
    let whole = take p text in
    let fraction = drop (p + 1) text in
    let read = reading-with_point places text inside in
    elim (cases_Bool (are_digits whole)) [
      | inl digits ↦
          let joined : text ≡ whole ++ 46 ∷ fraction = around_point text inside in
          let count : length whole ≡ p = length-take-le p text (omega arith) in
          let at : p + 1 ≡ length whole + 1 = omega arith in
          let split : reading places text ≡ fraction_reading places whole fraction (length whole + 1) = read ∙ rw digits (ap (fraction_reading places whole fraction) at) in
          subst (Told places) (sym joined) (told-behind places whole fraction some (numeral whole digits) (ap (reading places) (sym joined) ∙ split))
      | inr not_digits ↦
          strays (digits_end whole) (read ∙ rw not_digits refl) (leaves-whole places text inside not_digits) (leaves-whole (places + 1) text inside not_digits)
    ]

-- a text without a point
no-point : (text : List ℕ) (n : ℕ) → length text ≤ point_in text → n < length text → eqb (get_or text n 0) 46 ≡ false
no-point text n absent inside = fails_before_first (λ b. eqb b 46) text n 0 (omega arith)

told-whole : (places : ℕ) (text : List ℕ) → 0 < length text → length text ≤ point_in text → Told places text
told-whole places text nonempty absent =
    let read = reading-without_point places text nonempty absent in
    elim (cases_Bool (are_digits text)) [
      | inl digits ↦ is_read (number text * 10 ^ places) (read ∙ rw digits refl)
      | inr not_digits ↦ elim (cases_lt (digits_end text) (length text)) [
        | inl inside ↦
            let other = no-point text (digits_end text) absent inside in
            strays (digits_end text) (read ∙ rw not_digits refl) (leaves-before places text inside other) (leaves-before (places + 1) text inside other)
        | inr none ↦
            let empty = ap length (none-empty text (digits-whole text none) not_digits) in
            absurd (omega arith)
      ]
    ]

told : (places : ℕ) (text : List ℕ) → 1 ≤ places → 0 < length text → Told places text
told places text some nonempty =
    elim (cases_lt (point_in text) (length text)) [
      | inl inside ↦ told-point places text some inside
      | inr absent ↦ told-whole places text nonempty absent
    ]

-- ---- the faults
reading-none : (places : ℕ) → reading places [] ≡ Err Empty
unfolding reading
reading-none places = refl

-- a decimal has a byte
pub none-goes : (places place : ℕ) → ¬ (GoesOn (IsDecimal places) [] (place + 1))
none-goes places place goes =
    let one = goes-fewer (IsDecimal places) [] 1 (place + 1) (omega arith) goes in
    let first = first-digit places one.other one.valid in
    let front : first.digit ∷ [] ≡ [] = sym (ap (take 1) first.bytes) ∙ one.same in
    cc

pub none-leaves : (places : ℕ) → LeavesAt (IsDecimal places) [] 0
none-leaves places = record {
  before = record { other = 48 ∷ []; valid = zero_decimal places; same = refl };
  not_here = none-goes places 0;
}

abbrev AreTold : ℕ → List ℕ → Type 0
AreTold places text = TellsFaults (IsDecimal places) (IsDecimal (places + 1)) text (λ fault. reading places text ≡ Err fault)

faults-told : (places : ℕ) (text : List ℕ) → text ≢ [] → Told places text → AreTold places text
faults-told places text some (is_read units read) =
    let valid : IsDecimal places text = (units, reading-written places text units read) in
    record {
      empty = (λ e. absurd (cc), λ e. absurd (some e));
      not_a_digit = λ place. (λ e. absurd (cc), λ h. absurd (h.1.not_here (goes-whole (IsDecimal places) text (place + 1) valid)));
      too_many = λ place. (λ e. absurd (cc), λ h. absurd (h.0.not_here (goes-whole (IsDecimal places) text (place + 1) valid)));
    }
faults-told places text some (strays at read leaves longer) = record {
  empty = (λ e. absurd (cc), λ e. absurd (some e));
  not_a_digit = λ place. (
    λ e. (let same : at ≡ place = cc in (some, subst (LeavesAt (IsDecimal places) text) same leaves, subst (LeavesAt (IsDecimal (places + 1)) text) same longer)),
    λ h. read ∙ ap (λ n. Err (NotADigit n)) (leaves-one (IsDecimal places) text at place leaves h.1),
  );
  too_many = λ place. (
    λ e. absurd (cc),
    λ h. (let same = leaves-one (IsDecimal places) text place at h.0 leaves in absurd (longer.not_here (subst (λ n. GoesOn (IsDecimal (places + 1)) text (n + 1)) same h.1))),
  );
}
faults-told places text some (exceeds at read leaves goes) = record {
  empty = (λ e. absurd (cc), λ e. absurd (some e));
  not_a_digit = λ place. (
    λ e. absurd (cc),
    λ h. (let same = leaves-one (IsDecimal places) text at place leaves h.1 in absurd (h.2.not_here (subst (λ n. GoesOn (IsDecimal (places + 1)) text (n + 1)) same goes))),
  );
  too_many = λ place. (
    λ e. (let same : at ≡ place = cc in (subst (LeavesAt (IsDecimal places) text) same leaves, subst (λ n. GoesOn (IsDecimal (places + 1)) text (n + 1)) same goes)),
    λ h. read ∙ ap (λ n. Err (TooManyDecimals n)) (leaves-one (IsDecimal places) text at place leaves h.0),
  );
}

pub decimal_faults : TellsDecimalFaults
decimal_faults places [] some =
    let read = reading-none places in
    record {
      empty = (λ e. refl, λ e. read);
      not_a_digit = λ place. (λ e. absurd (cc), λ h. absurd (h.0 refl));
      too_many = λ place. (λ e. absurd (cc), λ h. absurd (none-goes (places + 1) place h.1));
    }
decimal_faults places (c ∷ text) some = faults-told places (c ∷ text) (λ e. cc) (told places (c ∷ text) some (omega arith))

-- ---- digits alone
stray-digit : (digits : List ℕ) (c : ℕ) (rest : List ℕ) → list_all is_ascii_digit digits ≡ true → is_ascii_digit c ≡ false → LeavesAt (IsNumeral 10) (digits ++ c ∷ rest) (length digits)
stray-digit digits c rest all stray = record {
  before = record {
    other = digits ++ 48 ∷ [];
    valid = numeral-more digits 48 all refl;
    same = take-append_seam digits (48 ∷ []) ∙ sym (take-append_seam digits (c ∷ rest));
  };
  not_here = λ goes.
      let front = goes.same ∙ take-append-add digits (c ∷ rest) 1 in
      let every = sym (ap (list_all is_ascii_digit) front) ∙ front-all is_ascii_digit goes.other (length digits + 1) (all-digits goes.other goes.valid) in
      let both_parts = both (list_all is_ascii_digit digits) (is_ascii_digit c && true) (sym (list_all-append is_ascii_digit digits (c ∷ [])) ∙ every) in
      let last = both (is_ascii_digit c) true both_parts.1 in
      absurd (cc);
}

digits-leave : (text : List ℕ) → 0 < length text → are_digits text ≡ false → LeavesAt (IsNumeral 10) text (digits_end text)
digits-leave text nonempty not_digits =
    elim (cases_lt (digits_end text) (length text)) [
      | inl inside ↦
          let n = digits_end text in
          let leaves = stray-digit (take n text) (get_or text n 0) (drop (suc n) text) (front-digits text n (omega arith)) (stray-at text inside) in
          subst (λ t. LeavesAt (IsNumeral 10) t n) (sym (cut text n inside))
          (subst (LeavesAt (IsNumeral 10) (take n text ++ get_or text n 0 ∷ drop (suc n) text)) (cut-count text n inside) leaves)
      | inr none ↦
          let empty = ap length (none-empty text (digits-whole text none) not_digits) in
          absurd (omega arith)
    ]

digits-read : (c : ℕ) (text : List ℕ) → are_digits (c ∷ text) ≡ true → digits_reading (c ∷ text) ≡ Ok (number (c ∷ text))
digits-read c text digits =
    let some : eqb (length (c ∷ text)) 0 ≡ false = grind (arith, nat_tests) in
    let whole : number (c ∷ text) * 10 ^ 0 ≡ number (c ∷ text) = omega arith in
    rw (some, digits, whole) refl

digits-refused : (c : ℕ) (text : List ℕ) → are_digits (c ∷ text) ≡ false → digits_reading (c ∷ text) ≡ Err (NotADigit (digits_end (c ∷ text)))
digits-refused c text not_digits =
    let some : eqb (length (c ∷ text)) 0 ≡ false = grind (arith, nat_tests) in
    rw (some, not_digits) refl

pub reads_digits : ReadsDigits
reads_digits [] number = (λ e. absurd (cc), λ h. absurd (omega arith))
reads_digits (c ∷ text) n =
    elim (cases_Bool (are_digits (c ∷ text))) [
      | inl digits ↦
          let read = digits-read c text digits in
          (λ e. (let same : number (c ∷ text) ≡ n = cc in (numeral (c ∷ text) digits, sym same)), λ h. read ∙ ap Ok (sym h.1))
      | inr not_digits ↦
          let read = digits-refused c text not_digits in
          (λ e. absurd (cc), λ h. absurd (let digits = numeral_is (c ∷ text) h.0 in cc))
    ]

pub digit_faults : TellsDigitFaults
digit_faults [] = record {
  empty = (λ e. refl, λ e. refl);
  not_a_digit = λ place. (λ e. absurd (cc), λ h. absurd (h.0 refl));
  too_many = λ place. (λ e. absurd (cc), λ h. absurd (h.0.not_here h.1));
}
digit_faults (c ∷ text) =
    elim (cases_Bool (are_digits (c ∷ text))) [
      | inl digits ↦
          let read = digits-read c text digits in
          let valid = numeral (c ∷ text) digits in
          record {
            empty = (λ e. absurd (cc), λ e. absurd (cc));
            not_a_digit = λ place. (λ e. absurd (cc), λ h. absurd (h.1.not_here (goes-whole (IsNumeral 10) (c ∷ text) (place + 1) valid)));
            too_many = λ place. (λ e. absurd (cc), λ h. absurd (h.0.not_here h.1));
          }
      | inr not_digits ↦
          let read = digits-refused c text not_digits in
          let leaves = digits-leave (c ∷ text) (omega arith) not_digits in
          record {
            empty = (λ e. absurd (cc), λ e. absurd (cc));
            not_a_digit = λ place. (
              λ e. (let same : digits_end (c ∷ text) ≡ place = cc in let here = subst (LeavesAt (IsNumeral 10) (c ∷ text)) same leaves in (λ none. cc, here, here)),
              λ h. read ∙ ap (λ n. Err (NotADigit n)) (leaves-one (IsNumeral 10) (c ∷ text) (digits_end (c ∷ text)) place leaves h.1),
            );
            too_many = λ place. (λ e. absurd (cc), λ h. absurd (h.0.not_here h.1));
          }
    ]
