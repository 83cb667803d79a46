-- The reading of decimals finds exactly the format's texts, and the numbers that they write.
use Rattle.std.proofs.Common.{◌≡◌, ℕ, ◌+◌, ◌*◌, ◌^◌, ◌<◌, ◌≤◌, Bool, true, false, cond, ltb, eqb, ◌&&◌, List, [], ◌∷◌, ◌++◌, length, take, drop, Option, Some, None, Result, Ok, Err, get_or, ℤ, pos, neg_ℤ, refl, ap, sym, ◌∙◌, subst, append_assoc, append-nil, length-append, arith, inl, inr}
use Rattle.std.proofs.lemmas.Bool.Decides.{nat_tests}
use Rattle.std.proofs.lemmas.Bool.{cases_lt}
use Rattle.std.proofs.lemmas.List.{take_at, drop_at}
use Rattle.std.proofs.lemmas.List.Sums.{split_at_first, passes_at_first}
use Rattle.std.specs.List.{list_all, position_or_len}
use Rattle.std.specs.Char.{is_ascii_digit, digit_value}
use Rattle.std.specs.Str.Parse.{IsNumeral, AllDigits, digits_value}
use Rattle.muni_dec.specs.declared.fault.DecFault.{DecFault}
use Rattle.muni_dec.specs.declared.fault.DecFault.TheVariants.{Empty, NotADigit, TooManyDecimals, OutOfRange}
use Rattle.muni_dec.specs.Digits.{are_digits, digits_end, number}
use Rattle.muni_dec.specs.Decimal.{reading, reading_at, fraction_reading, units_of, signed_reading, behind_sign, without_sign}
use Rattle.muni_dec.specs.Grammar.{Magnitude, IsMagnitude, IsFraction, fraction_bytes, fraction_units, magnitude_bytes, magnitude_units, WritesDecimal, WritesSigned}

pub both : (a b : Bool) → a && b ≡ true → (a ≡ true) × (b ≡ true)
both true b h = (refl, h)
both false b h = absurd (cc)

-- what was read says which case it was
pub chosen : {A E : Type 0} (test : Bool) (r : Result A E) (fault : E) (x : A) → cond test r (Err fault) ≡ Ok x → (test ≡ true) × (r ≡ Ok x)
chosen true r fault x h = (refl, h)
chosen false r fault x h = absurd (cc)

pub passed : {A E : Type 0} (test : Bool) (r : Result A E) (fault : E) (x : A) → cond test (Err fault) r ≡ Ok x → (test ≡ false) × (r ≡ Ok x)
passed true r fault x h = absurd (cc)
passed false r fault x h = (refl, h)

-- digits as the two sides of the law name them
digit_is : (c : ℕ) → is_ascii_digit c ≡ true → digit_value c < 10
digit_is c h = grind (arith, nat_tests)

pub is_digit : (c : ℕ) → digit_value c < 10 → is_ascii_digit c ≡ true
is_digit c h = grind (arith, nat_tests)

pub all_digits : (text : List ℕ) → list_all is_ascii_digit text ≡ true → AllDigits 10 text
all_digits [] h = tt
all_digits (c ∷ text) h = let p = both _ _ h in (digit_is c p.0, all_digits text p.1)

pub digits_all : (text : List ℕ) → AllDigits 10 text → list_all is_ascii_digit text ≡ true
digits_all [] h = refl
digits_all (c ∷ text) h = rw (is_digit c h.0, digits_all text h.1) refl

pub numeral : (text : List ℕ) → are_digits text ≡ true → IsNumeral 10 text
numeral text h =
    let p = both (ltb 0 (length text)) (list_all is_ascii_digit text) h in
    (grind (arith, nat_tests), all_digits text p.1)

pub numeral_is : (text : List ℕ) → IsNumeral 10 text → are_digits text ≡ true
numeral_is text h =
    let some : ltb 0 (length text) ≡ true = grind (arith, nat_tests) in
    rw (some, digits_all text h.1) refl

-- digits reach to their end
pub digits_end-all : (text : List ℕ) → list_all is_ascii_digit text ≡ true → digits_end text ≡ length text
digits_end-all [] h = refl
digits_end-all (c ∷ text) h =
    let p = both (is_ascii_digit c) (list_all is_ascii_digit text) h in
    let rest = digits_end-all text p.1 in
    rw p.0 (omega arith)

-- a point is no digit
pub digit_no_point : (c : ℕ) → is_ascii_digit c ≡ true → eqb c 46 ≡ false
digit_no_point c h = grind (arith, nat_tests)

-- the place of the first point in a text, or the length
abbrev pub point_in : List ℕ → ℕ
point_in text = position_or_len (λ b. eqb b 46) text

-- digits have no point
pub point_in-digits : (digits rest : List ℕ) → list_all is_ascii_digit digits ≡ true → point_in (digits ++ rest) ≡ length digits + point_in rest
point_in-digits [] rest h = omega arith
point_in-digits (c ∷ digits) rest h =
    let p = both (is_ascii_digit c) (list_all is_ascii_digit digits) h in
    let more = point_in-digits digits rest p.1 in
    rw (digit_no_point c p.0) (omega arith)

-- the two ways to read a text that is not empty
pub reading-with_point : (places : ℕ) (text : List ℕ) → point_in text < length text → reading places text ≡ reading_at places text (Some (point_in text))
unfolding reading
reading-with_point places text h =
    let some : eqb (length text) 0 ≡ false = grind (arith, nat_tests) in
    let found : ltb (point_in text) (length text) ≡ true = grind (arith, nat_tests) in
    rw (some, found) refl

pub reading-without_point : (places : ℕ) (text : List ℕ) → 0 < length text → length text ≤ point_in text → reading places text ≡ reading_at places text None
unfolding reading
reading-without_point places text s h =
    let some : eqb (length text) 0 ≡ false = grind (arith, nat_tests) in
    let absent : ltb (point_in text) (length text) ≡ false = grind (arith, nat_tests) in
    rw (some, absent) refl

reading-empty : (places : ℕ) (text : List ℕ) (units : ℕ) → reading places text ≡ Ok units → 0 < length text
unfolding reading
reading-empty places [] units h = absurd (cc)
reading-empty places (c ∷ text) units h = omega arith

-- a text round its first point
pub around_point : (text : List ℕ) → point_in text < length text → text ≡ take (point_in text) text ++ 46 ∷ drop (point_in text + 1) text
around_point text h =
    let test = passes_at_first (λ b. eqb b 46) text 0 h in
    let point : get_or text (point_in text) 0 ≡ 46 = grind (arith, nat_tests) in
    let P : ℕ → Type 0 = λ c. text ≡ take (point_in text) text ++ c ∷ drop (point_in text + 1) text in
    subst P point (split_at_first (λ b. eqb b 46) text 0 h)

-- what is read after a point
pub fraction_read : (places : ℕ) (whole fraction : List ℕ) (at units : ℕ) → fraction_reading places whole fraction at ≡ Ok units → IsNumeral 10 fraction × (length fraction ≤ places) × (units ≡ units_of places whole fraction)
fraction_read places whole fraction at units h =
    let few = passed (ltb places (digits_end fraction)) _ _ _ h in
    let digits = chosen (are_digits fraction) _ _ _ few.1 in
    let end : digits_end fraction ≡ length fraction = digits_end-all fraction (both (ltb 0 (length fraction)) _ digits.0).1 in
    (numeral fraction digits.0, grind (arith, nat_tests), cc (digits.1))

written_with_point : (places : ℕ) (text : List ℕ) (units : ℕ) → point_in text < length text → reading places text ≡ Ok units → WritesDecimal places text units
written_with_point places text units in_text h =
    let whole = chosen (are_digits (take (point_in text) text)) _ _ _ (sym (reading-with_point places text in_text) ∙ h) in
    let fraction = fraction_read places (take (point_in text) text) _ _ units whole.1 in
    record {
      magnitude = record { whole = take (point_in text) text; fraction = Some (drop (point_in text + 1) text) };
      valid = record { whole = numeral _ whole.0; fraction = (fraction.0, fraction.1) };
      bytes = around_point text in_text;
      value = fraction.2;
    }

written_without_point : (places : ℕ) (text : List ℕ) (units : ℕ) → length text ≤ point_in text → reading places text ≡ Ok units → WritesDecimal places text units
written_without_point places text units absent h =
    let whole = chosen (are_digits text) _ _ _ (sym (reading-without_point places text (reading-empty places text units h) absent) ∙ h) in
    record {
      magnitude = record { whole = text; fraction = None };
      valid = record { whole = numeral text whole.0; fraction = tt };
      bytes = sym (append-nil text);
      value = let e : number text * 10 ^ places ≡ units = cc (whole.1) in omega arith;
    }

-- what is read is a decimal, and writes what was read
pub reading-written : (places : ℕ) (text : List ℕ) (units : ℕ) → reading places text ≡ Ok units → WritesDecimal places text units
reading-written places text units h =
    elim (cases_lt (point_in text) (length text)) [
      | inl found ↦ written_with_point places text units found h
      | inr absent ↦ written_without_point places text units absent h
    ]

-- the text after a whole part and a point
pub drop-behind_point : (whole fraction : List ℕ) → drop (length whole + 1) (whole ++ 46 ∷ fraction) ≡ fraction
drop-behind_point whole fraction =
    let n : length (whole ++ 46 ∷ []) ≡ length whole + 1 = simp length-append (omega arith) in
    ap (drop (length whole + 1)) (sym (append_assoc whole (46 ∷ []) fraction)) ∙ drop_at (whole ++ 46 ∷ []) fraction (length whole + 1) n

-- a valid decimal, by its parts
reading-parts : (places : ℕ) (whole : List ℕ) (fraction : Option (List ℕ)) → IsNumeral 10 whole → IsFraction places fraction → reading places (whole ++ fraction_bytes fraction) ≡ Ok (digits_value 10 whole * 10 ^ places + fraction_units places fraction)
reading-parts places whole None w f =
    let digits = numeral_is whole w in
    let all = (both (ltb 0 (length whole)) _ digits).1 in
    let end = point_in-digits whole [] all in
    let same : whole ++ [] ≡ whole = append-nil whole in
    let P : List ℕ → Type 0 = λ t. reading places t ≡ Ok (digits_value 10 whole * 10 ^ places + 0) in
    let absent : length whole ≤ point_in whole = let e = ap point_in (sym same) in omega arith in
    subst P (sym same) (reading-without_point places whole w.0 absent ∙ rw digits (ap Ok (omega arith)))
reading-parts places whole (Some fraction) w f =
    let whole_digits = numeral_is whole w in
    let fraction_digits = numeral_is fraction f.0 in
    let place : point_in (whole ++ 46 ∷ fraction) ≡ length whole = point_in-digits whole (46 ∷ fraction) (both (ltb 0 (length whole)) _ whole_digits).1 ∙ omega arith in
    let len : length (whole ++ 46 ∷ fraction) ≡ length whole + (length fraction + 1) = simp length-append (omega arith) in
    let front : take (length whole) (whole ++ 46 ∷ fraction) ≡ whole = take_at whole (46 ∷ fraction) (length whole) refl in
    let rest = drop-behind_point whole fraction in
    let end = digits_end-all fraction (both (ltb 0 (length fraction)) _ fraction_digits).1 in
    let few : ltb places (digits_end fraction) ≡ false = grind (arith, nat_tests) in
    reading-with_point places (whole ++ 46 ∷ fraction) (omega arith) ∙ rw (place, front, rest, whole_digits, few, fraction_digits) refl

reading-magnitude : (places : ℕ) (m : Magnitude) → IsMagnitude places m → reading places (magnitude_bytes m) ≡ Ok (magnitude_units places m)
reading-magnitude places m valid = reading-parts places m.whole m.fraction valid.whole valid.fraction

-- a decimal's text is read as what it writes
pub written-reading : (places : ℕ) (text : List ℕ) (units : ℕ) → WritesDecimal places text units → reading places text ≡ Ok units
written-reading places text units w =
    let P : List ℕ → Type 0 = λ t. reading places t ≡ Ok units in
    subst P (sym w.bytes) (reading-magnitude places w.magnitude w.valid ∙ ap Ok (sym w.value))

-- the sign
behind_sign-ok : (r : Result ℕ DecFault) (units : ℤ) → behind_sign r ≡ Ok units → (n : ℕ) × (r ≡ Ok n) × (units ≡ neg_ℤ (pos n))
behind_sign-ok (Ok n) units h = (n, refl, cc)
behind_sign-ok (Err Empty) units h = absurd (cc)
behind_sign-ok (Err (NotADigit at)) units h = absurd (cc)
behind_sign-ok (Err (TooManyDecimals at)) units h = absurd (cc)
behind_sign-ok (Err OutOfRange) units h = absurd (cc)

without_sign-ok : (r : Result ℕ DecFault) (units : ℤ) → without_sign r ≡ Ok units → (n : ℕ) × (r ≡ Ok n) × (units ≡ pos n)
without_sign-ok (Ok n) units h = (n, refl, cc)
without_sign-ok (Err fault) units h = absurd (cc)

unsigned-written : (places : ℕ) (text : List ℕ) (units : ℤ) → without_sign (reading places text) ≡ Ok units → WritesSigned places text units
unsigned-written places text units h =
    let r = without_sign-ok _ _ h in
    let w = reading-written places text r.0 r.1 in
    record { negative = false; magnitude = w.magnitude; valid = w.valid; bytes = w.bytes; value = r.2 ∙ ap pos w.value }

negative-written : (places : ℕ) (text : List ℕ) (units : ℤ) → behind_sign (reading places text) ≡ Ok units → WritesSigned places (45 ∷ text) units
negative-written places text units h =
    let r = behind_sign-ok _ _ h in
    let w = reading-written places text r.0 r.1 in
    record { negative = true; magnitude = w.magnitude; valid = w.valid; bytes = ap (λ t. 45 ∷ t) w.bytes; value = r.2 ∙ ap (λ n. neg_ℤ (pos n)) w.value }

-- a text that begins with a minus sign, and one that does not
pub signed_reading-minus : (places c : ℕ) (text : List ℕ) → c ≡ 45 → signed_reading places (c ∷ text) ≡ behind_sign (reading places text)
unfolding signed_reading
signed_reading-minus places c text minus = rw minus refl

pub signed_reading-other : (places c : ℕ) (text : List ℕ) → eqb c 45 ≡ false → signed_reading places (c ∷ text) ≡ without_sign (reading places (c ∷ text))
unfolding signed_reading
signed_reading-other places c text other = rw other refl

signed_reading-by_first : (places c : ℕ) (text : List ℕ) (units : ℤ) (minus : Bool) → eqb c 45 ≡ minus → signed_reading places (c ∷ text) ≡ Ok units → WritesSigned places (c ∷ text) units
signed_reading-by_first places c text units true minus h =
    let sign : c ≡ 45 = grind (arith, nat_tests) in
    let P : ℕ → Type 0 = λ d. WritesSigned places (d ∷ text) units in
    subst P (sym sign) (negative-written places text units (sym (signed_reading-minus places c text sign) ∙ h))
signed_reading-by_first places c text units false other h =
    unsigned-written places (c ∷ text) units (sym (signed_reading-other places c text other) ∙ h)

-- what is read with a sign or without writes what was read
pub signed_reading-written : (places : ℕ) (text : List ℕ) (units : ℤ) → signed_reading places text ≡ Ok units → WritesSigned places text units
unfolding signed_reading
signed_reading-written places [] units h = unsigned-written places [] units h
signed_reading-written places (c ∷ text) units h = signed_reading-by_first places c text units (eqb c 45) refl h

-- a decimal begins with a digit, and not with a sign
signed_reading-magnitude : (places : ℕ) (whole : List ℕ) (fraction : Option (List ℕ)) → IsNumeral 10 whole → signed_reading places (whole ++ fraction_bytes fraction) ≡ without_sign (reading places (whole ++ fraction_bytes fraction))
signed_reading-magnitude places [] fraction w = absurd (omega arith)
signed_reading-magnitude places (c ∷ whole) fraction w =
    let digit = is_digit c w.1.0 in
    let other : eqb c 45 ≡ false = grind (arith, nat_tests) in
    signed_reading-other places c (whole ++ fraction_bytes fraction) other

written-signed : (places : ℕ) (negative : Bool) (m : Magnitude) → IsMagnitude places m → signed_reading places (cond negative (45 ∷ magnitude_bytes m) (magnitude_bytes m)) ≡ Ok (cond negative (neg_ℤ (pos (magnitude_units places m))) (pos (magnitude_units places m)))
written-signed places true m valid = signed_reading-minus places 45 (magnitude_bytes m) refl ∙ rw (reading-magnitude places m valid) refl
written-signed places false m valid = signed_reading-magnitude places m.whole m.fraction valid.whole ∙ rw (reading-magnitude places m valid) refl

-- a decimal's text with its sign is read as what it writes
pub written-signed_reading : (places : ℕ) (text : List ℕ) (units : ℤ) → WritesSigned places text units → signed_reading places text ≡ Ok units
written-signed_reading places text units w =
    let P : List ℕ → Type 0 = λ t. signed_reading places t ≡ Ok units in
    subst P (sym w.bytes) (written-signed places w.negative w.magnitude w.valid ∙ ap Ok (sym w.value))
