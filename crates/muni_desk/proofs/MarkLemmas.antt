-- A price with the mark after it.
use Rattle.std.proofs.Common.{◌≡◌, ◌==◌, ℕ, ◌-◌, ◌<◌, Bool, true, false, List, [], ◌∷◌, ◌++◌, length, take, Option, Some, None, refl, sym, ap, subst, ◌∙◌, arith, Ok, Err, length-append}
use Rattle.std.specs.Prelude.{nat_lt, Result}
use Rattle.std.specs.Char.{is_ascii_digit}
use Rattle.std.specs.List.{last_or, list_all}
use Rattle.std.specs.Option.{option_map}
use Rattle.std.specs.Result.{result_ok}
use Rattle.std.proofs.Math.Seq.{take-append_seam}
use Rattle.std.specs.Str.Parse.{IsNumeral}
use Rattle.std.proofs.lemmas.Bool.{and_parts, ltb-true}
use Rattle.std.proofs.lemmas.Bool.Decides.{nat_tests, Decides-eqb}
use Rattle.std.proofs.lemmas.List.{append-nil}
use Rattle.std.proofs.lemmas.Option.{same_Some}
use Rattle.muni_dec.specs.Decimal.{reading}
use Rattle.muni_dec.specs.Grammar.{IsFraction, fraction_bytes}
use Rattle.muni_dec.specs.Values.{price_reading, amount_reading, amount_in}
use Rattle.muni_dec.specs.declared.fault.DecFault.{DecFault}
use Rattle.muni_dec.proofs.GrammarLemmas.{numeral_is, reading-written}
use Rattle.muni_rule.specs.declared.call_term.CallTerm.{CallTerm}
use Rattle.muni_rule.specs.declared.call_term.CallTerm.TheVariants.{OnDay, OnOrAfter, Called}
use Rattle.muni_msg.specs.Fields.{split_by, split_mark, call_price_reading}
use Rattle.muni_desk.specs.WordLaws.{mark}

last-pushed : (before : Option ℕ) (text : List ℕ) (byte : ℕ) → last_or before (text ++ byte ∷ []) ≡ Some byte
last-pushed before [] byte = refl
last-pushed before (first ∷ text) byte = last-pushed (Some first) text byte

taken : (text : List ℕ) (byte : ℕ) → take (length (text ++ byte ∷ []) - 1) (text ++ byte ∷ []) ≡ text
taken text byte =
    let long : length (text ++ byte ∷ []) - 1 ≡ length text = omega (arith, length-append text (byte ∷ [])) in
    ap (λ n. take n (text ++ byte ∷ [])) long ∙ take-append_seam text (byte ∷ [])

-- ---- the last byte of a price is a digit
record EndsInDigit (text : List ℕ) : Type 0 where
  byte : ℕ
  is_last : last_or None text ≡ Some byte
  is_digit : is_ascii_digit byte ≡ true

last-digit : (before : Option ℕ) (first : ℕ) (text : List ℕ) → list_all is_ascii_digit (first ∷ text) ≡ true → (byte : ℕ) × (last_or before (first ∷ text) ≡ Some byte) × (is_ascii_digit byte ≡ true)
last-digit before first [] all = (first, refl, (and_parts (is_ascii_digit first) true all).0)
last-digit before first (next ∷ text) all = last-digit (Some first) next text (and_parts (is_ascii_digit first) (list_all is_ascii_digit (next ∷ text)) all).1

last-behind : (before other : Option ℕ) (text : List ℕ) (first : ℕ) (rest : List ℕ) → last_or before (text ++ first ∷ rest) ≡ last_or other (first ∷ rest)
last-behind before other [] first rest = refl
last-behind before other (byte ∷ text) first rest = last-behind (Some byte) other text first rest

digits-end : (digits : List ℕ) → (0 < length digits) → list_all is_ascii_digit digits ≡ true → EndsInDigit digits
digits-end [] some all = absurd (omega arith)
digits-end (first ∷ digits) some all =
    let last = last-digit None first digits all in
    record { byte = last.0; is_last = last.1; is_digit = last.2 }

behind-end : (text digits : List ℕ) → EndsInDigit digits → EndsInDigit (text ++ digits)
behind-end text [] ends = absurd (let never : None ≡ Some ends.byte = ends.is_last in cc)
behind-end text (first ∷ digits) ends = record { byte = ends.byte; is_last = last-behind None None text first digits ∙ ends.is_last; is_digit = ends.is_digit }

numeral-end : (digits : List ℕ) → IsNumeral 10 digits → EndsInDigit digits
numeral-end digits is =
    let parts = and_parts (nat_lt 0 (length digits)) (list_all is_ascii_digit digits) (numeral_is digits is) in
    digits-end digits (ltb-true 0 (length digits) parts.0) parts.1

magnitude-end : (places : ℕ) (whole : List ℕ) (fraction : Option (List ℕ)) → IsNumeral 10 whole → IsFraction places fraction → EndsInDigit (whole ++ fraction_bytes fraction)
magnitude-end places whole None is valid = subst EndsInDigit (sym (append-nil whole)) (numeral-end whole is)
magnitude-end places whole (Some digits) is valid = behind-end whole (46 ∷ digits) (behind-end (46 ∷ []) digits (numeral-end digits valid.0))

amount-read : (least greatest units : ℕ) (r : Result ℕ DecFault) → amount_in least greatest r ≡ Ok units → (found : ℕ) × (r ≡ Ok found)
amount-read least greatest units (Ok found) is = (found, refl)
amount-read least greatest units (Err fault) is = absurd (cc)

price-end : (text : List ℕ) (units : ℕ) → price_reading text ≡ Ok units → EndsInDigit text
unfolding price_reading amount_reading
price-end text units is =
    let found = amount-read 0 999_999_999 units (reading 6 text) is in
    let written = reading-written 6 text found.0 found.1 in
    subst EndsInDigit (sym written.bytes) (magnitude-end 6 written.magnitude.whole written.magnitude.fraction written.valid.whole written.valid.fraction)

-- ---- a price with its mark, both ways
digit-no_mark : (byte : ℕ) → is_ascii_digit byte ≡ true → ((byte == 43) ≡ false) × ((byte == 33) ≡ false)
digit-no_mark byte is = (grind (arith, nat_tests, is), grind (arith, nat_tests, is))

split-plain : (text : List ℕ) → EndsInDigit text → split_mark text ≡ (text, OnDay)
split-plain text ends =
    let none = digit-no_mark ends.byte ends.is_digit in
    ap (λ last. split_by last text) ends.is_last ∙ rw (none.0, none.1) refl

split-marked : (text : List ℕ) (byte : ℕ) → split_mark (text ++ byte ∷ []) ≡ split_by (Some byte) (text ++ byte ∷ [])
split-marked text byte = ap (λ last. split_by last (text ++ byte ∷ [])) (last-pushed None text byte)

split-said : (price : List ℕ) (term : CallTerm) → EndsInDigit price → split_mark (price ++ mark term) ≡ (price, term)
split-said price OnDay ends = ap split_mark (append-nil price) ∙ split-plain price ends
split-said price OnOrAfter ends = split-marked price 43 ∙ (λ i. (taken price 43 i, OnOrAfter))
split-said price Called ends = split-marked price 33 ∙ (λ i. (taken price 33 i, Called))

pub marked-read : (price : List ℕ) (term : CallTerm) (units : ℕ) → price_reading price ≡ Ok units → call_price_reading (price ++ mark term) ≡ Some (units, term)
marked-read price term units is =
    ap (λ (split : List ℕ × CallTerm). option_map (λ found. (found, split.1)) (result_ok (price_reading split.0))) (split-said price term (price-end price units is))
    ∙ ap (λ r. option_map (λ found. (found, term)) (result_ok r)) is

last-joined : (before : Option ℕ) (first : ℕ) (text : List ℕ) (byte : ℕ) → last_or before (first ∷ text) ≡ Some byte → (rest : List ℕ) × (first ∷ text ≡ rest ++ byte ∷ [])
last-joined before first [] byte is = ([], (let same : first ≡ byte = same_Some first byte is in λ i. same i ∷ []))
last-joined before first (next ∷ text) byte is =
    let found = last-joined (Some first) next text byte is in
    (first ∷ found.0, ap (λ l. first ∷ l) found.1)

-- what is split off a text and its mark are the text
abbrev pub Splits : List ℕ → List ℕ × CallTerm → Type 0
Splits text split = text ≡ split.0 ++ mark split.1

split-by : (text : List ℕ) (byte : ℕ) (plus called : Bool) → (byte == 43) ≡ plus → (byte == 33) ≡ called → (rest : List ℕ) → text ≡ rest ++ byte ∷ [] → Splits text (split_by (Some byte) text)
split-by text byte true called is_plus is_called rest joined =
    let own : take (length text - 1) text ≡ rest = ap (λ (l : List ℕ). take (length l - 1) l) joined ∙ taken rest byte in
    let same : byte ≡ 43 = (Decides-eqb byte 43).0 is_plus in
    rw is_plus (joined ∙ (λ i. sym own i ++ same i ∷ []))
split-by text byte false true is_plus is_called rest joined =
    let own : take (length text - 1) text ≡ rest = ap (λ (l : List ℕ). take (length l - 1) l) joined ∙ taken rest byte in
    let same : byte ≡ 33 = (Decides-eqb byte 33).0 is_called in
    rw (is_plus, is_called) (joined ∙ (λ i. sym own i ++ same i ∷ []))
split-by text byte false false is_plus is_called rest joined = rw (is_plus, is_called) (sym (append-nil text))

splits-last : (first : ℕ) (text : List ℕ) (last : Option ℕ) → last_or None (first ∷ text) ≡ last → Splits (first ∷ text) (split_by last (first ∷ text))
splits-last first text None is = sym (append-nil (first ∷ text))
splits-last first text (Some byte) is =
    let found = last-joined None first text byte is in
    split-by (first ∷ text) byte (byte == 43) (byte == 33) refl refl found.0 found.1

pub splits : (text : List ℕ) → Splits text (split_mark text)
splits [] = refl
splits (first ∷ text) = splits-last first text (last_or None (first ∷ text)) refl
