-- The reading of whole numbers finds exactly the texts of zeros and the digits of a number.
use Rattle.std.proofs.Common.{◌≡◌, ℕ, zero, suc, ◌^◌, ◌<◌, ◌≤◌, ◌&&◌, Bool, true, false, cond, eqb, leb, List, [], ◌∷◌, ◌++◌, length, replicate, decimal, Some, None, refl, sym, ap, ◌∙◌, subst, arith}
use Rattle.std.proofs.lemmas.Bool.Decides.{nat_tests}
use Rattle.std.proofs.lemmas.Fmt.{decimal_is_IsNumeral, decimal-digits_value}
use Rattle.std.proofs.lemmas.Str.Parse.{IsNumeralModel, numerals_by_value, tells_digits}
use Rattle.std.specs.Str.Parse.{IsNumeral, AllDigits, digits_value}
use Rattle.muni_dec.proofs.GrammarLemmas.{numeral, numeral_is, both}
use Rattle.muni_dec.specs.Digits.{are_digits, number, number_reading}
use Rattle.muni_dec.specs.Numbers.{WritesNumber}

by_value : IsNumeralModel (AllDigits 10) (digits_value 10)
by_value = numerals_by_value (AllDigits 10) tells_digits

-- zeros at the front write nothing
digits_value-zeros : (zeros : ℕ) (text : List ℕ) → digits_value 10 (replicate zeros 48 ++ text) ≡ digits_value 10 text
digits_value-zeros zero text = refl
digits_value-zeros (suc zeros) text = digits_value-zeros zeros text

numeral-zeros : (zeros : ℕ) (text : List ℕ) → IsNumeral 10 text → IsNumeral 10 (replicate zeros 48 ++ text)
numeral-zeros zero text h = h
numeral-zeros (suc zeros) text h =
    let more = numeral-zeros zeros text h in
    (omega arith, (omega arith, more.1))

-- zeros, and the digits of the number that a text writes
abbrev IsBehindZeros : List ℕ → Type 0
IsBehindZeros text = (zeros : ℕ) × (text ≡ replicate zeros 48 ++ decimal (digits_value 10 text))

-- by the first digit, which is a zero or begins the number
by_first : (c : ℕ) (text : List ℕ) (test : Bool) → eqb c 48 ≡ test → AllDigits 10 (c ∷ text) → digits_value 10 (c ∷ text) < 2 ^ 64 → (c ≡ 48 → IsBehindZeros text) → IsBehindZeros (c ∷ text)
by_first c text true is digits small rest =
    let first : c ≡ 48 = grind (arith, nat_tests) in
    let more = rest first in
    let P : ℕ → Type 0 = λ x. x ∷ text ≡ replicate (suc more.0) 48 ++ decimal (digits_value 10 (x ∷ text)) in
    (suc more.0, subst P (sym first) (ap (λ t. 48 ∷ t) more.1))
by_first c text false is digits small rest =
    (0, sym (decimal-digits_value by_value (c ∷ text) digits (omega arith) (λ e. absurd (let t : eqb c 48 ≡ true = grind (arith, nat_tests) in cc)) small))

behind_zeros : (c : ℕ) (text : List ℕ) → AllDigits 10 (c ∷ text) → digits_value 10 (c ∷ text) < 2 ^ 64 → IsBehindZeros (c ∷ text)
behind_zeros c [] digits small = (0, sym (decimal-digits_value by_value (c ∷ []) digits (omega arith) (λ e. refl) small))
behind_zeros c (d ∷ text) digits small =
    by_first c (d ∷ text) (eqb c 48) refl digits small
    (λ e. (let Small : ℕ → Type 0 = λ x. digits_value 10 (x ∷ d ∷ text) < 2 ^ 64 in behind_zeros d text digits.1 (subst Small e small)))

numeral-behind_zeros : (text : List ℕ) → IsNumeral 10 text → digits_value 10 text < 2 ^ 64 → IsBehindZeros text
numeral-behind_zeros [] h small = absurd (omega arith)
numeral-behind_zeros (c ∷ text) h small = behind_zeros c text h.1 small

-- what was read says that the test passed
found : {A : Type 0} (test : Bool) (x y : A) → cond test (Some x) None ≡ Some y → (test ≡ true) × (x ≡ y)
found true x y h = (refl, cc)
found false x y h = absurd (cc)

pub reading-number : (most least greatest : ℕ) → greatest < 2 ^ 64 → (text : List ℕ) (n : ℕ) → number_reading most least greatest text ≡ Some n → WritesNumber most text n × ((least ≤ n) × (n ≤ greatest))
reading-number most least greatest small text n h =
    let range = leb least (number text) && leb (number text) greatest in
    let read = found (leb (length text) most && (are_digits text && range)) (number text) n h in
    let few = both (leb (length text) most) (are_digits text && range) read.0 in
    let digits = both (are_digits text) range few.1 in
    let in_range = both (leb least (number text)) (leb (number text) greatest) digits.1 in
    let up_to : number text ≤ greatest = grind (arith, nat_tests) in
    let zeros = numeral-behind_zeros text (numeral text digits.0) (omega arith) in
    let Is : ℕ → Type 0 = λ it. text ≡ replicate zeros.0 48 ++ decimal it in (
      record { zeros = zeros.0; bytes = subst Is read.1 zeros.1; few = grind (arith, nat_tests) },
      (let same = read.1 in (grind (arith, nat_tests), grind (arith, nat_tests))),
    )

pub number-reading : (most least greatest : ℕ) → greatest < 2 ^ 64 → (text : List ℕ) (n : ℕ) → WritesNumber most text n × ((least ≤ n) × (n ≤ greatest)) → number_reading most least greatest text ≡ Some n
number-reading most least greatest small text n h =
    let written = h.0 in
    let from = h.1.0 in
    let up_to = h.1.1 in
    let own = decimal_is_IsNumeral n (omega arith) in
    let Numeral : List ℕ → Type 0 = λ t. IsNumeral 10 t in
    let Value : List ℕ → Type 0 = λ t. digits_value 10 t ≡ n in
    let value : number text ≡ n = subst Value (sym written.bytes) (digits_value-zeros written.zeros (decimal n) ∙ own.1) in
    let digits : are_digits text ≡ true = numeral_is text (subst Numeral (sym written.bytes) (numeral-zeros written.zeros (decimal n) own.0)) in
    let few = written.few in
    let few_test : leb (length text) most ≡ true = grind (arith, nat_tests) in
    let from_test : leb least n ≡ true = grind (arith, nat_tests) in
    let up_to_test : leb n greatest ≡ true = grind (arith, nat_tests) in
    rw (few_test, digits, value, from_test, up_to_test) refl
