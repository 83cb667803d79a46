-- A run of digits, read from its front.
use Rattle.std.proofs.Common.{◌≡◌, ℕ, ◌+◌, ◌*◌, ◌<◌, true, false, List, [], ◌∷◌, length, get_or, drop, min, refl, ap, sym, ◌∙◌, arith}
use Rattle.std.proofs.lemmas.List.{at_drop_more}
use Rattle.std.specs.List.{list_all}
use Rattle.std.specs.Char.{is_ascii_digit, digit_value}
use Rattle.std.specs.Str.Parse.{digits_value_after}
use Rattle.muni_dec.specs.Digits.{digits_end}

-- the element at a place, and those after it
rest_at : (text : List ℕ) (i : ℕ) → i < length text → drop i text ≡ get_or text i 0 ∷ drop (i + 1) text
rest_at text i h = at_drop_more (λ ys. ys) text i 0 h

-- a start that is cut at the limit leads to the same number, cut at the limit
min-digits_value_after : (limit n : ℕ) (digits : List ℕ) → min limit (digits_value_after 10 (min limit n) digits) ≡ min limit (digits_value_after 10 n digits)
min-digits_value_after limit n [] = omega arith
min-digits_value_after limit n (d ∷ digits) =
    let e : min limit (min limit n * 10 + digit_value d) ≡ min limit (n * 10 + digit_value d) = omega arith in
    sym (min-digits_value_after limit (min limit n * 10 + digit_value d) digits)
    ∙ ap (λ m. min limit (digits_value_after 10 m digits)) e
    ∙ min-digits_value_after limit (n * 10 + digit_value d) digits

-- one digit more
pub list_all-drop-digit : (text : List ℕ) (i : ℕ) → i < length text → is_ascii_digit (get_or text i 0) ≡ true → list_all is_ascii_digit (drop (i + 1) text) ≡ list_all is_ascii_digit (drop i text)
list_all-drop-digit text i h digit = rw (rest_at text i h, digit) refl

pub digits_end-drop-digit : (text : List ℕ) (i : ℕ) → i < length text → is_ascii_digit (get_or text i 0) ≡ true → i + 1 + digits_end (drop (i + 1) text) ≡ i + digits_end (drop i text)
digits_end-drop-digit text i h digit = rw (rest_at text i h, digit) (omega arith)

pub min-digits_value_after-drop : (limit n : ℕ) (text : List ℕ) (i : ℕ) → i < length text → min limit (digits_value_after 10 (min limit (n * 10 + digit_value (get_or text i 0))) (drop (i + 1) text)) ≡ min limit (digits_value_after 10 n (drop i text))
min-digits_value_after-drop limit n text i h =
    rw (rest_at text i h) (min-digits_value_after limit (n * 10 + digit_value (get_or text i 0)) (drop (i + 1) text))

-- a byte that is no digit
pub list_all-drop-other : (text : List ℕ) (i : ℕ) → i < length text → is_ascii_digit (get_or text i 0) ≡ false → list_all is_ascii_digit (drop i text) ≡ false
list_all-drop-other text i h other = rw (rest_at text i h, other) refl

pub digits_end-drop-other : (text : List ℕ) (i : ℕ) → i < length text → is_ascii_digit (get_or text i 0) ≡ false → digits_end (drop i text) ≡ 0
digits_end-drop-other text i h other = rw (rest_at text i h, other) refl
