-- A text cut at its first blank.
use Rattle.std.proofs.Common.{◌≡◌, ◌<◌, ◌≤◌, ◌+◌, ◌==◌, ℕ, suc, Bool, true, false, cond, not, nat_le, nat_lt, List, [], ◌∷◌, length, take, drop, position, Some, None, refl, arith, subst}
use Rattle.std.specs.List.{position_or_len}
use Rattle.std.proofs.lemmas.Bool.Decides.{nat_tests}
use Rattle.muni_msg.specs.Calls.{in_front, cut_at_blanks, few_calls}

abbrev first_blank : List ℕ → ℕ
first_blank text = position_or_len (λ b. b == 32) text

-- at its first byte or later
cut_by : (test : Bool) (byte : ℕ) (text : List ℕ) → (first_blank text < length text → cut_at_blanks text ≡ take (first_blank text) text ∷ cut_at_blanks (drop (first_blank text + 1) text))
    → cond (not test) (1 + first_blank text) 0 < suc (length text)
    → cond test ([] ∷ cut_at_blanks text) (in_front byte (cut_at_blanks text))
    ≡ take (cond (not test) (1 + first_blank text) 0) (byte ∷ text) ∷ cut_at_blanks (drop (cond (not test) (1 + first_blank text) 0 + 1) (byte ∷ text))
cut_by true byte text later inside = refl
cut_by false byte text later inside =
    let here : 1 + first_blank text ≡ suc (first_blank text) = omega arith in
    let next : suc (first_blank text) + 1 ≡ suc (first_blank text + 1) = omega arith in
    rw (here, next, later (omega (arith, inside))) refl

cut_inside : (text : List ℕ) → first_blank text < length text → cut_at_blanks text ≡ take (first_blank text) text ∷ cut_at_blanks (drop (first_blank text + 1) text)
unfolding cut_at_blanks
cut_inside [] inside = absurd (omega (arith, inside))
cut_inside (byte ∷ text) inside = cut_by (byte == 32) byte text (cut_inside text) inside

-- or nowhere
uncut_by : (test : Bool) (byte : ℕ) (text : List ℕ) → (length text ≤ first_blank text → cut_at_blanks text ≡ text ∷ [])
    → suc (length text) ≤ cond (not test) (1 + first_blank text) 0
    → cond test ([] ∷ cut_at_blanks text) (in_front byte (cut_at_blanks text)) ≡ (byte ∷ text) ∷ []
uncut_by true byte text later outside = absurd (omega (arith, outside))
uncut_by false byte text later outside = rw (later (omega (arith, outside))) refl

uncut_outside : (text : List ℕ) → length text ≤ first_blank text → cut_at_blanks text ≡ text ∷ []
unfolding cut_at_blanks
uncut_outside [] outside = refl
uncut_outside (byte ∷ text) outside = uncut_by (byte == 32) byte text (uncut_outside text) outside

-- by the place of the first blank
place_by : (test : Bool) (text : List ℕ) (blank : ℕ) → nat_lt (first_blank text) (length text) ≡ test → cond test (Some (first_blank text)) None ≡ Some blank
    → cut_at_blanks text ≡ take blank text ∷ cut_at_blanks (drop (blank + 1) text)
place_by true text blank inside is =
    let same : first_blank text ≡ blank = cc is in
    subst (λ place. cut_at_blanks text ≡ take place text ∷ cut_at_blanks (drop (place + 1) text)) same (cut_inside text (grind (arith, nat_tests, inside)))
place_by false text blank inside is = absurd (cc is)

pub cut_at : (text : List ℕ) (blank : ℕ) → position (λ b. b == 32) text ≡ Some blank → cut_at_blanks text ≡ take blank text ∷ cut_at_blanks (drop (blank + 1) text)
cut_at text blank is = place_by (nat_lt (first_blank text) (length text)) text blank refl is

none_by : (test : Bool) (text : List ℕ) → nat_lt (first_blank text) (length text) ≡ test → cond test (Some (first_blank text)) None ≡ None → cut_at_blanks text ≡ text ∷ []
none_by true text inside is = absurd (cc is)
none_by false text inside is = uncut_outside text (grind (arith, nat_tests, inside))

pub uncut : (text : List ℕ) → position (λ b. b == 32) text ≡ None → cut_at_blanks text ≡ text ∷ []
uncut text is = none_by (nat_lt (first_blank text) (length text)) text refl is

-- a cut text has a piece at least
front_piece : (byte : ℕ) (texts : List (List ℕ)) → 1 ≤ length (in_front byte texts)
front_piece byte [] = omega arith
front_piece byte (text ∷ texts) = omega arith

some_by : (test : Bool) (byte : ℕ) (text : List ℕ) → 1 ≤ length (cond test ([] ∷ cut_at_blanks text) (in_front byte (cut_at_blanks text)))
some_by true byte text = omega arith
some_by false byte text = front_piece byte (cut_at_blanks text)

pub some_piece : (text : List ℕ) → 1 ≤ length (cut_at_blanks text)
unfolding cut_at_blanks
some_piece [] = omega arith
some_piece (byte ∷ text) = some_by (byte == 32) byte text

-- more than forty pieces are no calls
pub many_calls : (texts : List (List ℕ)) → 40 < length texts → few_calls texts ≡ None
many_calls texts many =
    let test : nat_le (length texts) 40 ≡ false = grind (arith, nat_tests) in
    rw test refl
