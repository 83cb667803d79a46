-- Bytes hold no request before its last line has ended.
use Rattle.std.proofs.Common.{◌≡◌, ◌≤◌, ◌<◌, ◌+◌, ◌-◌, ◌==◌, ◌&&◌, ◌||◌, not, ℕ, List, [], ◌∷◌, ◌++◌, Bool, true, false, length, take, drop, refl, sym, ap, arith, inl, inr, ◌∙◌}
use Rattle.std.specs.Prelude.{IsTrue}
use Rattle.std.specs.List.{list_any, flat_map}
use Rattle.std.proofs.lemmas.Bool.{cases_lt}
use Rattle.std.proofs.lemmas.List.{append_assoc, drop-append-le, length-append, take-append-drop, take_rest}
use Rattle.std.proofs.lemmas.List.Elements.{All-head}
use Rattle.std.proofs.lemmas.List.Folds.{list_any-append}
use Rattle.httparse.specs.Grammar.{is_token_byte, AllPass, LineEnd, crlf, lf, print_end, print_blank, print_field, print_version, print_section, print_request, RequestHead, IsRequestHead, ReadsRequest, HasNoRequest}
use Rattle.httparse.proofs.GrammarLemmas.{print_request-append}
use Rattle.httparse.proofs.PieceLemmas.{token_is_no_newline}
use Rattle.muni_wire.specs.Taken.{has_text}
use Rattle.muni_wire.proofs.CutLemmas.{cut}

-- ---- a head ends with the end of a line

last-byte : (front fields : List ℕ) (last : LineEnd) → (all : List ℕ) × (front ++ (fields ++ print_end last) ≡ all ++ 10 ∷ [])
last-byte front fields lf = (front ++ fields, sym (append_assoc front fields (10 ∷ [])))
last-byte front fields crlf =
    ((front ++ fields) ++ 13 ∷ [], sym (append_assoc (front ++ fields) (13 ∷ []) (10 ∷ []) ∙ append_assoc front fields (13 ∷ 10 ∷ [])))

head-ends : (h : RequestHead) → (all : List ℕ) × (print_request h ≡ all ++ 10 ∷ [])
unfolding print_request
head-ends h =
    last-byte (print_blank h.blank ++ h.method ++ 32 ∷ h.target ++ 32 ∷ print_version h.minor ++ print_end h.line_end) (flat_map print_field h.fields) h.last

or-true : (a : Bool) → (a || true) ≡ true
or-true true = refl
or-true false = refl

-- the end of a line after a place is found there
end-behind : (front rest : List ℕ) (place : ℕ) → place ≤ length front → list_any (λ b. b == 10) (drop place (front ++ 10 ∷ rest)) ≡ true
end-behind front rest place inside =
    ap (list_any (λ b. b == 10)) (drop-append-le place front (10 ∷ rest) inside)
    ∙ list_any-append (λ b. b == 10) (drop place front) (10 ∷ rest)
    ∙ or-true (list_any (λ b. b == 10) (drop place front))

-- a head that ends before a place is before it
ends-before : (bytes : List ℕ) (place : ℕ) (h : RequestHead) (rest : List ℕ) → HasNoRequest (take place bytes) → ReadsRequest bytes h rest → length (print_request h) ≤ place → ⊥
ends-before bytes place h rest none reads before =
    none h (take (place - length (print_request h)) rest)
    (reads.0, ap (take place) reads.1 ∙ cut place (print_request h) rest before)

true-is-not-false : true ≡ false → ⊥
true-is-not-false e = cc e

no-line-behind : (bytes : List ℕ) (place : ℕ) → HasNoRequest (take place bytes) → list_any (λ b. b == 10) (drop place bytes) ≡ false → HasNoRequest bytes
no-line-behind bytes place none no_line h rest reads =
    let last = head-ends h in
    let size : length (print_request h) ≡ length last.0 + 1 = ap length last.1 ∙ length-append last.0 (10 ∷ []) in
    let all : bytes ≡ last.0 ++ 10 ∷ rest = reads.1 ∙ ap (λ l. l ++ rest) last.1 ∙ append_assoc last.0 (10 ∷ []) rest in
    elim (cases_lt (length last.0) place) [
      | inl before ↦ ends-before bytes place h rest none reads (omega (arith, size, before))
      | inr behind ↦ true-is-not-false (sym (end-behind last.0 rest place behind) ∙ sym (ap (λ l. list_any (λ b. b == 10) (drop place l)) all) ∙ no_line)
    ]

-- ---- a head has text

method-text : (method behind : List ℕ) → 0 < length method → AllPass is_token_byte method → has_text (method ++ behind) ≡ true
method-text [] behind some letters = absurd (omega (arith, some))
method-text (b ∷ others) behind some letters =
    let letter : is_token_byte b ≡ true = All-head (λ b. IsTrue (is_token_byte b)) b others letters in
    ap (λ v. not v || has_text (others ++ behind)) (token_is_no_newline b letter)

head-text : (h : RequestHead) (rest : List ℕ) → IsRequestHead h → has_text (print_request h ++ rest) ≡ true
head-text h rest is =
    let behind = 32 ∷ (h.target ++ 32 ∷ (print_version h.minor ++ (print_end h.line_end ++ (print_section h.fields h.last ++ rest)))) in
    ap has_text (print_request-append h rest)
    ∙ list_any-append (λ b. not (b == 13 || b == 10)) (print_blank h.blank) (h.method ++ behind)
    ∙ ap (λ v. has_text (print_blank h.blank) || v) (method-text h.method behind is.method.0 is.method.1)
    ∙ or-true (has_text (print_blank h.blank))

no-text : (bytes : List ℕ) → has_text bytes ≡ false → HasNoRequest bytes
no-text bytes none h rest reads = true-is-not-false (sym (head-text h rest reads.0) ∙ sym (ap has_text reads.1) ∙ none)

pub nothing-yet : HasNoRequest []
nothing-yet = no-text [] refl

-- ---- what has come, without its last bytes and with them

text-of-both : (bytes : List ℕ) (place : ℕ) → (has_text (take place bytes) || has_text (drop place bytes)) ≡ has_text bytes
text-of-both bytes place =
    sym (list_any-append (λ b. not (b == 13 || b == 10)) (take place bytes) (drop place bytes)) ∙ ap has_text (take-append-drop place bytes)

pub begun-now : (bytes : List ℕ) (place : ℕ) (before last : Bool) → before ≡ has_text (take place bytes) → last ≡ has_text (take (length bytes - place) (drop place bytes))
    → (before || last) ≡ has_text bytes
begun-now bytes place before last is came = rw (is, came, take_rest bytes place) (text-of-both bytes place)

not-true : (v : Bool) → not v ≡ true → v ≡ false
not-true true e = cc e
not-true false e = refl

pub still-none : (bytes : List ℕ) (place : ℕ) (begun : Bool) → begun ≡ has_text bytes → HasNoRequest (take place bytes)
    → not (begun && list_any (λ b. b == 10) (drop place bytes)) ≡ true → HasNoRequest bytes
still-none bytes place true is none line = no-line-behind bytes place none (not-true (list_any (λ b. b == 10) (drop place bytes)) line)
still-none bytes place false is none line = no-text bytes (sym is)

pub third : (a b c : Bool) → (a && (b && c)) ≡ true → c ≡ true
third true true c e = e
third true false c e = cc e
third false b c e = cc e
