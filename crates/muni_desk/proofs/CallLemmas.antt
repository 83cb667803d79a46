-- The calls among words, read from the front.
use Rattle.std.proofs.Common.{◌≡◌, ℕ, ◌+◌, ◌<◌, ◌≤◌, nat_le, Bool, true, false, List, [], ◌∷◌, ◌++◌, Option, Some, None, length, drop, map, get_or, refl, sym, ap, ◌∙◌, arith, String, Global}
use Rattle.std.specs.Prelude.{codes, string_bytes, if◌then◌else◌}
use Rattle.std.proofs.lemmas.Bool.Decides.{nat_tests}
use Rattle.std.proofs.lemmas.List.{at_drop_more, append_assoc, append-nil, drop-map}
use Rattle.muni_terms.specs.declared.row.Call.{Call}
use Rattle.muni_msg.specs.Fields.{call_reading}
use Rattle.muni_desk.specs.QuoteOptions.{calls_reading, calls_of}
use Rattle.muni_desk.specs.Words.{◌>>=◌, value_in, values_of}

-- calls that were read, and then others, if those read
abbrev pub with_more : List Call → Option (List Call) → Option (List Call)
with_more calls None = None
with_more calls (Some more) = Some (calls ++ more)

-- the word at a place, and those after it
rest-at : (words : List (String Global)) (place : ℕ) (word : String Global) → place < length words → word ≡ get_or words place word → drop place (map string_bytes words) ≡ string_bytes word ∷ drop (place + 1) (map string_bytes words)
rest-at words place word inside is =
    drop-map string_bytes place words
    ∙ at_drop_more (map string_bytes) words place word inside
    ∙ (λ i. string_bytes (sym is i) ∷ map string_bytes (drop (place + 1) words))
    ∙ ap (λ rest. string_bytes word ∷ rest) (sym (drop-map string_bytes (place + 1) words))

-- a word that is another option
pub values-other : (name : List ℕ) (words : List (String Global)) (place : ℕ) (word : String Global) → place < length words → word ≡ get_or words place word → value_in name (string_bytes word) ≡ None → values_of name (drop place (map string_bytes words)) ≡ values_of name (drop (place + 1) (map string_bytes words))
values-other name words place word inside is other = rw (rest-at words place word inside is, other) refl

-- a word that is the option
pub values-here : (name : List ℕ) (words : List (String Global)) (place : ℕ) (word : String Global) (text : List ℕ) → place < length words → word ≡ get_or words place word → value_in name (string_bytes word) ≡ Some text → values_of name (drop place (map string_bytes words)) ≡ text ∷ values_of name (drop (place + 1) (map string_bytes words))
values-here name words place word text inside is here = rw (rest-at words place word inside is, here) refl

-- its value as a call
more-by : (before : List Call) (call : Call) (rest : Option (List Call)) → with_more (before ++ call ∷ []) rest ≡ with_more before (rest >>= λ calls. Some (call ∷ calls))
more-by before call None = refl
more-by before call (Some calls) = ap Some (append_assoc before (call ∷ []) calls)

pub calls-here : (before : List Call) (text : List ℕ) (texts : List (List ℕ)) (call : Call) → call_reading text ≡ Some call → with_more (before ++ call ∷ []) (calls_reading texts) ≡ with_more before (calls_reading (text ∷ texts))
calls-here before text texts call reads = rw reads (more-by before call (calls_reading texts))

pub calls-fault : (before : List Call) (text : List ℕ) (texts : List (List ℕ)) → call_reading text ≡ None → with_more before (calls_reading (text ∷ texts)) ≡ None
calls-fault before text texts fault = rw fault refl

pub calls-read : (calls : List Call) → with_more calls (calls_reading []) ≡ Some calls
calls-read calls = ap Some (append-nil calls)

-- how many calls there may be
pub calls-few : (words : List (List ℕ)) → length (values_of (codes "--call=") words) ≤ 40 → calls_of words ≡ calls_reading (values_of (codes "--call=") words)
calls-few words few =
    let test : nat_le (length (values_of (codes "--call=") words)) 40 ≡ true = grind (arith, nat_tests) in
    rw test refl

pub calls-many : (words : List (List ℕ)) → 40 < length (values_of (codes "--call=") words) → calls_of words ≡ None
calls-many words many =
    let test : nat_le (length (values_of (codes "--call=") words)) 40 ≡ false = grind (arith, nat_tests) in
    rw test refl

none-either : (test : Bool) (calls : Option (List Call)) → calls ≡ None → (if test then calls else None) ≡ None
none-either true calls none = none
none-either false calls none = refl

pub calls-none : (words : List (List ℕ)) → calls_reading (values_of (codes "--call=") words) ≡ None → calls_of words ≡ None
calls-none words none = none-either (nat_le (length (values_of (codes "--call=") words)) 40) _ none

-- nothing in front
pub calls-first : (calls : Option (List Call)) → with_more [] calls ≡ calls
calls-first None = refl
calls-first (Some calls) = refl
