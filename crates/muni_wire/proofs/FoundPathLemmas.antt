-- The paths under which trades are confirmed and lists are given.
use Rattle.std.proofs.Common.{◌≡◌, ◌≢◌, ◌+◌, ◌==◌, not, ℕ, List, [], ◌∷◌, ◌++◌, Bool, true, false, cond, nat_lt, length, drop, codes, position, Option, Some, None, Ok, refl, ap, ◌∙◌, arith}
use Rattle.std.specs.Prelude.{⊤}
use Rattle.std.specs.Char.{is_ascii_alphanumeric}
use Rattle.std.specs.List.{prefix_len}
use Rattle.std.specs.Option.{option_or}
use Rattle.std.specs.Result.{result_ok}
use Rattle.std.proofs.Math.Seq.{take-append_seam, drop-append-add}
use Rattle.std.proofs.lemmas.Bool.Decides.{nat_tests}
use Rattle.std.proofs.lemmas.List.{length-append}
use Rattle.muni_msg.specs.Fields.{◌>>=◌}
use Rattle.muni_msg.specs.Names.{IsName, is_desk_letter}
use Rattle.muni_msg.specs.NameReading.{name_reading}
use Rattle.muni_msg.specs.declared.command.Command.TheVariants.{Confirm, List as ListTrades}
use Rattle.muni_msg.specs.declared.command.Key.{Key}
use Rattle.muni_wire.specs.Routes.{target_of, of_book_at, look_at, list_at, list_after_at, key_of, key_at}
use Rattle.muni_wire_body.specs.declared.look.Request.TheVariants.{Book}
use Rattle.muni_wire.specs.declared.routes.Target.TheVariants as target
use Rattle.muni_wire.specs.PathLaws.{IsKey}
use Rattle.muni_wire.proofs.PathLemmas.{text-is-name}

-- bytes of which none is a slash
abbrev pub IsPart : List ℕ → Type 0
IsPart [] = ⊤
IsPart (b ∷ rest) = (b ≢ 47) × IsPart rest

-- names are parts, and are read as themselves

pub desk-letter : (b : ℕ) → is_desk_letter b ≡ true → b ≢ 47
desk-letter b e = λ is. grind (arith, nat_tests, e, is)

pub reference-letter : (b : ℕ) → is_ascii_alphanumeric b ≡ true → b ≢ 47
reference-letter b e = λ is. grind (arith, nat_tests, e, is)

letters-by : (v : Bool) (is_letter : ℕ → Bool) (b : ℕ) (rest : List ℕ) → is_letter b ≡ v → ((b : ℕ) → is_letter b ≡ true → b ≢ 47)
    → (nat_lt (prefix_len (λ x. not (not (is_letter x))) rest) (length rest) ≡ false → IsPart rest)
    → nat_lt (cond (not (not v)) (1 + prefix_len (λ x. not (not (is_letter x))) rest) 0) (length (b ∷ rest)) ≡ false → IsPart (b ∷ rest)
letters-by true is_letter b rest is letter others e =
    let later : nat_lt (prefix_len (λ x. not (not (is_letter x))) rest) (length rest) ≡ false = grind (arith, nat_tests, e) in
    (letter b is, others later)
letters-by false is_letter b rest is letter others e = absurd (grind (arith, nat_tests, e))

letters-part : (is_letter : ℕ → Bool) (text : List ℕ) → ((b : ℕ) → is_letter b ≡ true → b ≢ 47)
    → nat_lt (prefix_len (λ x. not (not (is_letter x))) text) (length text) ≡ false → IsPart text
letters-part is_letter [] letter e = tt
letters-part is_letter (b ∷ rest) letter e =
    letters-by (is_letter b) is_letter b rest refl letter (letters-part is_letter rest letter) e

none-by : (v : Bool) (n : ℕ) → cond v (Some n) None ≡ None → v ≡ false
none-by true n e = cc e
none-by false n e = refl

pub name-part : (is_letter : ℕ → Bool) (most : ℕ) (text : List ℕ) → ((b : ℕ) → is_letter b ≡ true → b ≢ 47) → IsName is_letter most text → IsPart text
name-part is_letter most text letter name =
    letters-part is_letter text letter
    (none-by (nat_lt (prefix_len (λ x. not (not (is_letter x))) text) (length text)) (prefix_len (λ x. not (not (is_letter x))) text) name.letters)

pub name-read : (is_letter : ℕ → Bool) (most : ℕ) (text : List ℕ) → IsName is_letter most text → name_reading is_letter most text ≡ Ok text
name-read is_letter most text name =
    let some : (length text == 0) ≡ false = grind (arith, nat_tests, name.some) in
    let few : nat_lt most (length text) ≡ false = grind (arith, nat_tests, name.few) in
    rw name.letters (rw (some, few) refl)

-- what comes after the front of a path is read

slash-place : (desk reference : List ℕ) → IsPart desk → prefix_len (λ x. not (x == 47)) (desk ++ 47 ∷ reference) ≡ length desk
slash-place [] reference is = refl
slash-place (b ∷ desk) reference is =
    let no : (b == 47) ≡ false = grind (arith, nat_tests, is.0) in
    rw no (omega (arith, slash-place desk reference is.1))

pub slash-position : (desk reference : List ℕ) → IsPart desk → position (λ b. b == 47) (desk ++ 47 ∷ reference) ≡ Some (length desk)
slash-position desk reference is =
    let size = length-append desk (47 ∷ reference) in
    let inside : nat_lt (length desk) (length (desk ++ 47 ∷ reference)) ≡ true = grind (arith, nat_tests, size) in
    ap (λ n. cond (nat_lt n (length (desk ++ 47 ∷ reference))) (Some n) None) (slash-place desk reference is)
    ∙ ap (λ v. cond v (Some (length desk)) None) inside

-- a desk and a reference, if both are read
abbrev pub read-both : List ℕ → List ℕ → Option Key
read-both desk reference =
    result_ok (name_reading is_desk_letter 16 desk) >>= λ desk.
    result_ok (name_reading is_ascii_alphanumeric 20 reference) >>= λ reference.
    Some (record { desk = desk; reference = reference })

both-read : (key : Key) → IsKey key → read-both key.desk key.reference ≡ Some key
both-read key is =
    ap (λ d. result_ok d >>= λ desk. result_ok (name_reading is_ascii_alphanumeric 20 key.reference) >>= λ reference. Some (record { desk = desk; reference = reference }))
    (name-read is_desk_letter 16 key.desk is.desk)
    ∙ ap (λ r. result_ok r >>= λ reference. Some (record { desk = key.desk; reference = reference })) (name-read is_ascii_alphanumeric 20 key.reference is.reference)

key-read : (key : Key) → IsKey key → key_of (key.desk ++ 47 ∷ key.reference) ≡ Some key
unfolding key_of
key-read key is =
    let text = key.desk ++ 47 ∷ key.reference in
    let part = name-part is_desk_letter 16 key.desk desk-letter is.desk in
    ap (λ o. o >>= λ slash. key_at text slash) (slash-position key.desk key.reference part)
    ∙ ap (λ d. read-both d (drop (length key.desk + 1) text)) (take-append_seam key.desk (47 ∷ key.reference))
    ∙ ap (λ r. read-both key.desk r) (drop-append-add key.desk (47 ∷ key.reference) 1)
    ∙ both-read key is

-- a desk, a slash and a reference are no name of a desk
pub not-part : (front rest : List ℕ) → IsPart (front ++ 47 ∷ rest) → ⊥
not-part [] rest is = is.0 refl
not-part (b ∷ front) rest is = not-part front rest is.1

pub unread : (o : Option (List ℕ)) → ((name : List ℕ) → o ≡ Some name → ⊥) → o ≡ None
unread None none = refl
unread (Some name) none = absurd (none name refl)

no-desk : (desk reference : List ℕ) → result_ok (name_reading is_desk_letter 16 (desk ++ 47 ∷ reference)) ≡ None
no-desk desk reference =
    let text = desk ++ 47 ∷ reference in
    unread (result_ok (name_reading is_desk_letter 16 text))
    (λ name e. not-part desk reference (name-part is_desk_letter 16 text desk-letter (text-is-name is_desk_letter 16 text name e)))

pub each-trade-is-confirmed : (key : Key) → IsKey key → target_of (codes "/trades/" ++ (key.desk ++ 47 ∷ key.reference)) ≡ Some (target.Get (Book (Confirm key)))
unfolding target_of of_book_at
each-trade-is-confirmed key is =
    let path = codes "/trades/" ++ (key.desk ++ 47 ∷ key.reference) in
    ap (λ o. option_or (option_or (o >>= λ k. Some (target.Get (Book (Confirm k)))) (option_or (list_at path) (list_after_at path))) (look_at path)) (key-read key is)

pub each-list-is-given : (desk : List ℕ) → IsName is_desk_letter 16 desk → target_of (codes "/lists/" ++ desk) ≡ Some (target.Get (Book (ListTrades desk None)))
unfolding target_of of_book_at
each-list-is-given desk is =
    let path = codes "/lists/" ++ desk in
    ap (λ o. option_or (option_or (result_ok o >>= λ d. Some (target.Get (Book (ListTrades d None)))) (list_after_at path)) (look_at path)) (name-read is_desk_letter 16 desk is)

pub each-list-goes-on : (key : Key) → IsKey key → target_of (codes "/lists/" ++ (key.desk ++ 47 ∷ key.reference)) ≡ Some (target.Get (Book (ListTrades key.desk (Some key.reference))))
unfolding target_of of_book_at
each-list-goes-on key is =
    let path = codes "/lists/" ++ (key.desk ++ 47 ∷ key.reference) in
    ap (λ o. option_or (option_or (o >>= λ d. Some (target.Get (Book (ListTrades d None)))) (list_after_at path)) (look_at path)) (no-desk key.desk key.reference)
    ∙ ap (λ o. option_or (o >>= λ k. Some (target.Get (Book (ListTrades k.desk (Some k.reference))))) (look_at path)) (key-read key is)
