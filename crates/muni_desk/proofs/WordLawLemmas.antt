-- Words of the command line against the rule.
use Rattle.std.proofs.Common.{◌≡◌, ◌≢◌, ℕ, zero, suc, ◌+◌, ◌<◌, ◌≤◌, Bool, true, false, cond, ◌&&◌, ◌||◌, List, [], ◌∷◌, ◌++◌, Option, Some, None, length, take, drop, refl, sym, ap, ◌∙◌, subst, arith}
use Rattle.std.specs.Prelude.{count_by, nat_le, nat_lt, nat_eq, ◌==◌, All, Contains}
use Rattle.std.specs.Bool.{Decides}
use Rattle.std.specs.Str.{bytes_eq}
use Rattle.std.specs.List.{starts_with, list_any, position_or_len}
use Rattle.std.proofs.lemmas.Bool.Decides.{nat_tests, Decides-eqb, Decides-or, Decides-by_and, Decides-by_or}
use Rattle.std.proofs.lemmas.List.{append_cancel_left, length-append, length-drop, get_or_default}
use Rattle.std.proofs.lemmas.List.Elements.{All-contains, All-from_recursion, Contains-get_or, at_from_Contains}
use Rattle.std.proofs.lemmas.List.Sums.{sum_by-cons}
use Rattle.std.proofs.lemmas.Option.{none-some, same_Some}
use Rattle.std.proofs.lemmas.Slice.Eq.{starts_is, bytes_eq-Decides}
use Rattle.muni_desk.specs.Words.{word, is_option, are_known, are_known_beside, are_single, are_options, are_options_beside, are_once, count_of, has_word, has_word_once, have_words_once, value_of}
use Rattle.muni_desk.specs.QuoteOptions.{options}
use Rattle.muni_desk.specs.OptionLaws.{IsOption, IsKnown, IsKnownBeside, IsOnceAtMost, AreOnceAtMost, Has, IsSingle, Says, Lacks}

-- ---- tests
pub both : (a b : Bool) → a && b ≡ true → (a ≡ true) × (b ≡ true)
both true b is = (refl, is)
both false b is = absurd (cc)

and-true : (a b : Bool) → a ≡ true → b ≡ true → a && b ≡ true
and-true a b first second = rw (first, second) refl

-- ---- a word and a name
longer : (xs : List ℕ) → xs ≢ [] → 0 < length xs
longer [] some = absurd (some refl)
longer (x ∷ xs) some = omega arith

is-option : (name text : List ℕ) → is_option name text ≡ true → IsOption name text
is-option name text test =
    let parts = both (starts_with nat_eq text name) (nat_lt (length name) (length text)) test in
    let joined : text ≡ name ++ drop (length name) text = (starts_is Decides-eqb text name (starts_with nat_eq text name) refl).0 parts.0 in
    let more : nat_lt (length name) (length text) ≡ true = parts.1 in
    let less : length name < length text = grind (arith, nat_tests) in
    record {
      value = drop (length name) text;
      joined = joined;
      not_empty = λ none. omega (arith, length-drop (length name) text, ap length none, less);
    }

option-is : (name text : List ℕ) → IsOption name text → is_option name text ≡ true
option-is name text it =
    let starts : starts_with nat_eq text name ≡ true = (starts_is Decides-eqb text name (starts_with nat_eq text name) refl).1 it.value it.joined in
    let size : length text ≡ length name + length it.value = ap length it.joined ∙ length-append name it.value in
    let some = longer it.value it.not_empty in
    let less : length name < length text = omega (arith, size, some) in
    and-true (starts_with nat_eq text name) (nat_lt (length name) (length text)) starts (grind (arith, nat_tests))

pub option-joined : (name text : List ℕ) → is_option name text ≡ true → text ≡ name ++ drop (length name) text
unfolding is-option
option-joined name text test = (is-option name text test).joined

option-decides : (name text : List ℕ) → Decides (is_option name text) (IsOption name text)
option-decides name text = (is-option name text, option-is name text)

-- ---- known words
known-decides : (names : List (List ℕ)) (text : List ℕ) → Decides (list_any (λ name. is_option name text) names) (IsKnown names text)
known-decides names text =
    let places = Decides-by_or (λ name. is_option name text) (λ name. IsOption name text) (list_any (λ name. is_option name text)) (λ name. option-decides name text) refl (λ _ _. refl) names in (
      λ test. let at = places.0 test in record { name = word names at.0; listed = Contains-get_or names at.0 [] at.1; is_its = at.2 [] },
      λ known. let at = at_from_Contains names known.name known.listed in places.1 (at.0, at.1, λ d. subst (λ name. IsOption name text) (sym (at.2 d)) known.is_its),
    )

knowns-decide : (names words : List (List ℕ)) → Decides (are_known names words) (All (IsKnown names) words)
knowns-decide names words = Decides-by_and (λ text. list_any (λ name. is_option name text) names) (IsKnown names) (are_known names) (known-decides names) refl (λ _ _. refl) words

-- ---- how often a word is given
count-cons : (p : List ℕ → Bool) (text : List ℕ) (words : List (List ℕ)) → count_by p (text ∷ words) ≡ cond (p text) 1 0 + count_by p words
count-cons p text words = sum_by-cons (λ x. cond (p x) 1 0) text words

counts-one : (p : List ℕ → Bool) (text : List ℕ) (words : List (List ℕ)) → p text ≡ true → count_by p (text ∷ words) ≡ 1 + count_by p words
counts-one p text words is = count-cons p text words ∙ ap (λ b. cond b 1 0 + count_by p words) is

counts-none : (p : List ℕ → Bool) (text : List ℕ) (words : List (List ℕ)) → p text ≡ false → count_by p (text ∷ words) ≡ count_by p words
counts-none p text words is =
    let same : count_by p (text ∷ words) ≡ 0 + count_by p words = count-cons p text words ∙ ap (λ b. cond b 1 0 + count_by p words) is in
    omega (arith, same)

none-counted : (p : List ℕ → Bool) (words : List (List ℕ)) (k : ℕ) → count_by p words ≡ 0 → k < length words → p (word words k) ≡ true → ⊥
none-counted p [] k none inside is = omega (arith, inside)
none-counted p (text ∷ words) zero none inside is = omega (arith, none, counts-one p text words is)
none-counted p (text ∷ words) (suc k) none inside is = none-counted p words k (omega (arith, none, count-cons p text words)) (omega (arith, inside)) is

at-most-one : (p : List ℕ → Bool) (words : List (List ℕ)) (i j : ℕ) → count_by p words ≤ 1 → i < length words → j < length words → p (word words i) ≡ true → p (word words j) ≡ true → i ≡ j
at-most-one p [] i j few at_i at_j is also = absurd (omega (arith, at_i))
at-most-one p (text ∷ words) zero zero few at_i at_j is also = refl
at-most-one p (text ∷ words) zero (suc j) few at_i at_j is also = absurd (none-counted p words j (omega (arith, few, counts-one p text words is)) (omega (arith, at_j)) also)
at-most-one p (text ∷ words) (suc i) zero few at_i at_j is also = absurd (none-counted p words i (omega (arith, few, counts-one p text words also)) (omega (arith, at_i)) is)
at-most-one p (text ∷ words) (suc i) (suc j) few at_i at_j is also = ap suc (at-most-one p words i j (omega (arith, few, count-cons p text words)) (omega (arith, at_i)) (omega (arith, at_j)) is also)

none-stands-by : (p : List ℕ → Bool) (text : List ℕ) (words : List (List ℕ)) (test : Bool) → p text ≡ test → (p text ≡ true → ⊥) → count_by p words ≡ 0 → count_by p (text ∷ words) ≡ 0
none-stands-by p text words true is never rest = absurd (never is)
none-stands-by p text words false is never rest = counts-none p text words is ∙ rest

none-stands : (p : List ℕ → Bool) (words : List (List ℕ)) → ((k : ℕ) → k < length words → p (word words k) ≡ true → ⊥) → count_by p words ≡ 0
none-stands p [] none = refl
none-stands p (text ∷ words) none = none-stands-by p text words (p text) refl (none 0 (omega arith)) (none-stands p words (λ k inside is. none (suc k) (omega (arith, inside)) is))

-- the test holds at one place at most
abbrev IsOnce : (List ℕ → Bool) → List (List ℕ) → Type 0
IsOnce p words = (i j : ℕ) → i < length words → j < length words → p (word words i) ≡ true → p (word words j) ≡ true → i ≡ j

once-counted-by : (p : List ℕ → Bool) (text : List ℕ) (words : List (List ℕ)) (test : Bool) → p text ≡ test → IsOnce p (text ∷ words) → count_by p words ≤ 1 → count_by p (text ∷ words) ≤ 1
once-counted-by p text words true is once rest =
    let none = none-stands p words (λ k inside also. let same = once 0 (suc k) (omega arith) (omega (arith, inside)) is also in omega (arith, same)) in
    omega (arith, none, counts-one p text words is)
once-counted-by p text words false is once rest =
    omega (arith, counts-none p text words is, rest)

once-counted : (p : List ℕ → Bool) (words : List (List ℕ)) → IsOnce p words → count_by p words ≤ 1
once-counted p [] once = omega arith
once-counted p (text ∷ words) once = once-counted-by p text words (p text) refl once (once-counted p words (λ i j at_i at_j is also. let same = once (suc i) (suc j) (omega (arith, at_i)) (omega (arith, at_j)) is also in omega (arith, same)))

single-decides : (words : List (List ℕ)) (name : List ℕ) → Decides (nat_le (count_of name words) 1) (IsSingle words name)
single-decides words name = (
  λ test. let few : count_of name words ≤ 1 = grind (arith, nat_tests) in
      λ i j at_i at_j is also. at-most-one (is_option name) words i j few at_i at_j (option-is name (word words i) is) (option-is name (word words j) also),
  λ single. let few : count_of name words ≤ 1 = once-counted (is_option name) words (λ i j at_i at_j is also. single i j at_i at_j (is-option name (word words i) is) (is-option name (word words j) also)) in
      grind (arith, nat_tests),
)

singles-decide : (names words : List (List ℕ)) → Decides (are_single names words) (All (IsSingle words) names)
singles-decide names words = Decides-by_and (λ name. nat_le (count_of name words) 1) (IsSingle words) (λ names. are_single names words) (single-decides words) refl (λ _ _. refl) names

pub options-read : (names single words : List (List ℕ)) → are_options names single words ≡ true → All (IsKnown names) words × All (IsSingle words) single
options-read names single words are =
    let parts = both (are_known names words) (are_single single words) are in
    ((knowns-decide names words).0 parts.0, (singles-decide single words).0 parts.1)

pub are-options : (names single words : List (List ℕ)) → All (IsKnown names) words → All (IsSingle words) single → are_options names single words ≡ true
are-options names single words known once = and-true (are_known names words) (are_single single words) ((knowns-decide names words).1 known) ((singles-decide single words).1 once)

-- ---- a word that has no value
plain-decides : (plain text : List ℕ) → Decides (bytes_eq text plain) (text ≡ plain)
plain-decides plain text = bytes_eq-Decides text plain

plains-decide : (plains : List (List ℕ)) (text : List ℕ) → Decides (list_any (λ plain. bytes_eq text plain) plains) (Contains plains text)
plains-decide plains text =
    let places = Decides-by_or (λ plain. bytes_eq text plain) (λ plain. text ≡ plain) (list_any (λ plain. bytes_eq text plain)) (λ plain. plain-decides plain text) refl (λ _ _. refl) plains in (
      λ test. let at = places.0 test in subst (Contains plains) (sym (at.2 [])) (Contains-get_or plains at.0 [] at.1),
      λ contained. let at = at_from_Contains plains text contained in places.1 (at.0, at.1, λ d. sym (at.2 d)),
    )

known-beside-decides : (plains names : List (List ℕ)) (text : List ℕ) → Decides (list_any (λ plain. bytes_eq text plain) plains || list_any (λ name. is_option name text) names) (IsKnownBeside plains names text)
known-beside-decides plains names text = Decides-or (list_any (λ plain. bytes_eq text plain) plains) (list_any (λ name. is_option name text) names) (plains-decide plains text) (known-decides names text)

knowns-beside-decide : (plains names words : List (List ℕ)) → Decides (are_known_beside plains names words) (All (IsKnownBeside plains names) words)
knowns-beside-decide plains names words =
    Decides-by_and (λ text. list_any (λ plain. bytes_eq text plain) plains || list_any (λ name. is_option name text) names) (IsKnownBeside plains names) (are_known_beside plains names) (known-beside-decides plains names) refl (λ _ _. refl) words

once-decides : (plain : List ℕ) (words : List (List ℕ)) → Decides (has_word_once plain words) (IsOnceAtMost plain words)
once-decides plain words = (
  λ test. let few : count_by (λ word. bytes_eq word plain) words ≤ 1 = grind (arith, nat_tests) in
      λ i j at_i at_j is also. at-most-one (λ word. bytes_eq word plain) words i j few at_i at_j ((plain-decides plain (word words i)).1 is) ((plain-decides plain (word words j)).1 also),
  λ once. let few : count_by (λ word. bytes_eq word plain) words ≤ 1 = once-counted (λ word. bytes_eq word plain) words (λ i j at_i at_j is also. once i j at_i at_j ((plain-decides plain (word words i)).0 is) ((plain-decides plain (word words j)).0 also)) in
      grind (arith, nat_tests),
)

words-once-decide : (plains words : List (List ℕ)) → Decides (have_words_once plains words) (AreOnceAtMost plains words)
words-once-decide plains words =
    Decides-by_and (λ plain. has_word_once plain words) (λ plain. IsOnceAtMost plain words) (λ all. have_words_once all words) (λ plain. once-decides plain words) refl (λ _ _. refl) plains

pub options-read-beside : (plains names single words : List (List ℕ)) → are_options_beside plains names single words ≡ true → All (IsKnownBeside plains names) words × AreOnceAtMost plains words × All (IsSingle words) single
options-read-beside plains names single words are =
    let parts = both (are_known_beside plains names words) (are_once plains single words) are in
    let others = both (have_words_once plains words) (are_single single words) parts.1 in
    ((knowns-beside-decide plains names words).0 parts.0, (words-once-decide plains words).0 others.0, (singles-decide single words).0 others.1)

pub are-options-beside : (plains names single words : List (List ℕ)) → All (IsKnownBeside plains names) words → AreOnceAtMost plains words → All (IsSingle words) single → are_options_beside plains names single words ≡ true
are-options-beside plains names single words known once singles =
    and-true (are_known_beside plains names words) (are_once plains single words) ((knowns-beside-decide plains names words).1 known)
    (and-true (have_words_once plains words) (are_single single words) ((words-once-decide plains words).1 once) ((singles-decide single words).1 singles))

has-decides : (plain : List ℕ) (words : List (List ℕ)) → Decides (has_word plain words) (Contains words plain)
has-decides plain words =
    let places = Decides-by_or (λ text. bytes_eq text plain) (λ text. text ≡ plain) (list_any (λ text. bytes_eq text plain)) (plain-decides plain) refl (λ _ _. refl) words in (
      λ test. let at = places.0 test in subst (Contains words) (at.2 []) (Contains-get_or words at.0 [] at.1),
      λ contained. let at = at_from_Contains words plain contained in places.1 (at.0, at.1, λ d. at.2 d),
    )

pub has-read : (plain : List ℕ) (words : List (List ℕ)) (each : Bool) → has_word plain words ≡ each → Has plain words each
has-read plain words true is = (has-decides plain words).0 is
has-read plain words false is = λ contained. (let has : has_word plain words ≡ true = (has-decides plain words).1 contained in cc)

has-false : (plain : List ℕ) (words : List (List ℕ)) (each : Bool) → has_word plain words ≡ each → ¬ (Contains words plain) → has_word plain words ≡ false
has-false plain words true is lacks = absurd (lacks ((has-decides plain words).0 is))
has-false plain words false is lacks = is

pub read-has : (plain : List ℕ) (words : List (List ℕ)) (each : Bool) → Has plain words each → has_word plain words ≡ each
read-has plain words true has = (has-decides plain words).1 has
read-has plain words false lacks = has-false plain words (has_word plain words) refl lacks

-- a word that is none of the known options is not among them
pub has-unknown : (plain : List ℕ) (names words : List (List ℕ)) → list_any (λ name. is_option name plain) names ≡ false → All (IsKnown names) words → has_word plain words ≡ false
has-unknown plain names words unknown known =
    read-has plain words false (λ contained. (let is : list_any (λ name. is_option name plain) names ≡ true = (known-decides names plain).1 (All-contains (IsKnown names) words plain known contained) in cc))

-- ---- the value of an option
value-here : (name text : List ℕ) (words : List (List ℕ)) → is_option name text ≡ true → value_of name (text ∷ words) ≡ Some (drop (length name) text)
value-here name text words is = rw (is, is) refl

value-there : (name text : List ℕ) (words : List (List ℕ)) → is_option name text ≡ false → value_of name (text ∷ words) ≡ value_of name words
value-there name text words is = rw is refl

says-here : (name text value : List ℕ) (words : List (List ℕ)) → is_option name text ≡ true → Some (drop (length name) text) ≡ Some value → Says (text ∷ words) name value
unfolding is-option
says-here name text value words is found =
    let it = is-option name text is in
    let rest : it.value ≡ value = same_Some (drop (length name) text) value found in
    let joined : text ≡ name ++ value = it.joined ∙ ap (λ v. name ++ v) rest in
    record { among = (0, omega arith, joined); not_empty = subst (λ v. v ≢ []) rest it.not_empty }

says-there : (name text value : List ℕ) (words : List (List ℕ)) → Says words name value → Says (text ∷ words) name value
says-there name text value words said =
    let at = said.among in
    let inside = at.1 in
    record { among = (suc at.0, omega (arith, inside), at.2); not_empty = said.not_empty }

found-by : (name text value : List ℕ) (words : List (List ℕ)) (test : Bool) → is_option name text ≡ test → value_of name (text ∷ words) ≡ Some value → (value_of name words ≡ Some value → Says words name value) → Says (text ∷ words) name value
found-by name text value words true is found rest = says-here name text value words is (sym (value-here name text words is) ∙ found)
found-by name text value words false is found rest = says-there name text value words (rest (sym (value-there name text words is) ∙ found))

pub found-says : (name value : List ℕ) (words : List (List ℕ)) → value_of name words ≡ Some value → Says words name value
found-says name value [] found = absurd (none-some value found)
found-says name value (text ∷ words) found = found-by name text value words (is_option name text) refl found (found-says name value words)

some-here : (name text : List ℕ) (words : List (List ℕ)) (test : Bool) → is_option name text ≡ test → value_of name (text ∷ words) ≡ None → (is_option name text ≡ false) × (value_of name words ≡ None)
some-here name text words true is none = absurd (none-some (drop (length name) text) (sym none ∙ value-here name text words is))
some-here name text words false is none = (is, sym (value-there name text words is) ∙ none)

none-passes : (name : List ℕ) (words : List (List ℕ)) (k : ℕ) → value_of name words ≡ None → k < length words → is_option name (word words k) ≡ true → ⊥
none-passes name [] k none inside is = omega (arith, inside)
none-passes name (text ∷ words) zero none inside is = absurd (none-some (drop (length name) text) (sym none ∙ value-here name text words is))
none-passes name (text ∷ words) (suc k) none inside is = none-passes name words k (some-here name text words (is_option name text) refl none).1 (omega (arith, inside)) is

-- the place of an option
says-at : (words : List (List ℕ)) (name value : List ℕ) → Says words name value → (k : ℕ) × (k < length words) × (word words k ≡ name ++ value)
says-at words name value said =
    let at = said.among in
    (at.0, at.1, get_or_default words at.0 [] (name ++ value) at.1 ∙ at.2)

option-at : (words : List (List ℕ)) (name value : List ℕ) (k : ℕ) → word words k ≡ name ++ value → value ≢ [] → IsOption name (word words k)
option-at words name value k joined some = record { value = value; joined = joined; not_empty = some }

pub none-lacks : (name : List ℕ) (words : List (List ℕ)) → value_of name words ≡ None → Lacks words name
none-lacks name words none = λ value said.
    let at = says-at words name value said in
    none-passes name words at.0 none at.1 (option-is name (word words at.0) (option-at words name value at.0 at.2 said.not_empty))

lacks-by : (name : List ℕ) (words : List (List ℕ)) (found : Option (List ℕ)) → value_of name words ≡ found → Lacks words name → value_of name words ≡ None
lacks-by name words None is lacks = is
lacks-by name words (Some value) is lacks = absurd (lacks value (found-says name value words is))

pub lacks-none : (name : List ℕ) (words : List (List ℕ)) → Lacks words name → value_of name words ≡ None
lacks-none name words lacks = lacks-by name words (value_of name words) refl lacks

says-same : (words : List (List ℕ)) (name value other : List ℕ) → IsSingle words name → Says words name value → Says words name other → value ≡ other
says-same words name value other single said also =
    let i = says-at words name value said in
    let j = says-at words name other also in
    let place : i.0 ≡ j.0 = single i.0 j.0 i.1 j.1 (option-at words name value i.0 i.2 said.not_empty) (option-at words name other j.0 j.2 also.not_empty) in
    append_cancel_left name value other (sym i.2 ∙ ap (word words) place ∙ j.2)

says-by : (name value : List ℕ) (words : List (List ℕ)) (found : Option (List ℕ)) → value_of name words ≡ found → IsSingle words name → Says words name value → value_of name words ≡ Some value
says-by name value words None is single said = absurd (none-lacks name words is value said)
says-by name value words (Some other) is single said = is ∙ ap Some (says-same words name other value single (found-says name other words is) said)

pub says-found : (name value : List ℕ) (words : List (List ℕ)) → IsSingle words name → Says words name value → value_of name words ≡ Some value
says-found name value words single said = says-by name value words (value_of name words) refl single said

-- ---- a word is the option of one name at most: its name ends with the first equals sign
abbrev name_in : List ℕ → List ℕ
name_in text = take (position_or_len (λ b. b == 61) text + 1) text

-- the name of an option is found in its word
abbrev IsNameIn : List ℕ → Type 0
IsNameIn name = (value : List ℕ) → name_in (name ++ value) ≡ name

names-found : All IsNameIn options
names-found = All-from_recursion IsNameIn options (λ value. refl, (λ value. refl, (λ value. refl, (λ value. refl, (λ value. refl, (λ value. refl, (λ value. refl, (λ value. refl, (λ value. refl, (λ value. refl, (λ value. refl, (λ value. refl, (λ value. refl, tt)))))))))))))

pub names-apart : (name other text : List ℕ) → Contains options name → Contains options other → IsOption name text → IsOption other text → name ≡ other
names-apart name other text listed also is its =
    sym (All-contains IsNameIn options name names-found listed is.value) ∙ ap name_in (sym is.joined ∙ its.joined) ∙ All-contains IsNameIn options other names-found also its.value
