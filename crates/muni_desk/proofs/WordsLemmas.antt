-- Options among the words of the program, which are seen as their bytes.
use Rattle.std.proofs.Common.{◌≡◌, ℕ, ◌<◌, Bool, true, false, ◌||◌, List, [], ◌∷◌, length, drop, map, Some, refl, ap, ◌∙◌, Bor, String, Global}
use Rattle.std.specs.Prelude.{find, option_map, Option, if◌then◌else◌, string_bytes, nat_eq, nat_le, slice_index_or}
use Rattle.std.specs.Str.{bytes_eq}
use Rattle.std.specs.List.{starts_with, list_all, list_any}
use Rattle.std.proofs.Math.ListN.{get_or-append}
use Rattle.std.proofs.lemmas.Bool.{eq-eqb}
use Rattle.std.proofs.lemmas.Bool.Decides.{Decides-eqb}
use Rattle.std.proofs.lemmas.List.Folds.{list_all-map}
use Rattle.std.proofs.lemmas.Slice.Eq.{starts_is}
use Rattle.muni_desk.specs.Words.{is_option, are_known, are_known_beside, are_single, count_of, has_word, has_word_once, have_words_once}

found-map : {X Y : Type 0} (f : X → Y) (x : X) (test : Bool) (rest : Option X) (mapped : Option Y) → mapped ≡ option_map f rest → (if test then Some (f x) else mapped) ≡ option_map f (if test then Some x else rest)
found-map f x true rest mapped same = refl
found-map f x false rest mapped same = same

find-map : {X Y : Type 0} (p : Y → Bool) (f : X → Y) (xs : List X) → find p (map f xs) ≡ option_map f (find (λ x. p (f x)) xs)
find-map p f [] = refl
find-map p f (x ∷ xs) = found-map f x (p (f x)) (find (λ z. p (f z)) xs) (find p (map f xs)) (find-map p f xs)

list_any-map : {X Y : Type 0} (p : Y → Bool) (f : X → Y) (xs : List X) → list_any p (map f xs) ≡ list_any (λ x. p (f x)) xs
list_any-map p f [] = refl
list_any-map p f (x ∷ xs) = ap (λ rest. p (f x) || rest) (list_any-map p f xs)

pub found_strings : (name : List ℕ) (words : List (String Global)) → find (is_option name) (map string_bytes words) ≡ option_map string_bytes (find (λ word. is_option name (string_bytes word)) words)
found_strings name words = find-map (is_option name) string_bytes words

pub known-strings : (names : List (Bor (List ℕ))) (words : List (String Global)) → are_known (map (λ name. name.now) names) (map string_bytes words) ≡ list_all (λ word. list_any (λ name. is_option name.now (string_bytes word)) names) words
known-strings names words = simp (list_all-map, list_any-map)

pub single-strings : (names : List (Bor (List ℕ))) (words : List (String Global)) → are_single (map (λ name. name.now) names) (map string_bytes words) ≡ list_all (λ name. nat_le (count_of name.now (map string_bytes words)) 1) names
single-strings names words = simp list_all-map

pub word_strings : (plain : List ℕ) (words : List (String Global)) → has_word plain (map string_bytes words) ≡ list_any (λ word. bytes_eq (string_bytes word) plain) words
word_strings plain words = list_any-map (λ word. bytes_eq word plain) string_bytes words

pub known_beside_strings : (plains names : List (Bor (List ℕ))) (words : List (String Global)) → are_known_beside (map (λ plain. plain.now) plains) (map (λ name. name.now) names) (map string_bytes words) ≡ list_all (λ word. list_any (λ plain. bytes_eq (string_bytes word) plain.now) plains || list_any (λ name. is_option name.now (string_bytes word)) names) words
known_beside_strings plains names words = simp (list_all-map, list_any-map)

pub words_once_strings : (plains : List (Bor (List ℕ))) (words : List (String Global)) → have_words_once (map (λ plain. plain.now) plains) (map string_bytes words) ≡ list_all (λ plain. has_word_once plain.now (map string_bytes words)) plains
words_once_strings plains words = simp list_all-map

-- a word that starts with a name has its letters
pub same_letter : (word name : List ℕ) (place : ℕ) → place < length name → starts_with nat_eq word name ≡ true → nat_eq (slice_index_or word place 0) (slice_index_or name place 0) ≡ true
same_letter word name place within starts =
    eq-eqb _ _ (ap (λ w. slice_index_or w place 0) ((starts_is Decides-eqb word name _ refl).0 starts) ∙ get_or-append name (drop (length name) word) 0 place within)
