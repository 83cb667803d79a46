-- Words of the command line, and the options among them. The name of an option is given with its dashes
-- and its equals sign.
use Rattle.std.specs.Prelude.{ℕ, ◌&&◌, ◌||◌, Bool, nat_eq, nat_lt, nat_le, if◌then◌else◌, List, [], length, drop, slice_index_or, find, count_by, Option, Some, None, option_and_then}
use Rattle.std.specs.Str.{bytes_eq}
use Rattle.std.specs.List.{starts_with, list_all, list_any, filter_map}

infixl 10 ◌>>=◌
abbrev pub ◌>>=◌ : {A B : Type 0} → Option A → (A → Option B) → Option B
o >>= f = option_and_then f o

-- the word at a place
abbrev pub word : List (List ℕ) → ℕ → List ℕ
word words place = slice_index_or words place []

-- the word is the option of this name, with a value that is not empty
abbrev pub is_option : List ℕ → List ℕ → Bool
is_option name word = starts_with nat_eq word name && nat_lt (length name) (length word)

-- its value
abbrev pub value_in : List ℕ → List ℕ → Option (List ℕ)
value_in name word = if is_option name word then Some (drop (length name) word) else None

-- how often an option is among words
abbrev pub count_of : List ℕ → List (List ℕ) → ℕ
count_of name words = count_by (is_option name) words

-- each word is the option of one of these names
abbrev pub are_known : List (List ℕ) → List (List ℕ) → Bool
are_known names words = list_all (λ word. list_any (λ name. is_option name word) names) words

-- the option of each of these names is there once at most
abbrev pub are_single : List (List ℕ) → List (List ℕ) → Bool
are_single names words = list_all (λ name. nat_le (count_of name words) 1) names

abbrev pub are_options : (names single : List (List ℕ)) → List (List ℕ) → Bool
are_options names single words = are_known names words && are_single single words

-- a word that has no value is among words, and once at most
abbrev pub has_word : List ℕ → List (List ℕ) → Bool
has_word plain words = list_any (λ word. bytes_eq word plain) words

abbrev pub has_word_once : List ℕ → List (List ℕ) → Bool
has_word_once plain words = nat_le (count_by (λ word. bytes_eq word plain) words) 1

-- each word is one of these, or the option of one of these names
abbrev pub are_known_beside : (plains names : List (List ℕ)) → List (List ℕ) → Bool
are_known_beside plains names words =
    list_all (λ word. list_any (λ plain. bytes_eq word plain) plains
    || list_any (λ name. is_option name word) names) words

-- the words and the options are there once at most
abbrev pub have_words_once : List (List ℕ) → List (List ℕ) → Bool
have_words_once plains words = list_all (λ plain. has_word_once plain words) plains

abbrev pub are_once : (plains single : List (List ℕ)) → List (List ℕ) → Bool
are_once plains single words = have_words_once plains words && are_single single words

abbrev pub are_options_beside : (plains names single : List (List ℕ)) → List (List ℕ) → Bool
are_options_beside plains names single words =
    are_known_beside plains names words && are_once plains single words

-- the value of the first option of a name
abbrev pub value_of : List ℕ → List (List ℕ) → Option (List ℕ)
value_of name words = find (is_option name) words >>= value_in name

-- the values of all options of a name, in their order
abbrev pub values_of : List ℕ → List (List ℕ) → List (List ℕ)
values_of name words = filter_map (value_in name) words
