-- What one option says, in the rule's own words.
use Rattle.std.specs.Prelude.{◌≡◌, ◌≢◌, ◌<◌, ◌⊎◌, ℕ, Bool, true, false, List, [], ◌++◌, length, All, Contains}
use Rattle.muni_desk.specs.Words.{word}

-- a word is the option of a name: the name, and after it a value that is not empty
pub record IsOption (name text : List ℕ) : Type 0 where
  pub value : List ℕ
  pub joined : text ≡ name ++ value
  pub not_empty : value ≢ []

-- the option of one of these names
pub record IsKnown (names : List (List ℕ)) (text : List ℕ) : Type 0 where
  pub name : List ℕ
  pub listed : Contains names name
  pub is_its : IsOption name text

-- one of these words, which have no value, or the option of one of these names
abbrev pub IsKnownBeside : (plains names : List (List ℕ)) → List ℕ → Type 0
IsKnownBeside plains names text = Contains plains text ⊎ IsKnown names text

-- a word is at one place at most
abbrev pub IsOnceAtMost : List ℕ → List (List ℕ) → Type 0
IsOnceAtMost plain words =
    (i j : ℕ) → i < length words → j < length words → word words i ≡ plain → word words j ≡ plain → i ≡ j

-- and so is each of these
abbrev pub AreOnceAtMost : List (List ℕ) → List (List ℕ) → Type 0
AreOnceAtMost plains words = All (λ plain. IsOnceAtMost plain words) plains

-- it is among words, or is not
abbrev pub Has : List ℕ → List (List ℕ) → Bool → Type 0
Has plain words true = Contains words plain
Has plain words false = ¬ (Contains words plain)

-- the option of a name is at one place at most
abbrev pub IsSingle : List (List ℕ) → List ℕ → Type 0
IsSingle words name =
    (i j : ℕ) → i < length words → j < length words
    → IsOption name (word words i) → IsOption name (word words j) → i ≡ j

-- an option with this value is among words
pub record Says (words : List (List ℕ)) (name value : List ℕ) : Type 0 where
  pub among : Contains words (name ++ value)
  pub not_empty : value ≢ []

-- an option is among words, and its value is read so
pub record Reads (words : List (List ℕ)) (name : List ℕ) (IsRead : List ℕ → Type 0)
    : Type 0 where
  pub text : List ℕ
  pub stands : Says words name text
  pub is_read : IsRead text

-- an option is nowhere among words
abbrev pub Lacks : List (List ℕ) → List ℕ → Type 0
Lacks words name = (value : List ℕ) → ¬ (Says words name value)

-- if the option is there, its value is read so, and else this holds
abbrev pub ReadsOr : List (List ℕ) → List ℕ → (List ℕ → Type 0) → Type 0 → Type 0
ReadsOr words name IsRead IsElse = Reads words name IsRead ⊎ (Lacks words name × IsElse)
