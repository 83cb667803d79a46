-- What the words after the names of the commands over a store say, in the rule's own words.
use Rattle.std.specs.Prelude.{◌≡◌, ◌≤◌, ℕ, true, false, List, [], ◌∷◌, length, All, codes, Option, Some, None, Ok}
use Rattle.std.specs.Char.{is_ascii_alphanumeric}
use Rattle.std.specs.Str.{bytes_eq}
use Rattle.arrayvec.specs.ArrayVec.{ArrayVec}
use Rattle.muni_dec.specs.Digits.{number_reading}
use Rattle.muni_msg.specs.NameReading.{name_reading}
use Rattle.muni_msg.specs.Names.{is_desk_letter}
use Rattle.muni_msg.specs.declared.command.Key.{Key}
use Rattle.muni_desk_export.specs.declared.wanted.Wanted.{Wanted}
use Rattle.muni_desk_export.specs.declared.wanted.Wanted.TheVariants as want
use Rattle.muni_figures.specs.declared.command.FiguresOptions.{FiguresOptions}
use Rattle.muni_desk.specs.StoreOptions.{import_options, load_options, confirm_options, serve_options, desk_options, figures_options, store_options}
use Rattle.muni_desk.specs.OptionLaws.{IsKnown, IsKnownBeside, AreOnceAtMost, Has, IsSingle, Says, Reads, Lacks, ReadsOr}

-- the name of a store: at most 200 bytes, each above a blank and at most 126, and not the word before the name of a
-- journal alone
pub record SaysStore (words : List (List ℕ)) (store : ArrayVec ℕ) : Type 0 where
  pub stands : Says words (codes "--store=") store.items
  pub few : length store.items ≤ 200
  pub bytes : All (λ b. (33 ≤ b) × (b ≤ 126)) store.items
  pub named : bytes_eq store.items (codes "journal:") ≡ false

-- the desk that an option names, if it is there
abbrev pub SaysMaybeDesk : List (List ℕ) → (option : List ℕ) → Option (List ℕ) → Type 0
SaysMaybeDesk words option None = Lacks words option
SaysMaybeDesk words option (Some desk) =
    Reads words option (λ text. name_reading is_desk_letter 16 text ≡ Ok desk)

-- how many trades a desk may have: from 1 to 100,000,000, and 100,000 if no number is given
abbrev pub SaysLimit : List (List ℕ) → ℕ → Type 0
SaysLimit words limit =
    ReadsOr words (codes "--desk-limit=") (λ text. number_reading 20 1 100_000_000 text ≡ Some limit)
    (limit ≡ 100_000)

-- words after `import`: a store, the desk whose positions are asked for, if any, how many trades a desk may
-- have, and from 1 to 16 workers, and one if no number is given
pub record IsImport (words : List (List ℕ)) (store : ArrayVec ℕ) (listed : Option (List ℕ)) (limit workers : ℕ) : Type 0 where
  pub known : All (IsKnown import_options) words
  pub single : All (IsSingle words) import_options
  pub named : SaysStore words store
  pub positions : SaysMaybeDesk words (codes "--positions=") listed
  pub room : SaysLimit words limit
  pub at_once :
      ReadsOr words (codes "--workers=") (λ text. number_reading 20 1 16 text ≡ Some workers)
      (workers ≡ 1)

-- words after `confirm` for one trade: a store, a desk and the reference of the trade
pub record IsConfirm (words : List (List ℕ)) (store : ArrayVec ℕ) (key : Key) : Type 0 where
  pub known : All (IsKnown confirm_options) words
  pub single : All (IsSingle words) confirm_options
  pub named : SaysStore words store
  pub desk :
      Reads words (codes "--desk=") (λ text. name_reading is_desk_letter 16 text ≡ Ok key.desk)
  pub reference :
      Reads words (codes "--ref=")
      (λ text. name_reading is_ascii_alphanumeric 20 text ≡ Ok key.reference)

-- words after `confirm` for all trades of a desk: a store, the desk and the word `--all`
pub record IsConfirmAll (words : List (List ℕ)) (store : ArrayVec ℕ) (desk : List ℕ) : Type 0 where
  pub known : All (IsKnownBeside (codes "--all" ∷ []) desk_options) words
  pub once : AreOnceAtMost (codes "--all" ∷ []) words
  pub single : All (IsSingle words) desk_options
  pub has_all : Has (codes "--all") words true
  pub named : SaysStore words store
  pub desk_named :
      Reads words (codes "--desk=") (λ text. name_reading is_desk_letter 16 text ≡ Ok desk)

-- words after `load`: a store, and how many trades a desk may have
pub record IsLoad (words : List (List ℕ)) (store : ArrayVec ℕ) (limit : ℕ) : Type 0 where
  pub known : All (IsKnown load_options) words
  pub single : All (IsSingle words) load_options
  pub named : SaysStore words store
  pub room : SaysLimit words limit

-- words after `serve`: a store, a port from 1 to 65,535, from 1 to 1,000,000 connections, how many trades a
-- desk may have, and from 1 to 16 workers, and one if no number is given
pub record IsServe (words : List (List ℕ)) (store : ArrayVec ℕ) (port connections limit workers : ℕ) : Type 0 where
  pub known : All (IsKnown serve_options) words
  pub single : All (IsSingle words) serve_options
  pub named : SaysStore words store
  pub bound :
      Reads words (codes "--port=") (λ text. number_reading 20 1 65_535 text ≡ Some port)
  pub most :
      Reads words (codes "--connections=")
      (λ text. number_reading 20 1 1_000_000 text ≡ Some connections)
  pub room : SaysLimit words limit
  pub at_once :
      ReadsOr words (codes "--workers=") (λ text. number_reading 20 1 16 text ≡ Some workers)
      (workers ≡ 1)

-- words after `positions`: a store and a desk
pub record IsPositions (words : List (List ℕ)) (store : ArrayVec ℕ) (desk : List ℕ) : Type 0 where
  pub known : All (IsKnown desk_options) words
  pub single : All (IsSingle words) desk_options
  pub named : SaysStore words store
  pub desk_named :
      Reads words (codes "--desk=") (λ text. name_reading is_desk_letter 16 text ≡ Ok desk)

-- words after `mark` or `check-store`: a store
pub record IsStoreAlone (words : List (List ℕ)) (store : ArrayVec ℕ) : Type 0 where
  pub known : All (IsKnown store_options) words
  pub single : All (IsSingle words) store_options
  pub named : SaysStore words store

-- the place of the first row: from 1 to 2^63 - 1, and 1 if no number is given
abbrev pub SaysFirst : List (List ℕ) → ℕ → Type 0
SaysFirst words first =
    ReadsOr words (codes "--from=") (λ text. number_reading 20 1 9_223_372_036_854_775_807 text ≡ Some first)
    (first ≡ 1)

-- words after `figures`: a store, the place of the first row, and from 1 to 16 workers, and one if no number is
-- given; the names of the columns come first if `--header` is among them, and each row has sensitivities if
-- `--risk` is
pub record IsFigures (words : List (List ℕ)) (store : ArrayVec ℕ) (options : FiguresOptions) (workers : ℕ) : Type 0 where
  pub known : All (IsKnownBeside (codes "--header" ∷ codes "--risk" ∷ []) figures_options) words
  pub once : AreOnceAtMost (codes "--header" ∷ codes "--risk" ∷ []) words
  pub single : All (IsSingle words) figures_options
  pub named : SaysStore words store
  pub placed : SaysFirst words options.first
  pub headed : Has (codes "--header") words options.has_header
  pub risked : Has (codes "--risk") words options.has_risk
  pub at_once :
      ReadsOr words (codes "--workers=") (λ text. number_reading 20 1 16 text ≡ Some workers)
      (workers ≡ 1)

-- words after `check` over a store: the store, and the desk whose trades rows name, if any
pub record IsCheck (words : List (List ℕ)) (store : ArrayVec ℕ) (desk : Option (List ℕ)) : Type 0 where
  pub known : All (IsKnown desk_options) words
  pub single : All (IsSingle words) desk_options
  pub named : SaysStore words store
  pub of_desk : SaysMaybeDesk words (codes "--desk=") desk

-- what is wanted of an export: a desk, or the issues alone by the word `--issues`, or everything by neither
abbrev pub SaysWanted : List (List ℕ) → Wanted → Type 0
SaysWanted words want.Everything = Has (codes "--issues") words false × Lacks words (codes "--desk=")
SaysWanted words want.Issues = Has (codes "--issues") words true × Lacks words (codes "--desk=")
SaysWanted words (want.Desk desk) =
    Has (codes "--issues") words false
    × Reads words (codes "--desk=") (λ text. name_reading is_desk_letter 16 text ≡ Ok desk)
SaysWanted words other = ⊥

-- words after `export`: a store, and what is wanted of it
pub record IsExport (words : List (List ℕ)) (store : ArrayVec ℕ) (wanted : Wanted) : Type 0 where
  pub known : All (IsKnownBeside (codes "--issues" ∷ []) desk_options) words
  pub once : AreOnceAtMost (codes "--issues" ∷ []) words
  pub single : All (IsSingle words) desk_options
  pub named : SaysStore words store
  pub says : SaysWanted words wanted

-- words after `list`: a store and a desk
pub record IsList (words : List (List ℕ)) (store : ArrayVec ℕ) (desk : List ℕ) : Type 0 where
  pub known : All (IsKnown desk_options) words
  pub single : All (IsSingle words) desk_options
  pub named : SaysStore words store
  pub desk_named :
      Reads words (codes "--desk=") (λ text. name_reading is_desk_letter 16 text ≡ Ok desk)
