-- The options of the commands over a store.
use Rattle.std.specs.Prelude.{ℕ, Bool, true, false, ◌&&◌, not, nat_le, if◌then◌else◌, List, length, [], ◌∷◌, codes, Option, Some, None, option_map}
use Rattle.std.specs.Char.{is_ascii_graphic, is_ascii_alphanumeric}
use Rattle.std.specs.List.{list_all}
use Rattle.std.specs.Result.{result_ok}
use Rattle.std.specs.Str.{bytes_eq}
use Rattle.arrayvec.specs.ArrayVec.{ArrayVec}
use Rattle.muni_dec.specs.Digits.{number_reading}
use Rattle.muni_msg.specs.NameReading.{name_reading}
use Rattle.muni_msg.specs.Names.{is_desk_letter}
use Rattle.muni_desk_export.specs.declared.wanted.Wanted.{Wanted}
use Rattle.muni_desk_export.specs.declared.wanted.Wanted.TheVariants as want
use Rattle.muni_figures.specs.declared.command.FiguresOptions.{FiguresOptions}
use Rattle.muni_desk.specs.QuoteOptions.{risk_word, workers_of}
use Rattle.muni_desk.specs.Words.{◌>>=◌, are_options, are_options_beside, has_word, value_of}
use Rattle.muni_desk.specs.declared.command.DeskCommand.TheVariants.{Import, Load, Confirm, Serve, Positions, Mark, Figures, Check, CheckAlone, Export}
use Rattle.muni_desk.specs.declared.command.CommandLine.{CommandLine}

-- all options, each at most once
abbrev pub import_options : List (List ℕ)
import_options = codes "--store=" ∷ codes "--workers=" ∷ codes "--positions=" ∷ codes "--desk-limit=" ∷ []

abbrev pub load_options : List (List ℕ)
load_options = codes "--store=" ∷ codes "--desk-limit=" ∷ []

abbrev pub confirm_options : List (List ℕ)
confirm_options = codes "--store=" ∷ codes "--desk=" ∷ codes "--ref=" ∷ []

abbrev pub serve_options : List (List ℕ)
serve_options =
    codes "--store=" ∷ codes "--port=" ∷ codes "--connections=" ∷ codes "--workers=" ∷ codes "--desk-limit=" ∷ []

-- a store and a desk
abbrev pub desk_options : List (List ℕ)
desk_options = codes "--store=" ∷ codes "--desk=" ∷ []

-- a store, how many workers may compute, and the place of the first row
abbrev pub figures_options : List (List ℕ)
figures_options = codes "--store=" ∷ codes "--workers=" ∷ codes "--from=" ∷ []

-- a store alone
abbrev pub store_options : List (List ℕ)
store_options = codes "--store=" ∷ []

-- the words that have no value: the confirmations of all trades are wanted, or the issues alone, or the names of
-- the columns
abbrev pub all_word : List ℕ
all_word = codes "--all"

abbrev pub issues_word : List ℕ
issues_word = codes "--issues"

abbrev pub header_word : List ℕ
header_word = codes "--header"

-- those of `figures`
abbrev pub figures_words : List (List ℕ)
figures_words = header_word ∷ risk_word ∷ []

-- a text names a store: at most 200 bytes, which print and are no blank, and not the word before the name of a journal
-- alone
abbrev pub is_store_name : List ℕ → Bool
is_store_name text =
    nat_le (length text) 200 && (list_all is_ascii_graphic text && not (bytes_eq text (codes "journal:")))

abbrev pub store_reading : List ℕ → Option (ArrayVec ℕ)
store_reading text = if is_store_name text then Some (record { items = text }) else None

abbrev pub store_of : List (List ℕ) → Option (ArrayVec ℕ)
store_of words = value_of (codes "--store=") words >>= λ text. store_reading text

-- the desk and the reference of a trade
abbrev pub desk_of : List (List ℕ) → Option (List ℕ)
desk_of words = value_of (codes "--desk=") words >>= λ text. result_ok (name_reading is_desk_letter 16 text)

abbrev pub reference_of : List (List ℕ) → Option (List ℕ)
reference_of words = value_of (codes "--ref=") words >>= λ text. result_ok (name_reading is_ascii_alphanumeric 20 text)

-- the port, and how many connections are served
abbrev pub port_of : List (List ℕ) → Option ℕ
port_of words = value_of (codes "--port=") words >>= λ text. number_reading 20 1 65_535 text

abbrev pub connections_of : List (List ℕ) → Option ℕ
connections_of words = value_of (codes "--connections=") words >>= λ text. number_reading 20 1 1_000_000 text

-- the desk that an option names, if it is there
abbrev pub maybe_desk : Option (List ℕ) → Option (Option (List ℕ))
maybe_desk (Some text) = option_map Some (result_ok (name_reading is_desk_letter 16 text))
maybe_desk None = Some None

abbrev pub maybe_desk_of : (option : List ℕ) → List (List ℕ) → Option (Option (List ℕ))
maybe_desk_of option words = maybe_desk (value_of option words)

-- how many trades a desk may have: up to 100,000,000, and 100,000 if no number is given
abbrev pub limit_in : Option (List ℕ) → Option ℕ
limit_in (Some text) = number_reading 20 1 100_000_000 text
limit_in None = Some 100_000

abbrev pub limit_of : List (List ℕ) → Option ℕ
limit_of words = limit_in (value_of (codes "--desk-limit=") words)

-- an import into a store, with the positions of a desk if they are asked for, how many workers may compute,
-- and how many trades a desk may have
abbrev pub import_line : List (List ℕ) → Option CommandLine
import_line words = do
  store ← store_of words
  listed ← maybe_desk_of (codes "--positions=") words
  workers ← workers_of words
  limit ← limit_of words
  Some (record { command = Import store listed limit; workers = workers })

-- what words ask for that are options of the command
abbrev pub import_of : List (List ℕ) → Option CommandLine
import_of words =
    if are_options import_options import_options words then import_line words else None

-- a load into a store
abbrev pub load_line : List (List ℕ) → Option CommandLine
load_line words = do
  store ← store_of words
  limit ← limit_of words
  Some (record { command = Load store limit; workers = 1 })

abbrev pub load_of : List (List ℕ) → Option CommandLine
load_of words =
    if are_options load_options load_options words then load_line words else None

-- the trade of a desk under a reference, in a store
abbrev pub confirm_line : List (List ℕ) → Option CommandLine
confirm_line words = do
  store ← store_of words
  desk ← desk_of words
  reference ← reference_of words
  Some (record { command = Confirm store (record { desk = desk; reference = reference }); workers = 1 })

abbrev pub confirm_one_of : List (List ℕ) → Option CommandLine
confirm_one_of words =
    if are_options confirm_options confirm_options words then confirm_line words else None

-- all trades of a desk
abbrev pub confirm_all_line : List (List ℕ) → Option CommandLine
confirm_all_line words = do
  store ← store_of words
  desk ← desk_of words
  Some (record { command = Export store (want.Confirmations desk); workers = 1 })

abbrev pub confirm_all_of : List (List ℕ) → Option CommandLine
confirm_all_of words =
    if are_options_beside (all_word ∷ []) desk_options desk_options words then confirm_all_line words else None

abbrev pub confirm_of : List (List ℕ) → Option CommandLine
confirm_of words = if has_word all_word words then confirm_all_of words else confirm_one_of words

-- connections over a store that come in by a port
abbrev pub serve_line : List (List ℕ) → Option CommandLine
serve_line words = do
  store ← store_of words
  port ← port_of words
  connections ← connections_of words
  workers ← workers_of words
  limit ← limit_of words
  Some (record { command = Serve store port connections limit; workers = workers })

abbrev pub serve_of : List (List ℕ) → Option CommandLine
serve_of words =
    if are_options serve_options serve_options words then serve_line words else None

-- the positions of a desk over a store
abbrev pub positions_line : List (List ℕ) → Option CommandLine
positions_line words = do
  store ← store_of words
  desk ← desk_of words
  Some (record { command = Positions store desk; workers = 1 })

abbrev pub positions_of : List (List ℕ) → Option CommandLine
positions_of words =
    if are_options desk_options desk_options words then positions_line words else None

-- the marks of a portfolio over a store
abbrev pub mark_line : List (List ℕ) → Option CommandLine
mark_line words = do
  store ← store_of words
  Some (record { command = Mark store; workers = 1 })

abbrev pub mark_of : List (List ℕ) → Option CommandLine
mark_of words =
    if are_options store_options store_options words then mark_line words else None

-- the place of the first row: below 2^63, and 1 if no number is given
abbrev pub first_in : Option (List ℕ) → Option ℕ
first_in (Some text) = number_reading 20 1 9_223_372_036_854_775_807 text
first_in None = Some 1

abbrev pub first_of : List (List ℕ) → Option ℕ
first_of words = first_in (value_of (codes "--from=") words)

-- how figures are written
abbrev pub figures_form : List (List ℕ) → ℕ → FiguresOptions
figures_form words first =
    record { first = first; has_header = has_word header_word words; has_risk = has_word risk_word words }

-- the figures of rows, by the issues of a store
abbrev pub figures_line : List (List ℕ) → Option CommandLine
figures_line words = do
  store ← store_of words
  first ← first_of words
  workers ← workers_of words
  Some (record { command = Figures store (figures_form words first); workers = workers })

abbrev pub figures_of : List (List ℕ) → Option CommandLine
figures_of words =
    if are_options_beside figures_words figures_options figures_options words then figures_line words else None

-- a check of figures over a store, and over the trades of a desk if one is named
abbrev pub check_line : List (List ℕ) → Option CommandLine
check_line words = do
  store ← store_of words
  desk ← maybe_desk_of (codes "--desk=") words
  Some (record { command = Check store desk; workers = 1 })

-- without words, a check by the terms that the rows state
abbrev pub check_of : List (List ℕ) → Option CommandLine
check_of [] = Some (record { command = CheckAlone; workers = 1 })
check_of (word ∷ words) =
    if are_options desk_options desk_options (word ∷ words) then check_line (word ∷ words) else None

-- what is wanted: a desk, or the issues alone, or everything if neither is given
abbrev pub wanted_in : Bool → Option (List ℕ) → Option Wanted
wanted_in true (Some text) = None
wanted_in true None = Some want.Issues
wanted_in false (Some text) = option_map want.Desk (result_ok (name_reading is_desk_letter 16 text))
wanted_in false None = Some want.Everything

abbrev pub wanted_of : List (List ℕ) → Option Wanted
wanted_of words = wanted_in (has_word issues_word words) (value_of (codes "--desk=") words)

-- an export of a store
abbrev pub export_line : List (List ℕ) → Option CommandLine
export_line words = do
  store ← store_of words
  wanted ← wanted_of words
  Some (record { command = Export store wanted; workers = 1 })

abbrev pub export_of : List (List ℕ) → Option CommandLine
export_of words =
    if are_options_beside (issues_word ∷ []) desk_options desk_options words then export_line words else None

-- the list of a desk's trades
abbrev pub list_line : List (List ℕ) → Option CommandLine
list_line words = do
  store ← store_of words
  desk ← desk_of words
  Some (record { command = Export store (want.List desk); workers = 1 })

abbrev pub list_of : List (List ℕ) → Option CommandLine
list_of words =
    if are_options desk_options desk_options words then list_line words else None

-- how much a store keeps, as far as it can be read
abbrev pub check_store_line : List (List ℕ) → Option CommandLine
check_store_line words = do
  store ← store_of words
  Some (record { command = Export store want.Counts; workers = 1 })

abbrev pub check_store_of : List (List ℕ) → Option CommandLine
check_store_of words =
    if are_options store_options store_options words then check_store_line words else None
