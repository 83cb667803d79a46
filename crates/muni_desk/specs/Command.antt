-- What words ask the desk for.
use Rattle.std.specs.Prelude.{◌||◌, Bool, false, if◌then◌else◌, List, ℕ, [], ◌∷◌, codes, Option, Some, None, option_and_then}
use Rattle.std.specs.Str.{bytes_eq}
use Rattle.muni_desk.specs.DrillOptions.{drill_of}
use Rattle.muni_desk.specs.QuoteOne.{quote_one_of}
use Rattle.muni_desk.specs.Help.{help_of}
use Rattle.muni_desk.specs.QuoteOptions.{quote_of}
use Rattle.muni_desk.specs.StoreOptions.{import_of, load_of, confirm_of, serve_of, positions_of, mark_of, export_of, list_of, check_store_of, figures_of, check_of}
use Rattle.muni_desk.specs.declared.command.CommandLine.{CommandLine}
use Rattle.muni_desk.specs.declared.command.DeskCommand.{DeskCommand}
use Rattle.muni_desk.specs.declared.command.DeskCommand.TheVariants as asks
use Rattle.muni_desk.specs.declared.one_period.QuoteOneRequest.{QuoteOneRequest}

-- the command of that name, and of the words after it, that only writes what a store keeps
unfoldable pub of_kept_of : List ℕ → List (List ℕ) → Option CommandLine
of_kept_of name words =
    if bytes_eq name (codes "confirm") then confirm_of words
    else (if bytes_eq name (codes "positions") then positions_of words
    else (if bytes_eq name (codes "export") then export_of words
    else (if bytes_eq name (codes "list") then list_of words
    else (if bytes_eq name (codes "check-store") then check_store_of words else None))))

-- or any over a store
abbrev pub over_store_of : List ℕ → List (List ℕ) → Option CommandLine
over_store_of name words =
    if bytes_eq name (codes "import") then import_of words
    else (if bytes_eq name (codes "load") then load_of words
    else (if bytes_eq name (codes "serve") then serve_of words
    else (if bytes_eq name (codes "mark") then mark_of words
    else (if bytes_eq name (codes "figures") then figures_of words
    else (if bytes_eq name (codes "check") then check_of words else of_kept_of name words)))))

-- the command of words: the first is its name, and those after it say what it is asked for
abbrev pub command_of : List (List ℕ) → Option CommandLine
command_of [] = None
command_of (name ∷ words) =
    if bytes_eq name (codes "quote-one") then quote_one_of words
    else (if bytes_eq name (codes "quote") then quote_of words
    else (if bytes_eq name (codes "drill") then drill_of words
    else (if bytes_eq name (codes "help") then help_of words else over_store_of name words)))

-- what a command asks of `quote-one`, if it is that command
abbrev pub quote_one_in : DeskCommand → Option QuoteOneRequest
quote_one_in (asks.QuoteOne request) = Some request
quote_one_in command = None

-- what words ask of it
abbrev pub quote_one_asked : List (List ℕ) → Option QuoteOneRequest
quote_one_asked words = option_and_then (λ line. quote_one_in line.command) (command_of words)

-- the words ask for a check of a store
abbrev pub is_check : List (List ℕ) → Bool
is_check [] = false
is_check (name ∷ words) = bytes_eq name (codes "check-store")

-- the words ask for a command that only reads what a store keeps
abbrev pub is_reader : List ℕ → Bool
is_reader name =
    bytes_eq name (codes "confirm") || bytes_eq name (codes "positions") || bytes_eq name (codes "list")
    || bytes_eq name (codes "export") || bytes_eq name (codes "mark") || bytes_eq name (codes "figures")
    || bytes_eq name (codes "check") || bytes_eq name (codes "check-store")

abbrev pub only_reads : List (List ℕ) → Bool
only_reads [] = false
only_reads (name ∷ words) = is_reader name
