-- The options of `drill`.
use Rattle.std.specs.Prelude.{ℕ, if◌then◌else◌, List, [], ◌∷◌, codes, Option, Some, None}
use Rattle.muni_dec.specs.Digits.{number_reading}
use Rattle.muni_desk.specs.Words.{◌>>=◌, are_options, value_of}
use Rattle.muni_desk.specs.declared.command.DeskCommand.TheVariants.{Drill}
use Rattle.muni_desk.specs.declared.command.CommandLine.{CommandLine}

-- all options, each once
abbrev pub options : List (List ℕ)
options = codes "--count=" ∷ codes "--seed=" ∷ codes "--workers=" ∷ []

-- a number in a range that an option gives, in 20 digits at most
abbrev pub number_of : List ℕ → (least greatest : ℕ) → List (List ℕ) → Option ℕ
number_of name least greatest words =
    value_of name words >>= λ text. number_reading 20 least greatest text

-- up to 1,000 trades, a seed below 2^64, and from 1 to 16 workers
abbrev pub command_line : List (List ℕ) → Option CommandLine
command_line words = do
  count ← number_of (codes "--count=") 0 1_000 words
  seed ← number_of (codes "--seed=") 0 18_446_744_073_709_551_615 words
  workers ← number_of (codes "--workers=") 1 16 words
  Some (record { command = Drill (record { seed = seed; count = count }); workers = workers })

-- what words ask for that are options of the command
abbrev pub drill_of : List (List ℕ) → Option CommandLine
drill_of words = if are_options options options words then command_line words else None
