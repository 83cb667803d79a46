-- The next interest date that words name can be one.
use Rattle.std.proofs.Common.{◌≡◌, nat_le, true, ℕ, List, [], ◌∷◌, Some, refl, arith}
use Rattle.std.specs.Prelude.{⊤}
use Rattle.std.proofs.lemmas.Bool.Decides.{nat_tests}
use Rattle.muni_days.specs.Day.{civil}
use Rattle.muni_desk.specs.Command.{command_of}
use Rattle.muni_desk.specs.NextInterestDate.{is_next}
use Rattle.muni_desk.specs.WordLaws.{IsSaid}
use Rattle.muni_desk.specs.declared.command.DeskCommand.{DeskCommand}
use Rattle.muni_desk.specs.declared.command.DeskCommand.TheVariants.{QuoteOne}
use Rattle.muni_desk.specs.declared.command.CommandLine.{CommandLine}
use Rattle.muni_desk.proofs.LineLawLemmas.{read-line}

abbrev pub HasNextDate : DeskCommand → Type 0
HasNextDate (QuoteOne request) = is_next (civil request.next) ≡ true
HasNextDate command = ⊤

said-dated : (words : List (List ℕ)) (command : DeskCommand) (workers : ℕ) → IsSaid words command workers → HasNextDate command
said-dated [] command workers said = absurd said
said-dated (name ∷ words) (QuoteOne request) workers said =
    let day : nat_le request.next.day 28 ≡ true = grind (arith, nat_tests, said.1.day_at_most) in
    let year : nat_le 1902 request.next.year ≡ true = grind (arith, nat_tests, said.1.year_at_least) in
    rw (day, year) refl
said-dated (name ∷ words) command workers said = tt

pub read-dated : (words : List (List ℕ)) (line : CommandLine) → command_of words ≡ Some line → HasNextDate line.command
read-dated words line read = said-dated words line.command line.workers (read-line words line read)
