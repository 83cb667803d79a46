-- The text of an export, read as its commands.
use Rattle.std.proofs.Common.{◌≡◌, true, List, [], ◌∷◌, map, Ok, refl, ◌∙◌}
use Rattle.std.specs.List.{AllByRecursion}
use Rattle.csv.specs.Records.{field_at}
use Rattle.muni_msg.specs.declared.command.Command.{Command}
use Rattle.muni_msg.specs.declared.command.Command.TheVariants.{AddIssue, Amend, Enter, Correct, Cancel, Confirm, Quote, List as ListTrades}
use Rattle.muni_import.specs.Row.{Row, row_of}
use Rattle.muni_export.specs.Laws.{RowsAreReadAgain, begins_with_letter}
use Rattle.muni_desk_export.specs.Export.{export_commands, fields_of}
use Rattle.muni_desk_export.specs.Laws.{ExportsAreReadAgain, IsReadAgain}

-- its first row begins with a name
named : (commands : List Command) → AllByRecursion IsReadAgain commands → begins_with_letter (map fields_of commands) ≡ true
unfolding row_of field_at
named [] again = refl
named (AddIssue issue ∷ commands) again = refl
named (Amend number issue ∷ commands) again = refl
named (Enter key terms issue_number ∷ commands) again = refl
named (Correct key number terms issue_number ∷ commands) again = refl
named (Cancel key number ∷ commands) again = refl
named (Confirm key ∷ commands) again = absurd (let never = again.0 in cc)
named (Quote asked shown ∷ commands) again = absurd (let never = again.0 in cc)
named (ListTrades desk from ∷ commands) again = absurd (let never = again.0 in cc)

rows-again : (commands : List Command) → AllByRecursion IsReadAgain commands → ◌≡◌ {A = List Row} (map row_of (map fields_of commands)) (map (λ command. Ok command) commands)
rows-again [] again = refl
rows-again (c ∷ commands) again =
    let rest = rows-again commands again.1 in
    λ i. again.0 i ∷ rest i

pub read-again : RowsAreReadAgain → ExportsAreReadAgain
read-again rows tables again =
    let commands = export_commands tables in
    rows (map fields_of commands) (named commands again) ∙ rows-again commands again
