-- What an export writes is the text of its commands.
use Rattle.std.proofs.Common.{◌≡◌, ◌+◌, ◌==◌, ℕ, true, false, List, [], ◌∷◌, ◌++◌, map, Option, Some, None, refl, sym, ap, ◌∙◌}
use Rattle.std.specs.Prelude.{if◌then◌else◌}
use Rattle.std.specs.List.{AllByRecursion, flat_map}
use Rattle.std.specs.Option.{unwrap_or}
use Rattle.std.specs.FinMap.{empty, entries}
use Rattle.std.proofs.lemmas.List.{map-append}
use Rattle.std.proofs.lemmas.List.Concat.{flat_map-append}
use Rattle.muni_terms.specs.declared.row.IssueRow.{IssueRow}
use Rattle.muni_msg.specs.declared.asked.Terms.{Terms}
use Rattle.muni_msg.specs.declared.command.Command.{Command}
use Rattle.muni_msg.specs.declared.command.Command.TheVariants.{AddIssue, Amend}
use Rattle.muni_msg.specs.declared.command.Key.{Key}
use Rattle.muni_msg.specs.declared.version.Act.{Act}
use Rattle.muni_msg.specs.declared.version.Act.TheVariants.{Entered, Corrected, Canceled}
use Rattle.muni_msg.specs.declared.version.Version.{Version}
use Rattle.muni_keep.specs.History.{History, versions}
use Rattle.muni_keep.specs.Tables.{Tables, line, trade_at}
use Rattle.muni_keep.specs.Trades.{Trades, own}
use Rattle.muni_keep.proofs.EntriesLemmas.{past-all}
use Rattle.muni_export.specs.Laws.{command_by, issue_command, rows_text}
use Rattle.muni_export.specs.Rows.{amendment_fields, fields_by, first_terms_fields, issue_fields, row}
use Rattle.muni_desk_export.specs.Issues.{all_issues, issue_text, terms_rows}
use Rattle.muni_desk_export.specs.Trades.{key_of, kept_versions, rows_of, version_rows, written_number}
use Rattle.muni_desk_export.specs.Walk.{desk_rows, desks_after}
use Rattle.muni_desk_export.proofs.RowLemmas.{desk-rows}
use Rattle.muni_desk_export.specs.Export.{desk_commands, fields_of, issue_commands, terms_commands, trade_commands, version_commands}
use Rattle.muni_desk_export.specs.AgainWanted.{ExportsAreOfCommands}
use Rattle.muni_desk_export.proofs.ExportLemmas.{trades-found}
use Rattle.muni_desk_export.proofs.MapLemmas.{IsFound, entries-found}

-- ---- the text of commands
abbrev pub text_of : List Command → List ℕ
text_of commands = rows_text (map fields_of commands)

pub text-join : (commands more : List Command) → text_of (commands ++ more) ≡ text_of commands ++ text_of more
text-join commands more = ap rows_text (map-append fields_of commands more) ∙ flat_map-append row (map fields_of commands) (map fields_of more)

fields-of : (act : Act) (key : Key) (number : ℕ) (terms : Terms) (issue_number : Option ℕ) → fields_by act key number terms.asked issue_number ≡ fields_of (command_by act key number terms issue_number)
fields-of Entered key number terms issue_number = refl
fields-of Corrected key number terms issue_number = refl
fields-of Canceled key number terms issue_number = refl

issue-fields : (number : ℕ) (issue : IssueRow) → issue_fields number issue ≡ fields_of (issue_command number issue)
issue-fields number issue =
    elim (number == 1) as (λ b. (if b then first_terms_fields issue else amendment_fields number issue) ≡ fields_of (if b then AddIssue issue else Amend number issue)) [
      | true ↦ refl
      | false ↦ refl
    ]

-- ---- that is what is written
pub terms-text : (number : ℕ) (list : List IssueRow) → terms_rows number list ≡ text_of (terms_commands number list)
terms-text number [] = refl
terms-text number (issue ∷ more) =
    let fields = issue-fields number issue in
    let rest = terms-text (number + 1) more in
    λ i. row (fields i) ++ rest i

issues-text : (es : List (List ℕ × History IssueRow)) → flat_map (issue_text (λ cusip. true)) es ≡ text_of (flat_map issue_commands es)
issues-text [] = refl
issues-text (e ∷ es) =
    let first = terms-text 1 (versions e.1) in
    let rest = issues-text es in
    (λ i. first i ++ rest i) ∙ sym (text-join (issue_commands e) (flat_map issue_commands es))

versions-text : (t : Tables) (key : Key) (number : ℕ) (list : List Version) → version_rows t key number list ≡ text_of (version_commands t key number list)
versions-text t key number [] = refl
versions-text t key number (version ∷ more) =
    let fields = fields-of version.act key number version.terms (written_number t version) in
    let rest = versions-text t key (number + 1) more in
    λ i. row (fields i) ++ rest i

trades-text : (t : Tables) (desk : List ℕ) (trades : List (List ℕ × History Version)) → AllByRecursion (λ trade. trade_at t (key_of desk trade.0) ≡ Some trade.1) trades
    → rows_of t desk (map line trades) ≡ text_of (flat_map (trade_commands t desk) trades)
trades-text t desk [] found = refl
trades-text t desk (trade ∷ more) found =
    let key = key_of desk trade.0 in
    let rows = versions-text t key 1 (versions trade.1) in
    let rest = trades-text t desk more found.1 in
    ap (λ kept. version_rows t key 1 (kept_versions kept) ++ rows_of t desk (map line more)) found.0
    ∙ (λ i. rows i ++ rest i)
    ∙ sym (text-join (trade_commands t desk trade) (flat_map (trade_commands t desk) more))

pub desk-text : (t : Tables) (desk : List ℕ × Trades Version) → IsFound t.desks desk → desk_rows t desk.0 ≡ text_of (desk_commands t desk)
desk-text t desk found =
    let is : own desk.0 t.desks ≡ desk.1 = ap (λ o. unwrap_or o empty) found in
    desk-rows t desk.0
    ∙ ap (λ (trades : Trades Version). rows_of t desk.0 (map line (entries trades))) is
    ∙ trades-text t desk.0 (entries desk.1) (trades-found t desk found)

desks-text : (t : Tables) (desks : List (List ℕ × Trades Version)) → AllByRecursion (IsFound t.desks) desks → flat_map (λ desk. desk_rows t desk.0) desks ≡ text_of (flat_map (desk_commands t) desks)
desks-text t [] found = refl
desks-text t (desk ∷ more) found =
    let first = desk-text t desk found.0 in
    let rest = desks-text t more found.1 in
    (λ i. first i ++ rest i) ∙ sym (text-join (desk_commands t desk) (flat_map (desk_commands t) more))

all-issues : (t : Tables) → all_issues t ≡ text_of (flat_map issue_commands (entries t.issues))
all-issues t = ap (flat_map (issue_text (λ cusip. true))) (past-all t.issues) ∙ issues-text (entries t.issues)

all-desks : (t : Tables) → desks_after t None ≡ text_of (flat_map (desk_commands t) (entries t.desks))
all-desks t = ap (flat_map (λ desk. desk_rows t desk.0)) (past-all t.desks) ∙ desks-text t (entries t.desks) (entries-found t.desks)

pub of-commands : ExportsAreOfCommands
of-commands t =
    let issues = all-issues t in
    let desks = all-desks t in
    (λ i. issues i ++ desks i) ∙ sym (text-join (flat_map issue_commands (entries t.issues)) (flat_map (desk_commands t) (entries t.desks)))
