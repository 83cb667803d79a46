-- The commands of an issue: its terms are brought one after another.
use Rattle.std.proofs.Common.{◌≡◌, ◌≤◌, ◌+◌, ◌==◌, ℕ, false, List, [], ◌∷◌, length, Some, sym, subst, arith}
use Rattle.std.specs.Prelude.{if◌then◌else◌}
use Rattle.std.specs.List.{AllByRecursion}
use Rattle.std.proofs.lemmas.Bool.Decides.{nat_tests}
use Rattle.std.proofs.lemmas.List.Elements.{recursion_from_All}
use Rattle.muni_terms.specs.declared.row.IssueRow.{IssueRow}
use Rattle.muni_msg.specs.declared.command.Command.TheVariants.{AddIssue, Amend}
use Rattle.muni_keep.specs.History.{History, versions}
use Rattle.muni_keep.specs.Tables.{Tables, issue_history, issue_numbered}
use Rattle.muni_book_step.specs.Sound.{AreSoundTerms, IsSoundIssue}
use Rattle.muni_book_step.specs.Step.{Rules}
use Rattle.muni_book.specs.Once.{Keeps}
use Rattle.muni_book.proofs.PutLemmas.{length-behind}
use Rattle.muni_export.specs.Laws.{issue_command}
use Rattle.muni_desk_export.specs.Export.{terms_commands}
use Rattle.muni_desk_export.proofs.RunLemmas.{IsRun, run-none, run-then}
use Rattle.muni_desk_export.proofs.StepLemmas.{amend-run, first-run}
use Rattle.muni_desk_export.proofs.AgainVersionLemmas.{AreKept, all-kept}

-- tables have terms of an issue under this number
abbrev Has : Tables → List ℕ → ℕ → IssueRow → Type 0
Has t cusip number issue = issue_numbered t cusip number ≡ Some issue

later : (number : ℕ) → 1 ≤ number → (number + 1 == 1) ≡ false
later number some = grind (arith, nat_tests)

-- ---- one command
first-command : (P : Rules) (all t : Tables) (cusip : List ℕ) (issue : IssueRow) → IsSoundIssue cusip issue → Has all cusip 1 issue → Keeps t all
    → IsRun P all t (issue_command 1 issue ∷ []) (λ new. Has new cusip 1 issue)
first-command P all t cusip issue sound there within =
    subst (λ c. IsRun P all t (AddIssue issue ∷ []) (λ new. Has new c 1 issue)) sound.own_cusip
    (first-run P all t issue sound.passed (subst (λ c. Has all c 1 issue) (sym sound.own_cusip) there) within)

later-command : (P : Rules) (all t : Tables) (cusip : List ℕ) (number : ℕ) (before issue : IssueRow) → IsSoundIssue cusip issue → 1 ≤ number → number + 1 ≤ 99 → Has t cusip number before
    → Has all cusip (number + 1) issue → Keeps t all → IsRun P all t (issue_command (number + 1) issue ∷ []) (λ new. Has new cusip (number + 1) issue)
later-command P all t cusip number before issue sound some few last there within =
    let own = sym sound.own_cusip in
    let run = amend-run P all t number before issue sound.passed few (subst (λ c. Has t c number before) own last) (subst (λ c. Has all c (number + 1) issue) own there) within in
    subst (λ b. IsRun P all t ((if b then AddIssue issue else Amend (number + 1) issue) ∷ []) (λ new. Has new cusip (number + 1) issue)) (sym (later number some))
    (subst (λ c. IsRun P all t (Amend (number + 1) issue ∷ []) (λ new. Has new c (number + 1) issue)) sound.own_cusip run)

-- ---- those of terms after another
-- after the first command of a list those of the others
cons-run : (P : Rules) (all t : Tables) (cusip : List ℕ) (number : ℕ) (issue : IssueRow) (more : List IssueRow)
    → (run : IsRun P all t (issue_command number issue ∷ []) (λ new. Has new cusip number issue))
    → IsRun P all run.new (terms_commands (number + 1) more) (λ new. AreKept (issue_numbered new cusip) (number + 1) more)
    → IsRun P all t (terms_commands number (issue ∷ more)) (λ new. AreKept (issue_numbered new cusip) number (issue ∷ more))
cons-run P all t cusip number issue more run later =
    run-then P all t (issue_command number issue ∷ []) (terms_commands (number + 1) more)
    (λ new. Has new cusip number issue) (λ new. AreKept (issue_numbered new cusip) (number + 1) more) (λ new. AreKept (issue_numbered new cusip) number (issue ∷ more))
    run later (λ new keeps kept. (keeps.issues cusip number issue run.has, kept))

later-run : (P : Rules) (all t : Tables) (cusip : List ℕ) (number : ℕ) (before : IssueRow) (list : List IssueRow) → AllByRecursion (IsSoundIssue cusip) list → 1 ≤ number → number + length list ≤ 99
    → Has t cusip number before → AreKept (issue_numbered all cusip) (number + 1) list → Keeps t all → IsRun P all t (terms_commands (number + 1) list) (λ new. AreKept (issue_numbered new cusip) (number + 1) list)
later-run P all t cusip number before [] sound some few last kept within =
    run-none P all t (λ new. AreKept (issue_numbered new cusip) (number + 1) []) within tt
later-run P all t cusip number before (issue ∷ more) sound some few last kept within =
    let run = later-command P all t cusip number before issue sound.0 some (omega arith) last kept.0 within in
    cons-run P all t cusip (number + 1) issue more run
    (later-run P all run.new cusip (number + 1) issue more sound.1 (omega arith) (omega arith) run.has kept.1 run.within)

terms-run : (P : Rules) (all t : Tables) (cusip : List ℕ) (list : List IssueRow) → AllByRecursion (IsSoundIssue cusip) list → length list ≤ 99
    → AreKept (issue_numbered all cusip) 1 list → Keeps t all → IsRun P all t (terms_commands 1 list) (λ new. AreKept (issue_numbered new cusip) 1 list)
terms-run P all t cusip [] sound few kept within = run-none P all t (λ new. AreKept (issue_numbered new cusip) 1 []) within tt
terms-run P all t cusip (issue ∷ more) sound few kept within =
    let run = first-command P all t cusip issue sound.0 kept.0 within in
    cons-run P all t cusip 1 issue more run (later-run P all run.new cusip 1 issue more sound.1 (omega arith) (omega arith) run.has kept.1 run.within)

-- an issue that the exported tables keep is brought with all its terms
pub issue-run : (P : Rules) (all t : Tables) (cusip : List ℕ) (terms : History IssueRow) → AreSoundTerms cusip terms → issue_history all cusip ≡ Some terms → Keeps t all
    → IsRun P all t (terms_commands 1 (versions terms)) (λ new. AreKept (issue_numbered new cusip) 1 (versions terms))
issue-run P all t cusip terms sound is within =
    let counted = length-behind terms.earlier terms.last in
    let few = sound.few in
    terms-run P all t cusip (versions terms) (recursion_from_All (IsSoundIssue cusip) (versions terms) sound.each) (omega arith)
    (all-kept (issue_history all cusip) terms is) within
