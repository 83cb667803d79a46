-- The commands of a trade: its versions are brought one after another.
use Rattle.std.proofs.Common.{◌≡◌, inl, inr, ◌+◌, ℕ, false, List, [], ◌∷◌, Some, sym, ap, subst}
use Rattle.muni_msg.specs.declared.command.Command.{Command}
use Rattle.muni_msg.specs.declared.command.Key.{Key}
use Rattle.muni_msg.specs.declared.version.Version.{Version}
use Rattle.muni_keep.specs.History.{History, versions}
use Rattle.muni_keep.specs.Tables.{Tables, trade_at, version_at}
use Rattle.muni_book_step.specs.Plan.{is_canceled}
use Rattle.muni_book_step.specs.Sound.{AreFollowing, AreVersions, Follows}
use Rattle.muni_book_step.specs.Step.{Rules}
use Rattle.muni_book.specs.Once.{Keeps}
use Rattle.muni_export.specs.Laws.{command_by, command_of}
use Rattle.muni_desk_export.specs.Trades.{written_number}
use Rattle.muni_desk_export.specs.Export.{version_commands}
use Rattle.muni_desk_export.proofs.RunLemmas.{IsRun, run-keeps, run-none, run-then}
use Rattle.muni_desk_export.proofs.StepLemmas.{Fits, cancel-run, correct-run, enter-run}
use Rattle.muni_desk_export.proofs.TableLemmas.{HasIssues}
use Rattle.muni_desk_export.proofs.AgainVersionLemmas.{AreKept, all-kept}

-- the command that brings a version of the exported tables
abbrev version_command : Tables → Key → ℕ → Version → List Command
version_command all key number version = command_of key number version (written_number all version) ∷ []

-- ---- the commands of versions after another
next-run : (P : Rules) (all t : Tables) (key : Key) (number : ℕ) (before version : Version) → Fits P all → HasIssues all t → Keeps t all → version_at t key number ≡ Some before
    → version_at all key (number + 1) ≡ Some version → is_canceled before.act ≡ false → Follows before version
    → IsRun P all t (version_command all key (number + 1) version) (λ new. version_at new key (number + 1) ≡ Some version)
next-run P all t key number before version fits issues within last there live (inl corrected) =
    subst (λ act. IsRun P all t (command_by act key (number + 1) version.terms (written_number all version) ∷ []) (λ new. version_at new key (number + 1) ≡ Some version)) (sym corrected)
    (correct-run P all t key number before version fits issues within last there live corrected)
next-run P all t key number before version fits issues within last there live (inr canceled) =
    subst (λ act. IsRun P all t (command_by act key (number + 1) version.terms (written_number all version) ∷ []) (λ new. version_at new key (number + 1) ≡ Some version)) (sym (ap (λ (v : Version). v.act) canceled))
    (cancel-run P all t key number before version fits issues within last there live canceled)

-- after the first command of a list those of the others
cons-run : (P : Rules) (all t : Tables) (key : Key) (number : ℕ) (version : Version) (more : List Version)
    → (run : IsRun P all t (version_command all key number version) (λ new. version_at new key number ≡ Some version))
    → IsRun P all run.new (version_commands all key (number + 1) more) (λ new. AreKept (version_at new key) (number + 1) more)
    → IsRun P all t (version_commands all key number (version ∷ more)) (λ new. AreKept (version_at new key) number (version ∷ more))
cons-run P all t key number version more run later =
    run-then P all t (version_command all key number version) (version_commands all key (number + 1) more)
    (λ new. version_at new key number ≡ Some version) (λ new. AreKept (version_at new key) (number + 1) more) (λ new. AreKept (version_at new key) number (version ∷ more))
    run later (λ new keeps kept. (keeps.versions key number version run.has, kept))

pub still-issues : (all old new : Tables) → Keeps old new → HasIssues all old → HasIssues all new
still-issues all old new keeps issues cusip number issue is = keeps.issues cusip number issue (issues cusip number issue is)

following-run : (P : Rules) (all t : Tables) (key : Key) (number : ℕ) (before : Version) (list : List Version) → Fits P all → HasIssues all t → Keeps t all → version_at t key number ≡ Some before
    → AreKept (version_at all key) (number + 1) list → AreFollowing before list → IsRun P all t (version_commands all key (number + 1) list) (λ new. AreKept (version_at new key) (number + 1) list)
following-run P all t key number before [] fits issues within last kept follow =
    run-none P all t (λ new. AreKept (version_at new key) (number + 1) []) within tt
following-run P all t key number before (version ∷ more) fits issues within last kept follow =
    let run = next-run P all t key number before version fits issues within last kept.0 follow.0 follow.1 in
    let keeps = run-keeps P all t (version_command all key (number + 1) version) (λ new. version_at new key (number + 1) ≡ Some version) run in
    cons-run P all t key (number + 1) version more run
    (following-run P all run.new key (number + 1) version more fits (still-issues all t run.new keeps issues) run.within run.has kept.1 follow.2)

versions-run : (P : Rules) (all t : Tables) (key : Key) (list : List Version) → Fits P all → HasIssues all t → Keeps t all
    → AreKept (version_at all key) 1 list → AreVersions list → IsRun P all t (version_commands all key 1 list) (λ new. AreKept (version_at new key) 1 list)
versions-run P all t key [] fits issues within kept acts = absurd acts
versions-run P all t key (version ∷ more) fits issues within kept acts =
    let run : IsRun P all t (version_command all key 1 version) (λ new. version_at new key 1 ≡ Some version) =
    subst (λ act. IsRun P all t (command_by act key 1 version.terms (written_number all version) ∷ []) (λ new. version_at new key 1 ≡ Some version)) (sym acts.0)
    (enter-run P all t key version fits issues within kept.0 acts.0) in
    let keeps = run-keeps P all t (version_command all key 1 version) (λ new. version_at new key 1 ≡ Some version) run in
    cons-run P all t key 1 version more run
    (following-run P all run.new key 1 version more fits (still-issues all t run.new keeps issues) run.within run.has kept.1 acts.1)

-- a trade that the exported tables keep is brought
pub trade-run : (P : Rules) (all t : Tables) (key : Key) (history : History Version) → Fits P all → HasIssues all t → Keeps t all → trade_at all key ≡ Some history
    → IsRun P all t (version_commands all key 1 (versions history)) (λ new. AreKept (version_at new key) 1 (versions history))
trade-run P all t key history fits issues within is =
    versions-run P all t key (versions history) fits issues within
    (all-kept (trade_at all key) history is) (fits.sound.trades key history is).acts
