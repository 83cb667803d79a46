-- An export, imported into empty tables.
use Rattle.std.proofs.Common.{◌≡◌, ◌≤◌, ℕ, List, map, Option, Some, None, Ok, refl, sym, ap, subst, ◌∙◌, arith}
use Rattle.std.specs.List.{AllByRecursion, flat_map}
use Rattle.std.specs.Option.{option_and_then, unwrap_or}
use Rattle.std.specs.FinMap.{empty, entries, get, get-empty}
use Rattle.std.proofs.lemmas.Option.{none-some}
use Rattle.muni_terms.specs.declared.row.IssueRow.{IssueRow}
use Rattle.muni_msg.specs.declared.command.Command.{Command}
use Rattle.muni_msg.specs.declared.command.Key.{Key}
use Rattle.muni_msg.specs.declared.command.Reply.{Reply}
use Rattle.muni_msg.specs.declared.version.Version.{Version}
use Rattle.muni_keep.specs.History.{History, version_in, versions}
use Rattle.muni_keep.specs.Tables.{Tables, issue_history, issue_numbered, no_tables, trade_at, version_at}
use Rattle.muni_keep.specs.Trades.{by_bytes, Trades, own}
use Rattle.muni_book_step.specs.Runs.{Runs}
use Rattle.muni_book_step.specs.Sound.{IsSound}
use Rattle.muni_book_step.specs.Step.{Rules}
use Rattle.muni_import.specs.Report.{Said}
use Rattle.muni_book.specs.Once.{Keeps}
use Rattle.muni_book.specs.Rules.{book_rules}
use Rattle.muni_book.proofs.FewLemmas.{few-run}
use Rattle.muni_book.proofs.SoundLemmas.{runs-stay-sound}
use Rattle.muni_desk_import.specs.Import.{Imports}
use Rattle.muni_desk_export.specs.Export.{desk_commands, export_commands, issue_commands, trade_commands}
use Rattle.muni_desk_export.specs.Laws.{ExportsAreImportedAgain, IsImportedAgain, OwnLimitIsEnough}
use Rattle.muni_desk_export.proofs.AgainIssueLemmas.{issue-run}
use Rattle.muni_desk_export.proofs.MapLemmas.{IsFound, at-key, entries-found}
use Rattle.muni_desk_export.proofs.RunLemmas.{IsRun, all-still, empty-few, empty-sound, empty-within, imports-of, run-each, run-then, taken-of}
use Rattle.muni_desk_export.proofs.StepLemmas.{ArePriced, Fits}
use Rattle.muni_desk_export.proofs.TableLemmas.{AreFilled, HasIssues, filled-empty, runs-filled, same-tables}
use Rattle.muni_desk_export.proofs.TradeLemmas.{still-issues, trade-run}
use Rattle.muni_desk_export.proofs.AgainVersionLemmas.{AreKept, kept-at, kept-trade, place-of, still-kept}

-- ---- issues
abbrev HasIssue : List ℕ × History IssueRow → Tables → Type 0
HasIssue issue t = AreKept (issue_numbered t issue.0) 1 (versions issue.1)

issues-run : (P : Rules) (all : Tables) → Fits P all → IsRun P all no_tables (flat_map issue_commands (entries all.issues)) (λ new. AllByRecursion (λ issue. HasIssue issue new) (entries all.issues))
issues-run P all fits =
    run-each P all issue_commands (IsFound all.issues) (λ _. Unit {0}) HasIssue
    (record {
      ready = λ old new keeps ready. tt;
      stays = λ issue old new keeps has. still-kept (issue_numbered old issue.0) (issue_numbered new issue.0) (keeps.issues issue.0) 1 (versions issue.1) has;
      one = λ issue old found ready within. issue-run P all old issue.0 issue.1 (fits.sound.issues issue.0 issue.1 found) found within;
    })
    (entries all.issues) no_tables (entries-found all.issues) tt (empty-within all)

-- all issues are there with all their terms
all-issues : (all new : Tables) → AllByRecursion (λ issue. HasIssue issue new) (entries all.issues) → HasIssues all new
all-issues all new has cusip number issue is =
    let terms = kept-trade (issue_history all cusip) number issue is in
    let kept = at-key (λ issue. HasIssue issue new) all.issues cusip terms.0 has terms.1 in
    let at = place-of terms.0 number issue (sym (ap (option_and_then (λ history. version_in history number)) terms.1) ∙ is) in
    kept-at (issue_numbered new cusip) 1 (versions terms.0) at.0 number issue kept at.2 (omega arith)

-- ---- trades and desks
abbrev key_in : List ℕ → List ℕ → Key
key_in desk reference = record { desk = desk; reference = reference }

abbrev HasTrade : List ℕ → List ℕ × History Version → Tables → Type 0
HasTrade desk trade t = AreKept (version_at t (key_in desk trade.0)) 1 (versions trade.1)

abbrev HasDesk : List ℕ × Trades Version → Tables → Type 0
HasDesk desk t = AllByRecursion (λ trade. HasTrade desk.0 trade t) (entries desk.1)

trade-stays : (desk : List ℕ) (trade : List ℕ × History Version) (old new : Tables) → Keeps old new → HasTrade desk trade old → HasTrade desk trade new
trade-stays desk trade old new keeps has =
    let key = key_in desk trade.0 in
    still-kept (version_at old key) (version_at new key) (keeps.versions key) 1 (versions trade.1) has

desk-stays : (desk : List ℕ × Trades Version) (old new : Tables) → Keeps old new → HasDesk desk old → HasDesk desk new
desk-stays desk old new keeps has =
    all-still (λ trade. HasTrade desk.0 trade old) (λ trade. HasTrade desk.0 trade new) (entries desk.1)
    (λ trade. trade-stays desk.0 trade old new keeps) has

-- the trades of a desk that is kept are kept
pub trades-found : (t : Tables) (desk : List ℕ × Trades Version) → IsFound t.desks desk → AllByRecursion (λ trade. trade_at t (key_in desk.0 trade.0) ≡ Some trade.1) (entries desk.1)
trades-found t desk found =
    let is : own desk.0 t.desks ≡ desk.1 = ap (λ o. unwrap_or o empty) found in
    subst (λ (trades : Trades Version). AllByRecursion (λ trade. get trades trade.0 ≡ Some trade.1) (entries desk.1)) (sym is) (entries-found desk.1)

desk-run : (P : Rules) (all old : Tables) (desk : List ℕ × Trades Version) → Fits P all → HasIssues all old → Keeps old all → IsFound all.desks desk → IsRun P all old (desk_commands all desk) (HasDesk desk)
desk-run P all old desk fits issues within found =
    run-each P all (trade_commands all desk.0) (λ trade. trade_at all (key_in desk.0 trade.0) ≡ Some trade.1) (HasIssues all) (HasTrade desk.0)
    (record {
      ready = still-issues all;
      stays = trade-stays desk.0;
      one = λ trade old is issues within. trade-run P all old (key_in desk.0 trade.0) trade.1 fits issues within is;
    })
    (entries desk.1) old (trades-found all desk found) issues within

desks-run : (P : Rules) (all old : Tables) → Fits P all → HasIssues all old → Keeps old all
    → IsRun P all old (flat_map (desk_commands all) (entries all.desks)) (λ new. AllByRecursion (λ desk. HasDesk desk new) (entries all.desks))
desks-run P all old fits issues within =
    run-each P all (desk_commands all) (IsFound all.desks) (HasIssues all) HasDesk
    (record {
      ready = still-issues all;
      stays = desk-stays;
      one = λ desk old found issues within. desk-run P all old desk fits issues within found;
    })
    (entries all.desks) old (entries-found all.desks) issues within

desk-of : (kept : Option (Trades Version)) (reference : List ℕ) (history : History Version) → get (unwrap_or kept empty) reference ≡ Some history
    → (trades : Trades Version) × (kept ≡ Some trades) × (get trades reference ≡ Some history)
desk-of None reference history is = absurd (none-some history (sym (get-empty by_bytes reference) ∙ is))
desk-of (Some trades) reference history is = (trades, refl, is)

-- all versions are there
all-versions : (all new : Tables) → AllByRecursion (λ desk. HasDesk desk new) (entries all.desks) → (key : Key) (number : ℕ) (version : Version) → version_at all key number ≡ Some version → version_at new key number ≡ Some version
all-versions all new has key number version is =
    let trade = kept-trade (trade_at all key) number version is in
    let desk = desk-of (get all.desks key.desk) key.reference trade.0 trade.1 in
    let trades = at-key (λ desk. HasDesk desk new) all.desks key.desk desk.0 has desk.1 in
    let kept = at-key (λ trade. HasTrade key.desk trade new) desk.0 key.reference trade.0 trades desk.2 in
    let at = place-of trade.0 number version (sym (ap (option_and_then (λ history. version_in history number)) trade.1) ∙ is) in
    kept-at (version_at new key) 1 (versions trade.0) at.0 number version kept at.2 (omega arith)

-- ---- everything
export-run : (P : Rules) (all : Tables) → Fits P all → IsRun P all no_tables (export_commands all) (Keeps all)
export-run P all fits =
    let run = issues-run P all fits in
    let issues = all-issues all run.new run.has in
    run-then P all no_tables (flat_map issue_commands (entries all.issues)) (flat_map (desk_commands all) (entries all.desks))
    (λ new. AllByRecursion (λ issue. HasIssue issue new) (entries all.issues)) (λ new. AllByRecursion (λ desk. HasDesk desk new) (entries all.desks)) (Keeps all)
    run (desks-run P all run.new fits issues run.within)
    (λ new keeps has. record { issues = still-issues all run.new new keeps issues; versions = all-versions all new has })

-- so it is with all tables that fit and have no desk without a trade
pub again : (P : Rules) (all : Tables) → Fits P all → AreFilled all → IsImportedAgain P all
again P all fits filled =
    let run = export-run P all fits in
    let also = runs-filled P no_tables run.new (export_commands all) run.replies filled-empty run.run in
    let same : run.new ≡ all = same-tables run.new all run.within run.has also filled in
    let said : List Said = map (λ reply. Ok reply) run.replies in
    record {
      said = said;
      imports = subst (λ t. Imports P no_tables (map (λ command. Ok command) (export_commands all)) said t) same
          (imports-of P no_tables run.new (export_commands all) run.replies run.run);
      taken = taken-of run.replies run.accepted;
    }

-- as those are to which commands lead from empty ones
pub sound-run : (P : Rules) (all : Tables) (commands : List Command) (replies : List Reply) → P.limit ≤ 100_000_000 → Runs P no_tables commands replies all → IsSound (ArePriced P) all
sound-run P all commands replies small run =
    runs-stay-sound P (ArePriced P) (λ issue asked figures prices. prices) small no_tables all commands replies (empty-sound (ArePriced P)) run

pub filled-run : (P : Rules) (all : Tables) (commands : List Command) (replies : List Reply) → Runs P no_tables commands replies all → AreFilled all
filled-run P all commands replies run = runs-filled P no_tables all commands replies filled-empty run

pub imported-again : ExportsAreImportedAgain
imported-again limit most ends tables commands replies small run few =
    let P = book_rules limit ends in
    again (book_rules most ends) tables (record { sound = sound-run P tables commands replies small run; few = few }) (filled-run P tables commands replies run)

pub own-limit : OwnLimitIsEnough
own-limit limit ends tables commands replies run = λ desk.
    few-run (book_rules limit ends) limit (omega arith) desk no_tables tables commands replies run (empty-few limit desk)
