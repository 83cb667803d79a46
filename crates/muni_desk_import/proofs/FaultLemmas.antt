-- Imports that end with a fault.
use Rattle.std.proofs.Common.{◌≡◌, ◌<◌, ◌≤◌, ◌+◌, ℕ, List, [], ◌∷◌, Option, Some, None, Result, Err, IfSome, length, inr, refl, ap, arith}
use Rattle.std.proofs.lemmas.List.{length-append}
use Rattle.muni_edge.specs.Faults.{Rose}
use Rattle.muni_edge.specs.declared.sink.Sink as Sink
use Rattle.muni_edge.specs.declared.source.Source as Source
use Rattle.muni_keep.specs.Tables.{Tables}
use Rattle.muni_keep.specs.declared.cabinet.Cabinet as Cabinet
use Rattle.muni_keep.specs.declared.fault.KeepFault.{KeepFault}
use Rattle.muni_keep.specs.declared.fault.KeepFault.TheVariants as keep
use Rattle.muni_keep.specs.declared.keeper.Keeper as Keeper
use Rattle.muni_book.specs.declared.fault.BookFault.{BookFault}
use Rattle.muni_book.specs.declared.fault.BookFault.TheVariants as book
use Rattle.muni_book_step.specs.Step.{Rules}
use Rattle.muni_import.specs.Row.{Row}
use Rattle.muni_import.specs.Rows.{rows_of}
use Rattle.muni_import.proofs.RowLemmas.{few-rows}
use Rattle.muni_desk_io.specs.Fault.{of_input, of_keeper, of_book}
use Rattle.muni_desk_io.specs.Lent.{Lent, ChangesOnlyInput}
use Rattle.muni_desk_io.specs.declared.fault.Fault.{Fault}
use Rattle.muni_desk_io.specs.declared.fault.Fault.TheVariants.{Read, Write, Store, NoMemory, TooLarge}
use Rattle.muni_desk_io.specs.declared.input.InputFault.{InputFault}
use Rattle.muni_desk_io.specs.declared.input.InputFault.TheVariants as input
use Rattle.muni_desk_import.specs.Blocks.{AppliedAfter, DoneFirst, DoneBefore, DonePart, DoneMost}
use Rattle.muni_desk_import.specs.Import.{DidBefore, DidBeforeOrNone, DidFirst, DidPart}
use Rattle.muni_desk_import.specs.Imported.{Applied, Imported}
use Rattle.muni_desk_import.specs.Loaded.{Loaded}
use Rattle.muni_desk_import.specs.Reported.{Reported, ReportsFirst, ReportsPart}
use Rattle.muni_desk_import.proofs.ImportLemmas.{did-none}

-- no row is applied before the store is fetched
pub none-stored : (R : Rules) (source : Option (List ℕ)) (old new : Option Tables) (had has : Option (List ℕ)) → new ≡ old → has ≡ had
    → IfSome source (λ text. IfSome old (λ t. DidFirst R text t new had has))
none-stored R None old new had has same unwritten = tt
none-stored R (Some text) None new had has same unwritten = tt
none-stored R (Some text) (Some t) new had has same unwritten =
    rw (same, unwritten) record { rows = []; left = rows_of text; all = refl; did = did-none R t had }

none-begun : (R : Rules) (source : Option (List ℕ)) (old new : Option Tables) (had has : Option (List ℕ)) → new ≡ old → has ≡ had
    → IfSome source (λ text. IfSome old (λ t. DidBeforeOrNone R text t new had has))
none-begun R None old new had has same unwritten = tt
none-begun R (Some text) None new had has same unwritten = tt
none-begun R (Some text) (Some t) new had has same unwritten = inr (same, unwritten)

-- the input is not read whole
pub unread : {I O C K A T : Type 0} (source : Source.Ghosts I) (sink : Sink.Ghosts O) (cabinet : Cabinet.Ghosts C K) (R : Rules) (store : List ℕ) (r : Result A InputFault) (fault : InputFault) (out : Result T Fault) (old new : Lent I O C)
    → r ≡ Err fault → out ≡ Err (of_input fault) → ChangesOnlyInput old new
    → (r ≡ Err input.Failed → Rose (source.faults old.input) (source.faults new.input))
    → (r ≡ Err input.TooLarge → IfSome (source.left old.input) (λ text. 4_194_304 < length text))
    → Imported source sink cabinet R store out old new
unread source sink cabinet R store r input.Failed out old new is ends leaves failed large = rw ends (leaves, failed is)
unread source sink cabinet R store r input.TooLarge out old new is ends leaves failed large = rw ends (leaves, large is)
unread source sink cabinet R store r input.NoMemory out old new is ends leaves failed large =
    rw ends (none-stored R (source.left old.input) (cabinet.told old.cabinet store) (cabinet.told new.cabinet store) (sink.bytes old.output) (sink.bytes new.output) (ap (λ x. cabinet.told x store) leaves.1) (ap sink.bytes leaves.0))

-- the store is not fetched
pub unfetched : {I O C K A T : Type 0} (source : Source.Ghosts I) (sink : Sink.Ghosts O) (cabinet : Cabinet.Ghosts C K) (R : Rules) (store : List ℕ) (r : Result A KeepFault) (fault : KeepFault) (out : Result T Fault) (old new : Lent I O C)
    → r ≡ Err fault → out ≡ Err (of_keeper fault) → new.output ≡ old.output → cabinet.told new.cabinet store ≡ cabinet.told old.cabinet store
    → (r ≡ Err keep.Failed → Rose (cabinet.faults old.cabinet) (cabinet.faults new.cabinet))
    → IfSome (source.left old.input) (λ text. length text ≤ 4_194_304)
    → Imported source sink cabinet R store out old new
unfetched source sink cabinet R store r keep.Failed out old new is ends same kept failed few =
    rw ends (none-begun R (source.left old.input) (cabinet.told old.cabinet store) (cabinet.told new.cabinet store) (sink.bytes old.output) (sink.bytes new.output) kept (ap sink.bytes same), few, failed is)
unfetched source sink cabinet R store r keep.NoMemory out old new is ends same kept failed few =
    rw ends (none-stored R (source.left old.input) (cabinet.told old.cabinet store) (cabinet.told new.cabinet store) (sink.bytes old.output) (sink.bytes new.output) kept (ap sink.bytes same))

pub unloaded : {I O C K A T : Type 0} (source : Source.Ghosts I) (sink : Sink.Ghosts O) (cabinet : Cabinet.Ghosts C K) (R : Rules) (store : List ℕ) (r : Result A KeepFault) (fault : KeepFault) (out : Result T Fault) (old new : Lent I O C)
    → r ≡ Err fault → out ≡ Err (of_keeper fault) → new.output ≡ old.output → cabinet.told new.cabinet store ≡ cabinet.told old.cabinet store
    → (r ≡ Err keep.Failed → Rose (cabinet.faults old.cabinet) (cabinet.faults new.cabinet))
    → Loaded source sink cabinet R store out old new
unloaded source sink cabinet R store r keep.Failed out old new is ends same kept failed =
    rw ends (none-begun R (source.left old.input) (cabinet.told old.cabinet store) (cabinet.told new.cabinet store) (sink.bytes old.output) (sink.bytes new.output) kept (ap sink.bytes same), failed is)
unloaded source sink cabinet R store r keep.NoMemory out old new is ends same kept failed =
    rw ends (none-stored R (source.left old.input) (cabinet.told old.cabinet store) (cabinet.told new.cabinet store) (sink.bytes old.output) (sink.bytes new.output) kept (ap sink.bytes same))

-- the book has no answer to a row
before-first : (place : ℕ) (R : Rules) (all : List Row) (old now : Option Tables) (had has : Option (List ℕ)) → DoneBefore place R all old now had has → DoneFirst place R all old now had has
before-first place R all old now had has before = record { rows = before.rows; left = before.row ∷ before.left; split = before.split; done = before.done }

pub unanswered : {K O : Type 0} (keeper : Keeper.Ghosts K) (sink : Sink.Ghosts O) (R : Rules) (count : ℕ) (all : List Row) (fault : BookFault) (out : Result ℕ Fault) (old new : K) (before after : O)
    → out ≡ Err (of_book fault) → DoneBefore (count + 1) R all (keeper.tables old) (keeper.tables new) (sink.bytes before) (sink.bytes after)
    → AppliedAfter keeper sink R count all out old new before after
unanswered keeper sink R count all book.Failed out old new before after ends done = rw ends done
unanswered keeper sink R count all book.NoMemory out old new before after ends done =
    rw ends (before-first (count + 1) R all (keeper.tables old) (keeper.tables new) (sink.bytes before) (sink.bytes after) done)

-- ---- the rows of a text, after no others
pub if-some : {X : Type 0} {A B : X → Type 0} (o : Option X) → ((x : X) → A x → B x) → IfSome o A → IfSome o B
if-some None so holds = tt
if-some (Some x) so holds = so x holds

pub known-first : (R : Rules) (text : List ℕ) (old now : Option Tables) (had has : Option (List ℕ)) → DoneFirst 1 R (rows_of text) old now had has → IfSome old (λ t. DidFirst R text t now had has)
known-first R text old now had has first = if-some old (λ t did. record { rows = first.rows; left = first.left; all = first.split; did = did }) first.done.did

pub known-before : (R : Rules) (text : List ℕ) (old now : Option Tables) (had has : Option (List ℕ)) → DoneBefore 1 R (rows_of text) old now had has → IfSome old (λ t. DidBefore R text t now had has)
known-before R text old now had has before =
    if-some old (λ t did. record { rows = before.rows; row = before.row; left = before.left; all = before.split; did = did }) before.done.did

pub known-part : (R : Rules) (text : List ℕ) (old now : Option Tables) (had has : Option (List ℕ)) → DonePart 1 R (rows_of text) old now had has → IfSome old (λ t. DidPart R text t now had has)
known-part R text old now had has part =
    if-some old (λ t did. record { rows = part.rows; row = part.row; left = part.left; all = part.split; did = did }) part.done.did

pub reported-first : (R : Rules) (text : List ℕ) (old now : Option Tables) (had has : Option (List ℕ)) → DoneFirst 1 R (rows_of text) old now had has → ReportsFirst text had has
reported-first R text old now had has first = record { rows = first.rows; left = first.left; all = first.split; reports = first.done.reports }

pub reported-before : (R : Rules) (text : List ℕ) (old now : Option Tables) (had has : Option (List ℕ)) → DoneBefore 1 R (rows_of text) old now had has → ReportsFirst text had has
reported-before R text old now had has before = record { rows = before.rows; left = before.row ∷ before.left; all = before.split; reports = before.done.reports }

pub reported-part : (R : Rules) (text : List ℕ) (old now : Option Tables) (had has : Option (List ℕ)) → DonePart 1 R (rows_of text) old now had has → ReportsPart text had has
reported-part R text old now had has part = record {
  rows = part.rows;
  row = part.row;
  left = part.left;
  said = part.done.said;
  last = part.done.last;
  all = part.split;
  each = part.done.each;
  written = part.done.written;
}

-- a short text ends before the places do
never-most : (R : Rules) (text : List ℕ) (old now : Option Tables) (had has : Option (List ℕ)) → length text ≤ 4_194_304 → ¬ (DoneMost 0 R (rows_of text) old now had has)
never-most R text old now had has few most =
    let first = most.first in
    omega (arith, few, most.most, few-rows text, ap length first.split, length-append first.rows (first.row ∷ first.left))

pub import-ended : {K O T : Type 0} (keeper : Keeper.Ghosts K) (sink : Sink.Ghosts O) (R : Rules) (text : List ℕ) (fault : Fault) (r : Result ℕ Fault) (out : Result T Fault) (old new : K) (before after : O)
    → r ≡ Err fault → out ≡ Err fault → length text ≤ 4_194_304 → AppliedAfter keeper sink R 0 (rows_of text) r old new before after
    → Applied keeper sink R text out old new before after × Reported text out (sink.bytes before) (sink.bytes after)
import-ended keeper sink R text Store r out old new before after is ends few applied =
    let done = rw is at applied in
    rw ends (known-before R text (keeper.tables old) (keeper.tables new) (sink.bytes before) (sink.bytes after) done, reported-before R text (keeper.tables old) (keeper.tables new) (sink.bytes before) (sink.bytes after) done)
import-ended keeper sink R text NoMemory r out old new before after is ends few applied =
    let done = rw is at applied in
    rw ends (known-first R text (keeper.tables old) (keeper.tables new) (sink.bytes before) (sink.bytes after) done, reported-first R text (keeper.tables old) (keeper.tables new) (sink.bytes before) (sink.bytes after) done)
import-ended keeper sink R text Write r out old new before after is ends few applied =
    let done = rw is at applied in
    rw ends (
      (known-part R text (keeper.tables old) (keeper.tables new) (sink.bytes before) (sink.bytes after) done.0, done.1),
      reported-part R text (keeper.tables old) (keeper.tables new) (sink.bytes before) (sink.bytes after) done.0,
    )
import-ended keeper sink R text TooLarge r out old new before after is ends few applied =
    let done = rw is at applied in
    absurd (never-most R text (keeper.tables old) (keeper.tables new) (sink.bytes before) (sink.bytes after) few done)
import-ended keeper sink R text Read r out old new before after is ends few applied = let never = rw is at applied in absurd never
