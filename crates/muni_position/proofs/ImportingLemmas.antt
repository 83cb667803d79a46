-- An import with the positions of a desk after its report.
use Rattle.std.proofs.Common.{◌≡◌, ◌⊎◌, ◌≤◌, ◌<◌, inl, inr, ℕ, arith, refl, ap, subst, Option, Some, None, List, [], length, IfSome, Result, Ok, Err}
use Rattle.std.proofs.lemmas.List.{append-nil}
use Rattle.muni_edge.specs.Faults.{Rose}
use Rattle.muni_edge.specs.Sink.{HasWritten, HasWrittenPart}
use Rattle.muni_edge.specs.declared.sink.Sink as Sink
use Rattle.muni_edge.specs.declared.source.Source as Source
use Rattle.muni_keep.specs.Tables.{Tables}
use Rattle.muni_keep.specs.declared.cabinet.Cabinet as Cabinet
use Rattle.muni_keep.specs.declared.fault.KeepFault.{KeepFault}
use Rattle.muni_keep.specs.declared.fault.KeepFault.TheVariants as keep
use Rattle.muni_keep.specs.declared.keeper.Keeper as Keeper
use Rattle.muni_book_step.specs.Step.{Rules}
use Rattle.muni_import.specs.Row.{Row}
use Rattle.muni_import.specs.Rows.{rows_of}
use Rattle.muni_desk_io.specs.Fault.{of_input, of_keeper}
use Rattle.muni_desk_io.specs.Lent.{Lent, ChangesOnlyInput}
use Rattle.muni_desk_io.specs.declared.fault.Fault.{Fault}
use Rattle.muni_desk_io.specs.declared.fault.Fault.TheVariants.{Read, Write, Store, NoMemory, TooLarge}
use Rattle.muni_desk_io.specs.declared.input.InputFault.{InputFault}
use Rattle.muni_desk_io.specs.declared.input.InputFault.TheVariants as input
use Rattle.muni_desk_import.specs.Import.{Did, DidFirst}
use Rattle.muni_desk_import.proofs.FaultLemmas.{none-stored, unread, unfetched}
use Rattle.muni_desk_import.proofs.ImportLemmas.{did-none}
use Rattle.muni_position.specs.Imported.{AppliedWith, ImportedWith}
use Rattle.muni_position.specs.Importing.{Writing, DidListing, DidSome}
use Rattle.muni_position.specs.Listed.{Listed}
use Rattle.muni_position.specs.Listing.{MayNotSum, positions_text}
use Rattle.muni_position.proofs.FewLemmas.{many-before}

-- no row was done
pub none-done : (R : Rules) (text : List ℕ) (old new : Option Tables) (had : Option (List ℕ)) → new ≡ old → IfSome old (λ t. DidFirst R text t new had had)
none-done R text None new had same = tt
none-done R text (Some t) new had same = rw same record { rows = []; left = rows_of text; all = refl; did = did-none R t had }

-- a count that begins at 0
rose-from-none : (none before now : ℕ) → none ≡ 0 → Rose before now → Rose none now
rose-from-none none before now is rose = omega (arith, is, rose)

-- after the rows the store has failed, or the desk had too many trades before them
pub fault-behind : (R : Rules) → R.limit ≤ 100_000_000 → (desk : List ℕ) (rows : List Row) (old now : Option Tables) (had has : Option (List ℕ)) (none before after : ℕ) → none ≡ 0
    → IfSome old (λ t. Did R rows t now had has) → (Rose before after ⊎ MayNotSum desk now) → Rose none after ⊎ MayNotSum desk old
fault-behind R small desk rows old now had has none before after is did (inl rose) = inl (rose-from-none none before after is rose)
fault-behind R small desk rows None now had has none before after is did (inr many) = inr tt
fault-behind R small desk rows (Some t) now had has none before after is did (inr many) =
    inr (many-before R small desk t did.new rows did.said did.imports (subst (MayNotSum desk) did.told many))

-- the desk is not watched
pub unwatched : {K O A : Type 0} (T : Type 0) (keeper : Keeper.Ghosts K) (sink : Sink.Ghosts O) (R : Rules) (desk text : List ℕ) (r : Result A KeepFault) (fault : KeepFault) (told : Fault) (old new : K) (output : O)
    → r ≡ Err fault → told ≡ of_keeper fault → keeper.tables new ≡ keeper.tables old → (r ≡ Err keep.Failed → Rose (keeper.faults old) (keeper.faults new) ⊎ MayNotSum desk (keeper.tables old))
    → AppliedWith {T = T} keeper sink R desk text (Err told) old new output output
unwatched T keeper sink R desk text r keep.Failed told old new output is ends same failed =
    rw ends (none-done R text (keeper.tables old) (keeper.tables new) (sink.bytes output) same, failed is)
unwatched T keeper sink R desk text r keep.NoMemory told old new output is ends same failed =
    rw ends (none-done R text (keeper.tables old) (keeper.tables new) (sink.bytes output) same)

-- the positions are written after the report on all rows
listing : (Writes : Writing) (R : Rules) (desk : List ℕ) (rows : List Row) (old now last : Option Tables) (had mid has : Option (List ℕ)) → last ≡ now
    → IfSome old (λ t. Did R rows t now had mid) → IfSome now (λ t. Writes mid has (positions_text desk t)) → IfSome old (λ t. DidListing Writes R desk rows t last had has)
listing Writes R desk rows None now last had mid has same did listed = tt
listing Writes R desk rows (Some t) now last had mid has same did listed = rw same record { reported = mid; did = did; listed = listed }

-- none of them is written
first-all : (R : Rules) (text : List ℕ) (old now last : Option Tables) (had mid has : Option (List ℕ)) → last ≡ now → has ≡ mid
    → IfSome old (λ t. Did R (rows_of text) t now had mid) → IfSome old (λ t. DidFirst R text t last had has)
first-all R text None now last had mid has same unwritten did = tt
first-all R text (Some t) now last had mid has same unwritten did =
    rw (same, unwritten) record { rows = rows_of text; left = []; all = append-nil (rows_of text); did = did }

listed-part : (R : Rules) (desk text : List ℕ) (old last : Option Tables) (had has : Option (List ℕ))
    → IfSome old (λ t. DidListing HasWrittenPart R desk (rows_of text) t last had has) → IfSome old (λ t. DidSome R desk text t last had has)
listed-part R desk text None last had has listed = tt
listed-part R desk text (Some t) last had has listed = inr listed

-- the listing after the rows ends in one way or another
pub listed-behind : {K O T : Type 0} (keeper : Keeper.Ghosts K) (sink : Sink.Ghosts O) (R : Rules) → R.limit ≤ 100_000_000 → (desk text : List ℕ) (r : Result T Fault) (first rows last : K) (before mid after : O)
    → keeper.faults first ≡ 0 → IfSome (keeper.tables first) (λ t. Did R (rows_of text) t (keeper.tables rows) (sink.bytes before) (sink.bytes mid)) → sink.faults before ≤ sink.faults mid
    → keeper.tables last ≡ keeper.tables rows → Listed sink desk (keeper.tables rows) (Rose (keeper.faults rows) (keeper.faults last)) r mid after
    → AppliedWith keeper sink R desk text r first last before after
listed-behind keeper sink R small desk text (Ok done) first rows last before mid after none did later same listed =
    listing HasWritten R desk (rows_of text) (keeper.tables first) (keeper.tables rows) (keeper.tables last) (sink.bytes before) (sink.bytes mid) (sink.bytes after) same did listed
listed-behind keeper sink R small desk text (Err Write) first rows last before mid after none did later same listed = (
  listed-part R desk text (keeper.tables first) (keeper.tables last) (sink.bytes before) (sink.bytes after) (listing HasWrittenPart R desk (rows_of text) (keeper.tables first) (keeper.tables rows) (keeper.tables last) (sink.bytes before) (sink.bytes mid) (sink.bytes after) same did listed.0),
  omega (arith, later, listed.1),
)
listed-behind keeper sink R small desk text (Err Store) first rows last before mid after none did later same listed = (
  first-all R text (keeper.tables first) (keeper.tables rows) (keeper.tables last) (sink.bytes before) (sink.bytes mid) (sink.bytes after) same (ap sink.bytes listed.0) did,
  fault-behind R small desk (rows_of text) (keeper.tables first) (keeper.tables rows) (sink.bytes before) (sink.bytes mid) (keeper.faults first) (keeper.faults rows) (keeper.faults last) none did listed.1,
)
listed-behind keeper sink R small desk text (Err NoMemory) first rows last before mid after none did later same listed =
    first-all R text (keeper.tables first) (keeper.tables rows) (keeper.tables last) (sink.bytes before) (sink.bytes mid) (sink.bytes after) same (ap sink.bytes listed) did
listed-behind keeper sink R small desk text (Err Read) first rows last before mid after none did later same listed = absurd listed
listed-behind keeper sink R small desk text (Err TooLarge) first rows last before mid after none did later same listed = absurd listed

-- the input is not read whole
pub unread-with : {I O C K A T : Type 0} (source : Source.Ghosts I) (sink : Sink.Ghosts O) (cabinet : Cabinet.Ghosts C K) (R : Rules) (store desk : List ℕ) (r : Result A InputFault) (fault : InputFault) (out : Result T Fault) (old new : Lent I O C)
    → r ≡ Err fault → out ≡ Err (of_input fault) → ChangesOnlyInput old new
    → (r ≡ Err input.Failed → Rose (source.faults old.input) (source.faults new.input))
    → (r ≡ Err input.TooLarge → IfSome (source.left old.input) (λ text. 4_194_304 < length text))
    → ImportedWith source sink cabinet R store desk out old new
unread-with {T = T} source sink cabinet R store desk r input.Failed out old new is ends leaves failed large =
    rw ends (unread {T = T} source sink cabinet R store r input.Failed (Err Read) old new is refl leaves failed large)
unread-with {T = T} source sink cabinet R store desk r input.TooLarge out old new is ends leaves failed large =
    rw ends (unread {T = T} source sink cabinet R store r input.TooLarge (Err TooLarge) old new is refl leaves failed large)
unread-with {T = T} source sink cabinet R store desk r input.NoMemory out old new is ends leaves failed large =
    rw ends (unread {T = T} source sink cabinet R store r input.NoMemory (Err NoMemory) old new is refl leaves failed large)

-- the store is not fetched
pub unfetched-with : {I O C K A T : Type 0} (source : Source.Ghosts I) (sink : Sink.Ghosts O) (cabinet : Cabinet.Ghosts C K) (R : Rules) (store desk : List ℕ) (r : Result A KeepFault) (fault : KeepFault) (out : Result T Fault) (old new : Lent I O C)
    → r ≡ Err fault → out ≡ Err (of_keeper fault) → new.output ≡ old.output → cabinet.told new.cabinet store ≡ cabinet.told old.cabinet store
    → (r ≡ Err keep.Failed → Rose (cabinet.faults old.cabinet) (cabinet.faults new.cabinet))
    → IfSome (source.left old.input) (λ text. length text ≤ 4_194_304)
    → ImportedWith source sink cabinet R store desk out old new
unfetched-with {T = T} source sink cabinet R store desk r keep.Failed out old new is ends same kept failed few =
    rw ends (none-stored R (source.left old.input) (cabinet.told old.cabinet store) (cabinet.told new.cabinet store) (sink.bytes old.output) (sink.bytes new.output) kept (ap sink.bytes same), few, inl (failed is))
unfetched-with {T = T} source sink cabinet R store desk r keep.NoMemory out old new is ends same kept failed few =
    rw ends (unfetched {T = T} source sink cabinet R store r keep.NoMemory (Err NoMemory) old new is refl same kept failed few)
