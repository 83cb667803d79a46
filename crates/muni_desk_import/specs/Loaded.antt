-- What a load does, by how it ends.
use Rattle.std.specs.Prelude.{◌≡◌, ◌<◌, ◌≤◌, ℕ, List, ◌++◌, length, take, Option, Some, Result, Ok, Err, IfOk, IfSome, IsOkUnless, OnErr, OnOk}
use Rattle.std.specs.Io.KnownBytes.{Consumes, IsAtEnd}
use Rattle.muni_edge.specs.Faults.{Rose}
use Rattle.muni_edge.specs.declared.sink.Sink as Sink
use Rattle.muni_edge.specs.declared.source.Source as Source
use Rattle.muni_keep.specs.Tables.{Tables}
use Rattle.muni_keep.specs.declared.cabinet.Cabinet as Cabinet
use Rattle.muni_keep.specs.declared.keeper.Keeper as Keeper
use Rattle.muni_book_step.specs.Step.{Rules}
use Rattle.muni_import.specs.Row.{Row}
use Rattle.muni_import.specs.Rows.{rows_of}
use Rattle.muni_desk_io.specs.Lent.{Lent, IfExposed}
use Rattle.muni_desk_io.specs.declared.fault.Fault.{Fault}
use Rattle.muni_desk_io.specs.declared.fault.Fault.TheVariants.{Read, Write, Store, NoMemory, TooLarge}
use Rattle.muni_desk_import.specs.Import.{Did, DidBefore, DidBeforeOrNone, DidFirst, DidPart}
use Rattle.muni_desk_import.specs.Reported.{ReportsRows, ReportsFirst, ReportsPart}

-- The first rows of a text were done: all that its first bytes tell, but for the last of them, which may go on in
-- the bytes that did not come.
pub record DidCame (rules : Rules) (text : List ℕ) (left : Option (List ℕ)) (old : Tables) (now : Option Tables) (had has : Option (List ℕ)) : Type 0 where
  pub came : List ℕ
  pub taken : Consumes (Some text) left came
  pub first : DidFirst rules text old now had has
  pub cut : List Row
  pub told : first.rows ++ cut ≡ rows_of came
  pub one : length cut ≤ 1

-- a text has more rows than there are places
abbrev pub HasTooManyRows : List ℕ → Type 0
HasTooManyRows text = 4_294_967_295 < length (rows_of text)

-- as many rows of a text were done as there are places, and one is left
pub record DidMost (rules : Rules) (text : List ℕ) (old : Tables) (now : Option Tables) (had has : Option (List ℕ)) : Type 0 where
  pub first : DidBefore rules text old now had has
  pub most : length first.rows ≡ 4_294_967_295

-- The rows of an input applied to a keeper: all, or the first up to the one at which the store failed, memory ran
-- out, the bytes that came ended or the places did. If the output fails, the row of its line is applied too.
abbrev pub LoadedRows : {I K O T : Type 0} → Source.Ghosts I → Keeper.Ghosts K → Sink.Ghosts O → Rules → Result T Fault → (from to : I) (old new : K) (before after : O) → Type 0
LoadedRows source keeper sink rules (Ok done) from to old new before after =
    IfSome (source.left from) (λ text. IfSome (keeper.tables old) (λ tables. Did rules (rows_of text) tables (keeper.tables new) (sink.bytes before) (sink.bytes after)))
LoadedRows source keeper sink rules (Err Store) from to old new before after =
    IfSome (source.left from) (λ text. IfSome (keeper.tables old) (λ tables. DidBefore rules text tables (keeper.tables new) (sink.bytes before) (sink.bytes after)))
LoadedRows source keeper sink rules (Err NoMemory) from to old new before after =
    IfSome (source.left from) (λ text. IfSome (keeper.tables old) (λ tables. DidFirst rules text tables (keeper.tables new) (sink.bytes before) (sink.bytes after)))
LoadedRows source keeper sink rules (Err Write) from to old new before after =
    IfSome (source.left from) (λ text. IfSome (keeper.tables old) (λ tables. DidPart rules text tables (keeper.tables new) (sink.bytes before) (sink.bytes after)))
    × Rose (sink.faults before) (sink.faults after)
LoadedRows source keeper sink rules (Err Read) from to old new before after =
    IfSome (source.left from) (λ text. IfSome (keeper.tables old) (λ tables. DidCame rules text (source.left to) tables (keeper.tables new) (sink.bytes before) (sink.bytes after)))
    × Rose (source.faults from) (source.faults to)
LoadedRows source keeper sink rules (Err TooLarge) from to old new before after =
    IfSome (source.left from) (λ text. IfSome (keeper.tables old) (λ tables. DidMost rules text tables (keeper.tables new) (sink.bytes before) (sink.bytes after)))
    × IfSome (source.left from) HasTooManyRows

-- A load into a store: its rows likewise, and none of them if the store cannot be fetched.
abbrev pub Loaded : {I O C K T : Type 0} → Source.Ghosts I → Sink.Ghosts O → Cabinet.Ghosts C K → Rules → (store : List ℕ) → Result T Fault → (old new : Lent I O C) → Type 0
Loaded source sink cabinet rules store (Ok done) old new =
    IfExposed source cabinet store old (λ text tables. Did rules (rows_of text) tables (cabinet.told new.cabinet store) (sink.bytes old.output) (sink.bytes new.output))
Loaded source sink cabinet rules store (Err Store) old new =
    IfExposed source cabinet store old (λ text tables. DidBeforeOrNone rules text tables (cabinet.told new.cabinet store) (sink.bytes old.output) (sink.bytes new.output))
    × Rose (cabinet.faults old.cabinet) (cabinet.faults new.cabinet)
Loaded source sink cabinet rules store (Err NoMemory) old new =
    IfExposed source cabinet store old (λ text tables. DidFirst rules text tables (cabinet.told new.cabinet store) (sink.bytes old.output) (sink.bytes new.output))
Loaded source sink cabinet rules store (Err Write) old new =
    IfExposed source cabinet store old (λ text tables. DidPart rules text tables (cabinet.told new.cabinet store) (sink.bytes old.output) (sink.bytes new.output))
    × Rose (sink.faults old.output) (sink.faults new.output)
Loaded source sink cabinet rules store (Err Read) old new =
    IfExposed source cabinet store old (λ text tables. DidCame rules text (source.left new.input) tables (cabinet.told new.cabinet store) (sink.bytes old.output) (sink.bytes new.output))
    × Rose (source.faults old.input) (source.faults new.input)
Loaded source sink cabinet rules store (Err TooLarge) old new =
    IfExposed source cabinet store old (λ text tables. DidMost rules text tables (cabinet.told new.cabinet store) (sink.bytes old.output) (sink.bytes new.output))
    × IfSome (source.left old.input) HasTooManyRows

-- what it writes, as far as it hangs on its rows alone
abbrev pub LoadReported : {T : Type 0} → (text : List ℕ) → Result T Fault → (had has : Option (List ℕ)) → Type 0
LoadReported text (Ok done) had has = ReportsRows (rows_of text) had has
LoadReported text (Err Write) had has = ReportsPart text had has
LoadReported text result had has = ReportsFirst text had has

-- some bytes were taken from an input
abbrev pub TakesSome : {I : Type 0} → Source.Ghosts I → I → I → Type 0
TakesSome source old new = (came : List ℕ) × Consumes (source.left old) (source.left new) came

-- A piece was taken to the front of a room, and an empty one at the end alone. If not, the source has failed.
pub record TakesPiece {I : Type 0} (source : Source.Ghosts I) (room : List ℕ) (result : Result ℕ Fault) (old new : I) : Type 0 where
  pub taken : IfOk result (λ count. Consumes (source.left old) (source.left new) (take count room))
  pub within : IfOk result (λ count. count ≤ length room)
  pub end : IfOk result (λ count. count ≡ 0 → IsAtEnd (source.left new))
  pub unchanged : OnErr result (source.left new ≡ source.left old)
  pub uncounted : OnOk result (source.faults new ≡ source.faults old)
  pub failed : OnErr result (Rose (source.faults old) (source.faults new))
  pub only : IsOkUnless result Read
