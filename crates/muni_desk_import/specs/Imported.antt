-- What an import does, by how it ends.
use Rattle.std.specs.Prelude.{ℕ, ◌<◌, ◌≤◌, List, length, Result, Ok, Err, IfSome}
use Rattle.muni_edge.specs.Faults.{Rose}
use Rattle.muni_edge.specs.declared.sink.Sink as Sink
use Rattle.muni_edge.specs.declared.source.Source as Source
use Rattle.muni_keep.specs.declared.cabinet.Cabinet as Cabinet
use Rattle.muni_keep.specs.declared.keeper.Keeper as Keeper
use Rattle.muni_book_step.specs.Step.{Rules}
use Rattle.muni_import.specs.Rows.{rows_of}
use Rattle.muni_desk_io.specs.Lent.{Lent, IfExposed, ChangesOnlyInput}
use Rattle.muni_desk_io.specs.declared.fault.Fault.{Fault}
use Rattle.muni_desk_io.specs.declared.fault.Fault.TheVariants.{Read, Write, Store, NoMemory, TooLarge}
use Rattle.muni_desk_import.specs.Import.{Did, DidBefore, DidBeforeOrNone, DidFirst, DidPart}

-- Rows applied to a keeper: all of a text, or the first up to the one at which the store failed or memory ran
-- out, which may be after the last. If the output fails, the row of its line is applied too.
abbrev pub Applied : {K O T : Type 0} → Keeper.Ghosts K → Sink.Ghosts O → Rules → (text : List ℕ) → Result T Fault → (old new : K) (before after : O) → Type 0
Applied keeper sink rules text (Ok done) old new before after =
    IfSome (keeper.tables old) (λ tables. Did rules (rows_of text) tables (keeper.tables new) (sink.bytes before) (sink.bytes after))
Applied keeper sink rules text (Err Store) old new before after =
    IfSome (keeper.tables old) (λ tables. DidBefore rules text tables (keeper.tables new) (sink.bytes before) (sink.bytes after))
Applied keeper sink rules text (Err NoMemory) old new before after =
    IfSome (keeper.tables old) (λ tables. DidFirst rules text tables (keeper.tables new) (sink.bytes before) (sink.bytes after))
Applied keeper sink rules text (Err Write) old new before after =
    IfSome (keeper.tables old) (λ tables. DidPart rules text tables (keeper.tables new) (sink.bytes before) (sink.bytes after))
    × Rose (sink.faults before) (sink.faults after)
Applied keeper sink rules text (Err Read) old new before after = ⊥
Applied keeper sink rules text (Err TooLarge) old new before after = ⊥

-- An import into a store: its rows likewise, and none of them if the input is not read whole or the store cannot
-- be fetched.
abbrev pub Imported : {I O C K T : Type 0} → Source.Ghosts I → Sink.Ghosts O → Cabinet.Ghosts C K → Rules → (store : List ℕ) → Result T Fault → (old new : Lent I O C) → Type 0
Imported source sink cabinet rules store (Ok done) old new =
    IfExposed source cabinet store old (λ text tables. Did rules (rows_of text) tables (cabinet.told new.cabinet store) (sink.bytes old.output) (sink.bytes new.output))
    × IfSome (source.left old.input) (λ text. length text ≤ 4_194_304)
Imported source sink cabinet rules store (Err Store) old new =
    IfExposed source cabinet store old (λ text tables. DidBeforeOrNone rules text tables (cabinet.told new.cabinet store) (sink.bytes old.output) (sink.bytes new.output))
    × IfSome (source.left old.input) (λ text. length text ≤ 4_194_304)
    × Rose (cabinet.faults old.cabinet) (cabinet.faults new.cabinet)
Imported source sink cabinet rules store (Err NoMemory) old new =
    IfExposed source cabinet store old (λ text tables. DidFirst rules text tables (cabinet.told new.cabinet store) (sink.bytes old.output) (sink.bytes new.output))
Imported source sink cabinet rules store (Err Write) old new =
    IfExposed source cabinet store old (λ text tables. DidPart rules text tables (cabinet.told new.cabinet store) (sink.bytes old.output) (sink.bytes new.output))
    × IfSome (source.left old.input) (λ text. length text ≤ 4_194_304)
    × Rose (sink.faults old.output) (sink.faults new.output)
Imported source sink cabinet rules store (Err Read) old new =
    ChangesOnlyInput old new × Rose (source.faults old.input) (source.faults new.input)
Imported source sink cabinet rules store (Err TooLarge) old new =
    ChangesOnlyInput old new × IfSome (source.left old.input) (λ text. 4_194_304 < length text)
