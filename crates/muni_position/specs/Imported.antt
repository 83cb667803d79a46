-- What an import with the positions of a desk after its report does, by how it ends.
use Rattle.std.specs.Prelude.{◌≡◌, ◌⊎◌, ℕ, ◌≤◌, List, length, Result, Ok, Err, IfSome}
use Rattle.muni_edge.specs.Faults.{Rose}
use Rattle.muni_edge.specs.declared.sink.Sink as Sink
use Rattle.muni_edge.specs.declared.source.Source as Source
use Rattle.muni_keep.specs.declared.cabinet.Cabinet as Cabinet
use Rattle.muni_keep.specs.declared.keeper.Keeper as Keeper
use Rattle.muni_book_step.specs.Step.{Rules}
use Rattle.muni_desk_io.specs.Lent.{Lent, IfExposed}
use Rattle.muni_desk_io.specs.declared.fault.Fault.{Fault}
use Rattle.muni_desk_io.specs.declared.fault.Fault.TheVariants.{Read, Write, Store, NoMemory, TooLarge}
use Rattle.muni_desk_import.specs.Import.{DidFirst}
use Rattle.muni_desk_import.specs.Imported.{Imported}
use Rattle.muni_position.specs.Holdings.{HasTooMany}
use Rattle.muni_position.specs.Importing.{DidAll, DidSome}
use Rattle.muni_position.specs.Listing.{MayNotSum}

-- rows applied to a keeper, and the positions of a desk listed after them
abbrev pub AppliedWith : {K O T : Type 0} → Keeper.Ghosts K → Sink.Ghosts O → Rules → (desk text : List ℕ) → Result T Fault → (old new : K) (before after : O) → Type 0
AppliedWith keeper sink rules desk text (Ok done) old new before after =
    IfSome (keeper.tables old) (λ tables. DidAll rules desk text tables (keeper.tables new) (sink.bytes before) (sink.bytes after))
AppliedWith keeper sink rules desk text (Err Write) old new before after =
    IfSome (keeper.tables old) (λ tables. DidSome rules desk text tables (keeper.tables new) (sink.bytes before) (sink.bytes after))
    × Rose (sink.faults before) (sink.faults after)
AppliedWith keeper sink rules desk text (Err Store) old new before after =
    IfSome (keeper.tables old) (λ tables. DidFirst rules text tables (keeper.tables new) (sink.bytes before) (sink.bytes after))
    × (Rose (keeper.faults old) (keeper.faults new) ⊎ MayNotSum desk (keeper.tables old))
AppliedWith keeper sink rules desk text (Err NoMemory) old new before after =
    IfSome (keeper.tables old) (λ tables. DidFirst rules text tables (keeper.tables new) (sink.bytes before) (sink.bytes after))
AppliedWith keeper sink rules desk text (Err Read) old new before after = ⊥
AppliedWith keeper sink rules desk text (Err TooLarge) old new before after = ⊥

-- The same over a store. If the input is not read whole or memory runs out, it is as for an import without
-- positions.
abbrev pub ImportedWith : {I O C K T : Type 0} → Source.Ghosts I → Sink.Ghosts O → Cabinet.Ghosts C K → Rules → (store desk : List ℕ) → Result T Fault → (old new : Lent I O C) → Type 0
ImportedWith source sink cabinet rules store desk (Ok done) old new =
    IfExposed source cabinet store old (λ text tables. DidAll rules desk text tables (cabinet.told new.cabinet store) (sink.bytes old.output) (sink.bytes new.output))
    × IfSome (source.left old.input) (λ text. length text ≤ 4_194_304)
ImportedWith source sink cabinet rules store desk (Err Write) old new =
    IfExposed source cabinet store old (λ text tables. DidSome rules desk text tables (cabinet.told new.cabinet store) (sink.bytes old.output) (sink.bytes new.output))
    × IfSome (source.left old.input) (λ text. length text ≤ 4_194_304)
    × Rose (sink.faults old.output) (sink.faults new.output)
ImportedWith source sink cabinet rules store desk (Err Store) old new =
    IfExposed source cabinet store old (λ text tables. DidFirst rules text tables (cabinet.told new.cabinet store) (sink.bytes old.output) (sink.bytes new.output))
    × IfSome (source.left old.input) (λ text. length text ≤ 4_194_304)
    × (Rose (cabinet.faults old.cabinet) (cabinet.faults new.cabinet) ⊎ MayNotSum desk (cabinet.told old.cabinet store))
ImportedWith source sink cabinet rules store desk result old new = Imported source sink cabinet rules store result old new

-- if the desk has more trades than can be summed, nothing is applied and nothing written
abbrev pub DoesNoneOfTooMany : {I O C K : Type 0} → Cabinet.Ghosts C K → (store desk : List ℕ) → (old new : Lent I O C) → Type 0
DoesNoneOfTooMany cabinet store desk old new =
    IfSome (cabinet.told old.cabinet store) (λ tables. HasTooMany desk tables
    → (cabinet.told new.cabinet store ≡ cabinet.told old.cabinet store) × (new.output ≡ old.output))
