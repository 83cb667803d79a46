-- What a confirmation writes, and which fault ends it.
use Rattle.std.specs.Prelude.{◌≡◌, ℕ, List, Result, Ok, Err, IfSome}
use Rattle.muni_edge.specs.Faults.{Rose}
use Rattle.muni_edge.specs.Sink.{HasWritten, HasWrittenPart}
use Rattle.muni_edge.specs.declared.sink.Sink as Sink
use Rattle.muni_keep.specs.declared.cabinet.Cabinet as Cabinet
use Rattle.muni_msg.specs.declared.command.Key.{Key}
use Rattle.muni_desk_io.specs.declared.fault.Fault.{Fault}
use Rattle.muni_desk_io.specs.declared.fault.Fault.TheVariants.{Read, Write, Store, NoMemory, TooLarge}
use Rattle.muni_desk_import.specs.Confirm.{confirmed}
use Rattle.muni_desk_import.specs.declared.confirmations.Answered.{Answered}

-- The answer, or a first part of it if the output fails. Before a fault of the store, and
-- if memory runs out, nothing is written.
abbrev pub Confirmed : {O C K : Type 0} → Sink.Ghosts O → Cabinet.Ghosts C K → (store : List ℕ) → Key → Result Answered Fault → (before after : O) (old new : C) → Type 0
Confirmed sink cabinet store key (Ok answered) before after old new =
    IfSome (cabinet.told old store) (λ tables. (answered ≡ (confirmed tables key).answered)
    × HasWritten (sink.bytes before) (sink.bytes after) (confirmed tables key).text)
Confirmed sink cabinet store key (Err Write) before after old new =
    IfSome (cabinet.told old store) (λ tables. HasWrittenPart (sink.bytes before) (sink.bytes after) (confirmed tables key).text)
    × Rose (sink.faults before) (sink.faults after)
Confirmed sink cabinet store key (Err Store) before after old new =
    (after ≡ before) × Rose (cabinet.faults old) (cabinet.faults new)
Confirmed sink cabinet store key (Err NoMemory) before after old new = after ≡ before
Confirmed sink cabinet store key (Err Read) before after old new = ⊥
Confirmed sink cabinet store key (Err TooLarge) before after old new = ⊥
