-- What is written of what a store keeps, and which fault ends it.
use Rattle.std.specs.Prelude.{◌≡◌, ◌⊎◌, Option, None, Result, Ok, Err, IfSome}
use Rattle.muni_edge.specs.Faults.{Rose}
use Rattle.muni_edge.specs.Sink.{HasWritten, HasWrittenPart}
use Rattle.muni_edge.specs.declared.sink.Sink.{Ghosts}
use Rattle.muni_keep.specs.Tables.{Tables}
use Rattle.muni_desk_io.specs.declared.fault.Fault.{Fault}
use Rattle.muni_desk_io.specs.declared.fault.Fault.TheVariants.{Read, Write, Store, NoMemory, TooLarge}
use Rattle.muni_desk_export.specs.Wanted.{wanted_text}
use Rattle.muni_desk_export.specs.declared.wanted.Wanted.{Wanted}

-- The text that is wanted, if the tables are exposed, or after a fault a first part of it. After a fault of the
-- store it has counted one, or does not expose its tables.
abbrev pub WritesKept : {O T : Type 0} → Ghosts O → Wanted → Option Tables → (counted : Type 0) → Result T Fault → (before after : O) → Type 0
WritesKept sink wanted exposed counted (Ok done) before after =
    IfSome exposed (λ tables. HasWritten (sink.bytes before) (sink.bytes after) (wanted_text wanted tables))
WritesKept sink wanted exposed counted (Err Write) before after =
    IfSome exposed (λ tables. HasWrittenPart (sink.bytes before) (sink.bytes after) (wanted_text wanted tables))
    × Rose (sink.faults before) (sink.faults after)
WritesKept sink wanted exposed counted (Err Store) before after =
    IfSome exposed (λ tables. HasWrittenPart (sink.bytes before) (sink.bytes after) (wanted_text wanted tables))
    × (counted ⊎ (exposed ≡ None))
WritesKept sink wanted exposed counted (Err NoMemory) before after =
    IfSome exposed (λ tables. HasWrittenPart (sink.bytes before) (sink.bytes after) (wanted_text wanted tables))
WritesKept sink wanted exposed counted (Err Read) before after = ⊥
WritesKept sink wanted exposed counted (Err TooLarge) before after = ⊥
