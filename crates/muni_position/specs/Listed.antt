-- What a listing of positions writes, and which fault ends it.
use Rattle.std.specs.Prelude.{◌≡◌, ◌⊎◌, ℕ, List, Option, Result, Ok, Err, IfSome}
use Rattle.muni_edge.specs.Faults.{Rose}
use Rattle.muni_edge.specs.Sink.{HasWritten, HasWrittenPart}
use Rattle.muni_edge.specs.declared.sink.Sink.{Ghosts}
use Rattle.muni_keep.specs.Tables.{Tables}
use Rattle.muni_desk_io.specs.declared.fault.Fault.{Fault}
use Rattle.muni_desk_io.specs.declared.fault.Fault.TheVariants.{Read, Write, Store, NoMemory, TooLarge}
use Rattle.muni_position.specs.Listing.{MayNotSum, positions_text}

-- The lines of the positions, if the tables are exposed. After a fault of the store it has counted one, or
-- the desk may have more trades than can be summed.
abbrev pub Listed : {O T : Type 0} → Ghosts O → (desk : List ℕ) → Option Tables → (counted : Type 0) → Result T Fault → (before after : O) → Type 0
Listed sink desk exposed counted (Ok done) before after =
    IfSome exposed (λ tables. HasWritten (sink.bytes before) (sink.bytes after) (positions_text desk tables))
Listed sink desk exposed counted (Err Write) before after =
    IfSome exposed (λ tables. HasWrittenPart (sink.bytes before) (sink.bytes after) (positions_text desk tables))
    × Rose (sink.faults before) (sink.faults after)
Listed sink desk exposed counted (Err Store) before after = (after ≡ before) × (counted ⊎ MayNotSum desk exposed)
Listed sink desk exposed counted (Err NoMemory) before after = after ≡ before
Listed sink desk exposed counted (Err Read) before after = ⊥
Listed sink desk exposed counted (Err TooLarge) before after = ⊥
