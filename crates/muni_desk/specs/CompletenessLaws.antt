-- A law of completeness: which commands are answered.
use Rattle.std.specs.Prelude.{◌≡◌, ◌≤◌, ◌<◌, ◌+◌, ◌^◌, ⊤, ℕ, List, length, Some, None, ℤ}
use Rattle.muni_rule.specs.Payments.{PaymentSeries}
use Rattle.muni_rule.specs.WorthEnds.{WorthEnds}
use Rattle.muni_edge.specs.Faults.{Rose}
use Rattle.muni_edge.specs.declared.door.Door as Door
use Rattle.muni_edge.specs.declared.sink.Sink as Sink
use Rattle.muni_edge.specs.declared.source.Source as Source
use Rattle.muni_keep.specs.declared.cabinet.Cabinet as Cabinet
use Rattle.muni_import.specs.Rows.{rows_of}
use Rattle.muni_desk_io.specs.Lent.{Lent}
use Rattle.muni_position.specs.Listing.{MayNotSum}
use Rattle.muni_check_rows.specs.Rows as check
use Rattle.muni_figures.specs.Rows as figures
use Rattle.muni_desk_serve.specs.Serves.{Traffic}
use Rattle.muni_desk.specs.Does.{Does}
use Rattle.muni_desk.specs.declared.command.DeskCommand.{DeskCommand}
use Rattle.muni_desk.specs.declared.command.DeskCommand.TheVariants.{QuoteOne, Quote, Import, Load, Confirm, Serve, Positions, Mark, Figures, Check, CheckAlone, Export, Drill, Help}
use Rattle.muni_desk.specs.declared.status.Status.{Status}
use Rattle.muni_desk.specs.declared.status.Status.TheVariants.{Done, Refused, NoMemory}

-- no count of faults rose
pub record NoneFailed {I O C K D L : Type 0} (source : Source.Ghosts I) (sink : Sink.Ghosts O) (cabinet : Cabinet.Ghosts C K) (door : Door.Ghosts D L) (old new : Lent I O C) (before after : D) : Type 0 where
  pub reads : ¬ (Rose (source.faults old.input) (source.faults new.input))
  pub writes : ¬ (Rose (sink.faults old.output) (sink.faults new.output))
  pub stores : ¬ (Rose (cabinet.faults old.cabinet) (cabinet.faults new.cabinet))
  pub serves : ¬ (Rose (door.faults before) (door.faults after))

-- the input has at most so many bytes
abbrev pub HasAtMost : {I : Type 0} → Source.Ghosts I → ℕ → I → Type 0
HasAtMost source most input = (text : List ℕ) × (source.left input ≡ Some text) × (length text ≤ most)

-- or so many rows
abbrev pub HasRowsAtMost : {I : Type 0} → Source.Ghosts I → ℕ → I → Type 0
HasRowsAtMost source most input = (text : List ℕ) × (source.left input ≡ Some text) × (length (rows_of text) ≤ most)

-- or so few lines that each has a place
abbrev pub HasPlaces : {I : Type 0} → Source.Ghosts I → ℕ → I → Type 0
HasPlaces source first input =
    (text : List ℕ) × (source.left input ≡ Some text) × (first + length (figures.rows_of text) < 2 ^ 64)

-- or so few records that each has a place
abbrev pub HasRecordPlaces : {I : Type 0} → Source.Ghosts I → I → Type 0
HasRecordPlaces source input =
    (text : List ℕ) × (source.left input ≡ Some text) × (length (check.records_of text) < 2 ^ 64)

-- no more than the command reads
abbrev pub IsWithinLimit : {I : Type 0} → Source.Ghosts I → DeskCommand → I → Type 0
IsWithinLimit source (Import store listed limit) input = HasAtMost source 4_194_304 input
IsWithinLimit source (Load store limit) input = HasRowsAtMost source 4_294_967_295 input
IsWithinLimit source (Mark store) input = HasAtMost source 1_048_576 input
IsWithinLimit source (Figures store options) input = HasPlaces source options.first input
IsWithinLimit source (Check store desk) input = HasRecordPlaces source input
IsWithinLimit source CheckAlone input = HasRecordPlaces source input
IsWithinLimit source command input = ⊤

-- what it lists or exports can be read: the tables of the store are exposed, and a desk whose positions it lists
-- has at most 100,000,000 trades
abbrev pub CanBeRead : {C K : Type 0} → Cabinet.Ghosts C K → DeskCommand → C → Type 0
CanBeRead cabinet (Import store (Some desk) limit) old = ¬ (MayNotSum desk (cabinet.told old store.items))
CanBeRead cabinet (Positions store desk) old = ¬ (MayNotSum desk (cabinet.told old store.items))
CanBeRead cabinet (Export store wanted) old = ¬ (cabinet.told old store.items ≡ None)
CanBeRead cabinet command old = ⊤

-- done, or refused by the rule
abbrev pub EndsWell : Status → Type 0
EndsWell Done = ⊤
EndsWell Refused = ⊤
EndsWell status = ⊥

-- the same over a store, or out of memory
abbrev pub EndsWellOverStore : Status → Type 0
EndsWellOverStore NoMemory = ⊤
EndsWellOverStore status = EndsWell status

abbrev pub IsCompleted : DeskCommand → Status → Type 0
IsCompleted (QuoteOne request) status = EndsWell status
IsCompleted (Quote request shown) status = EndsWell status
IsCompleted (Import store listed limit) status = EndsWellOverStore status
IsCompleted (Load store limit) status = EndsWellOverStore status
IsCompleted (Confirm store key) status = EndsWellOverStore status
IsCompleted (Serve store port connections limit) status = EndsWellOverStore status
IsCompleted (Positions store desk) status = EndsWellOverStore status
IsCompleted (Mark store) status = EndsWellOverStore status
IsCompleted (Figures store options) status = EndsWellOverStore status
IsCompleted (Check store desk) status = EndsWellOverStore status
IsCompleted CheckAlone status = EndsWellOverStore status
IsCompleted (Export store wanted) status = EndsWellOverStore status
IsCompleted (Drill request) status = EndsWell status
IsCompleted Help status = EndsWell status

-- A command whose input is within its limit, and whose tables can be read, is completed if nothing failed.
abbrev pub CommandsAreCompleted : {I O C K D L : Type 0} → Source.Ghosts I → Sink.Ghosts O → Cabinet.Ghosts C K → Door.Ghosts D L → Type 0
CommandsAreCompleted {I} {O} {C} {K} {D} {L} source sink cabinet door =
    (ends : PaymentSeries → ℤ → WorthEnds) (told : L → Traffic) (command : DeskCommand) (status : Status) (old new : Lent I O C) (before after : D)
    → Does source sink cabinet door ends told command status old new before after
    → NoneFailed source sink cabinet door old new before after
    → IsWithinLimit source command old.input
    → CanBeRead cabinet command old.cabinet
    → IsCompleted command status
