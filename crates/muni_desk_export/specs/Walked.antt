-- What a walk over a keeper writes to an output, and what it leaves of both.
use Rattle.std.specs.Prelude.{◌≡◌, ◌≤◌, ◌⊎◌, ℕ, List, Result, None, IfSome, OnOk, OnErr, IsErrOf, ⊤, IfErr}
use Rattle.muni_edge.specs.Faults.{Rose}
use Rattle.muni_edge.specs.Sink.{HasWritten, HasWrittenPart}
use Rattle.muni_edge.specs.declared.sink.Sink as Sink
use Rattle.muni_keep.specs.Tables.{Tables}
use Rattle.muni_keep.specs.declared.keeper.Keeper as Keeper
use Rattle.muni_desk_io.specs.Reports.{ReportsWrites}
use Rattle.muni_desk_io.specs.declared.fault.Fault.{Fault}
use Rattle.muni_desk_io.specs.declared.fault.Fault.TheVariants.{Read, Write, Store, NoMemory, TooLarge}

-- no fault of an input
abbrev pub IsOfNoInput : Fault → Type 0
IsOfNoInput Read = ⊥
IsOfNoInput Write = ⊤
IsOfNoInput Store = ⊤
IsOfNoInput NoMemory = ⊤
IsOfNoInput TooLarge = ⊥

-- A text of the tables is written, or after a fault a first part of it. The tables stay.
pub record Walks {K O T : Type 0} (keeper : Keeper.Ghosts K) (sink : Sink.Ghosts O) (text : Tables → List ℕ) (result : Result T Fault) (old new : K) (before after : O) : Type 0 where
  pub whole : OnOk result (IfSome (keeper.tables old) (λ tables. HasWritten (sink.bytes before) (sink.bytes after) (text tables)))
  pub part : OnErr result (IfSome (keeper.tables old) (λ tables. HasWrittenPart (sink.bytes before) (sink.bytes after) (text tables)))
  pub unchanged : keeper.tables new ≡ keeper.tables old
  pub later : keeper.faults old ≤ keeper.faults new
  pub lent_as : keeper.lent_as new ≡ keeper.lent_as old
  pub failed : IsErrOf result Store → Rose (keeper.faults old) (keeper.faults new) ⊎ (keeper.tables old ≡ None)
  pub unwritten : IsErrOf result Write → Rose (sink.faults before) (sink.faults after)
  pub reported : ReportsWrites sink result before after
  pub puts_later : sink.faults before ≤ sink.faults after
  pub only : IfErr result IsOfNoInput
