-- What is written to an output.
use Rattle.std.specs.Prelude.{◌≡◌, ◌≤◌, ℕ, List, Result, OnOk, OnErr, IsOkUnless}
use Rattle.muni_edge.specs.Faults.{Rose}
use Rattle.muni_edge.specs.Sink.{HasWritten, HasWrittenPart}
use Rattle.muni_edge.specs.declared.sink.Sink.{Ghosts}

-- The text is written. If not, the output has failed and counted it, a first part of the text may be
-- written, and the fault is this one.
pub record Writes {O T E : Type 0} (sink : Ghosts O) (fault : E) (result : Result T E) (text : List ℕ) (old new : O) : Type 0 where
  pub written : OnOk result (HasWritten (sink.bytes old) (sink.bytes new) text)
  pub part : OnErr result (HasWrittenPart (sink.bytes old) (sink.bytes new) text)
  pub later : sink.faults old ≤ sink.faults new
  pub failed : OnErr result (Rose (sink.faults old) (sink.faults new))
  pub uncounted : OnOk result (sink.faults new ≡ sink.faults old)
  pub only : IsOkUnless result fault
