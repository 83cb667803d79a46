-- What a call leaves of a connection that it only takes from, or only puts to.
use Rattle.std.specs.Prelude.{◌≡◌, ◌≤◌, List, ℕ, Result, OnOk, OnErr, IsErrOf}
use Rattle.muni_edge.specs.Faults.{Rose}
use Rattle.muni_edge.specs.Sink.{HasWritten, HasWrittenPart}
use Rattle.muni_edge.specs.declared.sink.Sink as sink
use Rattle.muni_edge.specs.declared.source.Source as source

-- What was put stays, and this fault is counted as a take that failed.
pub record OnlyTakes {L T E : Type 0} (takes : source.Ghosts L) (puts : sink.Ghosts L) (fault : E) (result : Result T E) (old new : L) : Type 0 where
  pub later : takes.faults old ≤ takes.faults new
  pub failed : IsErrOf result fault → Rose (takes.faults old) (takes.faults new)
  pub keeps_bytes : puts.bytes new ≡ puts.bytes old
  pub keeps_puts : puts.faults new ≡ puts.faults old

-- It writes a text, or after a failure a prefix of it. What is left to be taken stays.
pub record OnlyPuts {L T E : Type 0} (takes : source.Ghosts L) (puts : sink.Ghosts L) (text : List ℕ) (result : Result T E) (old new : L) : Type 0 where
  pub written : OnOk result (HasWritten (puts.bytes old) (puts.bytes new) text)
  pub part : OnErr result (HasWrittenPart (puts.bytes old) (puts.bytes new) text)
  pub later : puts.faults old ≤ puts.faults new
  pub failed : OnErr result (Rose (puts.faults old) (puts.faults new))
  pub keeps_left : takes.left new ≡ takes.left old
  pub keeps_takes : takes.faults new ≡ takes.faults old
