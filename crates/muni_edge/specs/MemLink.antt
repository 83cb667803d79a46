-- What a connection in memory does.
use Rattle.std.specs.Prelude.{ℕ, List}
use Rattle.muni_edge.specs.MemSource.{SourceState, new_source}
use Rattle.muni_edge.specs.MemSink.{SinkState, new_sink}

-- the bytes to be taken, and what is written
pub record LinkState : Type 0 where
  pub source : SourceState
  pub sink : SinkState

-- nothing was taken or written yet
abbrev pub new_link : List ℕ → ℕ → List ℕ → List ℕ → LinkState
new_link bytes room failing_takes failing_puts =
    record { source = new_source bytes failing_takes; sink = new_sink room failing_puts }
