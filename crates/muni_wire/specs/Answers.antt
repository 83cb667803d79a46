-- What an answer leaves of a connection.
use Rattle.std.specs.Prelude.{◌≡◌, ℕ, List, Result, IfOk, OnOk}
use Rattle.muni_edge.specs.Link.{OnlyPuts}
use Rattle.muni_edge.specs.declared.sink.Sink as sink
use Rattle.muni_edge.specs.declared.source.Source as source
use Rattle.muni_wire.specs.declared.status.HttpStatus.{HttpStatus}

-- The text is put and its status told, or after a failure a prefix of the text was put. If it was put, no
-- failure was counted.
pub record Answers {L E : Type 0} (takes : source.Ghosts L) (sends : sink.Ghosts L) (status : HttpStatus) (text : List ℕ) (result : Result HttpStatus E) (old new : L) : Type 0 where
  pub puts : OnlyPuts takes sends text result old new
  pub told : IfOk result (λ answered. answered ≡ status)
  pub uncounted : OnOk result (sends.faults new ≡ sends.faults old)
