-- What a take moves from the bytes that a source exposes.
use Rattle.std.specs.Prelude.{◌≡◌, ℕ, List, Option, Result, take, is_some, OnErr, IfOk}
use Rattle.std.specs.Io.KnownBytes.{Consumes, IsAtEnd}

-- So many of the next bytes are at the front of the room, and none only at the end. A failure moves none.
pub record Takes {E : Type 0} (old new : Option (List ℕ)) (room : List ℕ) (result : Result ℕ E) : Type 0 where
  pub tells : is_some new ≡ is_some old
  pub moved : IfOk result (λ count. Consumes old new (take count room))
  pub end : IfOk result (λ count. count ≡ 0 → IsAtEnd new)
  pub unchanged : OnErr result (new ≡ old)
