-- What a piece adds to a writer, and what reads take from a reader, if the bytes are known.
use Rattle.std.specs.Prelude.{ℕ, ◌≤◌, List, Option, Result, length, take, OnOk, OnErr}
use Rattle.std.specs.Io.KnownBytes.{Appends, Consumes}

-- Success appends the piece, and failure a prefix of it.
pub record AppendsPiece {T E : Type 0} (old new : Option (List ℕ)) (result : Result T E) (piece : List ℕ) : Type 0 where
  pub whole : OnOk result (Appends old new piece)
  pub part : OnErr result ((count : ℕ) × Appends old new (take count piece))

-- At most so many bytes are gone, from the front.
abbrev pub LosesAtMost : ℕ → Option (List ℕ) → Option (List ℕ) → Type 0
LosesAtMost most old new = (bytes : List ℕ) × Consumes old new bytes × (length bytes ≤ most)
