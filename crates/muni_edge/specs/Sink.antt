-- Bytes that were written, if an object exposes them.
use Rattle.std.specs.Prelude.{◌≡◌, ℕ, List, ◌++◌, take, Option, Some, Result, is_some, IfSome, OnOk, OnErr}

-- if the bytes are exposed, this text was appended
abbrev pub HasWritten : Option (List ℕ) → Option (List ℕ) → List ℕ → Type 0
HasWritten old new text = IfSome old (λ had. new ≡ Some (had ++ text))

-- if the bytes are exposed, a prefix of this text was appended
abbrev pub HasWrittenPart : Option (List ℕ) → Option (List ℕ) → List ℕ → Type 0
HasWrittenPart old new text =
    IfSome old (λ had. (count : ℕ) × (new ≡ Some (had ++ take count text)))

-- What a put does: it appends the piece, or after a failure a prefix of it.
pub record Puts {T E : Type 0} (old new : Option (List ℕ)) (piece : List ℕ) (result : Result T E) : Type 0 where
  pub tells : is_some new ≡ is_some old
  pub written : OnOk result (HasWritten old new piece)
  pub part : OnErr result (HasWrittenPart old new piece)

-- such a text was written
abbrev pub Wrote : (List ℕ → Type 0) → Option (List ℕ) → Option (List ℕ) → Type 0
Wrote IsText old new = (text : List ℕ) × IsText text × HasWritten old new text

-- a prefix of such a text was written
abbrev pub WrotePart : (List ℕ → Type 0) → Option (List ℕ) → Option (List ℕ) → Type 0
WrotePart IsText old new = (text : List ℕ) × IsText text × HasWrittenPart old new text
