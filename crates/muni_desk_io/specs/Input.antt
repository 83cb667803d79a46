-- What is read from an input, and why there is none.
use Rattle.std.specs.Prelude.{◌≡◌, ◌<◌, ◌≤◌, ◌+◌, ◌++◌, ◌⊎◌, ⊤, ℕ, List, [], length, Some, Result, Ok, Err, IfOk, IfSome, IsErrOf}
use Rattle.std.specs.Io.KnownBytes.{Consumes, IsAtEnd}
use Rattle.muni_edge.specs.Faults.{Rose}
use Rattle.muni_edge.specs.declared.source.Source.{Ghosts}
use Rattle.muni_desk_io.specs.declared.input.InputFault.{InputFault}
use Rattle.muni_desk_io.specs.declared.input.InputFault.TheVariants.{Failed, TooLarge, NoMemory}

-- for another reason than that it is too large
abbrev pub IsNotTooLarge : InputFault → Type 0
IsNotTooLarge Failed = ⊤
IsNotTooLarge TooLarge = ⊥
IsNotTooLarge NoMemory = ⊤

-- A read that failed is counted and reported; after any other outcome none has failed.
abbrev pub CountsReads : {T : Type 0} → Result T InputFault → ℕ → ℕ → Type 0
CountsReads (Ok value) before now = now ≡ before
CountsReads (Err Failed) before now = Rose before now
CountsReads (Err TooLarge) before now = now ≡ before
CountsReads (Err NoMemory) before now = now ≡ before

-- at most so many bytes are taken
abbrev pub TakesUpTo : {I : Type 0} → Ghosts I → ℕ → I → I → Type 0
TakesUpTo source most old new =
    (piece : List ℕ) × Consumes (source.left old) (source.left new) piece × (length piece ≤ most)

-- A piece of so many bytes is taken and added to those that are had. Then one is beyond the limit at most. If the
-- piece is empty, the source is at its end.
pub record AddsTaken {I : Type 0} (source : Ghosts I) (limit count : ℕ) (had has : List ℕ) (old new : I) : Type 0 where
  pub piece : List ℕ
  pub taken : Consumes (source.left old) (source.left new) piece
  pub added : has ≡ had ++ piece
  pub counted : length has ≡ length had + count
  pub few : length has ≤ limit + 1
  pub end : count ≡ 0 → IsAtEnd (source.left new)

-- Everything that was left in a source is read, if it has no more bytes than the limit. Of a longer one no byte
-- is taken after the first beyond the limit.
pub record ReadsAll {I V : Type 0} (source : Ghosts I) (limit : ℕ) (result : Result V InputFault) (items : V → List ℕ) (old new : I) : Type 0 where
  pub whole : IfOk result (λ bytes. IfSome (source.left old) (λ all. (all ≡ items bytes) × (source.left new ≡ Some [])))
  pub few : IfOk result (λ bytes. length (items bytes) ≤ limit)
  pub too_large : IsErrOf result TooLarge → IfSome (source.left old) (λ all. limit < length all)
  pub limited : TakesUpTo source (limit + 1) old new
  pub later : source.faults old ≤ source.faults new
  pub failed : IsErrOf result Failed → Rose (source.faults old) (source.faults new)
  pub uncounted : (source.faults new ≡ source.faults old) ⊎ IsErrOf result Failed
