-- How far the bytes of a connection are read.
use Rattle.std.specs.Prelude.{◌≡◌, ◌⊎◌, ◌≤◌, ◌<◌, ◌+◌, ℕ, List, ◌++◌, length, max, Option, IfSome}
use Rattle.std.specs.Io.KnownBytes.{Consumes}
use Rattle.httparse.specs.Grammar.{RequestHead, ReadsRequest, print_request, HasNoRequest}
use Rattle.muni_edge.specs.declared.source.Source as source
use Rattle.muni_wire.specs.Awaited.{plan_of}
use Rattle.muni_wire.specs.Head.{HasHead, head_limit}
use Rattle.muni_wire.specs.declared.head.Awaited.{Awaited}
use Rattle.muni_wire.specs.declared.head.Awaited.TheVariants as plan

-- a piece has at most so many bytes
abbrev pub piece_limit : ℕ
piece_limit = 1_024

-- so many bytes at most were taken
pub record TakesAtMost (count : ℕ) (old new : Option (List ℕ)) : Type 0 where
  pub piece : List ℕ
  pub taken : Consumes old new piece
  pub few : length piece ≤ count

-- One take was made, of so many bytes at most.
pub record IsTake {L : Type 0} (takes : source.Ghosts L) (count : ℕ) (old new : L) : Type 0 where
  pub piece : List ℕ
  pub taken : Consumes (takes.left old) (takes.left new) piece
  pub few : length piece ≤ count
  pub keeps : takes.take_keeps old new

-- Bytes were taken, and when they were such, a last take was made.
pub record LastTake {L : Type 0} (takes : source.Ghosts L) (Such : List ℕ → Type 0) (old new : L) : Type 0 where
  pub mid : L
  pub before : List ℕ
  pub taken : Consumes (takes.left old) (takes.left mid) before
  pub such : Such before
  pub last : IsTake takes piece_limit mid new

-- takes are made only while the bytes that were taken are such
abbrev pub TakesOnlyWhile : {L : Type 0} → source.Ghosts L → (List ℕ → Type 0) → (old new : L) → Type 0
TakesOnlyWhile takes Such old new = (new ≡ old) ⊎ LastTake takes Such old new

-- Bytes were taken for a head, no more than one has, and only while they held no request.
pub record TakesHead {L : Type 0} (takes : source.Ghosts L) (old new : L) : Type 0 where
  pub takes_last : LastTake takes HasNoRequest old new
  pub most : length (takes_last.before ++ takes_last.last.piece) ≤ head_limit

-- how many bytes after a head are awaited: those of its body
abbrev pub awaited_size : Awaited → ℕ
awaited_size (plan.Refuse kind) = 0
awaited_size (plan.Ask request) = 0
awaited_size (plan.Read form size) = size

-- More is to come of a request: its head, or if that has come within the limits, the rest of its body.
abbrev pub AwaitsMore : List ℕ → Type 0
AwaitsMore bytes =
    (h : RequestHead) (rest : List ℕ) → ReadsRequest bytes h rest
    → HasHead bytes h rest × (length rest < awaited_size (plan_of h))

-- So many of these bytes go no further than a request. After a head come its body, or less than a
-- piece; without a head within the limits they are no more than a head has.
pub record IsNoFurther (bytes : List ℕ) (count : ℕ) : Type 0 where
  pub head : (h : RequestHead) (rest : List ℕ) → HasHead bytes h rest
      → count ≤ length (print_request h) + max 1_023 (awaited_size (plan_of h))
  pub none : ((h : RequestHead) (rest : List ℕ) → ¬ (HasHead bytes h rest)) → count ≤ head_limit

-- bytes were taken, no further than a request
pub record ReadsNoFurther (old new : Option (List ℕ)) : Type 0 where
  pub piece : List ℕ
  pub taken : Consumes old new piece
  pub few : IfSome old (λ bytes. IsNoFurther bytes (length piece))
