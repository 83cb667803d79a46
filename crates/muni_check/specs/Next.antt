-- The next block of an input.
use Rattle.std.specs.Prelude.{◌≡◌, ◌++◌, Bool, true, false, ℕ, List, [], Result, Ok, Err}
use Rattle.std.specs.Io.KnownBytes.{Consumes, IsAtEnd}
use Rattle.std.specs.Global.{Vec}
use Rattle.muni_edge.specs.Faults.{Rose}
use Rattle.muni_edge.specs.declared.source.Source.{Ghosts}
use Rattle.muni_import.specs.Blocks.{CutsRecords}
use Rattle.muni_desk_io.specs.declared.fault.Fault.{Fault}
use Rattle.muni_desk_io.specs.declared.fault.Fault.TheVariants.{Read, Write, Store, NoMemory, TooLarge}
use Rattle.muni_check.specs.declared.blocks.Blocks.{Blocks}

-- a text is cut off before what is held, or it is all that is left
abbrev pub Cuts : (ended : Bool) → (text block held : List ℕ) → Type 0
Cuts false text block held = CutsRecords text block held
Cuts true text block held = (block ≡ text) × (held ≡ [])

-- at the end nothing is left
abbrev pub EndsAt : {I : Type 0} → Ghosts I → (ended : Bool) → I → Type 0
EndsAt source false new = Unit {0}
EndsAt source true new = IsAtEnd (source.left new)

-- A piece of an input is taken, and what is whole with it is a block.
pub record TakesBlock {I : Type 0} (source : Ghosts I) (before now : Blocks) (block : List ℕ) (old new : I) : Type 0 where
  pub piece : List ℕ
  pub taken : Consumes (source.left old) (source.left new) piece
  pub cuts : Cuts now.ended (before.held ++ piece) block now.held
  pub end : EndsAt source now.ended new
  pub uncounted : source.faults new ≡ source.faults old

-- a piece is taken, and no fault is counted
pub record TakesPiece {I : Type 0} (source : Ghosts I) (old new : I) : Type 0 where
  pub piece : List ℕ
  pub taken : Consumes (source.left old) (source.left new) piece
  pub uncounted : source.faults new ≡ source.faults old

-- or the input fails, and nothing is taken
pub record IsUnread {I : Type 0} (source : Ghosts I) (old new : I) : Type 0 where
  pub left : source.left new ≡ source.left old
  pub failed : Rose (source.faults old) (source.faults new)

abbrev pub GivesBlock : {I : Type 0} → Ghosts I → Result (Vec ℕ) Fault → (before now : Blocks) → (old new : I) → Type 0
GivesBlock source (Ok block) before now old new = TakesBlock source before now block.items old new
GivesBlock source (Err Read) before now old new = IsUnread source old new
GivesBlock source (Err NoMemory) before now old new = TakesPiece source old new
GivesBlock source (Err Write) before now old new = ⊥
GivesBlock source (Err Store) before now old new = ⊥
GivesBlock source (Err TooLarge) before now old new = ⊥
