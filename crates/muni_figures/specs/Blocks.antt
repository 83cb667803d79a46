-- The lines of an input that comes a piece at a time.
use Rattle.std.specs.Prelude.{◌≡◌, ◌≢◌, ◌<◌, ◌≤◌, ◌⊎◌, ◌-◌, ◌==◌, ◌&&◌, nat_le, All, Bool, false, ℕ, List, [], ◌++◌, length, drop, slice_index, Result, Ok, Err}
use Rattle.std.specs.Io.KnownBytes.{Consumes, IsAtEnd}
use Rattle.csv.specs.Reading.{strip_bom}
use Rattle.muni_edge.specs.Faults.{Rose}
use Rattle.muni_edge.specs.declared.fault.NoMemory.{NoMemory}
use Rattle.muni_edge.specs.declared.source.Source.{Ghosts}
use Rattle.muni_desk_io.specs.declared.fault.Fault.{Fault}
use Rattle.muni_desk_io.specs.declared.fault.Fault.TheVariants as fault
use Rattle.muni_figures.specs.Rows.{rows_in}
use Rattle.muni_figures.specs.declared.blocks.LineBlocks.{LineBlocks}
use Rattle.muni_figures.specs.declared.blocks.Reading.{Reading}
use Rattle.muni_figures.specs.declared.blocks.Reading.TheVariants.{Open, Ended, Failed}

-- a mark of the byte order is at the start of a text
abbrev pub has_mark : List ℕ → Bool
has_mark text =
    nat_le 3 (length text) && ((slice_index text 0 == 0xEF)
    && ((slice_index text 1 == 0xBB) && (slice_index text 2 == 0xBF)))

-- no line ends in bytes
abbrev pub NoneEnds : List ℕ → Type 0
NoneEnds bytes = All (λ b. (b == 10) ≡ false) bytes

-- so many bytes come up to the end of the last line that ends among them
pub record IsWhole (bytes : List ℕ) (end : ℕ) : Type 0 where
  pub within : end ≤ length bytes
  pub ended : (end ≡ 0) ⊎ (slice_index bytes (end - 1) ≡ 10)
  pub begun : NoneEnds (drop end bytes)

-- a block is cut off at the front of a text: whatever comes after the text, its rows are those of the block, and
-- then those of what is held and of what comes; what is held has one row at most
pub record CutsOff (text block held : List ℕ) : Type 0 where
  pub rows : (more : List ℕ) → rows_in (text ++ more) ≡ rows_in block ++ rows_in (held ++ more)
  pub few : length (rows_in held) ≤ 1

-- after the end all of the text is a block
abbrev pub Cuts : Reading → (text block held : List ℕ) → Type 0
Cuts Open text block held = CutsOff text block held
Cuts Failed text block held = CutsOff text block held
Cuts Ended text block held = (block ≡ text) × (held ≡ [])

-- the input has bytes left, or it is at its end, or it has failed and counted that
abbrev pub IsLeft : {I : Type 0} → Ghosts I → Reading → (old new : I) → Type 0
IsLeft source Open old new = source.faults new ≡ source.faults old
IsLeft source Ended old new = IsAtEnd (source.left new) × (source.faults new ≡ source.faults old)
IsLeft source Failed old new = Rose (source.faults old) (source.faults new)

-- these bytes have come, and more than 64 KB are not held
abbrev pub most_bytes : ℕ
most_bytes = 65_536

-- Bytes of an input are added to those that are had, until there are so many, or it ends or fails.
pub record Fills {I : Type 0} (source : Ghosts I) (least : ℕ) (reading : Reading) (had has : List ℕ) (old new : I) : Type 0 where
  pub piece : List ℕ
  pub taken : Consumes (source.left old) (source.left new) piece
  pub added : has ≡ had ++ piece
  pub left : IsLeft source reading old new
  pub enough : reading ≡ Open → least ≤ length has
  pub short : reading ≡ Failed → length has < least
  pub few : length had ≤ most_bytes → length has ≤ most_bytes

-- some bytes were taken from an input
abbrev pub TakesSome : {I : Type 0} → Ghosts I → I → I → Type 0
TakesSome source old new = (came : List ℕ) × Consumes (source.left old) (source.left new) came

-- Some bytes are taken from an input, and no fault is counted.
pub record TakesOnly {I : Type 0} (source : Ghosts I) (old new : I) : Type 0 where
  pub piece : List ℕ
  pub taken : Consumes (source.left old) (source.left new) piece
  pub uncounted : source.faults new ≡ source.faults old

-- and likewise if no memory was left
abbrev pub FillsOr : {I : Type 0} → Ghosts I → ℕ → Result Reading NoMemory → (had has : List ℕ) → (old new : I) → Type 0
FillsOr source least (Ok reading) had has old new = Fills source least reading had has old new
FillsOr source least (Err none) had has old new = TakesOnly source old new

-- The first bytes of an input are held, without a mark of the byte order. If it does not end among them, there are
-- enough to tell such a mark.
pub record IsOpened {I : Type 0} (source : Ghosts I) (blocks : LineBlocks) (old new : I) : Type 0 where
  pub came : List ℕ
  pub taken : Consumes (source.left old) (source.left new) came
  pub held : blocks.held.items ≡ strip_bom came
  pub few : length blocks.held.items ≤ most_bytes
  pub left : IsLeft source blocks.reading old new
  pub enough : blocks.reading ≡ Open → 3 ≤ length came
  pub whole : blocks.reading ≢ Failed

-- An input fails before it is opened only where fewer than three bytes come.
pub record IsUnopened {I : Type 0} (source : Ghosts I) (old new : I) : Type 0 where
  pub came : List ℕ
  pub taken : Consumes (source.left old) (source.left new) came
  pub few : length came < 3
  pub failed : Rose (source.faults old) (source.faults new)

abbrev pub Opens : {I : Type 0} → Ghosts I → Result LineBlocks Fault → (old new : I) → Type 0
Opens source (Ok blocks) old new = IsOpened source blocks old new
Opens source (Err fault.Read) old new = IsUnopened source old new
Opens source (Err fault.NoMemory) old new = TakesOnly source old new
Opens source (Err fault.Write) old new = ⊥
Opens source (Err fault.Store) old new = ⊥
Opens source (Err fault.TooLarge) old new = ⊥

-- Bytes of an input are added, if it is read on: after an end or a failure none are.
pub record ReadsOn {I : Type 0} (source : Ghosts I) (before now : Reading) (had has : List ℕ) (old new : I) : Type 0 where
  pub piece : List ℕ
  pub taken : Consumes (source.left old) (source.left new) piece
  pub added : has ≡ had ++ piece
  pub left : before ≡ Open → IsLeft source now old new
  pub over : before ≢ Open → (now ≡ before) × (new ≡ old) × (piece ≡ [])
  pub few : length had ≤ most_bytes → length has ≤ most_bytes

-- The next bytes of an input are cut into a block of whole lines and what is held. After an end or a failure no
-- byte is taken.
pub record TakesBlock {I : Type 0} (source : Ghosts I) (before now : LineBlocks) (block : List ℕ) (old new : I) : Type 0 where
  pub piece : List ℕ
  pub taken : Consumes (source.left old) (source.left new) piece
  pub cuts : Cuts now.reading (before.held.items ++ piece) block now.held.items
  pub left : before.reading ≡ Open → IsLeft source now.reading old new
  pub over : before.reading ≢ Open → (now.reading ≡ before.reading) × (new ≡ old) × (piece ≡ [])
  pub few : length before.held.items ≤ most_bytes → (length block ≤ most_bytes) × (length now.held.items ≤ most_bytes)
