-- The blocks of a group, as they are taken from an input.
use Rattle.std.specs.Prelude.{◌≡◌, ◌≢◌, ◌≤◌, ◌==◌, if◌then◌else◌, ℕ, List, [], ◌∷◌, ◌++◌, length, All, vec_len}
use Rattle.std.specs.Io.KnownBytes.{Consumes}
use Rattle.muni_edge.specs.declared.source.Source.{Ghosts}
use Rattle.muni_figures.specs.Blocks.{IsLeft, TakesBlock, most_bytes}
use Rattle.muni_figures.specs.Rows.{Row, rows_in}
use Rattle.muni_figures.specs.Shares.{rows_of_shares}
use Rattle.muni_figures.specs.declared.blocks.LineBlocks.{LineBlocks}
use Rattle.muni_figures.specs.declared.blocks.Reading.{Reading}
use Rattle.muni_figures.specs.declared.blocks.Reading.TheVariants.{Open, Ended, Failed}
use Rattle.muni_figures.specs.declared.shares.Share.{Share}

-- Whatever comes after a text, its rows are these, and then those of what is held and of what comes. After the end
-- they are all of its rows.
pub record CutsRows (text : List ℕ) (rows : List Row) (held : List ℕ) : Type 0 where
  pub all : (more : List ℕ) → rows_in (text ++ more) ≡ rows ++ rows_in (held ++ more)
  pub few : length (rows_in held) ≤ 1

abbrev pub CutsAll : Reading → (text : List ℕ) → List Row → (held : List ℕ) → Type 0
CutsAll Open text rows held = CutsRows text rows held
CutsAll Failed text rows held = CutsRows text rows held
CutsAll Ended text rows held = (rows_in text ≡ rows) × (held ≡ [])

-- The next block is added.
pub record AddsShare {I : Type 0} (source : Ghosts I) (before now : LineBlocks) (had has : List Share) (old new : I) : Type 0 where
  pub share : Share
  pub added : has ≡ had ++ share ∷ []
  pub taken : TakesBlock source before now share.block.items old new

-- The next bytes of an input are cut into blocks of whole lines and what is held.
pub record TakesGroup {I : Type 0} (source : Ghosts I) (before now : LineBlocks) (shares : List Share) (old new : I) : Type 0 where
  pub piece : List ℕ
  pub taken : Consumes (source.left old) (source.left new) piece
  pub cuts : CutsAll now.reading (before.held.items ++ piece) (rows_of_shares shares) now.held.items
  pub left : before.reading ≡ Open → IsLeft source now.reading old new
  pub over : before.reading ≢ Open → (now.reading ≡ before.reading) × (new ≡ old) × (piece ≡ [])
  pub few : length now.held.items ≤ most_bytes

-- how many blocks are held at once: one, or 32 for several workers to share out
abbrev pub blocks_at_once : ℕ → ℕ
blocks_at_once workers = if workers == 1 then 1 else 32

-- So many blocks are held at once, each of 64 KB at most.
pub record AreBounded (most : ℕ) (shares : List Share) : Type 0 where
  pub count : length shares ≤ most
  pub bytes : All (λ share. vec_len share.block ≤ most_bytes) shares
