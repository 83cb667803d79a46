-- What the figures of an input write, by how they end.
use Rattle.std.specs.Prelude.{◌≡◌, ◌⊎◌, ◌≤◌, ◌+◌, ◌^◌, ℕ, List, [], length, Option, Some, Result, Ok, Err}
use Rattle.std.specs.Io.KnownBytes.{Consumes}
use Rattle.muni_edge.specs.Sink.{HasWritten, Wrote, WrotePart}
use Rattle.muni_desk_io.specs.declared.fault.Fault.{Fault}
use Rattle.muni_desk_io.specs.declared.fault.Fault.TheVariants.{Read, Write, Store, NoMemory, TooLarge}
use Rattle.muni_figures.specs.Done.{AreDone, IsBegunText, IsFiguresText, IsFirstText, tally_sum}
use Rattle.muni_figures.specs.Rows.{Row, rows_of}
use Rattle.muni_figures.specs.declared.said.FiguresSaid.{FiguresSaid}
use Rattle.muni_figures.specs.declared.tally.Tally.{Tally}

-- The lines of the rows that came of a text before its input failed: of all but the last, which may go on in the
-- bytes that did not come.
pub record WroteCame (Answers : Row → FiguresSaid → Type 0) (before : List ℕ) (place : ℕ) (text : List ℕ) (left had has : Option (List ℕ)) : Type 0 where
  pub came : List ℕ
  pub taken : Consumes (Some text) left came
  pub lines : List ℕ
  pub first : IsFirstText Answers before place (rows_of came) lines
  pub one : length first.left ≤ 1
  pub written : HasWritten had has lines

-- no place is left for the rows of a text
abbrev pub HasTooManyRows : ℕ → List ℕ → Type 0
HasTooManyRows place text = 2 ^ 64 ≤ place + length (rows_of text)

-- the lines of the first rows of a text, or nothing at all
abbrev pub WroteFirst : (Row → FiguresSaid → Type 0) → List ℕ → ℕ → List ℕ → (had has : Option (List ℕ)) → Type 0
WroteFirst Answers before place text had has =
    Wrote (IsFirstText Answers before place (rows_of text)) had has ⊎ (has ≡ had)

-- All lines of a text and the total, or the lines of its first rows: of those that came if the input failed. A
-- part of them may be written if the output fails.
abbrev pub WroteFigures : {T : Type 0} → (Row → FiguresSaid → Type 0) → List ℕ → ℕ → List ℕ → Result T Fault → (left had has : Option (List ℕ)) → Type 0
WroteFigures Answers before place text (Ok done) left had has = Wrote (IsFiguresText Answers before place (rows_of text)) had has
WroteFigures Answers before place text (Err Read) left had has = WroteCame Answers before place text left had has
WroteFigures Answers before place text (Err Write) left had has = WrotePart (IsBegunText Answers before place (rows_of text)) had has
WroteFigures Answers before place text (Err Store) left had has = WroteFirst Answers before place text had has
WroteFigures Answers before place text (Err NoMemory) left had has = WroteFirst Answers before place text had has
WroteFigures Answers before place text (Err TooLarge) left had has =
    WroteFirst Answers before place text had has × HasTooManyRows place text

-- the lines of the first of some rows were written after others, or a part of them if the output failed
abbrev pub DidRows : (Row → FiguresSaid → Type 0) → ℕ → List Row → (before : Tally) → Result Tally Fault → (had has : Option (List ℕ)) → Type 0
DidRows Answers place rows before (Ok tally) had has =
    (lines : List ℕ) × (these : Tally) × AreDone Answers (place + before.rows) rows lines these
    × (tally ≡ tally_sum before these) × HasWritten had has lines
DidRows Answers place rows before (Err Write) had has =
    WrotePart (IsFirstText Answers [] (place + before.rows) rows) had has
DidRows Answers place rows before (Err TooLarge) had has =
    Wrote (IsFirstText Answers [] (place + before.rows) rows) had has
    × (2 ^ 64 ≤ place + before.rows + length rows)
DidRows Answers place rows before (Err Read) had has = ⊥
DidRows Answers place rows before (Err other) had has =
    Wrote (IsFirstText Answers [] (place + before.rows) rows) had has
