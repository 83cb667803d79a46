-- What a check writes, by how it ends.
use Rattle.std.specs.Prelude.{◌≡◌, ◌⊎◌, ◌≤◌, ◌^◌, ℕ, List, [], ◌∷◌, ◌++◌, length, Option, Some, Result, Ok, Err}
use Rattle.std.specs.Io.KnownBytes.{Consumes}
use Rattle.muni_edge.specs.declared.source.Source.{Ghosts}
use Rattle.muni_edge.specs.Sink.{HasWritten, Wrote, WrotePart}
use Rattle.muni_desk_io.specs.declared.fault.Fault.{Fault}
use Rattle.muni_desk_io.specs.declared.fault.Fault.TheVariants.{Read, Write, Store, NoMemory, TooLarge}
use Rattle.muni_check.specs.Answer.{AreChecked, AreUnseen, IsAnswer, Over}
use Rattle.muni_check_rows.specs.Columns.{columns_in}
use Rattle.muni_check_rows.specs.Line.{unseen_lines}
use Rattle.muni_check_rows.specs.Rows.{named_by, records_of}
use Rattle.muni_msg.specs.declared.column.Column.{Column}
use Rattle.muni_check.specs.declared.command.CheckEnd.{CheckEnd}
use Rattle.muni_check_rows.specs.declared.said.CheckSaid.{CheckSaid}

-- some bytes were taken from an input
abbrev pub TakesSome : {I : Type 0} → Ghosts I → I → I → Type 0
TakesSome source old new = (came : List ℕ) × Consumes (source.left old) (source.left new) came

-- the lines of the first records of an input; the names of the columns have none
abbrev pub AreLinesOf : Over → (records : List (List (List ℕ))) → (lines : List ℕ) → Type 0
AreLinesOf over [] lines = lines ≡ []
AreLinesOf over (names ∷ rows) lines =
    (columns : List Column) × (columns_in names ≡ Ok columns)
    × (said : List CheckSaid) × AreChecked over columns rows said lines

-- a text on the first records
pub record IsFirstText (over : Over) (records : List (List (List ℕ))) (text : List ℕ) : Type 0 where
  pub done : List (List (List ℕ))
  pub left : List (List (List ℕ))
  pub split : done ++ left ≡ records
  pub lines : AreLinesOf over done text

-- a text on all rows and on the first of the trades for which none came
pub record IsTextWithUnseen (over : Over) (columns : List Column) (rows : List (List (List ℕ))) (text : List ℕ) : Type 0 where
  pub said : List CheckSaid
  pub lines : List ℕ
  pub checked : AreChecked over columns rows said lines
  pub unseen : List (List ℕ)
  pub left : List (List ℕ)
  pub are_unseen : AreUnseen over (named_by columns rows) (unseen ++ left)
  pub written : text ≡ lines ++ unseen_lines unseen

abbrev pub IsLastText : Over → (records : List (List (List ℕ))) → List ℕ → Type 0
IsLastText over [] text = ⊥
IsLastText over (names ∷ rows) text =
    (columns : List Column) × (columns_in names ≡ Ok columns) × IsTextWithUnseen over columns rows text

-- a first part of an answer
abbrev pub IsBegunText : Over → (records : List (List (List ℕ))) → List ℕ → Type 0
IsBegunText over records text = IsFirstText over records text ⊎ IsLastText over records text

-- such a part, or the whole
abbrev pub IsSomeText : Over → (records : List (List (List ℕ))) → List ℕ → Type 0
IsSomeText over records text =
    IsBegunText over records text ⊎ ((end : CheckEnd) × IsAnswer over records end text)

-- The lines of the records that came before an input failed: of all but the last, which may go on in the bytes that
-- did not come.
pub record WroteCame (over : Over) (text : List ℕ) (left had has : Option (List ℕ)) : Type 0 where
  pub came : List ℕ
  pub taken : Consumes (Some text) left came
  pub lines : List ℕ
  pub first : IsFirstText over (records_of came) lines
  pub one : length first.left ≤ 1
  pub written : HasWritten had has lines

-- a text has more records than there are places
abbrev pub HasTooManyRows : List ℕ → Type 0
HasTooManyRows text = 2 ^ 64 ≤ length (records_of text)

-- The answer to a text, or a first part of it after a fault: of what came if the input failed. A part of a line may
-- be written if the output fails.
abbrev pub WroteChecked : Over → (text : List ℕ) → Result CheckEnd Fault → (left had has : Option (List ℕ)) → Type 0
WroteChecked over text (Ok end) left had has = Wrote (IsAnswer over (records_of text) end) had has
WroteChecked over text (Err Read) left had has = WroteCame over text left had has
WroteChecked over text (Err Write) left had has = WrotePart (IsSomeText over (records_of text)) had has
WroteChecked over text (Err Store) left had has = Wrote (IsBegunText over (records_of text)) had has
WroteChecked over text (Err NoMemory) left had has = Wrote (IsBegunText over (records_of text)) had has
WroteChecked over text (Err TooLarge) left had has =
    Wrote (IsBegunText over (records_of text)) had has × HasTooManyRows text
