-- What comes of more records of an input.
use Rattle.std.specs.Prelude.{◌≡◌, ⊤, ℕ, ◌+◌, List, [], ◌∷◌, Option, Some, None, Ok, Err}
use Rattle.arrayvec.specs.ArrayVec.{ArrayVec}
use Rattle.muni_import.specs.declared.row.RowFault.{RowFault}
use Rattle.muni_desk_io.specs.declared.fault.Fault.{Fault}
use Rattle.muni_desk_io.specs.declared.fault.Fault.TheVariants.{Read, Write, Store, NoMemory, TooLarge}
use Rattle.muni_check.specs.Answer.{AreTold, Over}
use Rattle.muni_check_rows.specs.Columns.{columns_in}
use Rattle.muni_check_rows.specs.Line.{said_lines}
use Rattle.muni_check.specs.Named.{AddsNames, came_after_rows, place_in}
use Rattle.muni_check_rows.specs.Rows.{named_by}
use Rattle.muni_check_rows.specs.Tallies.{with_said}
use Rattle.muni_msg.specs.declared.column.Column.{Column}
use Rattle.muni_check.specs.declared.rows.BlockDone.{BlockDone}
use Rattle.muni_check.specs.declared.rows.BlockDone.TheVariants.{Lines, BadNames}
use Rattle.muni_check.specs.declared.rows.Progress.{Progress}
use Rattle.muni_check.specs.declared.rows.SoFar.{SoFar}
use Rattle.muni_check_rows.specs.declared.said.CheckSaid.{CheckSaid}
use Rattle.muni_check_rows.specs.declared.tally.Tally.{Tally}

-- the tally after more rows
abbrev pub tally_after : Tally → List CheckSaid → Tally
tally_after tally [] = tally
tally_after tally (said ∷ more) = tally_after (with_said tally said) more

-- Rows in columns are judged after those before, and their lines go on.
pub record GoesOn (over : Over) (columns : List Column) (rows : List (List (List ℕ))) (old new : Progress) (lines : List ℕ) : Type 0 where
  pub said : List CheckSaid
  pub each : AreTold over columns (place_in old.named) (old.tally.rows + 1) rows said
  pub written : lines ≡ said_lines (old.tally.rows + 1) said
  pub counted : new.tally ≡ tally_after old.tally said
  pub named : AddsNames over.desk old.named new.named (named_by columns rows)
  pub places : (reference : List ℕ) → place_in new.named reference
      ≡ came_after_rows over.desk columns (place_in old.named) (old.tally.rows + 1) rows reference

-- Records of which the first names the columns, if there are any, are done.
pub record BeginsWith (over : Over) (names : List (List ℕ)) (rows : List (List (List ℕ))) (old new : SoFar) (lines : List ℕ) : Type 0 where
  pub columns : ArrayVec Column
  pub named : columns_in names ≡ Ok columns.items
  pub kept : new.columns ≡ Some columns
  pub rows_go_on : GoesOn over columns.items rows old.progress new.progress lines

abbrev pub Begins : Over → List (List (List ℕ)) → (old new : SoFar) → List ℕ → Type 0
Begins over [] old new lines = (new ≡ old) × (lines ≡ [])
Begins over (names ∷ rows) old new lines = BeginsWith over names rows old new lines

-- the first record does not name columns
abbrev pub HasBadNames : List (List (List ℕ)) → RowFault → Type 0
HasBadNames [] fault = ⊥
HasBadNames (names ∷ rows) fault = columns_in names ≡ Err fault

-- the first records are done, or the very first does not name columns
abbrev pub DoesBeginning : Over → List (List (List ℕ)) → (old new : SoFar) → BlockDone → Type 0
DoesBeginning over records old new (Lines lines) = Begins over records old new lines.items
DoesBeginning over records old new (BadNames fault) = HasBadNames records fault

-- more records are done
abbrev pub DoesMore : Over → List Column → List (List (List ℕ)) → (old new : SoFar) → BlockDone → Type 0
DoesMore over columns records old new (Lines lines) =
    (new.columns ≡ old.columns) × GoesOn over columns records old.progress new.progress lines.items
DoesMore over columns records old new (BadNames fault) = ⊥

-- the records of a block are done
abbrev pub DoesAfter : Over → Option (ArrayVec Column) → List (List (List ℕ)) → (old new : SoFar) → BlockDone → Type 0
DoesAfter over None records old new done = DoesBeginning over records old new done
DoesAfter over (Some columns) records old new done = DoesMore over columns.items records old new done

abbrev pub DoesBlock : Over → List (List (List ℕ)) → (old new : SoFar) → BlockDone → Type 0
DoesBlock over records old new done = DoesAfter over old.columns records old new done

-- a fault that rows may have
abbrev pub IsOfRows : Fault → Type 0
IsOfRows Read = ⊥
IsOfRows Write = ⊥
IsOfRows Store = ⊤
IsOfRows NoMemory = ⊤
IsOfRows TooLarge = ⊤
