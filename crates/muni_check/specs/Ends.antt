-- What is written after the rows.
use Rattle.std.specs.Prelude.{◌≡◌, ◌⊎◌, ℕ, List, [], ◌++◌, length, Option, Some, None, Result, Ok, Err}
use Rattle.arrayvec.specs.ArrayVec.{ArrayVec}
use Rattle.muni_edge.specs.Sink.{HasWritten, HasWrittenPart, Wrote, WrotePart}
use Rattle.muni_keep.specs.Tables.{Tables}
use Rattle.muni_import.specs.declared.row.RowFault.{RowFault}
use Rattle.muni_import.specs.declared.row.RowFault.TheVariants.{FieldCount}
use Rattle.muni_desk_io.specs.declared.fault.Fault.{Fault}
use Rattle.muni_desk_io.specs.declared.fault.Fault.TheVariants.{Read, Write, Store, NoMemory, TooLarge}
use Rattle.muni_check.specs.Answer.{end_of}
use Rattle.muni_check_rows.specs.Line.{names_line, total_line, unseen_lines}
use Rattle.muni_check.specs.Named.{has}
use Rattle.muni_check.specs.Pages.{AreAllUnseen}
use Rattle.muni_check_rows.specs.Tallies.{are_all_right, with_missing}
use Rattle.muni_msg.specs.declared.column.Column.{Column}
use Rattle.muni_check.specs.declared.command.CheckEnd.{CheckEnd}
use Rattle.muni_check.specs.declared.command.CheckEnd.TheVariants.{BadNames}
use Rattle.muni_check.specs.declared.rows.Progress.{Progress}
use Rattle.muni_check_rows.specs.declared.tally.Tally.{Tally}

-- the whole of a text, or a first part of it
abbrev pub IsSomeOf : (CheckEnd → List ℕ → Type 0) → (List ℕ → Type 0) → List ℕ → Type 0
IsSomeOf IsWhole IsFirst text = IsFirst text ⊎ ((end : CheckEnd) × IsWhole end text)

-- a text is written that says how a check ends, or a first part of it after a fault
abbrev pub WritesEnd : (IsWhole : CheckEnd → List ℕ → Type 0) → (IsFirst : List ℕ → Type 0) → Result CheckEnd Fault → (had has : Option (List ℕ)) → Type 0
WritesEnd IsWhole IsFirst (Ok end) had has = Wrote (IsWhole end) had has
WritesEnd IsWhole IsFirst (Err Write) had has = WrotePart (IsSomeOf IsWhole IsFirst) had has
WritesEnd IsWhole IsFirst (Err Store) had has = Wrote IsFirst had has
WritesEnd IsWhole IsFirst (Err NoMemory) had has = Wrote IsFirst had has
WritesEnd IsWhole IsFirst (Err Read) had has = ⊥
WritesEnd IsWhole IsFirst (Err TooLarge) had has = ⊥

-- the line of names that are no columns
abbrev pub RefusesNames : RowFault → CheckEnd → List ℕ → Type 0
RefusesNames fault end text = (end ≡ BadNames) × (text ≡ names_line fault)

-- the references of live trades that no row named, if there is a desk
abbrev pub AreUnseenOf : (desk : Option (List ℕ)) → Option Tables → Progress → List (List ℕ) → Type 0
AreUnseenOf None told progress unseen = unseen ≡ []
AreUnseenOf (Some desk) told progress unseen = AreAllUnseen desk (has progress.named) told unseen

-- the lines of the first of these trades
abbrev pub BeginsEnd : (desk : Option (List ℕ)) → Option Tables → Progress → List ℕ → Type 0
BeginsEnd desk told progress text =
    (unseen : List (List ℕ)) × (left : List (List ℕ)) × AreUnseenOf desk told progress (unseen ++ left)
    × (text ≡ unseen_lines unseen)

-- their lines are written, or those of the first of them
abbrev pub WritesMissing : (desk : Option (List ℕ)) → Option Tables → Progress → Result ℕ Fault → (had has : Option (List ℕ)) → Type 0
WritesMissing desk told progress (Ok count) had has =
    (unseen : List (List ℕ)) × AreUnseenOf desk told progress unseen × (count ≡ length unseen)
    × HasWritten had has (unseen_lines unseen)
WritesMissing desk told progress (Err Write) had has = WrotePart (BeginsEnd desk told progress) had has
WritesMissing desk told progress (Err Store) had has = Wrote (BeginsEnd desk told progress) had has
WritesMissing desk told progress (Err NoMemory) had has = Wrote (BeginsEnd desk told progress) had has
WritesMissing desk told progress (Err Read) had has = ⊥
WritesMissing desk told progress (Err TooLarge) had has = ⊥

-- the line of the total is written, or a part of it
abbrev pub WritesTotal : Tally → Result CheckEnd Fault → (had has : Option (List ℕ)) → Type 0
WritesTotal tally (Ok end) had has = HasWritten had has (total_line tally) × (end ≡ end_of (are_all_right tally))
WritesTotal tally (Err Write) had has = HasWrittenPart had has (total_line tally)
WritesTotal tally (Err Store) had has = ⊥
WritesTotal tally (Err NoMemory) had has = ⊥
WritesTotal tally (Err Read) had has = ⊥
WritesTotal tally (Err TooLarge) had has = ⊥

-- the lines after those of rows: of these trades, and the total
abbrev pub EndsRows : (desk : Option (List ℕ)) → Option Tables → Progress → CheckEnd → List ℕ → Type 0
EndsRows desk told progress end text =
    (unseen : List (List ℕ)) × AreUnseenOf desk told progress unseen
    × (text ≡ unseen_lines unseen ++ total_line (with_missing progress.tally (length unseen)))
    × (end ≡ end_of (are_all_right (with_missing progress.tally (length unseen))))

-- the end of an input, of which the columns are known or no record came
abbrev pub EndsInput : (desk : Option (List ℕ)) → Option Tables → Option (ArrayVec Column) → Progress → CheckEnd → List ℕ → Type 0
EndsInput desk told None progress end text = RefusesNames FieldCount end text
EndsInput desk told (Some columns) progress end text = EndsRows desk told progress end text

abbrev pub BeginsInputEnd : (desk : Option (List ℕ)) → Option Tables → Option (ArrayVec Column) → Progress → List ℕ → Type 0
BeginsInputEnd desk told None progress text = text ≡ []
BeginsInputEnd desk told (Some columns) progress text = BeginsEnd desk told progress text
