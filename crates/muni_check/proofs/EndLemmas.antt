-- What is written after the rows.
use Rattle.std.proofs.Common.{ℕ, List, [], ◌++◌, length, Option, Some, None, Result, Ok, Err, inl, inr, refl}
use Rattle.muni_keep.specs.Tables.{Tables}
use Rattle.muni_desk_io.specs.declared.fault.Fault.{Fault}
use Rattle.muni_desk_io.specs.declared.fault.Fault.TheVariants.{Read, Write, Store, NoMemory, TooLarge}
use Rattle.muni_check.specs.Ends.{BeginsEnd, EndsRows, WritesEnd, WritesMissing, WritesTotal}
use Rattle.muni_check_rows.specs.Line.{total_line, unseen_lines}
use Rattle.muni_check.specs.Named.{has}
use Rattle.muni_check.specs.Pages.{WritesUnseen}
use Rattle.muni_check_rows.specs.Tallies.{are_all_right, with_missing}
use Rattle.muni_check.specs.Answer.{end_of}
use Rattle.muni_check.specs.declared.command.CheckEnd.{CheckEnd}
use Rattle.muni_check.specs.declared.rows.Progress.{Progress}
use Rattle.muni_check.proofs.WriteLemmas.{written-more, written-none, written-part}

-- those of a desk
pub missing-of : (desk : List ℕ) (told : Option Tables) (progress : Progress) (result : Result ℕ Fault) (had now : Option (List ℕ)) → WritesUnseen desk (has progress.named) told result had now
    → WritesMissing (Some desk) told progress result had now
missing-of desk told progress (Ok count) had now writes = writes
missing-of desk told progress (Err Write) had now (unseen, first, part) = (unseen_lines unseen, (unseen, first.left, first.all, refl), part)
missing-of desk told progress (Err Store) had now (unseen, first, written) = (unseen_lines unseen, (unseen, first.left, first.all, refl), written)
missing-of desk told progress (Err NoMemory) had now (unseen, first, written) = (unseen_lines unseen, (unseen, first.left, first.all, refl), written)
missing-of desk told progress (Err Read) had now writes = writes
missing-of desk told progress (Err TooLarge) had now writes = writes

-- and of none
pub missing-none : (told : Option Tables) (progress : Progress) (had : Option (List ℕ)) → WritesMissing None told progress (Ok 0) had had
missing-none told progress had = ([], refl, refl, written-none had)

-- then the total
pub total-after : (desk : Option (List ℕ)) (told : Option Tables) (progress : Progress) (count : ℕ) (result : Result CheckEnd Fault) (had mid now : Option (List ℕ))
    → WritesMissing desk told progress (Ok count) had mid → WritesTotal (with_missing progress.tally count) result mid now
    → WritesEnd (EndsRows desk told progress) (BeginsEnd desk told progress) result had now
total-after desk told progress count (Ok end) had mid now (unseen, are, counted, written) (line, ended) =
    let total = rw counted at line in (
      unseen_lines unseen ++ total_line (with_missing progress.tally (length unseen)),
      (unseen, are, refl, rw counted at ended),
      written-more had mid now (unseen_lines unseen) (total_line (with_missing progress.tally (length unseen))) written total,
    )
total-after desk told progress count (Err Write) had mid now (unseen, are, counted, written) part =
    let total = rw counted at part in (
      unseen_lines unseen ++ total_line (with_missing progress.tally (length unseen)),
      inr (end_of (are_all_right (with_missing progress.tally (length unseen))), (unseen, are, refl, refl)),
      written-part had mid now (unseen_lines unseen) (total_line (with_missing progress.tally (length unseen))) written total,
    )
total-after desk told progress count (Err Store) had mid now missing total = absurd total
total-after desk told progress count (Err NoMemory) had mid now missing total = absurd total
total-after desk told progress count (Err Read) had mid now missing total = absurd total
total-after desk told progress count (Err TooLarge) had mid now missing total = absurd total

-- or the trades could not all be written
pub missing-failed : (desk : Option (List ℕ)) (told : Option Tables) (progress : Progress) (fault : Fault) (had now : Option (List ℕ)) → WritesMissing desk told progress (Err fault) had now
    → WritesEnd (EndsRows desk told progress) (BeginsEnd desk told progress) (Err fault) had now
missing-failed desk told progress Write had now (text, is, part) = (text, inl is, part)
missing-failed desk told progress Store had now writes = writes
missing-failed desk told progress NoMemory had now writes = writes
missing-failed desk told progress Read had now writes = writes
missing-failed desk told progress TooLarge had now writes = writes
