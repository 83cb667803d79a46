-- The answer to an input whose records are all done.
use Rattle.std.proofs.Common.{◌≡◌, ◌∙◌, ℕ, List, [], ◌∷◌, ◌++◌, Bool, true, Option, Some, None, Result, Ok, Err, inl, inr, refl, sym, ap, append_assoc}
use Rattle.std.specs.Prelude.{IfSome}
use Rattle.std.specs.Global.{Vec}
use Rattle.std.proofs.lemmas.List.{append-nil}
use Rattle.muni_edge.specs.Sink.{HasWritten}
use Rattle.muni_desk_io.specs.declared.fault.Fault.{Fault}
use Rattle.muni_desk_io.specs.declared.fault.Fault.TheVariants.{Read, Write, Store, NoMemory, TooLarge}
use Rattle.muni_check.specs.Answer.{IsAnswer, Over, end_of}
use Rattle.muni_check.specs.Checked.{IsBegunText, WroteChecked}
use Rattle.muni_check.specs.Ends.{BeginsInputEnd, EndsInput, WritesEnd}
use Rattle.muni_check.specs.GoesOn.{DoesBlock}
use Rattle.muni_check_rows.specs.Line.{total_line, unseen_lines}
use Rattle.muni_check_rows.specs.Rows.{named_by, records_of}
use Rattle.muni_check_rows.specs.Tallies.{are_all_right, tally_of}
use Rattle.muni_check.specs.declared.command.CheckEnd.{CheckEnd}
use Rattle.muni_check.specs.declared.rows.BlockDone.TheVariants.{Lines}
use Rattle.muni_check.specs.declared.rows.SoFar.{SoFar}
use Rattle.muni_check.proofs.CheckLemmas.{IsTaken, text-left}
use Rattle.muni_check.proofs.StateLemmas.{AreDone, block-done, lines-checked, tally-all, unseen-named}
use Rattle.muni_check.proofs.WriteLemmas.{written-more, written-part}

-- after the lines of all rows come those of the end
end-answer : (over : Over) (records : List (List (List ℕ))) (so_far : SoFar) (lines text : List ℕ) (end : CheckEnd) → AreDone over records so_far lines
    → EndsInput over.desk over.told so_far.columns so_far.progress end text → IsAnswer over records end (lines ++ text)
end-answer over [] so_far lines text end are ends = rw are.1 (rw are.0 at ends)
end-answer over (names ∷ rows) so_far lines text end are ends =
    let last = rw are.kept at ends in
    let tally = tally-all are.start so_far.progress are.goes.said last.0 are.starts are.goes.counted in
    rw are.named record {
      said = are.goes.said;
      lines = lines;
      checked = lines-checked over are.columns.items rows are.start so_far.progress lines are.starts are.goes;
      unseen = last.0;
      are_unseen = unseen-named over.told over.desk are.start so_far.progress (named_by are.columns.items rows) last.0 are.starts are.goes.named last.1;
      written = ap (λ l. lines ++ l) (last.2 ∙ ap (λ t. unseen_lines last.0 ++ total_line t) tally) ∙ sym (append_assoc lines (unseen_lines last.0) (total_line (tally_of are.goes.said last.0)));
      ended = last.3 ∙ ap (λ t. end_of (are_all_right t)) tally;
    }

-- or the first of these
end-begun : (over : Over) (records : List (List (List ℕ))) (so_far : SoFar) (lines text : List ℕ) → AreDone over records so_far lines
    → BeginsInputEnd over.desk over.told so_far.columns so_far.progress text → IsBegunText over records (lines ++ text)
end-begun over [] so_far lines text are begins =
    let none = rw are.0 at begins in
    inl (rw (are.1, none) record { done = []; left = []; split = refl; lines = refl })
end-begun over (names ∷ rows) so_far lines text are begins =
    let first = rw are.kept at begins in
    inr (
      are.columns.items,
      are.named,
      record {
        said = are.goes.said;
        lines = lines;
        checked = lines-checked over are.columns.items rows are.start so_far.progress lines are.starts are.goes;
        unseen = first.0;
        left = first.1;
        are_unseen = unseen-named over.told over.desk are.start so_far.progress (named_by are.columns.items rows) (first.0 ++ first.1) are.starts are.goes.named first.2;
        written = ap (λ l. lines ++ l) first.3;
      },
    )

end-by : (over : Over) (input : List ℕ) (left : Option (List ℕ)) (records : List (List (List ℕ))) (so_far : SoFar) (lines : List ℕ) (had mid has : Option (List ℕ)) (result : Result CheckEnd Fault) → records_of input ≡ records
    → AreDone over records so_far lines → HasWritten had mid lines
    → WritesEnd (EndsInput over.desk over.told so_far.columns so_far.progress) (BeginsInputEnd over.desk over.told so_far.columns so_far.progress) result mid has
    → WroteChecked over input result left had has
end-by over input left records so_far lines had mid has (Ok end) is are first (text, ends, written) =
    (lines ++ text, rw is (end-answer over records so_far lines text end are ends), written-more had mid has lines text first written)
end-by over input left records so_far lines had mid has (Err Write) is are first (text, inl begins, part) =
    (lines ++ text, rw is (inl (end-begun over records so_far lines text are begins)), written-part had mid has lines text first part)
end-by over input left records so_far lines had mid has (Err Write) is are first (text, inr (end, ends), part) =
    (lines ++ text, rw is (inr (end, end-answer over records so_far lines text end are ends)), written-part had mid has lines text first part)
end-by over input left records so_far lines had mid has (Err Store) is are first (text, begins, written) =
    (lines ++ text, rw is (end-begun over records so_far lines text are begins), written-more had mid has lines text first written)
end-by over input left records so_far lines had mid has (Err NoMemory) is are first (text, begins, written) =
    (lines ++ text, rw is (end-begun over records so_far lines text are begins), written-more had mid has lines text first written)
end-by over input left records so_far lines had mid has (Err Read) is are first writes = absurd writes
end-by over input left records so_far lines had mid has (Err TooLarge) is are first writes = absurd writes

pub block-last : (over : Over) (first left : Option (List ℕ)) (ended : Bool) (block held : List ℕ) (old new : SoFar) (had mid there has : Option (List ℕ)) (lines : Vec ℕ) (result : Result CheckEnd Fault) → ended ≡ true
    → IsTaken over first left ended block held old had mid → DoesBlock over (records_of block) old new (Lines lines) → HasWritten mid there lines.items
    → WritesEnd (EndsInput over.desk over.told new.columns new.progress) (BeginsInputEnd over.desk over.told new.columns new.progress) result there has
    → IfSome first (λ text. WroteChecked over text result left had has)
block-last over None left ended block held old new had mid there has lines result is_end taken does written writes = tt
block-last over (Some text) left ended block held old new had mid there has lines result is_end taken does written writes =
    let cut = rw is_end at taken.cut in
    let rest = text-left text left taken.came taken.taken in
    let none : rest.0 ≡ [] = rw rest.1 at cut.1 in
    let all = ap records_of (rest.2 ∙ ap (λ l. taken.came ++ l) none ∙ append-nil taken.came) ∙ cut.0 in
    end-by over text left (taken.done ++ records_of block) new (taken.lines ++ lines.items) had there has result all
    (block-done over taken.done (records_of block) old new taken.lines lines taken.are does) (written-more had mid there taken.lines lines.items taken.written written) writes
