-- What is written, by the tables that a cabinet exposes.
use Rattle.std.proofs.Common.{◌≡◌, ◌+◌, ℕ, ℤ, inl, inr, List, [], ◌∷◌, Option, Some, None, Result, Ok, Err, refl, subst}
use Rattle.std.specs.Prelude.{IfSome}
use Rattle.muni_rule.specs.Payments.{PaymentSeries}
use Rattle.muni_rule.specs.WorthEnds.{WorthEnds}
use Rattle.muni_keep.specs.Tables.{Tables}
use Rattle.muni_keep.specs.declared.fault.KeepFault.{KeepFault}
use Rattle.muni_keep.specs.declared.fault.KeepFault.TheVariants as keeper
use Rattle.muni_import.specs.declared.row.RowFault.{RowFault}
use Rattle.muni_desk_io.specs.Fault.{of_keeper}
use Rattle.muni_desk_io.specs.declared.fault.Fault.{Fault}
use Rattle.muni_desk_io.specs.declared.fault.Fault.TheVariants.{Read, Write, Store, NoMemory, TooLarge}
use Rattle.muni_check.specs.Answer.{AreChecked, AreTold, IsAnswer, IsAnswerIn, IsAnswerToRows, Over}
use Rattle.muni_check.specs.Checked.{AreLinesOf, IsBegunText, IsFirstText, IsLastText, IsSomeText, IsTextWithUnseen, WroteChecked}
use Rattle.muni_check.specs.Judging.{over}
use Rattle.muni_check_rows.specs.Rows.{named_in, records_of}
use Rattle.muni_check.specs.Named.{Places, again_of, came_after, no_places}
use Rattle.muni_msg.specs.declared.column.Column.{Column}
use Rattle.muni_check.specs.declared.command.CheckEnd.{CheckEnd}
use Rattle.muni_check_rows.specs.declared.said.CheckSaid.{CheckSaid}
use Rattle.muni_check.proofs.BlindLemmas.{blind-told}
use Rattle.muni_check.proofs.CheckLemmas.{no-lines}
use Rattle.muni_check.proofs.WriteLemmas.{written-none}

-- over tables that are not exposed
abbrev blind : Over → Over
blind over = record { judging = over.judging; desk = over.desk; told = None }

-- what is answered by some tables is answered, whatever they are
module _ (by : Over) where
  blind-each : (columns : List Column) (came : Places) (place : ℕ) (rows : List (List (List ℕ))) (said : List CheckSaid) → AreTold by columns came place rows said → AreTold (blind by) columns came place rows said
  blind-each columns came place [] [] are = tt
  blind-each columns came place [] (one ∷ said) are = absurd are
  blind-each columns came place (row ∷ rows) [] are = absurd are
  blind-each columns came place (row ∷ rows) (one ∷ said) are =
      (blind-told by.judging by.desk by.told columns (again_of came (named_in columns row)) row one are.0, blind-each columns (came_after by.desk came place (named_in columns row)) (place + 1) rows said are.1)

  blind-checked : (columns : List Column) (rows : List (List (List ℕ))) (said : List CheckSaid) (lines : List ℕ) → AreChecked by columns rows said lines → AreChecked (blind by) columns rows said lines
  blind-checked columns rows said lines checked = record { each = blind-each columns no_places 1 rows said checked.each; written = checked.written }

  blind-rows : (columns : List Column) (rows : List (List (List ℕ))) (end : CheckEnd) (text : List ℕ) → IsAnswerToRows by columns rows end text → IsAnswerToRows (blind by) columns rows end text
  blind-rows columns rows end text answer = record {
    said = answer.said;
    lines = answer.lines;
    checked = blind-checked columns rows answer.said answer.lines answer.checked;
    unseen = answer.unseen;
    are_unseen = tt;
    written = answer.written;
    ended = answer.ended;
  }

  blind-in : (columns : Result (List Column) RowFault) (rows : List (List (List ℕ))) (end : CheckEnd) (text : List ℕ) → IsAnswerIn by columns rows end text → IsAnswerIn (blind by) columns rows end text
  blind-in (Ok columns) rows end text answer = blind-rows columns rows end text answer
  blind-in (Err fault) rows end text answer = answer

  blind-answer : (records : List (List (List ℕ))) (end : CheckEnd) (text : List ℕ) → IsAnswer by records end text → IsAnswer (blind by) records end text
  blind-answer [] end text answer = answer
  blind-answer (names ∷ rows) end text answer = blind-in _ rows end text answer

  blind-lines : (records : List (List (List ℕ))) (lines : List ℕ) → AreLinesOf by records lines → AreLinesOf (blind by) records lines
  blind-lines [] lines are = are
  blind-lines (names ∷ rows) lines (columns, named, said, checked) = (columns, named, said, blind-checked columns rows said lines checked)

  abbrev blind-first : (records : List (List (List ℕ))) (text : List ℕ) → IsFirstText by records text → IsFirstText (blind by) records text
  blind-first records text first = record { done = first.done; left = first.left; split = first.split; lines = blind-lines first.done text first.lines }

  blind-unseen : (columns : List Column) (rows : List (List (List ℕ))) (text : List ℕ) → IsTextWithUnseen by columns rows text → IsTextWithUnseen (blind by) columns rows text
  blind-unseen columns rows text with_unseen = record {
    said = with_unseen.said;
    lines = with_unseen.lines;
    checked = blind-checked columns rows with_unseen.said with_unseen.lines with_unseen.checked;
    unseen = with_unseen.unseen;
    left = with_unseen.left;
    are_unseen = tt;
    written = with_unseen.written;
  }

  blind-last : (records : List (List (List ℕ))) (text : List ℕ) → IsLastText by records text → IsLastText (blind by) records text
  blind-last [] text last = absurd last
  blind-last (names ∷ rows) text (columns, named, with_unseen) = (columns, named, blind-unseen columns rows text with_unseen)

  blind-begun : (records : List (List (List ℕ))) (text : List ℕ) → IsBegunText by records text → IsBegunText (blind by) records text
  blind-begun records text (inl first) = inl (blind-first records text first)
  blind-begun records text (inr last) = inr (blind-last records text last)

  blind-some : (records : List (List (List ℕ))) (text : List ℕ) → IsSomeText by records text → IsSomeText (blind by) records text
  blind-some records text (inl begun) = inl (blind-begun records text begun)
  blind-some records text (inr (end, answer)) = inr (end, blind-answer records end text answer)

  blind-wrote : (text : List ℕ) (result : Result CheckEnd Fault) (left had has : Option (List ℕ)) → WroteChecked by text result left had has → WroteChecked (blind by) text result left had has
  blind-wrote text (Ok end) left had has (lines, answer, written) = (lines, blind-answer (records_of text) end lines answer, written)
  blind-wrote text (Err Read) left had has came = record {
    came = came.came;
    taken = came.taken;
    lines = came.lines;
    first = blind-first (records_of came.came) came.lines came.first;
    one = came.one;
    written = came.written;
  }
  blind-wrote text (Err Write) left had has (lines, some, written) = (lines, blind-some (records_of text) lines some, written)
  blind-wrote text (Err Store) left had has (lines, begun, written) = (lines, blind-begun (records_of text) lines begun, written)
  blind-wrote text (Err NoMemory) left had has (lines, begun, written) = (lines, blind-begun (records_of text) lines begun, written)
  blind-wrote text (Err TooLarge) left had has ((lines, begun, written), many) = ((lines, blind-begun (records_of text) lines begun, written), many)

-- by the tables of a keeper that was fetched
module _ (ends : PaymentSeries → ℤ → WorthEnds) (desk : Option (List ℕ)) (result : Result CheckEnd Fault) (left had has : Option (List ℕ)) where
  if-blind : (kept : Option Tables) (all : Option (List ℕ)) → IfSome all (λ text. WroteChecked (over ends desk kept) text result left had has) → IfSome all (λ text. WroteChecked (over ends desk None) text result left had has)
  if-blind kept None wrote = tt
  if-blind kept (Some text) wrote = blind-wrote (over ends desk kept) text result left had has wrote

  pub fetched-wrote : (told kept : Option Tables) (all : Option (List ℕ)) → IfSome told (λ t. kept ≡ Some t) → IfSome all (λ text. WroteChecked (over ends desk kept) text result left had has)
      → IfSome all (λ text. WroteChecked (over ends desk told) text result left had has)
  fetched-wrote None kept all fetched wrote = if-blind kept all wrote
  fetched-wrote (Some t) kept all fetched wrote = subst (λ told. IfSome all (λ text. WroteChecked (over ends desk told) text result left had has)) fetched wrote

-- no keeper came, and nothing is written
pub unfetched-wrote : (by : Over) (fault : KeepFault) (all left had : Option (List ℕ)) → IfSome all (λ text. WroteChecked by text (Err (of_keeper fault)) left had had)
unfetched-wrote by fault None left had = tt
unfetched-wrote by keeper.Failed (Some text) left had = ([], inl (no-lines by (records_of text) [] refl), written-none had)
unfetched-wrote by keeper.NoMemory (Some text) left had = ([], inl (no-lines by (records_of text) [] refl), written-none had)
