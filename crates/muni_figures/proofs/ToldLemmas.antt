-- What is written, by the tables that a cabinet exposes.
use Rattle.std.proofs.Common.{◌≡◌, ℕ, Bool, inl, inr, List, [], ◌∷◌, Option, Some, None, Result, Ok, Err, subst}
use Rattle.std.specs.Prelude.{IfSome}
use Rattle.std.specs.List.{AllZip}
use Rattle.muni_keep.specs.Tables.{Tables}
use Rattle.muni_desk_io.specs.declared.fault.Fault.{Fault}
use Rattle.muni_desk_io.specs.declared.fault.Fault.TheVariants as fault
use Rattle.muni_marks.specs.Marks.{Pricing}
use Rattle.muni_figures.specs.Done.{AreDone, IsBegunText, IsFiguresText, IsFirstText}
use Rattle.muni_figures.specs.Figured.{WroteFigures, WroteFirst}
use Rattle.muni_figures.specs.Rows.{Row, rows_of}
use Rattle.muni_figures.specs.Said.{IsToldOf}
use Rattle.muni_figures.specs.declared.said.FiguresSaid.{FiguresSaid}
use Rattle.muni_figures.specs.declared.tally.Tally.{Tally}

-- what is answered by some tables is answered, whatever they are
module _ (Prices : Pricing) (has_risk : Bool) (told : Option Tables) where
  pub blind-each : (rows : List Row) (said : List FiguresSaid) → AllZip (IsToldOf Prices has_risk told) rows said → AllZip (IsToldOf Prices has_risk None) rows said
  blind-each [] [] are = tt
  blind-each [] (one ∷ said) are = absurd are
  blind-each (row ∷ rows) [] are = absurd are
  blind-each (row ∷ rows) (one ∷ said) are = (record { shape = are.0.shape; right = tt }, blind-each rows said are.1)

  pub blind-done : (place : ℕ) (rows : List Row) (lines : List ℕ) (tally : Tally) → AreDone (IsToldOf Prices has_risk told) place rows lines tally → AreDone (IsToldOf Prices has_risk None) place rows lines tally
  blind-done place rows lines tally done = record { said = done.said; each = blind-each rows done.said done.each; written = done.written; counted = done.counted; small = done.small }

  abbrev pub blind-first : (before : List ℕ) (place : ℕ) (all : List Row) (text : List ℕ) → IsFirstText (IsToldOf Prices has_risk told) before place all text → IsFirstText (IsToldOf Prices has_risk None) before place all text
  blind-first before place all text first = record {
    rows = first.rows;
    left = first.left;
    split = first.split;
    lines = first.lines;
    tally = first.tally;
    done = blind-done place first.rows first.lines first.tally first.done;
    written = first.written;
  }

  pub blind-whole : (before : List ℕ) (place : ℕ) (all : List Row) (text : List ℕ) → IsFiguresText (IsToldOf Prices has_risk told) before place all text → IsFiguresText (IsToldOf Prices has_risk None) before place all text
  blind-whole before place all text whole = record { lines = whole.lines; tally = whole.tally; done = blind-done place all whole.lines whole.tally whole.done; written = whole.written }

  pub blind-begun : (before : List ℕ) (place : ℕ) (all : List Row) (text : List ℕ) → IsBegunText (IsToldOf Prices has_risk told) before place all text → IsBegunText (IsToldOf Prices has_risk None) before place all text
  blind-begun before place all text (inl first) = inl (blind-first before place all text first)
  blind-begun before place all text (inr whole) = inr (blind-whole before place all text whole)

  pub blind-wrote : (before : List ℕ) (place : ℕ) (text : List ℕ) (had has : Option (List ℕ)) → WroteFirst (IsToldOf Prices has_risk told) before place text had has → WroteFirst (IsToldOf Prices has_risk None) before place text had has
  blind-wrote before place text had has (inl (lines, first, written)) = inl (lines, blind-first before place (rows_of text) lines first, written)
  blind-wrote before place text had has (inr same) = inr same

  pub blind-figures : (before : List ℕ) (place : ℕ) (text : List ℕ) (result : Result (Unit {0}) Fault) (left had has : Option (List ℕ)) → WroteFigures (IsToldOf Prices has_risk told) before place text result left had has → WroteFigures (IsToldOf Prices has_risk None) before place text result left had has
  blind-figures before place text (Ok done) left had has (lines, whole, written) = (lines, blind-whole before place (rows_of text) lines whole, written)
  blind-figures before place text (Err fault.Read) left had has came = record {
    came = came.came;
    taken = came.taken;
    lines = came.lines;
    first = blind-first before place (rows_of came.came) came.lines came.first;
    one = came.one;
    written = came.written;
  }
  blind-figures before place text (Err fault.Write) left had has (lines, begun, written) = (lines, blind-begun before place (rows_of text) lines begun, written)
  blind-figures before place text (Err fault.Store) left had has wrote = blind-wrote before place text had has wrote
  blind-figures before place text (Err fault.NoMemory) left had has wrote = blind-wrote before place text had has wrote
  blind-figures before place text (Err fault.TooLarge) left had has wrote = (blind-wrote before place text had has wrote.0, wrote.1)

if-blind : (Prices : Pricing) (has_risk : Bool) (kept : Option Tables) (before : List ℕ) (place : ℕ) (result : Result (Unit {0}) Fault) (all left had has : Option (List ℕ)) → IfSome all (λ text. WroteFigures (IsToldOf Prices has_risk kept) before place text result left had has)
    → IfSome all (λ text. WroteFigures (IsToldOf Prices has_risk None) before place text result left had has)
if-blind Prices has_risk kept before place result None left had has wrote = tt
if-blind Prices has_risk kept before place result (Some text) left had has wrote = blind-figures Prices has_risk kept before place text result left had has wrote

-- by the tables of a keeper that was fetched
pub fetched-wrote : (Prices : Pricing) (has_risk : Bool) (told kept : Option Tables) (before : List ℕ) (place : ℕ) (result : Result (Unit {0}) Fault) (all left had has : Option (List ℕ)) → IfSome told (λ t. kept ≡ Some t)
    → IfSome all (λ text. WroteFigures (IsToldOf Prices has_risk kept) before place text result left had has) → IfSome all (λ text. WroteFigures (IsToldOf Prices has_risk told) before place text result left had has)
fetched-wrote Prices has_risk None kept before place result all left had has fetched wrote = if-blind Prices has_risk kept before place result all left had has wrote
fetched-wrote Prices has_risk (Some t) kept before place result all left had has fetched wrote =
    subst (λ told. IfSome all (λ text. WroteFigures (IsToldOf Prices has_risk told) before place text result left had has)) fetched wrote
