-- What the rows of a group do.
use Rattle.std.proofs.Common.{◌≡◌, ◌<◌, ◌≤◌, ◌+◌, ◌^◌, ◌∙◌, ℕ, zero, suc, Bool, List, [], ◌∷◌, ◌++◌, length, Option, Result, Ok, Err, refl, sym, ap, ap₂, subst, arith}
use Rattle.std.specs.Prelude.{All, IfOk, IfSome}
use Rattle.std.specs.List.{AllByRecursion, AllZip}
use Rattle.muni_terms.specs.declared.row.IssueRow.{IssueRow}
use Rattle.muni_edge.specs.Sink.{Wrote}
use Rattle.muni_edge.specs.declared.fault.NoMemory.{NoMemory}
use Rattle.muni_keep.specs.Tables.{Tables}
use Rattle.muni_keep.specs.declared.fault.KeepFault.{KeepFault}
use Rattle.muni_keep.specs.declared.fault.KeepFault.TheVariants as keeper
use Rattle.muni_desk_io.specs.Fault.{of_keeper}
use Rattle.muni_desk_io.specs.declared.fault.Fault.{Fault}
use Rattle.muni_desk_io.specs.declared.fault.Fault.TheVariants as fault
use Rattle.muni_marks.specs.Marks.{Pricing}
use Rattle.muni_marks.specs.Portfolio.{IsFetched}
use Rattle.muni_figures.specs.Done.{AreDone, IsFirstText, no_tally}
use Rattle.muni_figures.specs.Figured.{DidRows}
use Rattle.muni_figures.specs.Issues.{IsScan}
use Rattle.muni_figures.specs.Rows.{Row, rows_in}
use Rattle.muni_figures.specs.Said.{IsSaid, IsToldOf}
use Rattle.muni_figures.specs.Shares.{IsCounted, IsForPlaces, IsScanned, rows_of_share, rows_of_shares}
use Rattle.muni_figures.specs.declared.said.FiguresSaid.{FiguresSaid}
use Rattle.muni_figures.specs.declared.scan.Scan.{Scan}
use Rattle.muni_figures.specs.declared.shares.Share.{Share}
use Rattle.muni_figures.specs.declared.tally.Tally.{Tally}
use Rattle.muni_figures.proofs.DoneLemmas.{done-none, done-rows}
use Rattle.muni_figures.proofs.SaidLemmas.{all-told}
use Rattle.muni_figures.proofs.WriteLemmas.{written-none}

-- ---- blocks whose rows were gone over
same-block : (issue : List ℕ → Option IssueRow) (old new : Share) → IsScanned issue old new → rows_of_share new ≡ rows_of_share old
same-block issue old new is = λ i. rows_in (is.block i).items

counted-by : (issue : List ℕ → Option IssueRow) (old new : Share) (scan : Result Scan NoMemory) → rows_of_share new ≡ rows_of_share old → IfOk scan (λ scan. IsScan issue (rows_of_share old) scan) → IfOk scan (λ scan. scan.rows ≡ length (rows_of_share new))
counted-by issue old new (Err none) same is = tt
counted-by issue old new (Ok scan) same is = is.counted ∙ ap length (sym same)

pub all-counted : (issue : List ℕ → Option IssueRow) (olds news : List Share) → AllZip (IsScanned issue) olds news → All IsCounted news
all-counted issue [] [] are k d within = absurd (omega (arith, within))
all-counted issue [] (new ∷ news) are k d within = absurd are
all-counted issue (old ∷ olds) [] are k d within = absurd are
all-counted issue (old ∷ olds) (new ∷ news) are zero d within = counted-by issue old new new.scan (same-block issue old new are.0) are.0.scanned
all-counted issue (old ∷ olds) (new ∷ news) are (suc k) d within = all-counted issue olds news are.1 k d (omega (arith, within))

pub scanned-rows : (issue : List ℕ → Option IssueRow) (olds news : List Share) → AllZip (IsScanned issue) olds news → rows_of_shares news ≡ rows_of_shares olds
scanned-rows issue [] [] are = refl
scanned-rows issue [] (new ∷ news) are = absurd are
scanned-rows issue (old ∷ olds) [] are = absurd are
scanned-rows issue (old ∷ olds) (new ∷ news) are = ap₂ (λ a b. a ++ b) (same-block issue old new are.0) (scanned-rows issue olds news are.1)

-- ---- no row was done
first-none : (Answers : Row → FiguresSaid → Type 0) (place : ℕ) (rows : List Row) → IsFirstText Answers [] place rows []
first-none Answers place rows = record { rows = []; left = rows; split = refl; lines = []; tally = no_tally; done = done-none Answers place; written = refl }

none-wrote : (Answers : Row → FiguresSaid → Type 0) (place : ℕ) (rows : List Row) (had : Option (List ℕ)) → Wrote (IsFirstText Answers [] place rows) had had
none-wrote Answers place rows had = ([], first-none Answers place rows, written-none had)

pub did-none : (Answers : Row → FiguresSaid → Type 0) (place : ℕ) (rows : List Row) (before : Tally) (why : KeepFault) (had : Option (List ℕ)) → DidRows Answers place rows before (Err (of_keeper why)) had had
did-none Answers place rows before keeper.Failed had = none-wrote Answers (place + before.rows) rows had
did-none Answers place rows before keeper.NoMemory had = none-wrote Answers (place + before.rows) rows had

pub did-unplaced : (Answers : Row → FiguresSaid → Type 0) (place : ℕ) (rows : List Row) (before : Tally) (why : Fault) (had : Option (List ℕ)) → IsForPlaces why
    → (why ≡ fault.TooLarge → 2 ^ 64 ≤ place + before.rows + length rows) → DidRows Answers place rows before (Err why) had had
did-unplaced Answers place rows before fault.TooLarge had only many = (none-wrote Answers (place + before.rows) rows had, many refl)
did-unplaced Answers place rows before fault.NoMemory had only many = none-wrote Answers (place + before.rows) rows had
did-unplaced Answers place rows before fault.Read had only many = absurd only
did-unplaced Answers place rows before fault.Write had only many = absurd only
did-unplaced Answers place rows before fault.Store had only many = absurd only

-- ---- by the issues that were fetched, and by the tables
done-told : (Prices : Pricing) (has_risk : Bool) (told : Option Tables) (issue : List ℕ → Option IssueRow) (place : ℕ) (rows : List Row) (lines : List ℕ) (tally : Tally) → AllByRecursion (λ row. IfSome told (λ t. IsFetched t issue row)) rows
    → AreDone (IsSaid Prices has_risk issue) place rows lines tally → AreDone (IsToldOf Prices has_risk told) place rows lines tally
done-told Prices has_risk told issue place rows lines tally fetched done = record {
  said = done.said;
  each = all-told Prices has_risk told issue rows done.said fetched done.each;
  written = done.written;
  counted = done.counted;
  small = done.small;
}

front-fetched : {X : Type 0} (P : X → Type 0) (xs ys : List X) → AllByRecursion P (xs ++ ys) → AllByRecursion P xs
front-fetched P [] ys are = tt
front-fetched P (x ∷ xs) ys are = (are.0, front-fetched P xs ys are.1)

first-told : (Prices : Pricing) (has_risk : Bool) (told : Option Tables) (issue : List ℕ → Option IssueRow) (before : List ℕ) (place : ℕ) (rows : List Row) (text : List ℕ) → AllByRecursion (λ row. IfSome told (λ t. IsFetched t issue row)) rows
    → IsFirstText (IsSaid Prices has_risk issue) before place rows text → IsFirstText (IsToldOf Prices has_risk told) before place rows text
first-told Prices has_risk told issue before place rows text fetched first = record {
  rows = first.rows;
  left = first.left;
  split = first.split;
  lines = first.lines;
  tally = first.tally;
  done = done-told Prices has_risk told issue place first.rows first.lines first.tally
      (front-fetched (λ row. IfSome told (λ t. IsFetched t issue row)) first.rows first.left (subst (AllByRecursion (λ row. IfSome told (λ t. IsFetched t issue row))) (sym first.split) fetched)) first.done;
  written = first.written;
}

pub did-told : (Prices : Pricing) (has_risk : Bool) (told : Option Tables) (issue : List ℕ → Option IssueRow) (place : ℕ) (rows : List Row) (before : Tally) (result : Result Tally Fault) (had has : Option (List ℕ)) → AllByRecursion (λ row. IfSome told (λ t. IsFetched t issue row)) rows
    → DidRows (IsSaid Prices has_risk issue) place rows before result had has → DidRows (IsToldOf Prices has_risk told) place rows before result had has
did-told Prices has_risk told issue place rows before (Ok tally) had has fetched (lines, these, done, is, written) =
    (lines, these, done-told Prices has_risk told issue (place + before.rows) rows lines these fetched done, is, written)
did-told Prices has_risk told issue place rows before (Err fault.Write) had has fetched (text, first, written) =
    (text, first-told Prices has_risk told issue [] (place + before.rows) rows text fetched first, written)
did-told Prices has_risk told issue place rows before (Err fault.TooLarge) had has fetched ((text, first, written), many) =
    ((text, first-told Prices has_risk told issue [] (place + before.rows) rows text fetched first, written), many)
did-told Prices has_risk told issue place rows before (Err fault.Read) had has fetched did = absurd did
did-told Prices has_risk told issue place rows before (Err fault.Store) had has fetched (text, first, written) =
    (text, first-told Prices has_risk told issue [] (place + before.rows) rows text fetched first, written)
did-told Prices has_risk told issue place rows before (Err fault.NoMemory) had has fetched (text, first, written) =
    (text, first-told Prices has_risk told issue [] (place + before.rows) rows text fetched first, written)

pub did-room : (Answers : Row → FiguresSaid → Type 0) (place : ℕ) (rows : List Row) (before : Tally) (result : Result Tally Fault) (had has : Option (List ℕ)) → place + before.rows + length rows < 2 ^ 64
    → DidRows Answers place rows before result had has → IfOk result (λ tally. place + tally.rows < 2 ^ 64)
did-room Answers place rows before (Err why) had has room did = tt
did-room Answers place rows before (Ok tally) had has room (lines, these, done, is, written) =
    omega (arith, room, ap (λ (t : Tally). t.rows) is, done-rows Answers (place + before.rows) rows lines these done)
