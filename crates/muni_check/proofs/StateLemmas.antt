-- The records of an input that are done, a block after another.
use Rattle.std.proofs.Common.{◌≡◌, ◌+◌, ◌∙◌, ◌||◌, ◌&&◌, ℕ, List, [], ◌∷◌, ◌++◌, length, map, cond, Bool, true, false, Option, Some, None, Ok, refl, sym, ap, ap₂, subst, arith}
use Rattle.std.specs.Prelude.{not, is_some, IfSome}
use Rattle.std.specs.Global.{Vec}
use Rattle.std.specs.List.{count_by, filter}
use Rattle.std.proofs.lemmas.List.Sums.{sum_by-cons}
use Rattle.arrayvec.specs.ArrayVec.{ArrayVec}
use Rattle.muni_msg.specs.declared.command.Line.{Line}
use Rattle.std.specs.FinMap.{entries}
use Rattle.muni_keep.specs.Tables.{Tables, line}
use Rattle.muni_keep.specs.Trades.{own}
use Rattle.muni_check.specs.Ends.{AreUnseenOf}
use Rattle.muni_check.proofs.ToldLemmas.{if-always, if-told}
use Rattle.muni_check.specs.Answer.{AreChecked, AreTold, Over}
use Rattle.muni_check_rows.specs.Columns.{columns_in}
use Rattle.muni_check.specs.Checked.{AreLinesOf}
use Rattle.muni_check.specs.GoesOn.{DoesBlock, GoesOn, tally_after}
use Rattle.muni_check_rows.specs.Line.{said_lines}
use Rattle.muni_check.specs.Named.{AddsNames, has, no_places, place_in}
use Rattle.muni_check_rows.specs.Tallies.{is_again, is_different, is_missing, is_nothing, is_right, no_tally, once, tally_of, with_missing, with_said}
use Rattle.muni_check.specs.Unseen.{is_live, is_named, is_unseen, unseen_at, unseen_in, unseen_of}
use Rattle.muni_msg.specs.declared.column.Column.{Column}
use Rattle.muni_check.specs.declared.rows.BlockDone.TheVariants.{Lines}
use Rattle.muni_check.specs.declared.rows.Progress.{Progress}
use Rattle.muni_check.specs.declared.rows.SoFar.{SoFar}
use Rattle.muni_check_rows.specs.declared.said.CheckSaid.{CheckSaid}
use Rattle.muni_check_rows.specs.declared.tally.Tally.{Tally}
use Rattle.muni_check.proofs.GoLemmas.{goes-joined, rows-after, told-same}

-- no row has come
pub record IsStart (progress : Progress) : Type 0 where
  pub tally : progress.tally ≡ no_tally
  pub named : (reference : List ℕ) → place_in progress.named reference ≡ None

-- of the records that are done the first named the columns, and the others are rows
pub record AreDoneWith (over : Over) (names : List (List ℕ)) (rows : List (List (List ℕ))) (so_far : SoFar) (lines : List ℕ) : Type 0 where
  pub columns : ArrayVec Column
  pub named : columns_in names ≡ Ok columns.items
  pub kept : so_far.columns ≡ Some columns
  pub start : Progress
  pub starts : IsStart start
  pub goes : GoesOn over columns.items rows start so_far.progress lines

abbrev pub AreDone : Over → List (List (List ℕ)) → SoFar → List ℕ → Type 0
AreDone over [] so_far lines = (so_far.columns ≡ None) × (lines ≡ []) × IsStart so_far.progress
AreDone over (names ∷ rows) so_far lines = AreDoneWith over names rows so_far lines

-- the records of a block after them
begin-done : (over : Over) (records : List (List (List ℕ))) (old new : SoFar) (lines : List ℕ) (after : Vec ℕ) → AreDone over [] old lines
    → DoesBlock over records old new (Lines after) → AreDone over records new (lines ++ after.items)
begin-done over [] old new lines after is does =
    let begins = rw is.0 at does in (
      ap (λ (s : SoFar). s.columns) begins.0,
      ap₂ (λ (a b : List ℕ). a ++ b) is.1 begins.1,
      subst (λ (s : SoFar). IsStart s.progress) (sym begins.0) is.2,
    )
begin-done over (names ∷ rows) old new lines after is does =
    let begins = rw is.0 at does in
    record {
      columns = begins.columns;
      named = begins.named;
      kept = begins.kept;
      start = old.progress;
      starts = is.2;
      goes = rw is.1 begins.rows_go_on;
    }

pub block-done : (over : Over) (done records : List (List (List ℕ))) (old new : SoFar) (lines : List ℕ) (after : Vec ℕ) → AreDone over done old lines
    → DoesBlock over records old new (Lines after) → AreDone over (done ++ records) new (lines ++ after.items)
block-done over [] records old new lines after are does = begin-done over records old new lines after are does
block-done over (names ∷ rows) records old new lines after are does =
    let more = rw are.kept at does in
    record {
      columns = are.columns;
      named = are.named;
      kept = more.0;
      start = are.start;
      starts = are.starts;
      goes = goes-joined over are.columns.items rows records are.start old.progress new.progress lines after.items are.goes more.1;
    }

-- the lines of the rows that are done
pub lines-checked : (over : Over) (columns : List Column) (rows : List (List (List ℕ))) (start progress : Progress) (lines : List ℕ) → IsStart start
    → (goes : GoesOn over columns rows start progress lines) → AreChecked over columns rows goes.said lines
lines-checked over columns rows start progress lines starts goes = record {
  each = told-same over columns (place_in start.named) no_places 1 rows goes.said starts.named
      (subst (λ (t : Tally). AreTold over columns (place_in start.named) (t.rows + 1) rows goes.said) starts.tally goes.each);
  written = goes.written ∙ ap (λ (t : Tally). said_lines (t.rows + 1) goes.said) starts.tally;
}

pub done-lines : (over : Over) (done : List (List (List ℕ))) (so_far : SoFar) (lines : List ℕ) → AreDone over done so_far lines → AreLinesOf over done lines
done-lines over [] so_far lines are = are.1
done-lines over (names ∷ rows) so_far lines are =
    (are.columns.items, are.named, are.goes.said, lines-checked over are.columns.items rows are.start so_far.progress lines are.starts are.goes)

-- the tally of the rows that are done
counted-by : (test : CheckSaid → Bool) (said : CheckSaid) (more : List CheckSaid) → count_by test (said ∷ more) ≡ once (test said) + count_by test more
counted-by test said more = sum_by-cons (λ s. cond (test s) 1 0) said more

right-after : (tally : Tally) (said : List CheckSaid) → (tally_after tally said).right ≡ tally.right + count_by is_right said
right-after tally [] = omega arith
right-after tally (said ∷ more) = omega (arith, right-after (with_said tally said) more, counted-by is_right said more)

differ-after : (tally : Tally) (said : List CheckSaid) → (tally_after tally said).differ ≡ tally.differ + count_by is_different said
differ-after tally [] = omega arith
differ-after tally (said ∷ more) = omega (arith, differ-after (with_said tally said) more, counted-by is_different said more)

missing-after : (tally : Tally) (said : List CheckSaid) → (tally_after tally said).missing ≡ tally.missing + count_by is_missing said
missing-after tally [] = omega arith
missing-after tally (said ∷ more) = omega (arith, missing-after (with_said tally said) more, counted-by is_missing said more)

again-after : (tally : Tally) (said : List CheckSaid) → (tally_after tally said).again ≡ tally.again + count_by is_again said
again-after tally [] = omega arith
again-after tally (said ∷ more) = omega (arith, again-after (with_said tally said) more, counted-by is_again said more)

nothing-after : (tally : Tally) (said : List CheckSaid) → (tally_after tally said).nothing ≡ tally.nothing + count_by is_nothing said
nothing-after tally [] = omega arith
nothing-after tally (said ∷ more) = omega (arith, nothing-after (with_said tally said) more, counted-by is_nothing said more)

-- the trades that no row named
filter-same : (p q : Line → Bool) (trades : List Line) → ((trade : Line) → p trade ≡ q trade) → filter p trades ≡ filter q trades
filter-same p q [] same = refl
filter-same p q (trade ∷ trades) same = rw (same trade, filter-same p q trades same) refl

pub unseen-same : (one other : List ℕ → Bool) (trades : List Line) → ((reference : List ℕ) → one reference ≡ other reference) → unseen_of one trades ≡ unseen_of other trades
unseen-same one other trades same =
    ap (map (λ (trade : Line). trade.reference)) (filter-same (is_unseen one) (is_unseen other) trades (λ trade. ap (λ b. is_live trade.version.act && not b) (same trade.reference)))

or-false : (b : Bool) → b || false ≡ b
or-false true = refl
or-false false = refl

-- the rows that are done name the references that are held
pub unseen-named : (told : Option Tables) (desk : Option (List ℕ)) (start progress : Progress) (names unseen : List (List ℕ)) → IsStart start → AddsNames desk start.named progress.named names
    → AreUnseenOf desk told progress unseen → IfSome told (λ tables. unseen ≡ unseen_in tables desk names)
unseen-named told None start progress names unseen starts adds are = if-always told (λ tables. unseen ≡ unseen_in tables None names) (λ tables. are)
unseen-named told (Some desk) start progress names unseen starts adds are =
    if-told told (λ tables. unseen ≡ unseen_at tables desk (has progress.named)) (λ tables. unseen ≡ unseen_in tables (Some desk) names)
    (λ tables is.
    is ∙ unseen-same (has progress.named) (is_named names) (map line (entries (own desk tables.desks)))
    (λ reference. adds reference ∙ ap (λ b. is_named names reference || b) (ap is_some (starts.named reference)) ∙ or-false (is_named names reference)))
    are

-- the tally of all rows, with the trades for which none came
pub tally-all : (start progress : Progress) (said : List CheckSaid) (unseen : List (List ℕ)) → IsStart start → progress.tally ≡ tally_after start.tally said
    → with_missing progress.tally (length unseen) ≡ tally_of said unseen
tally-all start progress said unseen starts counted =
    let is : progress.tally ≡ tally_after no_tally said = counted ∙ ap (λ t. tally_after t said) starts.tally in
    let rows : (tally_after no_tally said).rows ≡ length said = omega (arith, rows-after no_tally said) in
    let right : (tally_after no_tally said).right ≡ count_by is_right said = omega (arith, right-after no_tally said) in
    let differ : (tally_after no_tally said).differ ≡ count_by is_different said = omega (arith, differ-after no_tally said) in
    let missing : (tally_after no_tally said).missing ≡ count_by is_missing said = omega (arith, missing-after no_tally said) in
    let again : (tally_after no_tally said).again ≡ count_by is_again said = omega (arith, again-after no_tally said) in
    let nothing : (tally_after no_tally said).nothing ≡ count_by is_nothing said = omega (arith, nothing-after no_tally said) in
    rw is (rw (rows, right, differ, missing, again, nothing) refl)
