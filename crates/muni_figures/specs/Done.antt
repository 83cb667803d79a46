-- Rows that are done: what is said of each, their lines, and what these come to.
use Rattle.std.specs.Prelude.{◌≡◌, ◌≤◌, ◌⊎◌, ℕ, ◌+◌, ◌*◌, if◌then◌else◌, List, ◌++◌, length}
use Rattle.std.specs.List.{AllZip}
use Rattle.muni_figures.specs.Line.{is_priced, priced_count, priced_sum, said_lines, total_line, total_of}
use Rattle.muni_figures.specs.Rows.{Row}
use Rattle.muni_figures.specs.declared.said.FiguresSaid.{FiguresSaid}
use Rattle.muni_figures.specs.declared.tally.Tally.{Tally}

-- how many rows there are, how many have figures, and the sum of their totals
pub record IsTally (said : List FiguresSaid) (tally : Tally) : Type 0 where
  pub rows : tally.rows ≡ length said
  pub priced : tally.priced ≡ priced_count said
  pub sum : tally.sum ≡ priced_sum said

-- each total is below 2^63 cents
pub record IsSmall (tally : Tally) : Type 0 where
  pub priced : tally.priced ≤ tally.rows
  pub sum : tally.sum ≤ tally.rows * 9_223_372_036_854_775_807

-- each of these rows is answered by itself; their lines, of which the first has this place, and their tally
pub record AreDone (Answers : Row → FiguresSaid → Type 0) (place : ℕ) (rows : List Row) (lines : List ℕ) (tally : Tally) : Type 0 where
  pub said : List FiguresSaid
  pub each : AllZip Answers rows said
  pub written : lines ≡ said_lines place said
  pub counted : IsTally said tally
  pub small : IsSmall tally

-- no rows, and one
abbrev pub no_tally : Tally
no_tally = record { rows = 0; priced = 0; sum = 0 }

abbrev pub tally_of : FiguresSaid → Tally
tally_of said = record { rows = 1; priced = if is_priced said then 1 else 0; sum = total_of said }

-- two tallies together
abbrev pub tally_sum : Tally → Tally → Tally
tally_sum one other = record {
  rows = one.rows + other.rows;
  priced = one.priced + other.priced;
  sum = one.sum + other.sum;
}

-- the whole text on rows: what stands before the lines, a line on each row, and the total
pub record IsFiguresText (Answers : Row → FiguresSaid → Type 0) (before : List ℕ) (place : ℕ) (rows : List Row) (text : List ℕ) : Type 0 where
  pub lines : List ℕ
  pub tally : Tally
  pub done : AreDone Answers place rows lines tally
  pub written : text ≡ before ++ lines ++ total_line tally.priced tally.sum tally.rows

-- a text on the first of all rows, which has no total
pub record IsFirstText (Answers : Row → FiguresSaid → Type 0) (before : List ℕ) (place : ℕ) (all : List Row) (text : List ℕ) : Type 0 where
  pub rows : List Row
  pub left : List Row
  pub split : rows ++ left ≡ all
  pub lines : List ℕ
  pub tally : Tally
  pub done : AreDone Answers place rows lines tally
  pub written : text ≡ before ++ lines

-- a text on the first of all rows, or on all of them with the total
abbrev pub IsBegunText : (Row → FiguresSaid → Type 0) → List ℕ → ℕ → List Row → List ℕ → Type 0
IsBegunText Answers before place all text =
    IsFirstText Answers before place all text ⊎ IsFiguresText Answers before place all text
