-- The lines of marks, and their total.
use Rattle.std.specs.Prelude.{◌≤◌, ℕ, ◌+◌, Bool, true, false, List, [], ◌∷◌, ◌++◌, codes, decimal, ⊤}
use Rattle.std.specs.List.{sum_by, count_by}
use Rattle.muni_dec.specs.Decimal.{decimal_text}
use Rattle.muni_days.specs.Day.{civil, day_text}
use Rattle.muni_days.specs.declared.day.Day.{Day}
use Rattle.muni_import.specs.Line.{behind_commas, refused_fields, bad_fields}
use Rattle.muni_marks.specs.declared.pricing.MarkSaid.{MarkSaid}
use Rattle.muni_marks.specs.declared.pricing.MarkSaid.TheVariants.{Marked, Refused, Bad}

-- a refusal has a number from 1 to 15
abbrev pub HasName : MarkSaid → Type 0
HasName (Marked cusip price redemption total) = ⊤
HasName (Refused number) = (1 ≤ number) × (number ≤ 15)
HasName (Bad fault) = ⊤

-- the price of a row, its redemption and what it is worth
unfoldable pub worth_fields : ℕ → Day → ℕ → List ℕ
worth_fields price redemption total =
    behind_commas (decimal_text 3 price ∷ day_text (civil redemption) ∷ decimal_text 2 total ∷ [])

-- what is told of a row
unfoldable pub mark_fields : MarkSaid → List ℕ
mark_fields (Marked cusip price redemption total) =
    behind_commas (codes "marked" ∷ cusip ∷ []) ++ worth_fields price redemption total
mark_fields (Refused number) = refused_fields number
mark_fields (Bad fault) = bad_fields fault

-- the line of a row, which begins with its place
abbrev pub mark_line : ℕ → MarkSaid → List ℕ
mark_line place said = decimal place ++ mark_fields said ++ 10 ∷ []

-- the lines of rows, whose places are counted on
abbrev pub mark_lines : ℕ → List MarkSaid → List ℕ
mark_lines place [] = []
mark_lines place (said ∷ more) = mark_line place said ++ mark_lines (place + 1) more

-- whether a row is marked, and what it is worth
abbrev pub is_marked : MarkSaid → Bool
is_marked (Marked cusip price redemption total) = true
is_marked (Refused number) = false
is_marked (Bad fault) = false

abbrev pub worth_of : MarkSaid → ℕ
worth_of (Marked cusip price redemption total) = total
worth_of (Refused number) = 0
worth_of (Bad fault) = 0

-- how many rows are marked, and what they are worth
abbrev pub marked_count : List MarkSaid → ℕ
marked_count said = count_by is_marked said

abbrev pub marked_sum : List MarkSaid → ℕ
marked_sum said = sum_by worth_of said

-- the last line
unfoldable pub total_line : ℕ → ℕ → List ℕ
total_line count sum =
    codes "TOTAL" ++ behind_commas (decimal count ∷ decimal_text 2 sum ∷ []) ++ 10 ∷ []

-- the lines of all rows, and the total
abbrev pub marks_text : List MarkSaid → List ℕ
marks_text said = mark_lines 1 said ++ total_line (marked_count said) (marked_sum said)
