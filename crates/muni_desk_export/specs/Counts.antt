-- How many rows tables keep, as they are printed.
use Rattle.std.specs.Prelude.{ℕ, ◌==◌, List, [], ◌∷◌, ◌++◌, count_by, codes, decimal, Option, None}
use Rattle.std.specs.List.{flat_map}
use Rattle.muni_dec.specs.Line.{line}
use Rattle.muni_keep.specs.Tables.{Tables}
use Rattle.muni_keep.specs.Trades.{past}
use Rattle.muni_desk_export.specs.Issues.{all_issues}
use Rattle.muni_desk_export.specs.Walk.{desk_rows}

-- how many rows a text has: each ends its line
abbrev pub row_count : List ℕ → ℕ
row_count text = count_by (λ byte. byte == 10) text

-- the line of the issues: how many terms of them are kept
abbrev pub issues_line : Tables → List ℕ
issues_line tables = line (codes "ISSUES" ∷ decimal (row_count (all_issues tables)) ∷ [])

-- the line of a desk: how many versions of trades are kept
abbrev pub desk_line : Tables → List ℕ → List ℕ
desk_line tables desk = line (codes "DESK" ∷ desk ∷ decimal (row_count (desk_rows tables desk)) ∷ [])

-- those of the desks after one, if one is given, in the order of their names
abbrev pub desk_lines_after : Tables → Option (List ℕ) → List ℕ
desk_lines_after tables desk = flat_map (λ entry. desk_line tables entry.0) (past desk tables.desks)

-- that all could be read
abbrev pub sound_line : List ℕ
sound_line = codes "SOUND\n"

abbrev pub counts_text : Tables → List ℕ
counts_text tables = issues_line tables ++ (desk_lines_after tables None ++ sound_line)
