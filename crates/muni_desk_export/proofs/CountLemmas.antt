-- The rows of a walk, counted piece by piece.
use Rattle.std.proofs.Common.{◌≡◌, ◌+◌, ℕ, cond, List, [], ◌∷◌, ◌++◌, Option, Some, None, ap, ◌∙◌, arith}
use Rattle.std.specs.Prelude.{◌==◌, IfSome, codes, decimal}
use Rattle.std.proofs.lemmas.List.Sums.{sum_by-append}
use Rattle.muni_dec.specs.Line.{line}
use Rattle.muni_keep.specs.Tables.{Tables}
use Rattle.muni_desk_export.specs.Counts.{row_count, issues_line, desk_line}
use Rattle.muni_desk_export.specs.Issues.{all_issues}
use Rattle.muni_desk_export.specs.Walk.{desk_rows}

-- the rows of two texts, one after the other
row_count-append : (x y : List ℕ) → row_count (x ++ y) ≡ row_count x + row_count y
row_count-append x y = sum_by-append (λ byte. cond (byte == 10) 1 0) x y

-- none is counted yet
pub none-counted : (told : Option Tables) (all : Tables → List ℕ) → IfSome told (λ t. 0 + row_count (all t) ≡ row_count (all t))
none-counted None all = tt
none-counted (Some t) all = omega arith

-- those of the next piece are
pub more-counted : (told : Option Tables) (all left next : Tables → List ℕ) (piece : List ℕ) (count sum : ℕ) → IfSome told (λ t. count + row_count (left t) ≡ row_count (all t)) → IfSome told (λ t. left t ≡ piece ++ next t) → sum ≡ count + row_count piece
    → IfSome told (λ t. sum + row_count (next t) ≡ row_count (all t))
more-counted None all left next piece count sum before is more = tt
more-counted (Some t) all left next piece count sum before is more =
    let both : row_count (left t) ≡ row_count piece + row_count (next t) = ap row_count is ∙ row_count-append piece (next t) in
    omega (arith, before, both, more)

-- all are
pub all-counted : (told : Option Tables) (all left : Tables → List ℕ) (count : ℕ) → IfSome told (λ t. count + row_count (left t) ≡ row_count (all t)) → IfSome told (λ t. left t ≡ []) → IfSome told (λ t. count ≡ row_count (all t))
all-counted None all left count before none = tt
all-counted (Some t) all left count before none =
    let no_more : row_count (left t) ≡ 0 = ap row_count none in
    omega (arith, before, no_more)

-- ---- the lines of the counts
pub issues-counted : (told : Option Tables) (count : ℕ) → IfSome told (λ t. count ≡ row_count (all_issues t)) → IfSome told (λ t. line (codes "ISSUES" ∷ decimal count ∷ []) ≡ issues_line t)
issues-counted None count is = tt
issues-counted (Some t) count is = ap (λ n. line (codes "ISSUES" ∷ decimal n ∷ [])) is

pub desk-counted : (told : Option Tables) (desk : List ℕ) (count : ℕ) → IfSome told (λ t. count ≡ row_count (desk_rows t desk)) → IfSome told (λ t. line (codes "DESK" ∷ desk ∷ decimal count ∷ []) ≡ desk_line t desk)
desk-counted None desk count is = tt
desk-counted (Some t) desk count is = ap (λ n. line (codes "DESK" ∷ desk ∷ decimal n ∷ [])) is
