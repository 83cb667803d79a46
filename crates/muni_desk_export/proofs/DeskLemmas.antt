-- The desks that are left, if the tables are known.
use Rattle.std.proofs.Common.{◌≡◌, ℕ, List, [], ◌∷◌, ◌++◌, Option, Some, None, refl, sym, ap, ◌∙◌, append_assoc}
use Rattle.std.specs.Prelude.{IfSome, slice_get}
use Rattle.std.specs.Option.{option_map}
use Rattle.std.specs.List.{flat_map}
use Rattle.muni_keep.specs.Tables.{Tables, desk_past}
use Rattle.muni_keep.specs.Trades.{past}
use Rattle.muni_keep.proofs.EntriesLemmas.{past-next}
use Rattle.muni_desk_export.specs.Counts.{desk_line, desk_lines_after}
use Rattle.muni_desk_export.specs.Walk.{desk_left, desk_rows, desks_after, desks_left}

first_of : {A : Type 0} (xs : List (List ℕ × A)) (name : List ℕ) → Some name ≡ option_map (λ entry. entry.0) (slice_get xs 0) → (entry : List ℕ × A) × (rest : List (List ℕ × A)) × (xs ≡ entry ∷ rest) × (entry.0 ≡ name)
first_of [] name is = absurd (cc is)
first_of (entry ∷ rest) name is = let same : name ≡ entry.0 = cc is in (entry, rest, refl, sym same)

none_of : {A : Type 0} (xs : List (List ℕ × A)) → None ≡ option_map (λ entry. entry.0) (slice_get xs 0) → xs ≡ []
none_of [] is = refl
none_of (entry ∷ rest) is = absurd (cc is)

-- a piece of the desk at hand
pub desk-piece : (told : Option Tables) (desk after next : Option (List ℕ)) (piece : List ℕ) → IfSome told (λ t. desk_left t desk after ≡ piece ++ desk_left t desk next)
    → IfSome told (λ t. desks_left t desk after ≡ piece ++ desks_left t desk next)
desk-piece None desk after next piece is = tt
desk-piece (Some t) desk after next piece is =
    ap (λ l. l ++ desks_after t desk) is ∙ append_assoc piece (desk_left t desk next) (desks_after t desk)

-- a step to the next desk
pub next-desk : (told : Option Tables) (desk after : Option (List ℕ)) (name : List ℕ) → IfSome told (λ t. desk_left t desk after ≡ []) → IfSome told (λ t. Some name ≡ desk_past t desk)
    → IfSome told (λ t. desks_left t desk after ≡ desks_left t (Some name) None)
next-desk None desk after name none is = tt
next-desk (Some t) desk after name none is =
    let first = first_of (past desk t.desks) name is in
    ap (λ l. l ++ desks_after t desk) none
    ∙ ap (flat_map (λ entry. desk_rows t entry.0)) first.2
    ∙ ap (λ l. desk_rows t first.0.0 ++ flat_map (λ entry. desk_rows t entry.0) l) (sym (past-next desk t.desks [] first.0 first.1 first.2))
    ∙ ap (λ n. desk_rows t n ++ desks_after t (Some n)) first.3

-- no desk is left
pub no-desk : (told : Option Tables) (desk after : Option (List ℕ)) → IfSome told (λ t. desk_left t desk after ≡ []) → IfSome told (λ t. None ≡ desk_past t desk) → IfSome told (λ t. desks_left t desk after ≡ [])
no-desk None desk after none is = tt
no-desk (Some t) desk after none is =
    ap (λ l. l ++ desks_after t desk) none ∙ ap (flat_map (λ entry. desk_rows t entry.0)) (none_of (past desk t.desks) is)

-- ---- the lines of the desks
-- that of the next desk
pub next-line : (told : Option Tables) (desk : Option (List ℕ)) (name line : List ℕ) → IfSome told (λ t. Some name ≡ desk_past t desk) → IfSome told (λ t. line ≡ desk_line t name)
    → IfSome told (λ t. desk_lines_after t desk ≡ line ++ desk_lines_after t (Some name))
next-line None desk name line is counted = tt
next-line (Some t) desk name line is counted =
    let first = first_of (past desk t.desks) name is in
    ap (flat_map (λ entry. desk_line t entry.0)) first.2
    ∙ ap (λ l. desk_line t first.0.0 ++ flat_map (λ entry. desk_line t entry.0) l) (sym (past-next desk t.desks [] first.0 first.1 first.2))
    ∙ ap (λ n. desk_line t n ++ desk_lines_after t (Some n)) first.3
    ∙ ap (λ l. l ++ desk_lines_after t (Some name)) (sym counted)

-- none is left
pub no-line : (told : Option Tables) (desk : Option (List ℕ)) → IfSome told (λ t. None ≡ desk_past t desk) → IfSome told (λ t. desk_lines_after t desk ≡ [])
no-line None desk is = tt
no-line (Some t) desk is = ap (flat_map (λ entry. desk_line t entry.0)) (none_of (past desk t.desks) is)
