-- The texts of calls, one after another.
use Rattle.std.proofs.Common.{◌≡◌, ◌≤◌, ◌<◌, ◌+◌, ℕ, List, ◌∷◌, ◌++◌, length, drop, get_or, sym, ap, ◌∙◌}
use Rattle.std.proofs.lemmas.List.{at_drop_more, at_drop_all, append-nil, append_assoc}
use Rattle.muni_terms.specs.declared.row.Call.{Call}
use Rattle.muni_store_rows.specs.Calls.{call_behind_blank, calls_behind_blanks}

pub next-call : (calls : List Call) (i : ℕ) (x : Call) (had all : List ℕ) → i < length calls → x ≡ get_or calls i x
    → had ++ calls_behind_blanks (drop i calls) ≡ all → (had ++ call_behind_blank x) ++ calls_behind_blanks (drop (i + 1) calls) ≡ all
next-call calls i x had all inside is before =
    let rest = at_drop_more calls_behind_blanks calls i x inside ∙ ap (λ y. calls_behind_blanks (y ∷ drop (i + 1) calls)) (sym is) in
    append_assoc had (call_behind_blank x) (calls_behind_blanks (drop (i + 1) calls)) ∙ ap (λ l. had ++ l) (sym rest) ∙ before

pub last-call : (calls : List Call) (i : ℕ) (had all : List ℕ) → length calls ≤ i → had ++ calls_behind_blanks (drop i calls) ≡ all → had ≡ all
last-call calls i had all end before =
    sym (append-nil had) ∙ ap (λ l. had ++ l) (sym (at_drop_all calls_behind_blanks calls i end)) ∙ before
