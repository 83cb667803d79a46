-- The lines of a list, one after another.
use Rattle.std.proofs.Common.{◌≡◌, ◌≤◌, ◌<◌, ◌+◌, ℕ, List, ◌∷◌, ◌++◌, length, drop, get_or, sym, ap, ◌∙◌}
use Rattle.std.proofs.lemmas.List.{at_drop_more, at_drop_all, append-nil, append_assoc}
use Rattle.muni_msg.specs.declared.command.Line.{Line}
use Rattle.muni_wire.specs.List.{list_line, list_text}

pub next-line : (lines : List Line) (i : ℕ) (x : Line) (had all : List ℕ) → i < length lines → x ≡ get_or lines i x
    → had ++ list_text (drop i lines) ≡ all → (had ++ list_line x) ++ list_text (drop (i + 1) lines) ≡ all
next-line lines i x had all inside is before =
    let rest = at_drop_more list_text lines i x inside ∙ ap (λ y. list_text (y ∷ drop (i + 1) lines)) (sym is) in
    append_assoc had (list_line x) (list_text (drop (i + 1) lines)) ∙ ap (λ l. had ++ l) (sym rest) ∙ before

pub last-line : (lines : List Line) (i : ℕ) (had all : List ℕ) → length lines ≤ i → had ++ list_text (drop i lines) ≡ all → had ≡ all
last-line lines i had all end before =
    sym (append-nil had) ∙ ap (λ l. had ++ l) (sym (at_drop_all list_text lines i end)) ∙ before
