-- Names of stores that say which cabinet they are of.
use Rattle.std.specs.Prelude.{ℕ, nat_eq, List, [], ◌∷◌, take, drop, Option, Some, None, if◌then◌else◌}
use Rattle.std.specs.Cmp.Lexicographic.{pointwise}

-- `journal:`
abbrev pub prefix : List ℕ
prefix = 106 ∷ 111 ∷ 117 ∷ 114 ∷ 110 ∷ 97 ∷ 108 ∷ 58 ∷ []

-- what follows `journal:`, if a name begins so
abbrev pub journal_name : List ℕ → Option (List ℕ)
journal_name name = if pointwise nat_eq (take 8 name) prefix then Some (drop 8 name) else None

-- what two cabinets tell of a name, by which of them it is of
abbrev pub told_by : {A : Type 0} → (List ℕ → A) → (List ℕ → A) → List ℕ → Option (List ℕ) → A
told_by first second name None = first name
told_by first second name (Some rest) = second rest
