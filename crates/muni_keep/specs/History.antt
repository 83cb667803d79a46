-- The versions of one trade, or the terms of one issue.
use Rattle.std.specs.Prelude.{ℕ, ◌+◌, ◌-◌, ◌==◌, List, [], ◌∷◌, ◌++◌, length, if◌then◌else◌, Option, Some, None, slice_get, refl}
use Rattle.std.specs.Coded.{Coded, code_by, coded×, coded_list}

-- The last version, and those before it in order. So there is at least one, and their numbers are
-- 1 to the number of the last.
pub record History (V : Type 0) : Type 0 where
  pub earlier : List V
  pub last : V

-- it is stored as the pair of its fields
abbrev pub history_code : {V : Type 0} → Coded V → Coded (History V)
history_code {V} code =
    code_by (List V × V) (coded× (coded_list code) code) (λ history. (history.earlier, history.last)) (λ pair. record { earlier = pair.0; last = pair.1 }) (λ _. refl)

-- all of them, the first one first
abbrev pub versions : {V : Type 0} → History V → List V
versions history = history.earlier ++ history.last ∷ []

-- how many there are, which is the number of the last
abbrev pub count : {V : Type 0} → History V → ℕ
count history = length history.earlier + 1

-- the version with this number, if there is one
abbrev pub version_in : {V : Type 0} → History V → ℕ → Option V
version_in history number =
    if number == 0 then None else slice_get (versions history) (number - 1)

-- the number of the next version, whether any is kept or not
abbrev pub next_number : {V : Type 0} → Option (History V) → ℕ
next_number None = 1
next_number (Some history) = count history + 1

-- with a next version
abbrev pub grown : {V : Type 0} → Option (History V) → V → History V
grown None version = record { earlier = []; last = version }
grown (Some history) version = record { earlier = versions history; last = version }
