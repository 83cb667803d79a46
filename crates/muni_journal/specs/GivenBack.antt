-- A keeper that is given back to its cabinet.
use Rattle.std.specs.Prelude.{◌≡◌, ◌≢◌, ℕ, List, Some, is_some, IfSome, IsSomeAnd}
use Rattle.muni_keep.specs.Tables.{Tables}
use Rattle.muni_keep.specs.declared.cabinet.Cabinet.{Ghosts}

-- a keeper is out that was lent as this number
abbrev pub IsOutAs : {C K : Type 0} → Ghosts C K → ℕ → C → Type 0
IsOutAs cabinet number at = IsSomeAnd (cabinet.out at) (λ lent. lent.1 ≡ number)

-- under the name of the keeper that was out these tables are told, if any were
abbrev pub TellsTables : {C K : Type 0} → Ghosts C K → Tables → C → C → Type 0
TellsTables cabinet tables old new =
    IfSome (cabinet.out old) (λ lent. IfSome (cabinet.told old lent.0) (λ _. cabinet.told new lent.0 ≡ Some tables))

-- under each name tables are told if some were before
abbrev pub TellsAsBefore : {C K : Type 0} → Ghosts C K → C → C → Type 0
TellsAsBefore cabinet old new = (other : List ℕ) → is_some (cabinet.told new other) ≡ is_some (cabinet.told old other)

-- under the other names the same tables are told
abbrev pub KeepsOthers : {C K : Type 0} → Ghosts C K → C → C → Type 0
KeepsOthers cabinet old new =
    IfSome (cabinet.out old) (λ lent. (other : List ℕ) → other ≢ lent.0 → cabinet.told new other ≡ cabinet.told old other)
