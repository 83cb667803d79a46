-- The tables that a cabinet of journals tells under a name.
use Rattle.std.specs.Prelude.{ℕ, List, nat_eq, Option, Some, None, if◌then◌else◌, is_some}
use Rattle.std.specs.Option.{option_map, option_and_then}
use Rattle.std.specs.Cmp.Lexicographic.{pointwise}
use Rattle.muni_keep.specs.Tables.{Tables, no_tables}
use Rattle.muni_journal.specs.Journal.{tables_of}

-- the disk that is off its shelf, by its name, and the tables that are told for it: it is that of the
-- keeper that is out, for which no tables are told, or else that of the keeper that is held
abbrev pub off_shelf : Option (List ℕ) → Option (List ℕ × Tables) → Option (List ℕ × Tables)
off_shelf (Some name) held = Some (name, no_tables)
off_shelf None held = held

-- If the disk of a name exposes what it reads as, the cabinet exposes the tables for which that stands, and of the
-- disk that is off its shelf the others
abbrev pub told_of : Option (List ℕ × Tables) → (List ℕ → Option (List ℕ)) → List ℕ → Option Tables
told_of None disks name = option_and_then tables_of (disks name)
told_of (Some off) disks name =
    if pointwise nat_eq off.0 name
    then option_map (λ _. off.1) (disks name)
    else option_and_then tables_of (disks name)

-- keepers are marked by whether their disk tells what it reads as
abbrev pub lent_as_of : Option (List ℕ) → ℕ
lent_as_of bytes = if is_some bytes then 1 else 0
