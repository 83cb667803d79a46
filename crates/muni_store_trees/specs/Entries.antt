-- Entries of an index, and scans of them.
use Rattle.std.specs.Prelude.{◌≡◌, Bool, true, false, not, List, [], ◌∷◌, reverse, filter, Some}
use Rattle.std.specs.Ordering.{is_lt, is_eq}
use Rattle.sqlite_value.specs.Order.{Row}
use Rattle.sqlite_value.specs.Keys.{plain, prefix_cmp}
use Rattle.sqlite_trees.specs.Tree.{IsAscending, IsIndex, sought}
use Rattle.sqlite_trees.specs.View.{View}
use Rattle.sqlite_trees.specs.declared.store.Direction.{Direction}
use Rattle.sqlite_trees.specs.declared.store.Direction.TheVariants.{Forward, Backward}

-- whether an entry begins with the columns of a key
abbrev pub begins_with : Row → Row → Bool
begins_with key entry = is_eq (prefix_cmp plain entry key)

-- the entries that begin with the columns of a key
abbrev pub matching : Row → List Row → List Row
matching key = filter (begins_with key)

-- the entries that are not below a key
abbrev pub from : Row → List Row → List Row
from key = filter (λ entry. not (is_lt (prefix_cmp plain entry key)))

abbrev pub in_direction : Direction → List Row → List Row
in_direction Forward entries = entries
in_direction Backward entries = reverse entries

-- once an entry does not begin with the key, none that follows does
abbrev pub EndsOnce : Row → List Row → Type 0
EndsOnce key = IsAscending (λ a b. begins_with key a ≡ false → begins_with key b ≡ false)

-- the first cursor stands in the entries of an index, in their order
pub record IsSought (view : View) (direction : Direction) (key : Row) (entries : List Row) : Type 0 where
  pub cursor : view.cursors 0 ≡ Some (sought plain direction key entries)
  pub ordered : IsIndex plain entries

-- what the first cursor has left to give begins with these entries, which are those of the key
pub record Scans (view : View) (key : Row) (left : List Row) : Type 0 where
  pub rest : List Row
  pub cursor : view.cursors 0 ≡ Some rest
  pub ends : EndsOnce key rest
  pub is : left ≡ matching key rest

-- a scan gave this entry, or none was left
abbrev pub Gives : View → Row → List Row → Row → Bool → Type 0
Gives view key left entry true = (more : List Row) × (left ≡ entry ∷ more) × Scans view key more
Gives view key left entry false = left ≡ []
