-- What a put does to a store.
use Rattle.std.specs.Prelude.{◌≡◌, ◌⊎◌, ◌≤◌, ℕ, ℤ, List, [], ◌∷◌, ◌++◌, Result, OnOk, OnErr, IsTrue, Option, Some, None, reverse, slice_get, pos, ◌+ℤ◌}
use Rattle.std.specs.List.{AllByRecursion}
use Rattle.std.specs.declared.cmp.Ordering.TheVariants.{Less}
use Rattle.sqlite_value.specs.declared.value.Value.TheVariants.{Int}
use Rattle.sqlite_value.specs.Order.{Row, value_cmp}
use Rattle.sqlite_value.specs.Keys.{plain}
use Rattle.sqlite_trees.specs.Tree.{Trees, rowid, with_tree, put_row, insert_entry}
use Rattle.sqlite_trees.specs.View.{View, doubt, IsClean}
use Rattle.muni_store_trees.specs.Entries.{matching}

-- a rowid is above all of a table
abbrev pub IsNewId : ℤ → List Row → Type 0
IsNewId id = AllByRecursion (λ row. value_cmp (rowid row) (Int id) ≡ Less)

-- the last row of a table, or none of an empty one
abbrev pub IsLastRow : List Row → Option Row → Type 0
IsLastRow rows last = slice_get (reverse rows) 0 ≡ last

-- the rowid that follows that of the last row, or 1
abbrev pub IsIdAfter : Option Row → ℤ → Type 0
IsIdAfter None id = id ≡ pos 1
IsIdAfter (Some last) id = (before : ℤ) × (rowid last ≡ Int before) × (id ≡ before +ℤ pos 1)

-- a row is set in a table, an entry is inserted into an index, and no other tree changes
abbrev pub Writes : ℕ → ℕ → Row → Row → Trees → Trees → Type 0
Writes table index row entry before after =
    after ≡ with_tree (with_tree before table (put_row row (before table))) index (insert_entry plain entry (before index))

-- A table has one row more, behind the others, and its index the entry of the row. No other tree changes.
pub record AddsRow (table index : ℕ) (key columns : Row) (before after : Trees) : Type 0 where
  pub id : ℤ
  pub new_id : IsNewId id (before table)
  pub new_key : matching key (before index) ≡ []
  pub is : after ≡ with_tree (with_tree before table (before table ++ (Int id ∷ columns) ∷ [])) index (insert_entry plain (key ++ Int id ∷ []) (before index))

-- The trees are edited, or not, and nothing is committed.
pub record Edits {S T E : Type 0} (view : S → View) (recovers : S → Trees → Type 0) (Adds : Trees → Trees → Type 0) (result : Result T E) (old new : S) : Type 0 where
  pub clean : doubt (view old).is_clean ≤ doubt (view new).is_clean
  pub edited : OnOk result (IsClean (view new) → Adds (view old).trees (view new).trees)
  pub committed : IsClean (view new) → IsTrue (view new).is_open → (view new).committed ≡ (view old).committed
  pub outcomes : (db : Trees) → recovers new db → recovers old db

-- A put is carried out and committed, or nothing is committed. A stop at any moment leaves what one before could leave, or the trees after the put.
pub record Puts {S T E : Type 0} (view : S → View) (recovers : S → Trees → Type 0) (Adds : Trees → Trees → Type 0) (result : Result T E) (old new : S) : Type 0 where
  pub clean : doubt (view old).is_clean ≤ doubt (view new).is_clean
  pub put : OnOk result (IsClean (view new) → Adds (view old).trees (view new).trees)
  pub committed : OnOk result (IsClean (view new) → (view new).committed ≡ (view new).trees)
  pub held : OnErr result (IsClean (view new) → IsTrue (view new).is_open → (view new).committed ≡ (view old).committed)
  pub stops : (db : Trees) → recovers new db → recovers old db ⊎ (IsClean (view old) × Adds (view old).trees db)
