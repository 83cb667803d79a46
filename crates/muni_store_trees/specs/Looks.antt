-- What a call that only looks does to a store.
use Rattle.std.specs.Prelude.{◌≡◌, ◌≤◌, false, Result, OnOk, OnErr, IsTrue}
use Rattle.sqlite_trees.specs.Tree.{Trees}
use Rattle.sqlite_trees.specs.View.{View, doubt, IsClean}

-- only the cursors may differ
abbrev pub IsSame : View → View → Type 0
IsSame old new = new ≡ record old { cursors = new.cursors }

-- after a failure: the same, or broken until a rollback, which goes back to what was committed
pub record IsHeld (old new : View) : Type 0 where
  pub same : new.is_broken ≡ false → IsSame old new
  pub committed : IsTrue new.is_open → new.committed ≡ old.committed

-- Nothing is written, and a crash leaves what it could leave before.
pub record Looks {S T E : Type 0} (view : S → View) (recovers : S → Trees → Type 0) (result : Result T E) (old new : S) : Type 0 where
  pub clean : doubt (view old).is_clean ≤ doubt (view new).is_clean
  pub same : OnOk result (IsClean (view new) → IsSame (view old) (view new))
  pub held : OnErr result (IsClean (view new) → IsHeld (view old) (view new))
  pub outcomes : (db : Trees) → recovers new db → recovers old db

-- the same so far, whatever the call will answer
pub record HasLooked {S : Type 0} (view : S → View) (recovers : S → Trees → Type 0) (old new : S) : Type 0 where
  pub clean : doubt (view old).is_clean ≤ doubt (view new).is_clean
  pub same : IsClean (view new) → IsSame (view old) (view new)
  pub outcomes : (db : Trees) → recovers new db → recovers old db
