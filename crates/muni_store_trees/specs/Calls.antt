-- What a call has done to a keeper over trees, and what it answers.
use Rattle.std.specs.Prelude.{◌≡◌, ◌⊎◌, ◌≤◌, ℕ, List, None, Result, Ok, Err, IfOk, IfSome, OnOk, OnErr, IsTrue}
use Rattle.sqlite_trees.specs.Tree.{Trees}
use Rattle.sqlite_trees.specs.View.{View, doubt, IsClean}
use Rattle.muni_edge.specs.Calls.{one_more}
use Rattle.muni_keep.specs.declared.fault.KeepFault.{KeepFault}
use Rattle.muni_keep.specs.declared.fault.KeepFault.TheVariants as keep
use Rattle.muni_store_trees.specs.declared.fault.TreeFault.{TreeFault}
use Rattle.muni_store_trees.specs.declared.fault.TreeFault.TheVariants.{Failed, NoMemory, Shut}
use Rattle.muni_store_trees.specs.declared.places.Places.{Places}
use Rattle.muni_store_trees.specs.declared.keeper.TreeKeeper.{TreeKeeper}
use Rattle.muni_store_trees.specs.Adds.{Puts}
use Rattle.muni_store_trees.specs.Counts.{Counts, count_of, with_count}
use Rattle.muni_store_trees.specs.Found.{trade_count}
use Rattle.muni_store_trees.specs.Looks.{IsSame}

-- what a keeper answers for a fault
abbrev pub fault_kept : TreeFault → KeepFault
fault_kept NoMemory = keep.NoMemory
fault_kept Failed = keep.Failed
fault_kept Shut = keep.Failed

abbrev pub kept : {T : Type 0} → Result T TreeFault → Result T KeepFault
kept (Ok value) = Ok value
kept (Err fault) = Err (fault_kept fault)

-- the count after an answer: one more if it is a failure
abbrev pub count_after : {T : Type 0} → Result T KeepFault → ℕ → ℕ
count_after (Ok value) count = count
count_after (Err keep.NoMemory) count = count
count_after (Err keep.Failed) count = one_more count

-- A failure is counted once, and nothing else is.
pub record CountsFailure {T : Type 0} (result : Result T KeepFault) (old new : ℕ) : Type 0 where
  pub later : old ≤ new
  pub counted : new ≡ count_after result old

-- what a failed call leaves of an open store: what was committed
pub record IsUndone (old new : View) : Type 0 where
  pub trees : IsTrue new.is_open → new.trees ≡ old.committed
  pub committed : IsTrue new.is_open → new.committed ≡ old.committed

-- a rollback after a failure
pub record Settles {S : Type 0} (view : S → View) (recovers : S → Trees → Type 0) (old new : S) : Type 0 where
  pub clean : doubt (view old).is_clean ≤ doubt (view new).is_clean
  pub was_open : IsClean (view new) → IsTrue (view new).is_open → IsTrue (view old).is_open
  pub undone : IsClean (view new) → IsUndone (view old) (view new)
  pub outcomes : (db : Trees) → recovers new db → recovers old db

-- the store apart, a keeper is as it was
pub record IsFrame {S : Type 0} (old new : TreeKeeper S) : Type 0 where
  pub places : new.places ≡ old.places
  pub counts : new.trades ≡ old.trades

-- nothing was written, and a call that failed was rolled back
pub record Keeps {S T E : Type 0} (view : S → View) (recovers : S → Trees → Type 0) (result : Result T E) (old new : S) : Type 0 where
  pub clean : doubt (view old).is_clean ≤ doubt (view new).is_clean
  pub same : OnOk result (IsClean (view new) → IsSame (view old) (view new))
  pub undone : OnErr result (IsClean (view new) → IsUndone (view old) (view new))
  pub outcomes : (db : Trees) → recovers new db → recovers old db

module _ {S : Type 0} (view : S → View) (recovers : S → Trees → Type 0) where
  -- A look-up: its answer is found in the trees, and nothing is written.
  pub record Finds {A : Type 0} (Found : Places → Trees → A → Type 0) (result : Result A KeepFault) (old new : TreeKeeper S) : Type 0 where
    pub found : IfOk result (λ answer. IsClean (view new.store) → Found old.places (view old.store).trees answer)
    pub keeps : Keeps view recovers result old.store new.store
    pub places : new.places ≡ old.places
    pub counts : new.trades ≡ old.trades

  -- A put: carried out and committed, or rolled back.
  pub record Adds {T : Type 0} (Added : Places → Trees → Trees → Type 0) (counted : Counts) (result : Result T KeepFault) (old new : TreeKeeper S) : Type 0 where
    pub puts : Puts view recovers (Added old.places) result old.store new.store
    pub undone : OnErr result (IsClean (view new.store) → IsUndone (view old.store) (view new.store))
    pub places : new.places ≡ old.places
    pub counts : new.trades ≡ counted

  -- How many trades a desk has. A count that is kept is the answer, and nothing changes. Otherwise they are counted, and
  -- the count is kept if there is memory for it.
  pub record CountsTrades (desk : List ℕ) (result : Result ℕ KeepFault) (old new : TreeKeeper S) : Type 0 where
    pub kept : IfSome (count_of desk old.trades) (λ count. (result ≡ Ok count) × (new ≡ old))
    pub found : count_of desk old.trades ≡ None → IfOk result (λ count. IsClean (view new.store) → count ≡ trade_count old.places (view old.store).trees desk)
    pub keeps : Keeps view recovers result old.store new.store
    pub places : new.places ≡ old.places
    pub counts : IfOk result (λ count. (new.trades ≡ old.trades) ⊎ (new.trades ≡ with_count desk count old.trades))
    pub refused : OnErr result (new.trades ≡ old.trades)
