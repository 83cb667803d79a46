-- The lines of a desk's trades for which no row came, as they are written a page at a time.
use Rattle.std.specs.Prelude.{◌≡◌, ◌++◌, Bool, ℕ, List, length, Option, Result, Ok, Err, IfSome}
use Rattle.muni_edge.specs.Sink.{HasWritten, HasWrittenPart}
use Rattle.muni_keep.specs.Tables.{Tables}
use Rattle.muni_desk_io.specs.declared.fault.Fault.{Fault}
use Rattle.muni_desk_io.specs.declared.fault.Fault.TheVariants.{Read, Write, Store, NoMemory, TooLarge}
use Rattle.muni_check_rows.specs.Line.{unseen_lines}
use Rattle.muni_check.specs.Unseen.{unseen_at}

-- all references of live trades that no row named
abbrev pub AreAllUnseen : (desk : List ℕ) → (is_named : List ℕ → Bool) → Option Tables → List (List ℕ) → Type 0
AreAllUnseen desk is_named told unseen = IfSome told (λ tables. unseen ≡ unseen_at tables desk is_named)

-- the first of them
pub record AreFirstUnseen (desk : List ℕ) (is_named : List ℕ → Bool) (told : Option Tables) (unseen : List (List ℕ)) : Type 0 where
  pub left : List (List ℕ)
  pub all : AreAllUnseen desk is_named told (unseen ++ left)

abbrev pub WritesUnseen : (desk : List ℕ) → (is_named : List ℕ → Bool) → Option Tables → Result ℕ Fault → (had has : Option (List ℕ)) → Type 0
WritesUnseen desk is_named told (Ok count) had has =
    (unseen : List (List ℕ)) × AreAllUnseen desk is_named told unseen × (count ≡ length unseen)
    × HasWritten had has (unseen_lines unseen)
WritesUnseen desk is_named told (Err Write) had has =
    (unseen : List (List ℕ)) × AreFirstUnseen desk is_named told unseen × HasWrittenPart had has (unseen_lines unseen)
WritesUnseen desk is_named told (Err Store) had has =
    (unseen : List (List ℕ)) × AreFirstUnseen desk is_named told unseen × HasWritten had has (unseen_lines unseen)
WritesUnseen desk is_named told (Err NoMemory) had has =
    (unseen : List (List ℕ)) × AreFirstUnseen desk is_named told unseen × HasWritten had has (unseen_lines unseen)
WritesUnseen desk is_named told (Err Read) had has = ⊥
WritesUnseen desk is_named told (Err TooLarge) had has = ⊥
