-- What the images are after a slot was put, by the answer.
use Rattle.std.specs.Prelude.{ℕ, List, Result, Ok, Err}
use Rattle.muni_journal_disk.specs.Disk.{ComesFrom}
use Rattle.muni_journal_disk.specs.Slots.{IsUnopened, IsDoubtful, IsPut, AllImages}
use Rattle.muni_journal_disk.specs.declared.slots.SlotFault.{SlotFault}
use Rattle.muni_journal_disk.specs.declared.slots.SlotFault.TheVariants.{Unopened, InDoubt}

-- what an image has become of one before
abbrev pub Step : ℕ → List ℕ → Result Unit SlotFault → List ℕ → List ℕ → Type 0
Step gate piece (Ok _) = IsPut gate piece
Step gate piece (Err (Unopened _)) = IsUnopened gate
Step gate piece (Err (InDoubt _)) = IsDoubtful gate piece

-- and each has become so
abbrev pub Leaves : ℕ → List ℕ → (List ℕ → Type 0) → (List ℕ → Type 0) → Result Unit SlotFault → Type 0
Leaves gate piece old new result = AllImages new (ComesFrom (Step gate piece result) old)
