-- A disk that is exchanged with the one in the place of a name.
use Rattle.std.specs.Prelude.{◌≡◌, ℕ, List, Option, None}
use Rattle.muni_journal_disk.specs.Places.{disk_under}
use Rattle.muni_journal_disk.specs.declared.mem_disk.MemDisk.{MemDisk}
use Rattle.muni_journal_disk.specs.declared.mem_shelf.Place.{Place}

-- each has come where the other was
pub record AreExchanged (name : List ℕ) (before after : Option MemDisk) (old new : List Place) : Type 0 where
  pub put : disk_under new name ≡ before
  pub got : after ≡ disk_under old name

-- the name has no place, and nothing has changed
pub record HasNone (name : List ℕ) (before after : Option MemDisk) (old new : List Place) : Type 0 where
  pub none : disk_under old name ≡ None
  pub kept : after ≡ before
  pub unchanged : new ≡ old
