-- The disks of a shelf in memory, by their names.
use Rattle.std.specs.Prelude.{ℕ, nat_eq, Bool, List, [], ◌∷◌, length, Option, Some, None, if◌then◌else◌}
use Rattle.std.specs.List.{list_any}
use Rattle.std.specs.Cmp.Lexicographic.{pointwise}
use Rattle.muni_journal_disk.specs.Moments.{WasImage}
use Rattle.muni_journal_disk.specs.declared.mem_disk.MemDisk.{MemDisk}
use Rattle.muni_journal_disk.specs.declared.mem_shelf.Place.{Place}

-- a name has a place
abbrev pub has_place : List Place → List ℕ → Bool
has_place places name = list_any (λ (place : Place). pointwise nat_eq place.name.items name) places

-- the disk of a name, if it has one that is not out
abbrev pub disk_under : List Place → List ℕ → Option MemDisk
disk_under [] name = None
disk_under (place ∷ places) name =
    if pointwise nat_eq place.name.items name then place.disk else disk_under places name

-- what a disk reads as, and nothing if there is none
abbrev pub bytes_of : Option MemDisk → List ℕ
bytes_of None = []
bytes_of (Some disk) = disk.bytes.items

-- how often a disk has failed
abbrev pub faults_of : Option MemDisk → ℕ
faults_of None = 0
faults_of (Some disk) = disk.faults

-- its moment, and what a stop since an earlier one may have left
abbrev pub clock_of : Option MemDisk → ℕ
clock_of None = 0
clock_of (Some disk) = length disk.past.items

abbrev pub since_of : Option MemDisk → ℕ → List ℕ → Type 0
since_of None = WasImage [] []
since_of (Some disk) = WasImage disk.first.items disk.past.items
