use Rattle.std.proofs.Common.{◌≡◌, ℕ, map, Some, Vec, Global}
use Rattle.muni_journal_disk.specs.declared.mem_disk.MemDisk.{MemDisk}
use Rattle.muni_journal_disk.specs.declared.mem_shelf.Place.{Place}
use Rattle.muni_journal_disk.proofs.mem_shelf.MemShelf.new.Given as goal

-- the places of those that were taken
abbrev pub invariant-loop-name : goal.invariant-loop-name
invariant-loop-name l =
    l.places.items ≡ map (λ (named : Vec ℕ Global × MemDisk). let place : Place = record { name = named.0; disk = Some named.1 } in place) l.yielded
