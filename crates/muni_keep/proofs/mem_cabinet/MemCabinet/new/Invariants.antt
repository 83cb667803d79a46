use Rattle.std.proofs.Common.{◌≡◌, map}
use Rattle.std.specs.FinMap.{from_entries}
use Rattle.muni_keep.proofs.KeeperLemmas.{put_all}
use Rattle.muni_keep.proofs.mem_cabinet.MemCabinet.new.Given as goal

-- with those that are left, the map will be that of all keepers
abbrev pub invariant-loop-name : goal.invariant-loop-name
invariant-loop-name l =
    put_all (map (λ named. (named.0.items, named.1)) l.name-iterator.iter.rest.items) l.by_name
    ≡ from_entries (map (λ named. (named.0.items, named.1)) l.fn.keepers.items)
