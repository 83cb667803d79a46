use Rattle.std.proofs.Common.{◌≡◌, ◌++◌, Option, Some, length, take, drop, arith}
use Rattle.std.proofs.lemmas.Grind.{common_steps}
use Rattle.muni_journal_disk.specs.declared.mem_disk.MemDisk.{MemDisk}
use Rattle.muni_journal_disk.specs.Places.{disk_under}
use Rattle.muni_journal_disk.proofs.PlaceLemmas.{goes_there, read_there, failed_there}
use Rattle.muni_journal_disk.proofs.mem_shelf.MemShelfShelf.put_back.Goals as goal

pub returns-clause-disk : goal.returns-clause-disk
returns-clause-disk c =
    let old = c.args.self.now.places in
    let new = c.exchange.new.places in
    let there : Option MemDisk = disk_under (take old.len (new ++ drop (length new) old.items)) c.args.name.now in
    let is : there ≡ Some c.args.disk = grind (arith, common_steps) in
    record {
      bytes = λ _. read_there there c.args.disk is;
      faults = failed_there there c.args.disk is;
      moved = goes_there there c.args.disk is;
    }
