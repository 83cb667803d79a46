use Rattle.std.proofs.Common.{◌≡◌, rules}
use Rattle.muni_journal_disk.proofs.PlaceLemmas.{comes_out, stays_there}
use Rattle.muni_journal_disk.specs.Places.{disk_under}
use Rattle.muni_journal_disk.proofs.mem_shelf.MemShelfShelf.take.Goals as goal

pub returns-clause-taken : goal.returns-clause-taken
returns-clause-taken c =
    let old = c.args.self.now.places.items in
    let name = c.args.name.now in
    let found : c.in_ok-disk.disk ≡ disk_under old name = c.in_ok-disk.ensures.disk in
    record {
      disk = record {
        bytes = search rules;
        faults = search rules;
        moved = comes_out (disk_under old name) c.in_ok-new_disk.new_disk c.unwrap_or.result (search rules) (search rules) (search rules);
      };
      out = search rules;
      none_out = search rules;
      others = record {
        disks = search rules;
        moments = record { others = λ o differs. stays_there _ _ (c.in_ok-disk.ensures.others o differs) };
      };
      unchanged = search rules;
      cause = search rules;
    }
