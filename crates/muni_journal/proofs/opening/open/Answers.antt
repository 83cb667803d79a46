use Rattle.std.proofs.Common.{◌∙◌}
use Rattle.muni_journal_disk.proofs.Runs.{one_call, no_image}
use Rattle.muni_journal.proofs.opening.open.Goals as goal

pub returns-in-Err-clause-stays : goal.returns-in-Err-clause-stays
returns-in-Err-clause-stays g c =
    let D = g.D.Disk in
    let old = c.args.disk in
    let synced = c.sync.ensures.keeps in
    record {
      bytes = synced.bytes;
      images = synced.images;
      stops = one_call D.clock D.since D.image old c.sync.new.self (λ f left. (g.met.D.Disk.now old f).0 left) c.sync.ensures.time synced.images;
    }

pub returns-in-Ok-clause-stays : goal.returns-in-Ok-clause-stays
returns-in-Ok-clause-stays g c =
    let D = g.D.Disk in
    let old = c.args.disk in
    let synced = c.sync.ensures.keeps in
    let first = one_call D.clock D.since D.image old c.sync.new.self (λ f left. (g.met.D.Disk.now old f).0 left) c.sync.ensures.time synced.images in
    let read = c.read_slots.ensures.reads in
    record {
      bytes = read.keeps.bytes ∙ synced.bytes;
      images = λ f now. synced.images f (read.keeps.images f now);
      stops = no_image D.clock D.since D.image old c.sync.new.self c.read_slots.new.disk first synced.images read.stops;
    }

pub returns-in-Err-read_slots-clause-stays : goal.returns-in-Err-read_slots-clause-stays
returns-in-Err-read_slots-clause-stays g c =
    let D = g.D.Disk in
    let old = c.args.disk in
    let synced = c.sync.ensures.keeps in
    let first = one_call D.clock D.since D.image old c.sync.new.self (λ f left. (g.met.D.Disk.now old f).0 left) c.sync.ensures.time synced.images in
    let read = c.read_slots.ensures.reads in
    record {
      bytes = read.keeps.bytes ∙ synced.bytes;
      images = λ f now. synced.images f (read.keeps.images f now);
      stops = no_image D.clock D.since D.image old c.sync.new.self c.read_slots.new.disk first synced.images read.stops;
    }
