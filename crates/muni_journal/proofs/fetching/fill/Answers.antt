use Rattle.muni_journal_disk.proofs.Runs.{one_call}
use Rattle.muni_journal.proofs.fetching.fill.Goals as goal

pub returns-clause-reads : goal.returns-clause-reads
returns-clause-reads g c =
    let D = g.D.Disk in
    let old = c.args.disk.now in
    record {
      keeps = c.read.ensures.keeps;
      stops = one_call D.clock D.since D.image old c.read.new.self (λ f left. (g.met.D.Disk.now old f).0 left) c.read.ensures.time c.read.ensures.keeps.images;
    }
