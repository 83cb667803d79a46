use Rattle.muni_journal.specs.Journal.{Place}
use Rattle.muni_journal.proofs.JournalImages.{stand_now}
use Rattle.muni_journal.proofs.keeper.JournalKeeper.images_stand.Goals as goal

pub returns : goal.returns
returns g c f now =
    let self = c.args.self.now in
    let at : Place = record { gate = self.gate; tables = self.kept } in
    stand_now at self.in_doubt (g.D.Disk.image self.disk) self.at_rest self.doubtful f now
