use Rattle.std.proofs.Common.{◌≡◌, sym, ap, ◌∙◌, is_some}
use Rattle.muni_journal_disk.specs.Frames.{IsMoved}
use Rattle.muni_journal.proofs.StandLemmas.{back_stands, back_stops}
use Rattle.muni_journal.proofs.ToldLemmas.{told_still}
use Rattle.muni_journal.proofs.cabinet.release.Goals as goal

pub returns-in-Ok-clause-back : goal.returns-in-Ok-clause-back
returns-in-Ok-clause-back g c =
    let old = g.S.Shelf.told c.args.shelf.now in
    let new = g.S.Shelf.told c.put_back.new.self in
    let bytes = g.S.D.Disk.bytes c.in-Ok.disk in
    let S = g.S.Shelf in
    let D = g.S.D.Disk in
    let disk = c.in-Ok.disk in
    let shelf = c.put_back.new.self in
    let rest = c.put_back.ensures.others.disks in
    let named : c.deref.result.now ≡ c.args.held.name.items = c.deref.ensures.value in
    let moved : IsMoved (D.clock disk) (S.clock shelf c.args.held.name.items) (D.since disk) (S.since shelf c.args.held.name.items) = rw named at c.put_back.ensures.disk.moved in
    let alike = ap (λ name. is_some (old name)) named ∙ (c.requires.alike ∙ sym c.in-Ok.ensures.let_go.tells) in
    record {
      none_out = c.put_back.ensures.none_out;
      told = told_still c.args.held.name.items c.args.held.keeper.kept old new bytes (ap new (sym named) ∙ c.put_back.ensures.disk.bytes alike) c.in-Ok.ensures.let_go.stands rest.tells
          (λ o differs. rest.others o (λ same. differs (same ∙ named)));
      others = rw named at rest;
      moments = rw named at c.put_back.ensures.others.moments;
      stands = back_stands S D c.args.held.name.items c.args.held.keeper disk shelf moved (λ f left. (g.met.S.D.Disk.now disk f).0 left) c.in-Ok.ensures.let_go.images;
      stops = back_stops S D c.args.held.name.items c.args.held.keeper disk shelf moved c.in-Ok.ensures.let_go.stops;
    }
