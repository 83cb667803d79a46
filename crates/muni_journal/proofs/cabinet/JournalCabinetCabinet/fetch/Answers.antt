use Rattle.std.proofs.Common.{◌≡◌, ◌≢◌, Some, None, rules}
use Rattle.muni_journal.proofs.StandLemmas.{as_it_was, none_held, lent_again, let_go}
use Rattle.muni_journal.proofs.ToldLemmas.{held_has}
use Rattle.muni_journal.proofs.cabinet.JournalCabinetCabinet.fetch.Goals as goal

pub returns-then-eq-clause-fetched : goal.returns-then-eq-clause-fetched
returns-then-eq-clause-fetched g c =
    let self = c.args.self.now in
    let held = c.in-Some.held in
    let is : self.held ≡ Some held = search rules in
    let named : c.args.name.now ≡ held.name.items = search rules in
    record {
      tables = rw (c.requires, is) (held_has held.name.items c.args.name.now held.keeper.kept c.uncounted.result.kept (g.S.Shelf.told self.shelf) named c.uncounted.ensures.tables);
      count = search rules;
      out = search rules;
      tells = search rules;
      others = search rules;
      unchanged = search rules;
      none_out = search rules;
      later = search rules;
      failed = search rules;
    }

pub returns-in_err-name-clause-stands : goal.returns-in_err-name-clause-stands
returns-in_err-name-clause-stands g c =
    let self = c.args.self.now in
    let stays = as_it_was g.S.Shelf g.S.D.Disk self.held self.shelf (λ h f left. (g.met.S.D.Disk.now h.keeper.disk f).0 left) in
    record { lent = search rules; others = λ o f differs. stays o f; unlent = search rules }

pub returns-in_default-clause-stands : goal.returns-in_default-clause-stands
returns-in_default-clause-stands g c =
    let self = c.args.self.now in
    let named : c.in_ok-name.name.items ≡ c.args.name.now = search rules in
    none_held g.S.Shelf g.S.D.Disk c.args.name.now c.lend.result self.held c.lend.new.self.held self.shelf c.lend.new.self.shelf (search rules) c.lend.ensures.held (rw named at c.lend.ensures.stands)

pub returns-then-eq-clause-stands : goal.returns-then-eq-clause-stands
returns-then-eq-clause-stands g c =
    let self = c.args.self.now in
    let held = c.in-Some.held in
    let is : self.held ≡ Some held = search rules in
    let none : c.take.new.self ≡ None = search rules in
    let named : c.args.name.now ≡ held.name.items = search rules in
    rw (is, none) (lent_again g.S.Shelf g.S.D.Disk held c.args.name.now c.uncounted.result self.shelf (λ f left. (g.met.S.D.Disk.now held.keeper.disk f).0 left) named c.uncounted.ensures.disk)

pub returns-in-Ok-clause-stands : goal.returns-in-Ok-clause-stands
returns-in-Ok-clause-stands g c =
    let self = c.args.self.now in
    let held = c.in-Some.held in
    let is : self.held ≡ Some held = search rules in
    let named : c.in_ok-name.name.items ≡ c.args.name.now = search rules in
    let differs : c.args.name.now ≢ held.name.items = search rules in
    let_go g.S.Shelf g.S.D.Disk held c.args.name.now c.lend-in-Ok.result self.held c.lend-in-Ok.new.self.held self.shelf c.release.new.shelf c.lend-in-Ok.new.self.shelf is c.lend-in-Ok.ensures.held differs c.in-Ok.ensures.back (rw named at c.lend-in-Ok.ensures.stands)
