use Rattle.std.proofs.Common.{◌≡◌, true, None, arith, rules}
use Rattle.std.specs.Prelude.{is_some}
use Rattle.muni_journal_disk.specs.Bytes.{IsSameOutside}
use Rattle.muni_journal_disk.specs.Disk.{ComesFrom}
use Rattle.muni_journal.specs.Journal.{Place}
use Rattle.muni_journal.specs.Stops.{StandsFor}
use Rattle.muni_journal.proofs.JournalImages.{doubt_stops_by, taken_back_by, run_of}
use Rattle.muni_journal.proofs.keeper.JournalKeeper.settle.Goals as goal

pub returns-in_err-take_back-clause-stops : goal.returns-in_err-take_back-clause-stops
returns-in_err-take_back-clause-stops g c =
    let D = g.D.Disk in
    let self = c.args.self.now in
    let at : Place = record { gate = self.gate; tables = self.kept } in
    let is : is_some self.in_doubt ≡ true = search rules in
    run_of D.clock D.since self.disk c.take_back.new.disk (ComesFrom (IsSameOutside self.gate 1) (D.image self.disk)) (StandsFor self.kept self.in_doubt None)
    (doubt_stops_by at self.in_doubt is (D.image self.disk) self.doubtful) c.take_back.ensures.stops

pub returns-in_ok-take_back-clause-stops : goal.returns-in_ok-take_back-clause-stops
returns-in_ok-take_back-clause-stops g c =
    let D = g.D.Disk in
    let self = c.args.self.now in
    let at : Place = record { gate = self.gate; tables = self.kept } in
    let is : is_some self.in_doubt ≡ true = search rules in
    run_of D.clock D.since self.disk c.take_back.new.disk (ComesFrom (IsSameOutside self.gate 1) (D.image self.disk)) (StandsFor self.kept self.in_doubt None)
    (doubt_stops_by at self.in_doubt is (D.image self.disk) self.doubtful) c.take_back.ensures.stops

pub invariant_of-self-then-is_some : goal.invariant_of-self-then-is_some
invariant_of-self-then-is_some g c =
    let D = g.D.Disk in
    let self = c.args.self.now in
    let at : Place = record { gate = self.gate; tables = self.kept } in
    let is : is_some self.in_doubt ≡ true = search rules in
    let back = taken_back_by at self.in_doubt is (D.image self.disk) (D.image c.take_back.new.disk) self.doubtful c.in_ok-take_back.ensures.closed in
    record { room = omega arith; at_rest = λ e. back; doubtful = λ y e. absurd (cc e) }
