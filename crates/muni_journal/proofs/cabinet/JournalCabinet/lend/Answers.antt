use Rattle.std.proofs.Common.{◌≡◌, inr, sym, ap, ◌∙◌, is_some, rules, ℕ, List, None}
use Rattle.muni_journal.specs.Told.{told_of}
use Rattle.muni_journal.proofs.CauseLemmas.{shelf_cause}
use Rattle.muni_journal_disk.specs.Frames.{IsMoved, KeepsMoments}
use Rattle.muni_journal.proofs.StandLemmas.{off_the_shelf, on_the_shelf, two_moves}
use Rattle.muni_journal.proofs.ToldLemmas.{all_same}
use Rattle.muni_journal.proofs.cabinet.JournalCabinet.lend.Goals as goal

pub returns-in-Err-open-clause-fetched : goal.returns-in-Err-open-clause-fetched
returns-in-Err-open-clause-fetched g c =
    let name = c.deref.result.now in
    let old = g.S.Shelf.told c.args.self.now.shelf in
    let lent = g.S.Shelf.told c.take.new.self in
    let new = g.S.Shelf.told c.put_back.new.self in
    let back : c.deref-in-Err-open.result.now ≡ name = c.deref-in-Err-open.ensures.value ∙ sym c.deref.ensures.value in
    let bytes = c.in-Err-open.ensures.stays.bytes ∙ c.in-Ok.ensures.disk.bytes in
    let alike = ap (λ n. is_some (lent n)) back ∙ (c.take.ensures.others.disks.tells name ∙ ap is_some (sym bytes)) in
    let all : (o : List ℕ) → told_of None new o ≡ told_of None old o = all_same name old new (ap new (sym back) ∙ (c.put_back.ensures.disk.bytes alike ∙ bytes))
    (λ o differs. c.put_back.ensures.others.disks.others o (λ same. differs (same ∙ back)) ∙ c.take.ensures.others.disks.others o differs) in
    record {
      tables = search rules;
      count = search rules;
      out = search rules;
      tells = λ o. rw (c.requires.none_out, c.requires.none_held) (ap is_some (all o));
      others = λ o differs. rw (c.requires.none_out, c.requires.none_held) (all o);
      unchanged = λ o. rw (c.requires.none_out, c.requires.none_held) (all o);
      none_out = search rules;
      later = search rules;
      failed = search rules;
    }

pub returns-in-Err-open-clause-counted : goal.returns-in-Err-open-clause-counted
returns-in-Err-open-clause-counted g c differs =
    let S = g.S.Shelf in
    let D = g.S.D.Disk in
    let name = c.args.name.items in
    let old = c.args.self.now.shelf in
    let disk = c.in-Ok.disk in
    let unfetched = c.in-Err-open.unfetched in
    let named : c.deref.result.now ≡ name = c.deref.ensures.value in
    let back : c.deref-in-Err-open.result.now ≡ name = c.deref-in-Err-open.ensures.value in
    inr (shelf_cause (S.told old name) (S.told c.take.new.self name) (D.bytes disk) (S.disk_faults old name) (S.disk_faults c.put_back.new.self name) (D.faults disk) (D.faults unfetched.disk) unfetched.fault
    (rw named at c.in-Ok.ensures.disk.bytes) (c.take.ensures.others.disks.tells name) (rw named at c.in-Ok.ensures.disk.faults) (rw back at c.put_back.ensures.disk.faults)
    c.in-Err-open.ensures.refused.failed c.in-Err-open.ensures.refused.none (c.disk_fault.ensures.cause (c.counted-in-Err-open.ensures.cause differs)))

pub returns-in-Ok-open-clause-stands : goal.returns-in-Ok-open-clause-stands
returns-in-Ok-open-clause-stands g c =
    let S = g.S.Shelf in
    let D = g.S.D.Disk in
    let name = c.args.name.items in
    let named : c.deref.result.now ≡ name = c.deref.ensures.value in
    let disk = c.in-Ok.disk in
    let moved : IsMoved (S.clock c.args.self.now.shelf name) (D.clock disk) (S.since c.args.self.now.shelf name) (D.since disk) = rw named at c.in-Ok.ensures.disk.moved in
    record {
      lent = off_the_shelf S D c.args.self.now.shelf name disk c.in-Ok-open.keeper.disk (λ f now. (g.met.S.D.Disk.now disk f).1 now) moved c.in-Ok-open.ensures.stays.stops;
      unlent = tt;
      others = rw named at c.take.ensures.others.moments;
    }

pub returns-in-Err-open-clause-stands : goal.returns-in-Err-open-clause-stands
returns-in-Err-open-clause-stands g c =
    let S = g.S.Shelf in
    let D = g.S.D.Disk in
    let name = c.args.name.items in
    let named : c.deref.result.now ≡ name = c.deref.ensures.value in
    let back : c.deref-in-Err-open.result.now ≡ name = c.deref-in-Err-open.ensures.value in
    let disk = c.in-Ok.disk in
    let old = c.args.self.now.shelf in
    let new = c.put_back.new.self in
    let left = c.in-Err-open.unfetched.disk in
    let moved : IsMoved (S.clock old name) (D.clock disk) (S.since old name) (D.since disk) = rw named at c.in-Ok.ensures.disk.moved in
    let moved_back : IsMoved (D.clock left) (S.clock new name) (D.since left) (S.since new name) = rw back at c.put_back.ensures.disk.moved in
    let off : KeepsMoments S.clock S.since name old c.take.new.self = rw named at c.take.ensures.others.moments in
    let on : KeepsMoments S.clock S.since name c.take.new.self new = rw back at c.put_back.ensures.others.moments in
    record {
      lent = tt;
      unlent = on_the_shelf S D old new name disk left (λ f now. (g.met.S.D.Disk.now disk f).1 now) moved c.in-Err-open.ensures.stays.stops moved_back;
      others = two_moves S D name old c.take.new.self new off on;
    }
