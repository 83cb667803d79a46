use Rattle.std.proofs.Common.{◌≡◌, ℕ, ◌+◌, List, Some, None, length, subst, sym, arith}
use Rattle.muni_keep.specs.Tables.{Tables}
use Rattle.muni_journal_disk.specs.Disk.{StopsLeave, ComesFrom}
use Rattle.muni_journal_disk.specs.Slots.{IsStep, IsPut, IsUnopened, IsDoubtful, AllImages}
use Rattle.muni_journal_record.specs.declared.put.Put.{Put}
use Rattle.muni_journal.specs.Journal.{Place, piece_of, journal_of}
use Rattle.muni_journal.specs.Stops.{StandsFor, IsInDoubt}
use Rattle.muni_journal.proofs.JournalImages.{put_images, unopened_images, doubtful_images, put_doubtful, step_stops, closed_end, behind_piece, run_of}
use Rattle.muni_journal.proofs.keeper.JournalKeeper.add.Goals as goal

pub put_slot-requires-clause-closed : goal.put_slot-requires-clause-closed
put_slot-requires-clause-closed g c =
    let self = c.args.self.now in
    let at : Place = record { gate = self.gate; tables = self.kept } in
    record { each = λ f now. closed_end f at ((self.at_rest c.requires.at_rest).each f now) }

pub invariant_of-self : goal.invariant_of-self
invariant_of-self g c =
    let D = g.D.Disk in
    let self = c.args.self.now in
    let x = c.args.put.now in
    let at : Place = record { gate = self.gate; tables = self.kept } in
    let rest = self.at_rest c.requires.at_rest in
    let is : c.args.piece.now ≡ piece_of x = c.requires.piece.is in
    let leaves = subst (λ (p : List ℕ). AllImages (D.image c.put_slot.new.disk) (ComesFrom (IsPut self.gate p) (D.image self.disk))) is c.in-Ok.ensures.leaves in
    let all = put_images at x c.requires.piece.fits c.requires.piece.body c.requires.next (D.image self.disk) (D.image c.put_slot.new.disk) rest leaves in
    let here = behind_piece at x (self.gate + length c.args.piece.now) (D.image c.put_slot.new.disk) (omega (arith, c.requires.piece.size)) all in
    let there = subst (λ (t : Tables). AllImages (D.image c.put_slot.new.disk) (λ f. journal_of f ≡ Some (record { gate = self.gate + length c.args.piece.now; tables = t }))) (sym c.in-Ok-put_on.ensures.put) here in
    record { room = omega arith; at_rest = λ e. there; doubtful = λ y e. absurd (cc (e, c.requires.at_rest)) }

pub invariant_of-self-in-Err : goal.invariant_of-self-in-Err
invariant_of-self-in-Err g c =
    let D = g.D.Disk in
    let self = c.args.self.now in
    let x = c.args.put.now in
    let at : Place = record { gate = self.gate; tables = self.kept } in
    let rest = self.at_rest c.requires.at_rest in
    let is : c.args.piece.now ≡ piece_of x = c.requires.piece.is in
    let leaves = subst (λ (p : List ℕ). AllImages (D.image c.put_slot.new.disk) (ComesFrom (IsPut self.gate p) (D.image self.disk))) is c.in-Ok.ensures.leaves in
    let same = put_doubtful self.gate (piece_of x) (D.image self.disk) (D.image c.put_slot.new.disk) leaves in
    let doubt = doubtful_images at x c.requires.piece.fits c.requires.piece.body c.requires.next (D.image self.disk) (D.image c.put_slot.new.disk) rest same in
    let there = subst (λ (t : Tables). AllImages (D.image c.put_slot.new.disk) (IsInDoubt (record { gate = self.gate; tables = t }) x)) (sym c.in-Err.ensures.unchanged) doubt in
    let now : Place = record { gate = self.gate; tables = c.put_on.new.kept } in
    record {
      room = omega arith;
      at_rest = λ e. absurd (cc e);
      doubtful = λ y e. let it : x ≡ y = cc (e, c.copy.ensures) in subst (λ (z : Put). AllImages (D.image c.put_slot.new.disk) (IsInDoubt now z)) it there;
    }

pub invariant_of-self-in-Unopened-1 : goal.invariant_of-self-in-Unopened-1
invariant_of-self-in-Unopened-1 g c =
    let D = g.D.Disk in
    let self = c.args.self.now in
    let x = c.args.put.now in
    let at : Place = record { gate = self.gate; tables = self.kept } in
    let rest = self.at_rest c.requires.at_rest in
    let leaves : AllImages (D.image c.put_slot.new.disk) (ComesFrom (IsUnopened self.gate) (D.image self.disk)) = rw c.in-Err-Unopened.field-0-is at c.in-Err-Unopened.ensures.leaves in
    let still = unopened_images at x c.requires.piece.fits c.requires.piece.body c.requires.next (D.image self.disk) (D.image c.put_slot.new.disk) rest leaves in
    record { room = omega arith; at_rest = λ e. still; doubtful = λ y e. absurd (cc (e, c.requires.at_rest)) }

pub invariant_of-self-in-Err-InDoubt : goal.invariant_of-self-in-Err-InDoubt
invariant_of-self-in-Err-InDoubt g c =
    let D = g.D.Disk in
    let self = c.args.self.now in
    let x = c.args.put.now in
    let at : Place = record { gate = self.gate; tables = self.kept } in
    let rest = self.at_rest c.requires.at_rest in
    let is : c.args.piece.now ≡ piece_of x = c.requires.piece.is in
    let leaves : AllImages (D.image c.put_slot.new.disk) (ComesFrom (IsDoubtful self.gate c.args.piece.now) (D.image self.disk)) = rw c.in-Err-InDoubt.field-0-is at c.in-Err-InDoubt.ensures.leaves in
    let same = subst (λ (p : List ℕ). AllImages (D.image c.put_slot.new.disk) (ComesFrom (IsDoubtful self.gate p) (D.image self.disk))) is leaves in
    let doubt = doubtful_images at x c.requires.piece.fits c.requires.piece.body c.requires.next (D.image self.disk) (D.image c.put_slot.new.disk) rest same in
    record {
      room = omega arith;
      at_rest = λ e. absurd (cc e);
      doubtful = λ y e. let it : x ≡ y = cc (e, c.copy-in-Err-InDoubt.ensures) in subst (λ (z : Put). AllImages (D.image c.put_slot.new.disk) (IsInDoubt at z)) it doubt;
    }

pub returns-in-Ok-put_on-clause-stops : goal.returns-in-Ok-put_on-clause-stops
returns-in-Ok-put_on-clause-stops g c =
    let D = g.D.Disk in
    let self = c.args.self.now in
    let x = c.args.put.now in
    let at : Place = record { gate = self.gate; tables = self.kept } in
    let rest = self.at_rest c.requires.at_rest in
    let is : c.args.piece.now ≡ piece_of x = c.requires.piece.is in
    let run = subst (λ (p : List ℕ). StopsLeave D.clock D.since self.disk c.put_slot.new.disk (ComesFrom (IsStep self.gate p) (D.image self.disk))) is c.put_slot.ensures.stops in
    run_of D.clock D.since self.disk c.put_slot.new.disk (ComesFrom (IsStep self.gate (piece_of x)) (D.image self.disk)) (StandsFor self.kept None (Some x))
    (step_stops at x c.requires.piece.fits c.requires.piece.body c.requires.next (D.image self.disk) rest) run

pub returns-in-Err-clause-stops : goal.returns-in-Err-clause-stops
returns-in-Err-clause-stops g c =
    let D = g.D.Disk in
    let self = c.args.self.now in
    let x = c.args.put.now in
    let at : Place = record { gate = self.gate; tables = self.kept } in
    let rest = self.at_rest c.requires.at_rest in
    let is : c.args.piece.now ≡ piece_of x = c.requires.piece.is in
    let run = subst (λ (p : List ℕ). StopsLeave D.clock D.since self.disk c.put_slot.new.disk (ComesFrom (IsStep self.gate p) (D.image self.disk))) is c.put_slot.ensures.stops in
    run_of D.clock D.since self.disk c.put_slot.new.disk (ComesFrom (IsStep self.gate (piece_of x)) (D.image self.disk)) (StandsFor self.kept None (Some x))
    (step_stops at x c.requires.piece.fits c.requires.piece.body c.requires.next (D.image self.disk) rest) run

pub returns-in-Err-Unopened-clause-stops : goal.returns-in-Err-Unopened-clause-stops
returns-in-Err-Unopened-clause-stops g c =
    let D = g.D.Disk in
    let self = c.args.self.now in
    let x = c.args.put.now in
    let at : Place = record { gate = self.gate; tables = self.kept } in
    let rest = self.at_rest c.requires.at_rest in
    let is : c.args.piece.now ≡ piece_of x = c.requires.piece.is in
    let run = subst (λ (p : List ℕ). StopsLeave D.clock D.since self.disk c.put_slot.new.disk (ComesFrom (IsStep self.gate p) (D.image self.disk))) is c.put_slot.ensures.stops in
    run_of D.clock D.since self.disk c.put_slot.new.disk (ComesFrom (IsStep self.gate (piece_of x)) (D.image self.disk)) (StandsFor self.kept None (Some x))
    (step_stops at x c.requires.piece.fits c.requires.piece.body c.requires.next (D.image self.disk) rest) run

pub returns-in-Err-InDoubt-clause-stops : goal.returns-in-Err-InDoubt-clause-stops
returns-in-Err-InDoubt-clause-stops g c =
    let D = g.D.Disk in
    let self = c.args.self.now in
    let x = c.args.put.now in
    let at : Place = record { gate = self.gate; tables = self.kept } in
    let rest = self.at_rest c.requires.at_rest in
    let is : c.args.piece.now ≡ piece_of x = c.requires.piece.is in
    let run = subst (λ (p : List ℕ). StopsLeave D.clock D.since self.disk c.put_slot.new.disk (ComesFrom (IsStep self.gate p) (D.image self.disk))) is c.put_slot.ensures.stops in
    run_of D.clock D.since self.disk c.put_slot.new.disk (ComesFrom (IsStep self.gate (piece_of x)) (D.image self.disk)) (StandsFor self.kept None (Some x))
    (step_stops at x c.requires.piece.fits c.requires.piece.body c.requires.next (D.image self.disk) rest) run
