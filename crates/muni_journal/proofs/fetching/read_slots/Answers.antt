use Rattle.std.proofs.Common.{ℕ, List, Option, refl, sym, ◌∙◌, subst, arith, rules}
use Rattle.muni_keep.specs.Tables.{Tables}
use Rattle.muni_journal_disk.specs.Bytes.{byte_at}
use Rattle.muni_journal_disk.specs.Disk.{ReadsAs}
use Rattle.muni_journal_disk.proofs.Runs.{started, no_image}
use Rattle.muni_journal.specs.Journal.{Place}
use Rattle.muni_journal.specs.Reading.{GoesOn}
use Rattle.muni_journal.proofs.GoesOn.{at_start, one_on, at_end, no_journal, not_before, one_there, not_one}
use Rattle.muni_journal.proofs.fetching.read_slots.Goals as goal

pub slots-init : goal.slots-init
slots-init g c = record {
  bytes = refl;
  images = λ f now. now;
  faults = omega arith;
  stops = started g.D.Disk.clock g.D.Disk.since c.args.disk.now (g.D.Disk.image c.args.disk.now) (λ f left. (g.met.D.Disk.now c.args.disk.now f).0 left);
  room = omega arith;
  goes_on = λ f reads. subst (λ (t : Tables). GoesOn f (record { gate = 0; tables = t })) (sym c.requires) (at_start f);
}

pub slots-preserved : goal.slots-preserved
slots-preserved g c =
    let so_far = c.slots.invariant in
    let at : Place = record { gate = c.slots.gate; tables = c.slots.kept } in
    let next : Place = record { gate = c.in-Ok.next; tables = c.next_gate.new.kept } in
    record {
      bytes = c.next_gate.ensures.reads.keeps.bytes ∙ c.open_at.ensures.reads.keeps.bytes ∙ so_far.bytes;
      images = λ f now. so_far.images f (c.open_at.ensures.reads.keeps.images f (c.next_gate.ensures.reads.keeps.images f now));
      faults = omega (arith, so_far.faults, c.open_at.ensures.reads.keeps.later, c.next_gate.ensures.reads.keeps.later);
      stops =
          let D = g.D.Disk in
          let old = c.args.disk.now in
          let here = no_image D.clock D.since D.image old c.slots.disk c.open_at.new.disk so_far.stops so_far.images c.open_at.ensures.reads.stops in
          no_image D.clock D.since D.image old c.open_at.new.disk c.next_gate.new.disk here (λ f now. so_far.images f (c.open_at.ensures.reads.keeps.images f now)) c.next_gate.ensures.reads.stops;
      room = omega arith;
      goes_on = λ f reads.
          let here = subst (λ (o : Option (List ℕ)). ReadsAs o f) (sym so_far.bytes) reads in
          let there = subst (λ (o : Option (List ℕ)). ReadsAs o f) (sym c.open_at.ensures.reads.keeps.bytes) here in
          one_on f at next (one_there c.in_ok-open_at.field-0 (byte_at f c.slots.gate) (c.in_ok-open_at.ensures.gate f here) c.if-branch.true) (c.in-Ok.ensures.next f there) (so_far.goes_on f reads);
    }

pub returns-clause-found : goal.returns-clause-found
returns-clause-found g c f reads =
    let so_far = c.slots.invariant in
    let at : Place = record { gate = c.slots.gate; tables = c.slots.kept } in
    let here = subst (λ (o : Option (List ℕ)). ReadsAs o f) (sym so_far.bytes) reads in
    at_end f at (not_one c.in_ok-open_at.field-0 (byte_at f c.slots.gate) (c.in_ok-open_at.ensures.gate f here) c.if-branch.false) (so_far.goes_on f reads)

pub returns-then-next-gt-LIMIT-clause-none : goal.returns-then-next-gt-LIMIT-clause-none
returns-then-next-gt-LIMIT-clause-none g c _ f reads e is =
    let so_far = c.slots.invariant in
    let at : Place = record { gate = c.slots.gate; tables = c.slots.kept } in
    let here = subst (λ (o : Option (List ℕ)). ReadsAs o f) (sym so_far.bytes) reads in
    let there = subst (λ (o : Option (List ℕ)). ReadsAs o f) (sym c.open_at.ensures.reads.keeps.bytes) here in
    let behind : Place = record { gate = c.in-Ok.next; tables = c.next_gate.new.kept } in
    let next = one_on f at behind (one_there c.in_ok-open_at.field-0 (byte_at f c.slots.gate) (c.in_ok-open_at.ensures.gate f here) c.if-branch.true) (c.in-Ok.ensures.next f there) (so_far.goes_on f reads) in
    omega (arith, not_before f behind e next is, c.if-next-gt-LIMIT.true)

pub returns-in-Err-clause-none : goal.returns-in-Err-clause-none
returns-in-Err-clause-none g c none f reads e is =
    let so_far = c.slots.invariant in
    let at : Place = record { gate = c.slots.gate; tables = c.slots.kept } in
    let here = subst (λ (o : Option (List ℕ)). ReadsAs o f) (sym so_far.bytes) reads in
    let there = subst (λ (o : Option (List ℕ)). ReadsAs o f) (sym c.open_at.ensures.reads.keeps.bytes) here in
    let opened = one_there c.in_ok-open_at.field-0 (byte_at f c.slots.gate) (c.in_ok-open_at.ensures.gate f here) c.if-branch.true in
    absurd (no_journal f at e opened (c.next_gate.ensures.none (c.in-Err.is ∙ none) f there) (so_far.goes_on f reads) is)

pub returns-clause-reads : goal.returns-clause-reads
returns-clause-reads g c =
    let D = g.D.Disk in
    record {
      keeps = search rules;
      stops = no_image D.clock D.since D.image c.args.disk.now c.slots.disk c.open_at.new.disk c.slots.invariant.stops c.slots.invariant.images c.open_at.ensures.reads.stops;
    }

pub returns-in_err-open_at-clause-reads : goal.returns-in_err-open_at-clause-reads
returns-in_err-open_at-clause-reads g c =
    let D = g.D.Disk in
    record {
      keeps = search rules;
      stops = no_image D.clock D.since D.image c.args.disk.now c.slots.disk c.open_at.new.disk c.slots.invariant.stops c.slots.invariant.images c.open_at.ensures.reads.stops;
    }

pub returns-then-next-gt-LIMIT-clause-reads : goal.returns-then-next-gt-LIMIT-clause-reads
returns-then-next-gt-LIMIT-clause-reads g c =
    let D = g.D.Disk in
    let old = c.args.disk.now in
    let so_far = c.slots.invariant in
    let here = no_image D.clock D.since D.image old c.slots.disk c.open_at.new.disk so_far.stops so_far.images c.open_at.ensures.reads.stops in
    record {
      keeps = search rules;
      stops = no_image D.clock D.since D.image old c.open_at.new.disk c.next_gate.new.disk here (λ f now. so_far.images f (c.open_at.ensures.reads.keeps.images f now)) c.next_gate.ensures.reads.stops;
    }

pub returns-in-Err-clause-reads : goal.returns-in-Err-clause-reads
returns-in-Err-clause-reads g c =
    let D = g.D.Disk in
    let old = c.args.disk.now in
    let so_far = c.slots.invariant in
    let here = no_image D.clock D.since D.image old c.slots.disk c.open_at.new.disk so_far.stops so_far.images c.open_at.ensures.reads.stops in
    record {
      keeps = search rules;
      stops = no_image D.clock D.since D.image old c.open_at.new.disk c.next_gate.new.disk here (λ f now. so_far.images f (c.open_at.ensures.reads.keeps.images f now)) c.next_gate.ensures.reads.stops;
    }
