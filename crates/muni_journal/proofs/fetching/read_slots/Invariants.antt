use Rattle.std.proofs.Common.{◌≡◌, ℕ, ◌-◌, ◌^◌, ◌≤◌, List}
use Rattle.muni_journal_disk.specs.Disk.{ReadsAs, StopsLeave}
use Rattle.muni_journal.specs.Reading.{GoesOn}
use Rattle.muni_journal.proofs.fetching.read_slots.Given as goal

abbrev pub invariant-slots : goal.invariant-slots
invariant-slots g l = record {
  bytes : g.D.Disk.bytes l.disk ≡ g.D.Disk.bytes l.fn.disk;
  images : (c : List ℕ) → g.D.Disk.image l.disk c → g.D.Disk.image l.fn.disk c;
  faults : g.D.Disk.faults l.fn.disk ≤ g.D.Disk.faults l.disk;
  stops : StopsLeave g.D.Disk.clock g.D.Disk.since l.fn.disk l.disk (g.D.Disk.image l.fn.disk);
  room : l.gate ≤ 2 ^ 40;
  goes_on : (c : List ℕ) → ReadsAs (g.D.Disk.bytes l.fn.disk) c → GoesOn c (record { gate = l.gate; tables = l.kept });
}

abbrev pub decreases-slots : goal.decreases-slots
decreases-slots g l = 2 ^ 40 - l.gate
