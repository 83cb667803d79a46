use Rattle.std.proofs.Common.{ℕ, List}
use Rattle.muni_journal_disk.specs.Bytes.{IsSameOutside}
use Rattle.muni_journal_disk.specs.Disk.{ReadsAs, ComesFrom}
use Rattle.muni_journal_disk.proofs.SlotImages.{fewer, gate_torn, same_kept, closed_again, begun, next}
use Rattle.muni_journal_disk.proofs.slots.take_back.Goals as goal

pub returns-in_err-write-clause-stops : goal.returns-in_err-write-clause-stops
returns-in_err-write-clause-stops g c =
    let D = g.D.Disk in
    let old = c.args.disk.now in
    let gate = c.args.gate in
    let IsSo : List ℕ → Type 0 = ComesFrom (IsSameOutside gate 1) (D.image old) in
    let s0 = begun D.clock D.since D.image IsSo old (g.met.D.Disk.now old) (same_kept gate (D.image old)) in
    let k1 = gate_torn gate (D.image old) (D.image old) (D.image c.write.new.self) c.write.ensures.images (same_kept gate (D.image old)) in
    let s1 = next D.clock D.since D.image IsSo old old c.write.new.self s0 c.write.ensures.time k1 in
    s1

pub returns-in_err-write-clause-images : goal.returns-in_err-write-clause-images
returns-in_err-write-clause-images g c =
    let D = g.D.Disk in
    let old = c.args.disk.now in
    let gate = c.args.gate in
    let IsSo : List ℕ → Type 0 = ComesFrom (IsSameOutside gate 1) (D.image old) in
    let s0 = begun D.clock D.since D.image IsSo old (g.met.D.Disk.now old) (same_kept gate (D.image old)) in
    let k1 = gate_torn gate (D.image old) (D.image old) (D.image c.write.new.self) c.write.ensures.images (same_kept gate (D.image old)) in
    let s1 = next D.clock D.since D.image IsSo old old c.write.new.self s0 c.write.ensures.time k1 in
    k1

pub returns-in_err-sync-clause-stops : goal.returns-in_err-sync-clause-stops
returns-in_err-sync-clause-stops g c =
    let D = g.D.Disk in
    let old = c.args.disk.now in
    let gate = c.args.gate in
    let IsSo : List ℕ → Type 0 = ComesFrom (IsSameOutside gate 1) (D.image old) in
    let s0 = begun D.clock D.since D.image IsSo old (g.met.D.Disk.now old) (same_kept gate (D.image old)) in
    let k1 = gate_torn gate (D.image old) (D.image old) (D.image c.write.new.self) c.write.ensures.images (same_kept gate (D.image old)) in
    let s1 = next D.clock D.since D.image IsSo old old c.write.new.self s0 c.write.ensures.time k1 in
    let k2 = fewer (D.image c.write.new.self) (D.image c.sync.new.self) IsSo c.sync.ensures.keeps.images k1 in
    let s2 = next D.clock D.since D.image IsSo old c.write.new.self c.sync.new.self s1 c.sync.ensures.time k2 in
    s2

pub returns-in_err-sync-clause-images : goal.returns-in_err-sync-clause-images
returns-in_err-sync-clause-images g c =
    let D = g.D.Disk in
    let old = c.args.disk.now in
    let gate = c.args.gate in
    let IsSo : List ℕ → Type 0 = ComesFrom (IsSameOutside gate 1) (D.image old) in
    let s0 = begun D.clock D.since D.image IsSo old (g.met.D.Disk.now old) (same_kept gate (D.image old)) in
    let k1 = gate_torn gate (D.image old) (D.image old) (D.image c.write.new.self) c.write.ensures.images (same_kept gate (D.image old)) in
    let s1 = next D.clock D.since D.image IsSo old old c.write.new.self s0 c.write.ensures.time k1 in
    let k2 = fewer (D.image c.write.new.self) (D.image c.sync.new.self) IsSo c.sync.ensures.keeps.images k1 in
    k2

pub returns-clause-stops : goal.returns-clause-stops
returns-clause-stops g c =
    let D = g.D.Disk in
    let old = c.args.disk.now in
    let gate = c.args.gate in
    let IsSo : List ℕ → Type 0 = ComesFrom (IsSameOutside gate 1) (D.image old) in
    let s0 = begun D.clock D.since D.image IsSo old (g.met.D.Disk.now old) (same_kept gate (D.image old)) in
    let k1 = gate_torn gate (D.image old) (D.image old) (D.image c.write.new.self) c.write.ensures.images (same_kept gate (D.image old)) in
    let s1 = next D.clock D.since D.image IsSo old old c.write.new.self s0 c.write.ensures.time k1 in
    let k2 = fewer (D.image c.write.new.self) (D.image c.sync.new.self) IsSo c.sync.ensures.keeps.images k1 in
    let s2 = next D.clock D.since D.image IsSo old c.write.new.self c.sync.new.self s1 c.sync.ensures.time k2 in
    s2

pub returns-clause-images : goal.returns-clause-images
returns-clause-images g c =
    let D = g.D.Disk in
    let old = c.args.disk.now in
    let gate = c.args.gate in
    let IsSo : List ℕ → Type 0 = ComesFrom (IsSameOutside gate 1) (D.image old) in
    let s0 = begun D.clock D.since D.image IsSo old (g.met.D.Disk.now old) (same_kept gate (D.image old)) in
    let k1 = gate_torn gate (D.image old) (D.image old) (D.image c.write.new.self) c.write.ensures.images (same_kept gate (D.image old)) in
    let s1 = next D.clock D.since D.image IsSo old old c.write.new.self s0 c.write.ensures.time k1 in
    let k2 = fewer (D.image c.write.new.self) (D.image c.sync.new.self) IsSo c.sync.ensures.keeps.images k1 in
    k2

pub returns-clause-closed : goal.returns-clause-closed
returns-clause-closed g c =
    let D = g.D.Disk in
    let old = c.args.disk.now in
    let gate = c.args.gate in
    let IsSo : List ℕ → Type 0 = ComesFrom (IsSameOutside gate 1) (D.image old) in
    let s0 = begun D.clock D.since D.image IsSo old (g.met.D.Disk.now old) (same_kept gate (D.image old)) in
    let k1 = gate_torn gate (D.image old) (D.image old) (D.image c.write.new.self) c.write.ensures.images (same_kept gate (D.image old)) in
    let s1 = next D.clock D.since D.image IsSo old old c.write.new.self s0 c.write.ensures.time k1 in
    let k2 = fewer (D.image c.write.new.self) (D.image c.sync.new.self) IsSo c.sync.ensures.keeps.images k1 in
    let shut = closed_again gate (D.image old) (ReadsAs (D.bytes c.write.new.self)) (D.image c.write.new.self) (D.image c.sync.new.self) (g.met.D.Disk.is_image c.write.new.self) k1 c.in_ok-write.ensures.written c.in_ok-sync.ensures.only in
    shut
