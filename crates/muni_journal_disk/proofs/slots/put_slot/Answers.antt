use Rattle.std.proofs.Common.{ℕ, List}
use Rattle.muni_journal_disk.specs.Disk.{ReadsAs, ComesFrom}
use Rattle.muni_journal_disk.specs.Slots.{IsStep}
use Rattle.muni_journal_disk.proofs.SlotImages.{fewer, weaker, behind_all, staged, gate_all, opened, unopened_step, doubtful_step, same_step, begun, next}
use Rattle.muni_journal_disk.proofs.slots.put_slot.Goals as goal

pub returns-in-Err-clause-stops : goal.returns-in-Err-clause-stops
returns-in-Err-clause-stops g c =
    let D = g.D.Disk in
    let old = c.args.disk.now in
    let gate = c.args.gate in
    let piece = c.args.piece.now in
    let IsSo : List ℕ → Type 0 = ComesFrom (IsStep gate piece) (D.image old) in
    let s0 = begun D.clock D.since D.image IsSo old (g.met.D.Disk.now old) (record { each = same_step gate piece (D.image old) c.requires.closed }) in
    let u1 = behind_all gate piece (D.image old) _ (D.image c.write.new.self) c.write.ensures.images in
    let s1 = next D.clock D.since D.image IsSo old old c.write.new.self s0 c.write.ensures.time (weaker _ _ IsSo u1 (unopened_step gate piece (D.image old) c.requires.closed)) in
    s1

pub returns-in-Err-clause-leaves : goal.returns-in-Err-clause-leaves
returns-in-Err-clause-leaves g c =
    let D = g.D.Disk in
    let old = c.args.disk.now in
    let gate = c.args.gate in
    let piece = c.args.piece.now in
    let u1 = behind_all gate piece (D.image old) _ (D.image c.write.new.self) c.write.ensures.images in
    u1

pub returns-in-Err-sync-clause-stops : goal.returns-in-Err-sync-clause-stops
returns-in-Err-sync-clause-stops g c =
    let D = g.D.Disk in
    let old = c.args.disk.now in
    let gate = c.args.gate in
    let piece = c.args.piece.now in
    let IsSo : List ℕ → Type 0 = ComesFrom (IsStep gate piece) (D.image old) in
    let s0 = begun D.clock D.since D.image IsSo old (g.met.D.Disk.now old) (record { each = same_step gate piece (D.image old) c.requires.closed }) in
    let u1 = behind_all gate piece (D.image old) _ (D.image c.write.new.self) c.write.ensures.images in
    let s1 = next D.clock D.since D.image IsSo old old c.write.new.self s0 c.write.ensures.time (weaker _ _ IsSo u1 (unopened_step gate piece (D.image old) c.requires.closed)) in
    let u2 = fewer (D.image c.write.new.self) (D.image c.sync.new.self) _ c.sync.ensures.keeps.images u1 in
    let s2 = next D.clock D.since D.image IsSo old c.write.new.self c.sync.new.self s1 c.sync.ensures.time (weaker _ _ IsSo u2 (unopened_step gate piece (D.image old) c.requires.closed)) in
    s2

pub returns-in-Err-sync-clause-leaves : goal.returns-in-Err-sync-clause-leaves
returns-in-Err-sync-clause-leaves g c =
    let D = g.D.Disk in
    let old = c.args.disk.now in
    let gate = c.args.gate in
    let piece = c.args.piece.now in
    let u1 = behind_all gate piece (D.image old) _ (D.image c.write.new.self) c.write.ensures.images in
    let u2 = fewer (D.image c.write.new.self) (D.image c.sync.new.self) _ c.sync.ensures.keeps.images u1 in
    u2

pub returns-in-Err-write-clause-stops : goal.returns-in-Err-write-clause-stops
returns-in-Err-write-clause-stops g c =
    let D = g.D.Disk in
    let old = c.args.disk.now in
    let gate = c.args.gate in
    let piece = c.args.piece.now in
    let IsSo : List ℕ → Type 0 = ComesFrom (IsStep gate piece) (D.image old) in
    let s0 = begun D.clock D.since D.image IsSo old (g.met.D.Disk.now old) (record { each = same_step gate piece (D.image old) c.requires.closed }) in
    let u1 = behind_all gate piece (D.image old) _ (D.image c.write.new.self) c.write.ensures.images in
    let s1 = next D.clock D.since D.image IsSo old old c.write.new.self s0 c.write.ensures.time (weaker _ _ IsSo u1 (unopened_step gate piece (D.image old) c.requires.closed)) in
    let u2 = fewer (D.image c.write.new.self) (D.image c.sync.new.self) _ c.sync.ensures.keeps.images u1 in
    let s2 = next D.clock D.since D.image IsSo old c.write.new.self c.sync.new.self s1 c.sync.ensures.time (weaker _ _ IsSo u2 (unopened_step gate piece (D.image old) c.requires.closed)) in
    let d2 = staged gate piece (D.image old) (ReadsAs (D.bytes c.write.new.self)) (D.image c.write.new.self) (D.image c.sync.new.self) (g.met.D.Disk.is_image c.write.new.self) u1 c.in_default.ensures.written c.in_default-sync.ensures.only in
    let d3 = gate_all gate piece (D.image old) (D.image c.sync.new.self) (D.image c.write-2.new.self) c.write-2.ensures.images d2 in
    let s3 = next D.clock D.since D.image IsSo old c.sync.new.self c.write-2.new.self s2 c.write-2.ensures.time (weaker _ _ IsSo d3 (doubtful_step gate piece (D.image old))) in
    s3

pub returns-in-Err-write-clause-leaves : goal.returns-in-Err-write-clause-leaves
returns-in-Err-write-clause-leaves g c =
    let D = g.D.Disk in
    let old = c.args.disk.now in
    let gate = c.args.gate in
    let piece = c.args.piece.now in
    let u1 = behind_all gate piece (D.image old) _ (D.image c.write.new.self) c.write.ensures.images in
    let d2 = staged gate piece (D.image old) (ReadsAs (D.bytes c.write.new.self)) (D.image c.write.new.self) (D.image c.sync.new.self) (g.met.D.Disk.is_image c.write.new.self) u1 c.in_default.ensures.written c.in_default-sync.ensures.only in
    let d3 = gate_all gate piece (D.image old) (D.image c.sync.new.self) (D.image c.write-2.new.self) c.write-2.ensures.images d2 in
    d3

pub returns-in-Err-sync-2-clause-stops : goal.returns-in-Err-sync-2-clause-stops
returns-in-Err-sync-2-clause-stops g c =
    let D = g.D.Disk in
    let old = c.args.disk.now in
    let gate = c.args.gate in
    let piece = c.args.piece.now in
    let IsSo : List ℕ → Type 0 = ComesFrom (IsStep gate piece) (D.image old) in
    let s0 = begun D.clock D.since D.image IsSo old (g.met.D.Disk.now old) (record { each = same_step gate piece (D.image old) c.requires.closed }) in
    let u1 = behind_all gate piece (D.image old) _ (D.image c.write.new.self) c.write.ensures.images in
    let s1 = next D.clock D.since D.image IsSo old old c.write.new.self s0 c.write.ensures.time (weaker _ _ IsSo u1 (unopened_step gate piece (D.image old) c.requires.closed)) in
    let u2 = fewer (D.image c.write.new.self) (D.image c.sync.new.self) _ c.sync.ensures.keeps.images u1 in
    let s2 = next D.clock D.since D.image IsSo old c.write.new.self c.sync.new.self s1 c.sync.ensures.time (weaker _ _ IsSo u2 (unopened_step gate piece (D.image old) c.requires.closed)) in
    let d2 = staged gate piece (D.image old) (ReadsAs (D.bytes c.write.new.self)) (D.image c.write.new.self) (D.image c.sync.new.self) (g.met.D.Disk.is_image c.write.new.self) u1 c.in_default.ensures.written c.in_default-sync.ensures.only in
    let d3 = gate_all gate piece (D.image old) (D.image c.sync.new.self) (D.image c.write-2.new.self) c.write-2.ensures.images d2 in
    let s3 = next D.clock D.since D.image IsSo old c.sync.new.self c.write-2.new.self s2 c.write-2.ensures.time (weaker _ _ IsSo d3 (doubtful_step gate piece (D.image old))) in
    let d4 = fewer (D.image c.write-2.new.self) (D.image c.sync-2.new.self) _ c.sync-2.ensures.keeps.images d3 in
    let s4 = next D.clock D.since D.image IsSo old c.write-2.new.self c.sync-2.new.self s3 c.sync-2.ensures.time (weaker _ _ IsSo d4 (doubtful_step gate piece (D.image old))) in
    s4

pub returns-in-Err-sync-2-clause-leaves : goal.returns-in-Err-sync-2-clause-leaves
returns-in-Err-sync-2-clause-leaves g c =
    let D = g.D.Disk in
    let old = c.args.disk.now in
    let gate = c.args.gate in
    let piece = c.args.piece.now in
    let u1 = behind_all gate piece (D.image old) _ (D.image c.write.new.self) c.write.ensures.images in
    let d2 = staged gate piece (D.image old) (ReadsAs (D.bytes c.write.new.self)) (D.image c.write.new.self) (D.image c.sync.new.self) (g.met.D.Disk.is_image c.write.new.self) u1 c.in_default.ensures.written c.in_default-sync.ensures.only in
    let d3 = gate_all gate piece (D.image old) (D.image c.sync.new.self) (D.image c.write-2.new.self) c.write-2.ensures.images d2 in
    let d4 = fewer (D.image c.write-2.new.self) (D.image c.sync-2.new.self) _ c.sync-2.ensures.keeps.images d3 in
    d4

pub returns-clause-stops : goal.returns-clause-stops
returns-clause-stops g c =
    let D = g.D.Disk in
    let old = c.args.disk.now in
    let gate = c.args.gate in
    let piece = c.args.piece.now in
    let IsSo : List ℕ → Type 0 = ComesFrom (IsStep gate piece) (D.image old) in
    let s0 = begun D.clock D.since D.image IsSo old (g.met.D.Disk.now old) (record { each = same_step gate piece (D.image old) c.requires.closed }) in
    let u1 = behind_all gate piece (D.image old) _ (D.image c.write.new.self) c.write.ensures.images in
    let s1 = next D.clock D.since D.image IsSo old old c.write.new.self s0 c.write.ensures.time (weaker _ _ IsSo u1 (unopened_step gate piece (D.image old) c.requires.closed)) in
    let u2 = fewer (D.image c.write.new.self) (D.image c.sync.new.self) _ c.sync.ensures.keeps.images u1 in
    let s2 = next D.clock D.since D.image IsSo old c.write.new.self c.sync.new.self s1 c.sync.ensures.time (weaker _ _ IsSo u2 (unopened_step gate piece (D.image old) c.requires.closed)) in
    let d2 = staged gate piece (D.image old) (ReadsAs (D.bytes c.write.new.self)) (D.image c.write.new.self) (D.image c.sync.new.self) (g.met.D.Disk.is_image c.write.new.self) u1 c.in_default.ensures.written c.in_default-sync.ensures.only in
    let d3 = gate_all gate piece (D.image old) (D.image c.sync.new.self) (D.image c.write-2.new.self) c.write-2.ensures.images d2 in
    let s3 = next D.clock D.since D.image IsSo old c.sync.new.self c.write-2.new.self s2 c.write-2.ensures.time (weaker _ _ IsSo d3 (doubtful_step gate piece (D.image old))) in
    let d4 = fewer (D.image c.write-2.new.self) (D.image c.sync-2.new.self) _ c.sync-2.ensures.keeps.images d3 in
    let s4 = next D.clock D.since D.image IsSo old c.write-2.new.self c.sync-2.new.self s3 c.sync-2.ensures.time (weaker _ _ IsSo d4 (doubtful_step gate piece (D.image old))) in
    s4

pub returns-clause-leaves : goal.returns-clause-leaves
returns-clause-leaves g c =
    let D = g.D.Disk in
    let old = c.args.disk.now in
    let gate = c.args.gate in
    let piece = c.args.piece.now in
    let u1 = behind_all gate piece (D.image old) _ (D.image c.write.new.self) c.write.ensures.images in
    let d2 = staged gate piece (D.image old) (ReadsAs (D.bytes c.write.new.self)) (D.image c.write.new.self) (D.image c.sync.new.self) (g.met.D.Disk.is_image c.write.new.self) u1 c.in_default.ensures.written c.in_default-sync.ensures.only in
    let d3 = gate_all gate piece (D.image old) (D.image c.sync.new.self) (D.image c.write-2.new.self) c.write-2.ensures.images d2 in
    let i4 = opened gate piece (D.image old) (ReadsAs (D.bytes c.write-2.new.self)) (D.image c.write-2.new.self) (D.image c.sync-2.new.self) (g.met.D.Disk.is_image c.write-2.new.self) d3 c.in_default-write.ensures.written c.in_default-sync-2.ensures.only in
    i4
