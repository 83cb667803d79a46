-- What calls leave of a disk.
use Rattle.std.specs.Prelude.{Result}
use Rattle.muni_journal_disk.specs.Frames.{Keeps, IsSame, TakesTime}
use Rattle.muni_journal_disk.specs.declared.disk.Disk.{Ghosts}

-- they write nothing, and count this fault
abbrev pub KeepsBytes : {D T E : Type 0} → Ghosts D → E → Result T E → D → D → Type 0
KeepsBytes disk fault result old new = Keeps disk.bytes disk.image disk.faults fault result old new

-- they may write, and count this fault
abbrev pub SameDisk : {D T E : Type 0} → Ghosts D → E → Result T E → D → D → Type 0
SameDisk disk fault result old new = IsSame disk.bytes disk.faults fault result old new

-- they take time
abbrev pub Elapses : {D : Type 0} → Ghosts D → D → D → Type 0
Elapses disk old new = TakesTime disk.clock disk.since disk.image old new
