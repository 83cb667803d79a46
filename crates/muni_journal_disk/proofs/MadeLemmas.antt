-- A call of a disk in memory, by how it ended.
use Rattle.std.proofs.Common.{◌≡◌, Bool, true, false, Ok, Err, sym, subst}
use Rattle.std.specs.Prelude.{Result}
use Rattle.muni_journal_disk.specs.declared.fault.DiskFault.{DiskFault}
use Rattle.muni_journal_disk.specs.declared.fault.DiskFault.TheVariants.{Failed, NoMemory}
use Rattle.muni_journal_disk.specs.declared.past.Step.{Step}
use Rattle.muni_journal_disk.specs.declared.mem_disk.MemDisk.{MemDisk}
use Rattle.muni_journal_disk.specs.MemDisk.{IsMade, IsUnmade, MakesCall}

module _ (IsStep : Bool → Step → Type 0) (old new : MemDisk) where
  pub made : IsMade (IsStep false) false old new → MakesCall IsStep (Ok tt) old new
  made is = record { made = is; failed = λ e. absurd (cc e); unmade = λ e. absurd (cc e) }

  pub failed : (result : Result Unit DiskFault) → result ≡ Err Failed → IsMade (IsStep true) true old new → MakesCall IsStep result old new
  failed result ends is = subst (λ (r : Result Unit DiskFault). MakesCall IsStep r old new) (sym ends) (record { made = tt; failed = λ e. is; unmade = λ e. absurd (cc e) })

  pub unmade : (result : Result Unit DiskFault) → result ≡ Err NoMemory → IsUnmade old new → MakesCall IsStep result old new
  unmade result ends is = subst (λ (r : Result Unit DiskFault). MakesCall IsStep r old new) (sym ends) (record { made = tt; failed = λ e. absurd (cc e); unmade = λ e. is })
