-- What a call leaves of a disk in memory.
use Rattle.std.specs.Prelude.{◌≡◌, ◌==◌, ◌<◌, ◌≤◌, ℕ, List, IfSome, Bool, true, false, if◌then◌else◌, ◌∷◌, length, Result, OnOk, IsErrOf}
use Rattle.std.specs.List.{list_any}
use Rattle.muni_edge.specs.Calls.{one_more}
use Rattle.muni_journal_disk.specs.declared.fault.DiskFault.{DiskFault}
use Rattle.muni_journal_disk.specs.declared.fault.DiskFault.TheVariants.{Failed, NoMemory}
use Rattle.muni_journal_disk.specs.declared.past.Step.{Step}
use Rattle.muni_journal_disk.specs.declared.past.MadeCall.{MadeCall}
use Rattle.muni_journal_disk.specs.declared.mem_disk.MemDisk.{MemDisk}
use Rattle.muni_journal_disk.specs.Moments.{WasImage}
use Rattle.muni_journal_disk.specs.Past.{call_of, IsStopped}

-- the next call is one of those that fail
abbrev pub is_listed : MemDisk → Bool
is_listed disk = list_any (λ number. number == length disk.past.items) disk.failing.items

-- One call more is recorded: what the disk read as before it, and what it was to do. It fails if it is listed,
-- and is counted then.
pub record IsMade (IsStep : Step → Type 0) (fails : Bool) (old new : MemDisk) : Type 0 where
  pub listed : is_listed old ≡ fails
  pub call : MadeCall
  pub before : call.before.items ≡ old.bytes.items
  pub step : IsStep call.step
  pub past : new.past.items ≡ call ∷ old.past.items
  pub faults : new.faults ≡ (if fails then one_more old.faults else old.faults)
  pub failing : new.failing.items ≡ old.failing.items

-- No memory was found for the record, and nothing has changed.
pub record IsUnmade (old new : MemDisk) : Type 0 where
  pub bytes : new.bytes.items ≡ old.bytes.items
  pub past : new.past.items ≡ old.past.items
  pub faults : new.faults ≡ old.faults
  pub failing : new.failing.items ≡ old.failing.items

-- The next call is made, and fails exactly if it is listed; or it finds no memory.
pub record MakesCall (IsStep : Bool → Step → Type 0) (result : Result Unit DiskFault) (old new : MemDisk) : Type 0 where
  pub made : OnOk result (IsMade (IsStep false) false old new)
  pub failed : IsErrOf result Failed → IsMade (IsStep true) true old new
  pub unmade : IsErrOf result NoMemory → IsUnmade old new

-- A stop within the call of a number leaves these bytes, after so many bytes of its piece were written.
pub record IsLeftByStop (disk : MemDisk) (number kept : ℕ) (bytes : List ℕ) : Type 0 where
  pub stopped : number < length disk.past.items → IfSome (call_of disk.past.items number) (λ call. IsStopped call.before.items kept bytes call.step)
  -- if no call has that number, the disk is as it is now
  pub present : length disk.past.items ≤ number → bytes ≡ disk.bytes.items
  -- and they are an image that a stop since that call may have left
  pub image : number ≤ length disk.past.items → WasImage disk.first.items disk.past.items number bytes
