-- What a command leaves on the output that it is lent.
use Rattle.std.specs.Prelude.{◌≡◌, ◌≢◌, ℕ, ◌⊎◌, List, Option}
use Rattle.muni_edge.specs.Faults.{Rose}
use Rattle.muni_edge.specs.Sink.{HasWritten, HasWrittenPart}
use Rattle.muni_desk.specs.declared.status.Answer.{Answer}
use Rattle.muni_desk.specs.declared.status.Status.{Status}
use Rattle.muni_desk.specs.declared.status.Status.TheVariants.{WriteFault}

-- An answer was written, if the output exposes its bytes, and the status is its own. Or the output failed,
-- and holds a front part of it.
pub record WritesAnswer (IsRight : Answer → Type 0) (status : Status) (before now : Option (List ℕ)) : Type 0 where
  pub answer : Answer
  pub right : IsRight answer
  pub written : ((status ≡ answer.status) × HasWritten before now answer.text.items)
      ⊎ ((status ≡ WriteFault) × HasWrittenPart before now answer.text.items)

-- The output failed exactly if the status says so: its count of faults rose, and otherwise it is what it
-- was.
pub record TellsFaults (status : Status) (before now : ℕ) : Type 0 where
  pub failed : status ≡ WriteFault → Rose before now
  pub sound : status ≢ WriteFault → now ≡ before
