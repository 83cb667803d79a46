-- Which faults come of which part of a request.
use Rattle.std.specs.Prelude.{◌≡◌, ℕ, Result, Ok, Err, IfErr, ⊤}
use Rattle.muni_edge.specs.Faults.{Rose}
use Rattle.muni_edge.specs.Link.{OnlyTakes}
use Rattle.muni_edge.specs.declared.sink.Sink as sink
use Rattle.muni_edge.specs.declared.source.Source as source
use Rattle.muni_wire_body.specs.declared.fault.WireFault.{WireFault}
use Rattle.muni_wire_body.specs.declared.fault.WireFault.TheVariants as fault

-- a take failed, or memory ran out
abbrev pub IsOfTake : WireFault → Type 0
IsOfTake (fault.Bad kind) = ⊥
IsOfTake fault.Gone = ⊥
IsOfTake fault.LinkFault = ⊤
IsOfTake fault.NoMemory = ⊤

-- A take that failed is counted and is this fault; after any other outcome none has failed.
abbrev pub CountsTakes : {T : Type 0} → Result T WireFault → ℕ → ℕ → Type 0
CountsTakes (Ok value) before now = now ≡ before
CountsTakes (Err (fault.Bad kind)) before now = now ≡ before
CountsTakes (Err fault.Gone) before now = now ≡ before
CountsTakes (Err fault.LinkFault) before now = Rose before now
CountsTakes (Err fault.NoMemory) before now = now ≡ before

-- A connection is only taken from, and a take that failed is counted and told.
pub record TakesAndTells {L T : Type 0} (takes : source.Ghosts L) (puts : sink.Ghosts L) (result : Result T WireFault) (old new : L) : Type 0 where
  pub counts : CountsTakes result (takes.faults old) (takes.faults new)
  pub only : OnlyTakes takes puts fault.LinkFault result old new

-- And nothing else is done: any fault is one of taking.
pub record TakesOnly {L T : Type 0} (takes : source.Ghosts L) (puts : sink.Ghosts L) (result : Result T WireFault) (old new : L) : Type 0 where
  pub fault : IfErr result (λ fault. IsOfTake fault)
  pub tells : TakesAndTells takes puts result old new
