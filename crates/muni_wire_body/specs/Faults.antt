-- Which faults come of a body.
use Rattle.std.specs.Prelude.{⊤}
use Rattle.muni_wire_body.specs.declared.fault.WireFault.{WireFault}
use Rattle.muni_wire_body.specs.declared.fault.WireFault.TheVariants as fault

-- it is bad, or memory ran out
abbrev pub IsOfBody : WireFault → Type 0
IsOfBody (fault.Bad kind) = ⊤
IsOfBody fault.Gone = ⊥
IsOfBody fault.LinkFault = ⊥
IsOfBody fault.NoMemory = ⊤
