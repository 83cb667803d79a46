-- Which faults of an input and an output are counted.
use Rattle.std.specs.Prelude.{◌≡◌, ◌⊎◌, Result, IsErrOf}
use Rattle.muni_edge.specs.declared.sink.Sink as Sink
use Rattle.muni_edge.specs.declared.source.Source as Source
use Rattle.muni_desk_io.specs.declared.fault.Fault.{Fault}
use Rattle.muni_desk_io.specs.declared.fault.Fault.TheVariants.{Read, Write}

-- no take of an input has failed, or a failed one is what is reported
abbrev pub ReportsReads : {I T : Type 0} → Source.Ghosts I → Result T Fault → I → I → Type 0
ReportsReads source result old new = (source.faults new ≡ source.faults old) ⊎ IsErrOf result Read

-- no put to an output has failed, or a failed one is what is reported
abbrev pub ReportsWrites : {O T : Type 0} → Sink.Ghosts O → Result T Fault → O → O → Type 0
ReportsWrites sink result old new = (sink.faults new ≡ sink.faults old) ⊎ IsErrOf result Write
