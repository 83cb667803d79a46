-- What each command over a store does, by its status.
use Rattle.std.specs.Prelude.{◌≡◌, ℕ, ℤ, List, Option, Some, None, Result, IfSome, IsErrOf, OnOk}
use Rattle.muni_rule.specs.Payments.{PaymentSeries}
use Rattle.muni_rule.specs.WorthEnds.{WorthEnds}
use Rattle.muni_edge.specs.Faults.{Rose}
use Rattle.muni_edge.specs.declared.door.Door as Door
use Rattle.muni_edge.specs.declared.sink.Sink as Sink
use Rattle.muni_edge.specs.declared.source.Source as Source
use Rattle.muni_keep.specs.Cabinet.{LeavesAll, LeavesOthers}
use Rattle.muni_keep.specs.Tables.{no_tables}
use Rattle.muni_keep.specs.declared.cabinet.Cabinet as Cabinet
use Rattle.muni_book_step.specs.Step.{Pricing, Rules}
use Rattle.muni_msg.specs.declared.command.Key.{Key}
use Rattle.muni_desk_io.specs.Input.{TakesUpTo}
use Rattle.muni_desk_io.specs.Lent.{Lent}
use Rattle.muni_desk_io.specs.declared.fault.Fault.{Fault}
use Rattle.muni_desk_io.specs.declared.fault.Fault.TheVariants.{Read, Write, Store}
use Rattle.muni_desk_io.specs.Reports.{ReportsReads, ReportsWrites}
use Rattle.muni_desk_export.specs.Kept.{WritesKept}
use Rattle.muni_desk_export.specs.declared.wanted.Wanted.{Wanted}
use Rattle.muni_desk_import.specs.Confirmed.{Confirmed}
use Rattle.muni_desk_import.specs.Imported.{Imported}
use Rattle.muni_desk_import.specs.Loaded.{Loaded, LoadReported, TakesSome}
use Rattle.muni_desk_import.specs.Reported.{Reported}
use Rattle.muni_position.specs.Imported.{ImportedWith, DoesNoneOfTooMany}
use Rattle.muni_position.specs.Listed.{Listed}
use Rattle.muni_marks.specs.Marked.{Marked, MarksReported}
use Rattle.muni_check.specs.Checked.{WroteChecked}
use Rattle.muni_check.specs.Judging.{over}
use Rattle.muni_figures.specs.Figured.{WroteFigures}
use Rattle.muni_figures.specs.Line.{header}
use Rattle.muni_figures.specs.Said.{IsToldOf}
use Rattle.muni_figures.specs.declared.command.FiguresOptions.{FiguresOptions}
use Rattle.muni_desk_serve.specs.Rules.{ServingRules}
use Rattle.muni_desk_serve.specs.Serves.{Traffic}
use Rattle.muni_desk_serve.specs.Serving.{ServedStore}
use Rattle.muni_desk.specs.Status.{of_answered, of_checked, of_done, of_served}
use Rattle.muni_desk.specs.declared.status.Status.{Status}

-- the status is that of a result, and this holds of the result
abbrev pub EndsAs : {R : Type 0} → (R → Status) → Status → (R → Type 0) → Type 0
EndsAs {R} status_of status Holds = (result : R) × (status ≡ status_of result) × Holds result

-- an import into a store, which leaves the other stores alone
abbrev pub ImportsInto : {I O C K : Type 0} → Source.Ghosts I → Sink.Ghosts O → Cabinet.Ghosts C K → Rules → List ℕ → Status → (old new : Lent I O C) → Type 0
ImportsInto source sink cabinet rules store status old new =
    EndsAs of_done status (λ result. Imported source sink cabinet rules store result old new
    × IfSome (source.left old.input) (λ text. Reported text result (sink.bytes old.output) (sink.bytes new.output))
    × ReportsReads source result old.input new.input × ReportsWrites sink result old.output new.output)
    × TakesUpTo source 4_194_305 old.input new.input × LeavesOthers cabinet store old.cabinet new.cabinet

-- one with the positions of a desk after its report
abbrev pub ImportsWith : {I O C K : Type 0} → Source.Ghosts I → Sink.Ghosts O → Cabinet.Ghosts C K → Rules → (store desk : List ℕ) → Status → (old new : Lent I O C) → Type 0
ImportsWith source sink cabinet rules store desk status old new =
    EndsAs of_done status (λ result. ImportedWith source sink cabinet rules store desk result old new
    × ReportsReads source result old.input new.input × ReportsWrites sink result old.output new.output)
    × DoesNoneOfTooMany cabinet store desk old new
    × TakesUpTo source 4_194_305 old.input new.input × LeavesOthers cabinet store old.cabinet new.cabinet

-- a load into a store
abbrev pub LoadsInto : {I O C K : Type 0} → Source.Ghosts I → Sink.Ghosts O → Cabinet.Ghosts C K → Rules → List ℕ → Status → (old new : Lent I O C) → Type 0
LoadsInto source sink cabinet rules store status old new =
    EndsAs of_done status (λ result. Loaded source sink cabinet rules store result old new
    × IfSome (source.left old.input) (λ text. LoadReported text result (sink.bytes old.output) (sink.bytes new.output))
    × ReportsReads source result old.input new.input × ReportsWrites sink result old.output new.output)
    × TakesSome source old.input new.input × LeavesOthers cabinet store old.cabinet new.cabinet

-- a confirmation
abbrev pub Confirms : {I O C K : Type 0} → Sink.Ghosts O → Cabinet.Ghosts C K → List ℕ → Key → Status → (old new : Lent I O C) → Type 0
Confirms sink cabinet store key status old new =
    EndsAs of_answered status (λ result. Confirmed sink cabinet store key result old.output new.output old.cabinet new.cabinet
    × ReportsWrites sink result old.output new.output)
    × LeavesAll cabinet old.cabinet new.cabinet

-- connections served over a store
abbrev pub Serves : {C K D L : Type 0} → Cabinet.Ghosts C K → Door.Ghosts D L → ServingRules → (L → Traffic) → List ℕ → (port most : ℕ) → Status → (old new : C) → (before after : D) → Type 0
Serves cabinet door rules told store port most status old new before after =
    EndsAs of_served status (λ outcome. ServedStore cabinet door rules told store port most outcome old new before after)
    × LeavesOthers cabinet store old new

-- a listing of positions
abbrev pub Lists : {I O C K : Type 0} → Sink.Ghosts O → Cabinet.Ghosts C K → (store desk : List ℕ) → Status → (old new : Lent I O C) → Type 0
Lists sink cabinet store desk status old new =
    EndsAs of_done status (λ result. Listed sink desk (cabinet.told old.cabinet store) (Rose (cabinet.faults old.cabinet) (cabinet.faults new.cabinet)) result old.output new.output
    × ReportsWrites sink result old.output new.output)
    × LeavesAll cabinet old.cabinet new.cabinet

-- the marks of a portfolio
abbrev pub Marks : {I O C K : Type 0} → Source.Ghosts I → Sink.Ghosts O → Cabinet.Ghosts C K → Pricing → List ℕ → Status → (old new : Lent I O C) → Type 0
Marks source sink cabinet Prices store status old new =
    EndsAs of_done status (λ result. Marked source sink cabinet Prices store result old new
    × IfSome (source.left old.input) (λ text. MarksReported text result (sink.bytes old.output) (sink.bytes new.output))
    × ReportsReads source result old.input new.input × ReportsWrites sink result old.output new.output)
    × TakesUpTo source 1_048_577 old.input new.input × LeavesAll cabinet old.cabinet new.cabinet

-- the faults that end figures are counted
abbrev pub CountsFaults : {I O C K T : Type 0} → Source.Ghosts I → Sink.Ghosts O → Cabinet.Ghosts C K → Result T Fault → (old new : Lent I O C) → Type 0
CountsFaults source sink cabinet result old new =
    (IsErrOf result Read → Rose (source.faults old.input) (source.faults new.input))
    × (IsErrOf result Write → Rose (sink.faults old.output) (sink.faults new.output))
    × (IsErrOf result Store → Rose (cabinet.faults old.cabinet) (cabinet.faults new.cabinet))

-- the figures of rows of any number
abbrev pub WritesFigures : {I O C K : Type 0} → Source.Ghosts I → Sink.Ghosts O → Cabinet.Ghosts C K → Pricing → List ℕ → FiguresOptions → Status → (old new : Lent I O C) → Type 0
WritesFigures source sink cabinet Prices store options status old new =
    EndsAs of_done status (λ result. IfSome (source.left old.input) (λ text. WroteFigures (IsToldOf Prices options.has_risk (cabinet.told old.cabinet store))
    (header options) options.first text result (source.left new.input) (sink.bytes old.output) (sink.bytes new.output))
    × CountsFaults source sink cabinet result old new
    × OnOk result (source.faults new.input ≡ source.faults old.input) × ReportsWrites sink result old.output new.output)
    × TakesSome source old.input new.input × LeavesAll cabinet old.cabinet new.cabinet

-- the figures that another firm printed are checked over a store, and over a desk of it if one is named
abbrev pub ChecksFigures : {I O C K : Type 0} → Source.Ghosts I → Sink.Ghosts O → Cabinet.Ghosts C K → (ends : PaymentSeries → ℤ → WorthEnds) → List ℕ → Option (List ℕ) → Status → (old new : Lent I O C) → Type 0
ChecksFigures source sink cabinet ends store desk status old new =
    EndsAs of_checked status (λ result. IfSome (source.left old.input) (λ text. WroteChecked (over ends desk (cabinet.told old.cabinet store))
    text result (source.left new.input) (sink.bytes old.output) (sink.bytes new.output))
    × CountsFaults source sink cabinet result old new
    × ReportsReads source result old.input new.input × ReportsWrites sink result old.output new.output)
    × TakesSome source old.input new.input × LeavesAll cabinet old.cabinet new.cabinet

-- the same without a store: nothing is kept, so each row goes by the terms that it states
abbrev pub ChecksAlone : {I O C : Type 0} → Source.Ghosts I → Sink.Ghosts O → (ends : PaymentSeries → ℤ → WorthEnds) → Status → (old new : Lent I O C) → Type 0
ChecksAlone source sink ends status old new =
    EndsAs of_checked status (λ result. IfSome (source.left old.input) (λ text. WroteChecked (over ends None (Some no_tables))
    text result (source.left new.input) (sink.bytes old.output) (sink.bytes new.output))
    × (IsErrOf result Read → Rose (source.faults old.input) (source.faults new.input))
    × (IsErrOf result Write → Rose (sink.faults old.output) (sink.faults new.output))
    × ¬ (IsErrOf result Store)
    × ReportsReads source result old.input new.input × ReportsWrites sink result old.output new.output)
    × TakesSome source old.input new.input

-- what the store keeps, as it is wanted
abbrev pub Exports : {I O C K : Type 0} → Sink.Ghosts O → Cabinet.Ghosts C K → List ℕ → Wanted → Status → (old new : Lent I O C) → Type 0
Exports sink cabinet store wanted status old new =
    EndsAs of_done status (λ result. WritesKept sink wanted (cabinet.told old.cabinet store) (Rose (cabinet.faults old.cabinet) (cabinet.faults new.cabinet)) result old.output new.output
    × ReportsWrites sink result old.output new.output)
    × LeavesAll cabinet old.cabinet new.cabinet
