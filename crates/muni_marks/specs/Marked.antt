-- What the marks of a portfolio write, and which fault ends them.
use Rattle.std.specs.Prelude.{◌≡◌, ◌<◌, ◌≤◌, ℕ, List, length, Option, Result, Ok, Err, IfSome}
use Rattle.muni_edge.specs.Faults.{Rose}
use Rattle.muni_edge.specs.Sink.{Wrote, WrotePart}
use Rattle.muni_edge.specs.declared.sink.Sink as Sink
use Rattle.muni_edge.specs.declared.source.Source as Source
use Rattle.muni_keep.specs.declared.cabinet.Cabinet as Cabinet
use Rattle.muni_desk_io.specs.Lent.{Lent, IfExposed, ChangesOnlyInput}
use Rattle.muni_desk_io.specs.declared.fault.Fault.{Fault}
use Rattle.muni_desk_io.specs.declared.fault.Fault.TheVariants.{Read, Write, Store, NoMemory, TooLarge}
use Rattle.muni_marks.specs.Marks.{Pricing}
use Rattle.muni_marks.specs.Portfolio.{HasLineOnEach, IsPortfolioText}

-- The lines of the marks, of which a first part may be written if the output fails. After any other fault
-- nothing is written.
abbrev pub Marked : {I O C K T : Type 0} → Source.Ghosts I → Sink.Ghosts O → Cabinet.Ghosts C K → Pricing → (store : List ℕ) → Result T Fault → (old new : Lent I O C) → Type 0
Marked source sink cabinet Prices store (Ok done) old new =
    IfExposed source cabinet store old (λ text tables. Wrote (IsPortfolioText Prices tables text) (sink.bytes old.output) (sink.bytes new.output))
    × IfSome (source.left old.input) (λ text. length text ≤ 1_048_576)
Marked source sink cabinet Prices store (Err Write) old new =
    IfExposed source cabinet store old (λ text tables. WrotePart (IsPortfolioText Prices tables text) (sink.bytes old.output) (sink.bytes new.output))
    × IfSome (source.left old.input) (λ text. length text ≤ 1_048_576)
    × Rose (sink.faults old.output) (sink.faults new.output)
Marked source sink cabinet Prices store (Err Store) old new =
    (new.output ≡ old.output) × IfSome (source.left old.input) (λ text. length text ≤ 1_048_576)
    × Rose (cabinet.faults old.cabinet) (cabinet.faults new.cabinet)
Marked source sink cabinet Prices store (Err NoMemory) old new = new.output ≡ old.output
Marked source sink cabinet Prices store (Err Read) old new =
    ChangesOnlyInput old new × Rose (source.faults old.input) (source.faults new.input)
Marked source sink cabinet Prices store (Err TooLarge) old new =
    ChangesOnlyInput old new × IfSome (source.left old.input) (λ text. 1_048_576 < length text)

-- What is written, as far as it hangs on the rows alone. So this is known of a store that exposes no tables.
abbrev pub MarksReported : {T : Type 0} → (text : List ℕ) → Result T Fault → (had has : Option (List ℕ)) → Type 0
MarksReported text (Ok done) had has = Wrote (HasLineOnEach text) had has
MarksReported text (Err Write) had has = WrotePart (HasLineOnEach text) had has
MarksReported text (Err Store) had has = has ≡ had
MarksReported text (Err NoMemory) had has = has ≡ had
MarksReported text (Err Read) had has = has ≡ had
MarksReported text (Err TooLarge) had has = has ≡ had
