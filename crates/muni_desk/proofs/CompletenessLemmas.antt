-- A command is completed if nothing failed.
use Rattle.std.proofs.Common.{◌≡◌, ◌<◌, ◌≤◌, ◌+◌, ◌^◌, ◌⊎◌, inl, inr, ℕ, List, length, Option, Some, None, Result, Ok, Err, IfSome, refl, sym, subst, arith, ℤ}
use Rattle.std.specs.Prelude.{IsErrOf}
use Rattle.muni_rule.specs.Payments.{PaymentSeries}
use Rattle.muni_rule.specs.WorthEnds.{WorthEnds}
use Rattle.muni_edge.specs.Faults.{Rose}
use Rattle.muni_edge.specs.declared.door.Door as Door
use Rattle.muni_edge.specs.declared.sink.Sink as Sink
use Rattle.muni_edge.specs.declared.source.Source as Source
use Rattle.muni_keep.specs.declared.cabinet.Cabinet as Cabinet
use Rattle.muni_book_step.specs.Step.{Rules}
use Rattle.muni_msg.specs.declared.command.Key.{Key}
use Rattle.muni_msg.specs.declared.shown.Shown.{Shown}
use Rattle.muni_desk_io.specs.Lent.{Lent}
use Rattle.muni_desk_io.specs.declared.fault.Fault.{Fault}
use Rattle.muni_desk_io.specs.declared.fault.Fault.TheVariants.{Read, Write, Store, TooLarge, NoMemory}
use Rattle.muni_desk_export.specs.Kept.{WritesKept}
use Rattle.muni_desk_export.specs.declared.wanted.Wanted.{Wanted}
use Rattle.muni_desk_import.specs.Confirmed.{Confirmed}
use Rattle.muni_desk_import.specs.Imported.{Imported}
use Rattle.muni_desk_import.specs.Loaded.{HasTooManyRows, Loaded}
use Rattle.muni_desk_import.specs.declared.confirmations.Answered.{Answered}
use Rattle.muni_desk_import.specs.declared.confirmations.Answered.TheVariants as answered
use Rattle.muni_position.specs.Imported.{ImportedWith}
use Rattle.muni_position.specs.Listed.{Listed}
use Rattle.muni_position.specs.Listing.{MayNotSum}
use Rattle.muni_marks.specs.Marked.{Marked}
use Rattle.muni_check.specs.Answer.{Over}
use Rattle.muni_check.specs.Checked.{WroteChecked}
use Rattle.muni_check.specs.Checked as check
use Rattle.muni_check.specs.declared.command.CheckEnd.{CheckEnd}
use Rattle.muni_check.specs.declared.command.CheckEnd.TheVariants.{AllRight, NotAllRight, BadNames}
use Rattle.muni_figures.specs.Figured.{WroteFigures}
use Rattle.muni_figures.specs.Figured as figures
use Rattle.muni_desk_serve.specs.Fault.{Outcome}
use Rattle.muni_desk_serve.specs.Rules.{ServingRules}
use Rattle.muni_desk_serve.specs.Serves.{Traffic}
use Rattle.muni_desk_serve.specs.Serving.{ServedStore}
use Rattle.muni_desk_serve.specs.declared.fault.ServeFault.TheVariants as serve
use Rattle.muni_desk.specs.Answers.{IsQuoteOneText, IsQuoteText, IsDrillText, IsHelpText, IsAnswer}
use Rattle.muni_desk.specs.CompletenessLaws.{HasAtMost, HasPlaces, HasRecordPlaces, HasRowsAtMost, EndsWell, EndsWellOverStore, CommandsAreCompleted}
use Rattle.muni_desk.specs.Does.{Says}
use Rattle.muni_desk.specs.Store.{CountsFaults}
use Rattle.muni_desk.specs.Status.{of_answered, of_checked, of_done, of_served}
use Rattle.muni_desk.specs.declared.command.DeskCommand.{DeskCommand}
use Rattle.muni_desk.specs.declared.command.DeskCommand.TheVariants.{QuoteOne, Quote, Import, Load, Confirm, Serve, Positions, Mark, Figures, Check, CheckAlone, Export, Drill, Help}
use Rattle.muni_desk.specs.declared.drill.options.DrillRequest.{DrillRequest}
use Rattle.muni_desk.specs.declared.one_period.QuoteOneRequest.{QuoteOneRequest}
use Rattle.muni_desk.specs.declared.request.QuoteRequest.{QuoteRequest}
use Rattle.muni_desk.specs.declared.status.Answer.{Answer}
use Rattle.muni_desk.specs.declared.status.Status.{Status}
use Rattle.muni_desk.specs.declared.status.Status.TheVariants as status

-- ---- what is answered without a store
quote_one-answered : (request : QuoteOneRequest) (end : Status) (text : List ℕ) → IsQuoteOneText request end text → EndsWell end
quote_one-answered request status.Done text is = tt
quote_one-answered request status.Refused text is = tt
quote_one-answered request end text is = absurd is

quote-answered : (ends : PaymentSeries → ℤ → WorthEnds) (request : QuoteRequest) (shown : Shown) (end : Status) (text : List ℕ) → IsQuoteText ends request shown end text → EndsWell end
quote-answered ends request shown status.Done text is = tt
quote-answered ends request shown status.Refused text is = tt
quote-answered ends request shown end text is = absurd is

drill-answered : (ends : PaymentSeries → ℤ → WorthEnds) (request : DrillRequest) (end : Status) (text : List ℕ) → IsDrillText ends request end text → EndsWell end
drill-answered ends request status.Done text is = tt
drill-answered ends request end text is = absurd is

help-answered : (end : Status) (text : List ℕ) → IsHelpText end text → EndsWell end
help-answered status.Done text is = tt
help-answered end text is = absurd is

right-answered : (ends : PaymentSeries → ℤ → WorthEnds) (command : DeskCommand) (answer : Answer) → IsAnswer ends command answer → EndsWell answer.status
right-answered ends (QuoteOne request) answer is = quote_one-answered request answer.status answer.text.items is
right-answered ends (Quote request shown) answer is = quote-answered ends request shown answer.status answer.text.items is
right-answered ends (Drill request) answer is = drill-answered ends request answer.status answer.text.items is
right-answered ends Help answer is = help-answered answer.status answer.text.items is
right-answered ends (Import store listed limit) answer is = absurd is
right-answered ends (Load store limit) answer is = absurd is
right-answered ends (Confirm store key) answer is = absurd is
right-answered ends (Serve store port connections limit) answer is = absurd is
right-answered ends (Positions store desk) answer is = absurd is
right-answered ends (Mark store) answer is = absurd is
right-answered ends (Figures store options) answer is = absurd is
right-answered ends (Check store desk) answer is = absurd is
right-answered ends CheckAlone answer is = absurd is
right-answered ends (Export store wanted) answer is = absurd is

written-or-not : {A B : Type 0} (end right : Status) → EndsWell right → ((end ≡ right) × A) ⊎ ((end ≡ status.WriteFault) × B) → ¬ (end ≡ status.WriteFault) → EndsWell end
written-or-not end right answered (inl written) sound = subst EndsWell (sym written.0) answered
written-or-not end right answered (inr part) sound = absurd (sound part.0)

says-answered : {O : Type 0} (sink : Sink.Ghosts O) (ends : PaymentSeries → ℤ → WorthEnds) (command : DeskCommand) (end : Status) (old new : O) → Says sink (IsAnswer ends command) end old new → ¬ (Rose (sink.faults old) (sink.faults new)) → EndsWell end
says-answered sink ends command end old new says none =
    let said = says.answered in
    written-or-not end said.answer.status (right-answered ends command said.answer said.right) said.written (λ is. none (says.faults.failed is))

-- ---- what is done over a store
-- an input within its limit is not too large
not-large : {I : Type 0} (source : Source.Ghosts I) (most : ℕ) (input : I) → HasAtMost source most input → IfSome (source.left input) (λ text. most < length text) → ⊥
not-large source most input (text, is, few) large =
    let many = subst (λ left. IfSome left (λ text. most < length text)) is large in
    absurd (omega (arith, few, many))

-- a store that has not failed, over tables that can be read
neither : {A : Type 0} (counted may_not : Type 0) → counted ⊎ may_not → ¬ counted → ¬ may_not → A
neither counted may_not (inl rose) none can = absurd (none rose)
neither counted may_not (inr not) none can = absurd (can not)

import-completed : {I O C K : Type 0} (source : Source.Ghosts I) (sink : Sink.Ghosts O) (cabinet : Cabinet.Ghosts C K) (R : Rules) (store : List ℕ) (result : Result (Unit {0}) Fault) (end : Status) (old new : Lent I O C)
    → end ≡ of_done result → Imported source sink cabinet R store result old new → HasAtMost source 4_194_304 old.input
    → ¬ (Rose (source.faults old.input) (source.faults new.input)) → ¬ (Rose (sink.faults old.output) (sink.faults new.output)) → ¬ (Rose (cabinet.faults old.cabinet) (cabinet.faults new.cabinet)) → EndsWellOverStore end
import-completed source sink cabinet R store (Ok done) end old new is did few input output stored = subst EndsWellOverStore (sym is) tt
import-completed source sink cabinet R store (Err NoMemory) end old new is did few input output stored = subst EndsWellOverStore (sym is) tt
import-completed source sink cabinet R store (Err Store) end old new is did few input output stored = absurd (stored did.2)
import-completed source sink cabinet R store (Err Write) end old new is did few input output stored = absurd (output did.2)
import-completed source sink cabinet R store (Err Read) end old new is did few input output stored = absurd (input did.1)
import-completed source sink cabinet R store (Err TooLarge) end old new is did few input output stored = absurd (not-large source 4_194_304 old.input few did.1)

many-rows : {I : Type 0} (source : Source.Ghosts I) (input : I) → HasRowsAtMost source 4_294_967_295 input → IfSome (source.left input) HasTooManyRows → ⊥
many-rows source input (text, is, few) large =
    let many = subst (λ left. IfSome left HasTooManyRows) is large in
    absurd (omega (arith, few, many))

load-completed : {I O C K : Type 0} (source : Source.Ghosts I) (sink : Sink.Ghosts O) (cabinet : Cabinet.Ghosts C K) (R : Rules) (store : List ℕ) (result : Result (Unit {0}) Fault) (end : Status) (old new : Lent I O C)
    → end ≡ of_done result → Loaded source sink cabinet R store result old new → HasRowsAtMost source 4_294_967_295 old.input
    → ¬ (Rose (source.faults old.input) (source.faults new.input)) → ¬ (Rose (sink.faults old.output) (sink.faults new.output)) → ¬ (Rose (cabinet.faults old.cabinet) (cabinet.faults new.cabinet)) → EndsWellOverStore end
load-completed source sink cabinet R store (Ok done) end old new is did few input output stored = subst EndsWellOverStore (sym is) tt
load-completed source sink cabinet R store (Err NoMemory) end old new is did few input output stored = subst EndsWellOverStore (sym is) tt
load-completed source sink cabinet R store (Err Store) end old new is did few input output stored = absurd (stored did.1)
load-completed source sink cabinet R store (Err Write) end old new is did few input output stored = absurd (output did.1)
load-completed source sink cabinet R store (Err Read) end old new is did few input output stored = absurd (input did.1)
load-completed source sink cabinet R store (Err TooLarge) end old new is did few input output stored = absurd (many-rows source old.input few did.1)

listing-completed : {I O C K : Type 0} (source : Source.Ghosts I) (sink : Sink.Ghosts O) (cabinet : Cabinet.Ghosts C K) (R : Rules) (store desk : List ℕ) (result : Result (Unit {0}) Fault) (end : Status) (old new : Lent I O C)
    → end ≡ of_done result → ImportedWith source sink cabinet R store desk result old new → HasAtMost source 4_194_304 old.input → ¬ (MayNotSum desk (cabinet.told old.cabinet store))
    → ¬ (Rose (source.faults old.input) (source.faults new.input)) → ¬ (Rose (sink.faults old.output) (sink.faults new.output)) → ¬ (Rose (cabinet.faults old.cabinet) (cabinet.faults new.cabinet)) → EndsWellOverStore end
listing-completed source sink cabinet R store desk (Ok done) end old new is did few can input output stored = subst EndsWellOverStore (sym is) tt
listing-completed source sink cabinet R store desk (Err NoMemory) end old new is did few can input output stored = subst EndsWellOverStore (sym is) tt
listing-completed source sink cabinet R store desk (Err Store) end old new is did few can input output stored =
    neither (Rose (cabinet.faults old.cabinet) (cabinet.faults new.cabinet)) (MayNotSum desk (cabinet.told old.cabinet store)) did.2 stored can
listing-completed source sink cabinet R store desk (Err Write) end old new is did few can input output stored = absurd (output did.2)
listing-completed source sink cabinet R store desk (Err Read) end old new is did few can input output stored = absurd (input did.1)
listing-completed source sink cabinet R store desk (Err TooLarge) end old new is did few can input output stored = absurd (not-large source 4_194_304 old.input few did.1)

confirm-completed : {O C K : Type 0} (sink : Sink.Ghosts O) (cabinet : Cabinet.Ghosts C K) (store : List ℕ) (key : Key) (result : Result Answered Fault) (end : Status) (before after : O) (old new : C)
    → end ≡ of_answered result → Confirmed sink cabinet store key result before after old new
    → ¬ (Rose (sink.faults before) (sink.faults after)) → ¬ (Rose (cabinet.faults old) (cabinet.faults new)) → EndsWellOverStore end
confirm-completed sink cabinet store key (Ok answered.Confirmed) end before after old new is did output stored = subst EndsWellOverStore (sym is) tt
confirm-completed sink cabinet store key (Ok answered.Refused) end before after old new is did output stored = subst EndsWellOverStore (sym is) tt
confirm-completed sink cabinet store key (Err NoMemory) end before after old new is did output stored = subst EndsWellOverStore (sym is) tt
confirm-completed sink cabinet store key (Err Store) end before after old new is did output stored = absurd (stored did.1)
confirm-completed sink cabinet store key (Err Write) end before after old new is did output stored = absurd (output did.1)
confirm-completed sink cabinet store key (Err Read) end before after old new is did output stored = absurd did
confirm-completed sink cabinet store key (Err TooLarge) end before after old new is did output stored = absurd did

list-completed : {O : Type 0} (sink : Sink.Ghosts O) (desk : List ℕ) (told : _) (counted : Type 0) (result : Result (Unit {0}) Fault) (end : Status) (before after : O)
    → end ≡ of_done result → Listed sink desk told counted result before after → ¬ (MayNotSum desk told) → ¬ (Rose (sink.faults before) (sink.faults after)) → ¬ counted → EndsWellOverStore end
list-completed sink desk told counted (Ok done) end before after is did can output stored = subst EndsWellOverStore (sym is) tt
list-completed sink desk told counted (Err NoMemory) end before after is did can output stored = subst EndsWellOverStore (sym is) tt
list-completed sink desk told counted (Err Store) end before after is did can output stored = neither counted (MayNotSum desk told) did.1 stored can
list-completed sink desk told counted (Err Write) end before after is did can output stored = absurd (output did.1)
list-completed sink desk told counted (Err Read) end before after is did can output stored = absurd did
list-completed sink desk told counted (Err TooLarge) end before after is did can output stored = absurd did

mark-completed : {I O C K : Type 0} (source : Source.Ghosts I) (sink : Sink.Ghosts O) (cabinet : Cabinet.Ghosts C K) (Prices : _) (store : List ℕ) (result : Result (Unit {0}) Fault) (end : Status) (old new : Lent I O C)
    → end ≡ of_done result → Marked source sink cabinet Prices store result old new → HasAtMost source 1_048_576 old.input
    → ¬ (Rose (source.faults old.input) (source.faults new.input)) → ¬ (Rose (sink.faults old.output) (sink.faults new.output)) → ¬ (Rose (cabinet.faults old.cabinet) (cabinet.faults new.cabinet)) → EndsWellOverStore end
mark-completed source sink cabinet Prices store (Ok done) end old new is did few input output stored = subst EndsWellOverStore (sym is) tt
mark-completed source sink cabinet Prices store (Err NoMemory) end old new is did few input output stored = subst EndsWellOverStore (sym is) tt
mark-completed source sink cabinet Prices store (Err Store) end old new is did few input output stored = absurd (stored did.2)
mark-completed source sink cabinet Prices store (Err Write) end old new is did few input output stored = absurd (output did.2)
mark-completed source sink cabinet Prices store (Err Read) end old new is did few input output stored = absurd (input did.1)
mark-completed source sink cabinet Prices store (Err TooLarge) end old new is did few input output stored = absurd (not-large source 1_048_576 old.input few did.1)

placeless : {I : Type 0} (source : Source.Ghosts I) (first : ℕ) (input : I) → HasPlaces source first input → IfSome (source.left input) (figures.HasTooManyRows first) → ⊥
placeless source first input (text, is, few) large =
    let many = subst (λ left. IfSome left (figures.HasTooManyRows first)) is large in
    absurd (omega (arith, few, many))

-- what is said of a text that is exposed
of-text : {A B : List ℕ → Type 0} (left : Option (List ℕ)) → ((text : List ℕ) → A text → B text) → IfSome left A → IfSome left B
of-text None then is = tt
of-text (Some text) then is = then text is

figures-completed : {I O C K : Type 0} (source : Source.Ghosts I) (sink : Sink.Ghosts O) (cabinet : Cabinet.Ghosts C K) (Answers : _) (header : List ℕ) (first : ℕ) (result : Result (Unit {0}) Fault) (end : Status) (old new : Lent I O C)
    → end ≡ of_done result → IfSome (source.left old.input) (λ text. WroteFigures Answers header first text result (source.left new.input) (sink.bytes old.output) (sink.bytes new.output))
    → CountsFaults source sink cabinet result old new → HasPlaces source first old.input
    → ¬ (Rose (source.faults old.input) (source.faults new.input)) → ¬ (Rose (sink.faults old.output) (sink.faults new.output)) → ¬ (Rose (cabinet.faults old.cabinet) (cabinet.faults new.cabinet)) → EndsWellOverStore end
figures-completed source sink cabinet Answers header first (Ok done) end old new is wrote counts few input output stored = subst EndsWellOverStore (sym is) tt
figures-completed source sink cabinet Answers header first (Err NoMemory) end old new is wrote counts few input output stored = subst EndsWellOverStore (sym is) tt
figures-completed source sink cabinet Answers header first (Err Store) end old new is wrote counts few input output stored = absurd (stored (counts.2 refl))
figures-completed source sink cabinet Answers header first (Err Write) end old new is wrote counts few input output stored = absurd (output (counts.1 refl))
figures-completed source sink cabinet Answers header first (Err Read) end old new is wrote counts few input output stored = absurd (input (counts.0 refl))
figures-completed source sink cabinet Answers header first (Err TooLarge) end old new is wrote counts few input output stored =
    absurd (placeless source first old.input few (of-text (source.left old.input) (λ text many. many.1) wrote))

no-record-places : {I : Type 0} (source : Source.Ghosts I) (input : I) → HasRecordPlaces source input → IfSome (source.left input) check.HasTooManyRows → ⊥
no-record-places source input (text, is, few) large =
    let many = subst (λ left. IfSome left check.HasTooManyRows) is large in
    absurd (omega (arith, few, many))

check-completed : {I O : Type 0} (source : Source.Ghosts I) (sink : Sink.Ghosts O) (rows : Over) (result : Result CheckEnd Fault) (end : Status) (input later : I) (output further : O)
    → end ≡ of_checked result → IfSome (source.left input) (λ text. WroteChecked rows text result (source.left later) (sink.bytes output) (sink.bytes further))
    → ¬ (IsErrOf result Read) → ¬ (IsErrOf result Write) → ¬ (IsErrOf result Store) → HasRecordPlaces source input → EndsWellOverStore end
check-completed source sink rows (Ok AllRight) end input later output further is wrote reads writes stores few = subst EndsWellOverStore (sym is) tt
check-completed source sink rows (Ok NotAllRight) end input later output further is wrote reads writes stores few = subst EndsWellOverStore (sym is) tt
check-completed source sink rows (Ok BadNames) end input later output further is wrote reads writes stores few = subst EndsWellOverStore (sym is) tt
check-completed source sink rows (Err NoMemory) end input later output further is wrote reads writes stores few = subst EndsWellOverStore (sym is) tt
check-completed source sink rows (Err Store) end input later output further is wrote reads writes stores few = absurd (stores refl)
check-completed source sink rows (Err Write) end input later output further is wrote reads writes stores few = absurd (writes refl)
check-completed source sink rows (Err Read) end input later output further is wrote reads writes stores few = absurd (reads refl)
check-completed source sink rows (Err TooLarge) end input later output further is wrote reads writes stores few =
    absurd (no-record-places source input few (of-text (source.left input) (λ text many. many.1) wrote))

export-completed : {O : Type 0} (sink : Sink.Ghosts O) (wanted : Wanted) (told : _) (counted : Type 0) (result : Result (Unit {0}) Fault) (end : Status) (before after : O)
    → end ≡ of_done result → WritesKept sink wanted told counted result before after → ¬ (told ≡ None) → ¬ (Rose (sink.faults before) (sink.faults after)) → ¬ counted → EndsWellOverStore end
export-completed sink wanted told counted (Ok done) end before after is did can output stored = subst EndsWellOverStore (sym is) tt
export-completed sink wanted told counted (Err NoMemory) end before after is did can output stored = subst EndsWellOverStore (sym is) tt
export-completed sink wanted told counted (Err Store) end before after is did can output stored = neither counted (told ≡ None) did.1 stored can
export-completed sink wanted told counted (Err Write) end before after is did can output stored = absurd (output did.1)
export-completed sink wanted told counted (Err Read) end before after is did can output stored = absurd did
export-completed sink wanted told counted (Err TooLarge) end before after is did can output stored = absurd did

serve-completed : {C K D L : Type 0} (cabinet : Cabinet.Ghosts C K) (door : Door.Ghosts D L) (R : ServingRules) (told : L → Traffic) (store : List ℕ) (port most : ℕ) (outcome : Outcome) (end : Status) (old new : C) (before after : D)
    → end ≡ of_served outcome → ServedStore cabinet door R told store port most outcome old new before after
    → ¬ (Rose (cabinet.faults old) (cabinet.faults new)) → ¬ (Rose (door.faults before) (door.faults after)) → EndsWellOverStore end
serve-completed cabinet door R told store port most (Ok done) end old new before after is did stored served = subst EndsWellOverStore (sym is) tt
serve-completed cabinet door R told store port most (Err serve.NoMemory) end old new before after is did stored served = subst EndsWellOverStore (sym is) tt
serve-completed cabinet door R told store port most (Err serve.Store) end old new before after is did stored served = absurd (stored (did.store_fault refl))
serve-completed cabinet door R told store port most (Err serve.Door) end old new before after is did stored served = absurd (served (did.door_fault refl))

pub completed : {I O C K D L : Type 0} (source : Source.Ghosts I) (sink : Sink.Ghosts O) (cabinet : Cabinet.Ghosts C K) (door : Door.Ghosts D L) → CommandsAreCompleted source sink cabinet door
completed source sink cabinet door ends told (QuoteOne request) end old new before after does none few can = says-answered sink ends (QuoteOne request) end old.output new.output does none.writes
completed source sink cabinet door ends told (Quote request shown) end old new before after does none few can = says-answered sink ends (Quote request shown) end old.output new.output does none.writes
completed source sink cabinet door ends told (Drill request) end old new before after does none few can = says-answered sink ends (Drill request) end old.output new.output does none.writes
completed source sink cabinet door ends told Help end old new before after does none few can = says-answered sink ends Help end old.output new.output does none.writes
completed source sink cabinet door ends told (Import store None limit) end old new before after does none few can =
    import-completed source sink cabinet _ store.items does.0.0 end old new does.0.1 does.0.2.0 few none.reads none.writes none.stores
completed source sink cabinet door ends told (Import store (Some desk) limit) end old new before after does none few can =
    listing-completed source sink cabinet _ store.items desk does.0.0 end old new does.0.1 does.0.2.0 few can none.reads none.writes none.stores
completed source sink cabinet door ends told (Load store limit) end old new before after does none few can =
    load-completed source sink cabinet _ store.items does.0.0 end old new does.0.1 does.0.2.0 few none.reads none.writes none.stores
completed source sink cabinet door ends told (Confirm store key) end old new before after does none few can =
    confirm-completed sink cabinet store.items key does.0.0 end old.output new.output old.cabinet new.cabinet does.0.1 does.0.2.0 none.writes none.stores
completed source sink cabinet door ends told (Serve store port connections limit) end old new before after does none few can =
    serve-completed cabinet door _ told store.items port connections does.0.0 end old.cabinet new.cabinet before after does.0.1 does.0.2 none.stores none.serves
completed source sink cabinet door ends told (Positions store desk) end old new before after does none few can =
    list-completed sink desk _ _ does.0.0 end old.output new.output does.0.1 does.0.2.0 can none.writes none.stores
completed source sink cabinet door ends told (Mark store) end old new before after does none few can =
    mark-completed source sink cabinet _ store.items does.0.0 end old new does.0.1 does.0.2.0 few none.reads none.writes none.stores
completed source sink cabinet door ends told (Figures store options) end old new before after does none few can =
    figures-completed source sink cabinet _ _ options.first does.0.0 end old new does.0.1 does.0.2.0 does.0.2.1 few none.reads none.writes none.stores
completed source sink cabinet door ends told (Check store desk) end old new before after does none few can =
    let counts = does.0.2.1 in
    check-completed source sink _ does.0.0 end old.input new.input old.output new.output does.0.1 does.0.2.0 (λ is. none.reads (counts.0 is)) (λ is. none.writes (counts.1 is)) (λ is. none.stores (counts.2 is)) few
completed source sink cabinet door ends told CheckAlone end old new before after does none few can =
    check-completed source sink _ does.0.0 end old.input new.input old.output new.output does.0.1 does.0.2.0 (λ is. none.reads (does.0.2.1 is)) (λ is. none.writes (does.0.2.2 is)) does.0.2.3 few
completed source sink cabinet door ends told (Export store wanted) end old new before after does none few can =
    export-completed sink wanted _ _ does.0.0 end old.output new.output does.0.1 does.0.2.0 can none.writes none.stores
