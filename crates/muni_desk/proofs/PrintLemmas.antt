-- What commands over a store print is right.
use Rattle.std.proofs.Common.{◌≡◌, ◌≤◌, inl, inr, ℕ, ◌+◌, List, [], ◌∷◌, ◌++◌, length, take, map, Option, Some, None, Result, Ok, Err, IfSome, refl, sym, ap, subst, ◌∙◌, ℤ}
use Rattle.std.proofs.Math.Seq.{take-length, take-append-add}
use Rattle.std.proofs.lemmas.List.{append-nil, append_assoc}
use Rattle.muni_rule.specs.Payments.{PaymentSeries}
use Rattle.muni_rule.specs.WorthEnds.{WorthEnds}
use Rattle.muni_edge.specs.Door.{DoorState}
use Rattle.muni_edge.specs.Sink.{HasWritten, HasWrittenPart}
use Rattle.muni_edge.specs.declared.door.Door as Door
use Rattle.muni_edge.specs.declared.sink.Sink as Sink
use Rattle.muni_edge.specs.declared.source.Source as Source
use Rattle.muni_msg.specs.declared.command.Key.{Key}
use Rattle.muni_msg.specs.declared.version.Version.{Version}
use Rattle.muni_keep.specs.Tables.{Tables, last_at}
use Rattle.muni_keep.specs.declared.cabinet.Cabinet as Cabinet
use Rattle.muni_import.specs.Report.{Said, row_line}
use Rattle.muni_import.specs.Row.{Row}
use Rattle.muni_import.specs.Rows.{rows_of}
use Rattle.muni_book.specs.Rules.{book_rules}
use Rattle.muni_book.specs.SoundTables.{AreSoundTables}
use Rattle.muni_desk_io.specs.Lent.{Lent, IfExposed}
use Rattle.muni_desk_io.specs.declared.fault.Fault.{Fault}
use Rattle.muni_desk_io.specs.declared.fault.Fault.TheVariants.{Read, Write, Store, NoMemory, TooLarge}
use Rattle.muni_desk_import.specs.Confirm.{confirmed, of_last, Answer}
use Rattle.muni_desk_import.specs.Confirmed.{Confirmed}
use Rattle.muni_desk_import.specs.Import.{report, Did, DidFirst, DidBeforeOrNone, DidPart}
use Rattle.muni_desk_import.specs.Imported.{Imported}
use Rattle.muni_desk_import.specs.Laws.{ReportsAreRight, ConfirmationsAreRight}
use Rattle.muni_desk_import.specs.Loaded.{DidCame, DidMost, Loaded}
use Rattle.muni_desk_import.specs.declared.confirmations.Answered.{Answered}
use Rattle.muni_desk_import.specs.declared.confirmations.Answered.TheVariants as answered
use Rattle.muni_desk_import.proofs.ImportLemmas.{report-then}
use Rattle.muni_position.specs.Imported.{ImportedWith}
use Rattle.muni_position.specs.Importing.{DidAll, DidSome}
use Rattle.muni_position.specs.Listing.{positions_text}
use Rattle.muni_desk_serve.specs.Connections.{exchange, AreServed, IsRunOver}
use Rattle.muni_desk_serve.specs.Fault.{Outcome}
use Rattle.muni_desk_serve.specs.Laws.{AnswersAreRight}
use Rattle.muni_desk_serve.specs.Rules.{serving_rules}
use Rattle.muni_desk_serve.specs.Serves.{Traffic}
use Rattle.muni_desk.specs.PrintLaws.{ReportsRight, PrintsReport, ImportsPrintRight, LoadsPrintRight, ConfirmsRight, ConfirmationsPrintRight, AnswersRight, ConnectionsAreAnsweredRight}
use Rattle.muni_desk.specs.Status.{of_answered, of_done}
use Rattle.muni_desk.specs.declared.status.Status.{Status}
use Rattle.muni_desk.specs.declared.status.Status.TheVariants as status

abbrev Ends : Type 0
Ends = PaymentSeries → ℤ → WorthEnds

-- what holds of a value that is there
at-some : {X : Type 0} (P : X → Type 0) (o : Option X) (x : X) → o ≡ Some x → IfSome o P → P x
at-some P o x is holds = subst (λ o. IfSome o P) is holds

-- ---- imports
-- a whole text is a part of it
whole-part : (had has : Option (List ℕ)) (text : List ℕ) → HasWritten had has text → HasWrittenPart had has text
whole-part None has text written = tt
whole-part (Some had) has text written = (length text, written ∙ ap (λ t. Some (had ++ t)) (sym (take-length text)))

none-written : (had has : Option (List ℕ)) → has ≡ had → HasWrittenPart had has []
none-written None has same = tt
none-written (Some had) has same = (0, same ∙ ap Some (sym (append-nil had)))

-- rows that were done, with the whole of their report
did-right : (right : ReportsAreRight) (limit : ℕ) (ends : Ends) (rows : List Row) (old : Tables) (now : Option Tables) (had has : Option (List ℕ)) (end : Status) → limit ≤ 100_000_000 → AreSoundTables old → Did (book_rules limit ends) rows old now had has → ReportsRight end now had has
did-right right limit ends rows old now had has end small sound did = record {
  last = did.new;
  exposed = did.told;
  said = did.said;
  text = report 1 did.said;
  lines = right limit ends old did.new rows did.said small sound did.imports;
  part = whole-part had has (report 1 did.said) did.written;
  whole = λ done. did.written;
}

-- nothing was done
none-right : (old : Tables) (now : Option Tables) (had has : Option (List ℕ)) (end : Status) → ¬ (end ≡ status.Done) → now ≡ Some old → has ≡ had → ReportsRight end now had has
none-right old now had has end early same kept = record {
  last = old;
  exposed = same;
  said = [];
  text = [];
  lines = refl;
  part = none-written had has kept;
  whole = λ done. absurd (early done);
}

-- the report on some rows, and a part of a line more
cut-part : (had has : Option (List ℕ)) (said : List Said) (last : Said) → IfSome had (λ text. (count : ℕ) × (has ≡ Some ((text ++ report 1 said) ++ take count (row_line (1 + length said) last)))) → HasWrittenPart had has (report 1 (said ++ last ∷ []))
cut-part None has said last part = tt
cut-part (Some had) has said last (count, is) =
    let line = row_line (1 + length said) last in
    let cut = sym (take-append-add (report 1 said) line count) ∙ ap (take (length (report 1 said) + count)) (sym (report-then 1 said last)) in
    (length (report 1 said) + count, is ∙ ap Some (append_assoc had (report 1 said) (take count line) ∙ ap (λ t. had ++ t) cut))

part-right : (right : ReportsAreRight) (limit : ℕ) (ends : Ends) (text : List ℕ) (old : Tables) (now : Option Tables) (had has : Option (List ℕ)) (end : Status) → ¬ (end ≡ status.Done) → limit ≤ 100_000_000 → AreSoundTables old → DidPart (book_rules limit ends) text old now had has → ReportsRight end now had has
part-right right limit ends text old now had has end early small sound rows =
    let did = rows.did in
    let said = did.said ++ did.last ∷ [] in
    record {
      last = did.new;
      exposed = did.told;
      said = said;
      text = report 1 said;
      lines = right limit ends old did.new (rows.rows ++ rows.row ∷ []) said small sound did.imports;
      part = cut-part had has did.said did.last did.written.part;
      whole = λ done. absurd (early done);
    }

before-right : (right : ReportsAreRight) (limit : ℕ) (ends : Ends) (text : List ℕ) (old : Tables) (now : Option Tables) (had has : Option (List ℕ)) (end : Status) → ¬ (end ≡ status.Done) → limit ≤ 100_000_000 → AreSoundTables old → DidBeforeOrNone (book_rules limit ends) text old now had has → ReportsRight end now had has
before-right right limit ends text old now had has end early small sound (inl rows) = did-right right limit ends rows.rows old now had has end small sound rows.did
before-right right limit ends text old now had has end early small sound (inr none) = none-right old now had has end early none.0 none.1

at-exposed : {I O C K : Type 0} (source : Source.Ghosts I) (cabinet : Cabinet.Ghosts C K) (store : List ℕ) (old : Lent I O C) (Holds : List ℕ → Tables → Type 0) (text : List ℕ) (tables : Tables) → source.left old.input ≡ Some text → cabinet.told old.cabinet store ≡ Some tables → IfExposed source cabinet store old Holds → Holds text tables
at-exposed source cabinet store old Holds text tables there known holds =
    at-some (Holds text) (cabinet.told old.cabinet store) tables known
    (at-some (λ text. IfSome (cabinet.told old.cabinet store) (Holds text)) (source.left old.input) text there holds)

imported-right : {I O C K : Type 0} (source : Source.Ghosts I) (sink : Sink.Ghosts O) (cabinet : Cabinet.Ghosts C K) (right : ReportsAreRight) (limit : ℕ) (ends : Ends) (store : List ℕ) (result : Result (Unit {0}) Fault) (end : Status) (old new : Lent I O C) (text : List ℕ) (tables : Tables)
    → end ≡ of_done result → Imported source sink cabinet (book_rules limit ends) store result old new → source.left old.input ≡ Some text → cabinet.told old.cabinet store ≡ Some tables → limit ≤ 100_000_000 → AreSoundTables tables
    → ReportsRight end (cabinet.told new.cabinet store) (sink.bytes old.output) (sink.bytes new.output)
imported-right source sink cabinet right limit ends store (Ok done) end old new text tables is did there known small sound =
    did-right right limit ends (rows_of text) tables _ _ _ end small sound
    (at-exposed source cabinet store old (λ text tables. Did (book_rules limit ends) (rows_of text) tables (cabinet.told new.cabinet store) (sink.bytes old.output) (sink.bytes new.output)) text tables there known did.0)
imported-right source sink cabinet right limit ends store (Err Store) end old new text tables is did there known small sound =
    before-right right limit ends text tables _ _ _ end (λ done. let never : status.StoreFault ≡ status.Done = sym is ∙ done in cc) small sound
    (at-exposed source cabinet store old (λ text tables. DidBeforeOrNone (book_rules limit ends) text tables (cabinet.told new.cabinet store) (sink.bytes old.output) (sink.bytes new.output)) text tables there known did.0)
imported-right source sink cabinet right limit ends store (Err NoMemory) end old new text tables is did there known small sound =
    let first = at-exposed source cabinet store old (λ text tables. DidFirst (book_rules limit ends) text tables (cabinet.told new.cabinet store) (sink.bytes old.output) (sink.bytes new.output)) text tables there known did in
    did-right right limit ends first.rows tables _ _ _ end small sound first.did
imported-right source sink cabinet right limit ends store (Err Write) end old new text tables is did there known small sound =
    part-right right limit ends text tables _ _ _ end (λ done. let never : status.WriteFault ≡ status.Done = sym is ∙ done in cc) small sound
    (at-exposed source cabinet store old (λ text tables. DidPart (book_rules limit ends) text tables (cabinet.told new.cabinet store) (sink.bytes old.output) (sink.bytes new.output)) text tables there known did.0)
imported-right source sink cabinet right limit ends store (Err Read) end old new text tables is did there known small sound =
    none-right tables _ _ _ end (λ done. let never : status.ReadFault ≡ status.Done = sym is ∙ done in cc)
    (ap (λ c. cabinet.told c store) did.0.1 ∙ known) (ap sink.bytes did.0.0)
imported-right source sink cabinet right limit ends store (Err TooLarge) end old new text tables is did there known small sound =
    none-right tables _ _ _ end (λ done. let never : status.TooLarge ≡ status.Done = sym is ∙ done in cc)
    (ap (λ c. cabinet.told c store) did.0.1 ∙ known) (ap sink.bytes did.0.0)

-- the positions of a desk after the report
listed-whole : (now : Option Tables) (reported has : Option (List ℕ)) (desk : List ℕ) → IfSome now (λ tables. HasWritten reported has (positions_text desk tables)) → IfSome now (λ tables. HasWrittenPart reported has (positions_text desk tables))
listed-whole None reported has desk written = tt
listed-whole (Some tables) reported has desk written = whole-part reported has (positions_text desk tables) written

all-printed : (right : ReportsAreRight) (limit : ℕ) (ends : Ends) (desk text : List ℕ) (old : Tables) (now : Option Tables) (had has : Option (List ℕ)) (end : Status) → limit ≤ 100_000_000 → AreSoundTables old → DidAll (book_rules limit ends) desk text old now had has → PrintsReport (Some desk) end now had has
all-printed right limit ends desk text old now had has end small sound all = record {
  reported = all.reported;
  right = did-right right limit ends (rows_of text) old now had all.reported end small sound all.did;
  behind = inr (listed-whole now all.reported has desk all.listed);
}

some-printed : (right : ReportsAreRight) (limit : ℕ) (ends : Ends) (desk text : List ℕ) (old : Tables) (now : Option Tables) (had has : Option (List ℕ)) (end : Status) → ¬ (end ≡ status.Done) → limit ≤ 100_000_000 → AreSoundTables old → DidSome (book_rules limit ends) desk text old now had has → PrintsReport (Some desk) end now had has
some-printed right limit ends desk text old now had has end early small sound (inl part) = record {
  reported = has;
  right = part-right right limit ends text old now had has end early small sound part;
  behind = inl refl;
}
some-printed right limit ends desk text old now had has end early small sound (inr all) = record {
  reported = all.reported;
  right = did-right right limit ends (rows_of text) old now had all.reported end small sound all.did;
  behind = inr all.listed;
}

none-listed : (desk : List ℕ) (end : Status) (now : Option Tables) (had has : Option (List ℕ)) → ReportsRight end now had has → PrintsReport (Some desk) end now had has
none-listed desk end now had has right = record { reported = has; right = right; behind = inl refl }

listing-right : {I O C K : Type 0} (source : Source.Ghosts I) (sink : Sink.Ghosts O) (cabinet : Cabinet.Ghosts C K) (right : ReportsAreRight) (limit : ℕ) (ends : Ends) (store desk : List ℕ) (result : Result (Unit {0}) Fault) (end : Status) (old new : Lent I O C) (text : List ℕ) (tables : Tables)
    → end ≡ of_done result → ImportedWith source sink cabinet (book_rules limit ends) store desk result old new → source.left old.input ≡ Some text → cabinet.told old.cabinet store ≡ Some tables → limit ≤ 100_000_000 → AreSoundTables tables
    → PrintsReport (Some desk) end (cabinet.told new.cabinet store) (sink.bytes old.output) (sink.bytes new.output)
listing-right source sink cabinet right limit ends store desk (Ok done) end old new text tables is did there known small sound =
    all-printed right limit ends desk text tables _ _ _ end small sound
    (at-exposed source cabinet store old (λ text tables. DidAll (book_rules limit ends) desk text tables (cabinet.told new.cabinet store) (sink.bytes old.output) (sink.bytes new.output)) text tables there known did.0)
listing-right source sink cabinet right limit ends store desk (Err Write) end old new text tables is did there known small sound =
    some-printed right limit ends desk text tables _ _ _ end (λ done. let never : status.WriteFault ≡ status.Done = sym is ∙ done in cc) small sound
    (at-exposed source cabinet store old (λ text tables. DidSome (book_rules limit ends) desk text tables (cabinet.told new.cabinet store) (sink.bytes old.output) (sink.bytes new.output)) text tables there known did.0)
listing-right source sink cabinet right limit ends store desk (Err Store) end old new text tables is did there known small sound =
    let first = at-exposed source cabinet store old (λ text tables. DidFirst (book_rules limit ends) text tables (cabinet.told new.cabinet store) (sink.bytes old.output) (sink.bytes new.output)) text tables there known did.0 in
    none-listed desk end _ _ _ (did-right right limit ends first.rows tables _ _ _ end small sound first.did)
listing-right source sink cabinet right limit ends store desk (Err NoMemory) end old new text tables is did there known small sound =
    none-listed desk end _ _ _ (imported-right source sink cabinet right limit ends store (Err NoMemory) end old new text tables is did there known small sound)
listing-right source sink cabinet right limit ends store desk (Err Read) end old new text tables is did there known small sound =
    none-listed desk end _ _ _ (imported-right source sink cabinet right limit ends store (Err Read) end old new text tables is did there known small sound)
listing-right source sink cabinet right limit ends store desk (Err TooLarge) end old new text tables is did there known small sound =
    none-listed desk end _ _ _ (imported-right source sink cabinet right limit ends store (Err TooLarge) end old new text tables is did there known small sound)

pub imports-print : {I O C K D L : Type 0} (source : Source.Ghosts I) (sink : Sink.Ghosts O) (cabinet : Cabinet.Ghosts C K) (door : Door.Ghosts D L) → ReportsAreRight → ImportsPrintRight source sink cabinet door
imports-print source sink cabinet door right ends told store None limit end old new before after text tables does small there known sound = record {
  reported = sink.bytes new.output;
  right = imported-right source sink cabinet right limit ends store.items does.0.0 end old new text tables does.0.1 does.0.2.0 there known small sound;
  behind = refl;
}
imports-print source sink cabinet door right ends told store (Some desk) limit end old new before after text tables does small there known sound =
    listing-right source sink cabinet right limit ends store.items desk does.0.0 end old new text tables does.0.1 does.0.2.0 there known small sound

-- ---- loads
loaded-right : {I O C K : Type 0} (source : Source.Ghosts I) (sink : Sink.Ghosts O) (cabinet : Cabinet.Ghosts C K) (right : ReportsAreRight) (limit : ℕ) (ends : Ends) (store : List ℕ) (result : Result (Unit {0}) Fault) (end : Status) (old new : Lent I O C) (text : List ℕ) (tables : Tables)
    → end ≡ of_done result → Loaded source sink cabinet (book_rules limit ends) store result old new → source.left old.input ≡ Some text → cabinet.told old.cabinet store ≡ Some tables → limit ≤ 100_000_000 → AreSoundTables tables
    → ReportsRight end (cabinet.told new.cabinet store) (sink.bytes old.output) (sink.bytes new.output)
loaded-right source sink cabinet right limit ends store (Ok done) end old new text tables is did there known small sound =
    did-right right limit ends (rows_of text) tables _ _ _ end small sound
    (at-exposed source cabinet store old (λ text tables. Did (book_rules limit ends) (rows_of text) tables (cabinet.told new.cabinet store) (sink.bytes old.output) (sink.bytes new.output)) text tables there known did)
loaded-right source sink cabinet right limit ends store (Err Store) end old new text tables is did there known small sound =
    before-right right limit ends text tables _ _ _ end (λ done. let never : status.StoreFault ≡ status.Done = sym is ∙ done in cc) small sound
    (at-exposed source cabinet store old (λ text tables. DidBeforeOrNone (book_rules limit ends) text tables (cabinet.told new.cabinet store) (sink.bytes old.output) (sink.bytes new.output)) text tables there known did.0)
loaded-right source sink cabinet right limit ends store (Err NoMemory) end old new text tables is did there known small sound =
    let first = at-exposed source cabinet store old (λ text tables. DidFirst (book_rules limit ends) text tables (cabinet.told new.cabinet store) (sink.bytes old.output) (sink.bytes new.output)) text tables there known did in
    did-right right limit ends first.rows tables _ _ _ end small sound first.did
loaded-right source sink cabinet right limit ends store (Err Write) end old new text tables is did there known small sound =
    part-right right limit ends text tables _ _ _ end (λ done. let never : status.WriteFault ≡ status.Done = sym is ∙ done in cc) small sound
    (at-exposed source cabinet store old (λ text tables. DidPart (book_rules limit ends) text tables (cabinet.told new.cabinet store) (sink.bytes old.output) (sink.bytes new.output)) text tables there known did.0)
loaded-right source sink cabinet right limit ends store (Err Read) end old new text tables is did there known small sound =
    let came = at-exposed source cabinet store old (λ text tables. DidCame (book_rules limit ends) text (source.left new.input) tables (cabinet.told new.cabinet store) (sink.bytes old.output) (sink.bytes new.output)) text tables there known did.0 in
    did-right right limit ends came.first.rows tables _ _ _ end small sound came.first.did
loaded-right source sink cabinet right limit ends store (Err TooLarge) end old new text tables is did there known small sound =
    let most = at-exposed source cabinet store old (λ text tables. DidMost (book_rules limit ends) text tables (cabinet.told new.cabinet store) (sink.bytes old.output) (sink.bytes new.output)) text tables there known did.0 in
    did-right right limit ends most.first.rows tables _ _ _ end small sound most.first.did

pub loads-print : {I O C K D L : Type 0} (source : Source.Ghosts I) (sink : Sink.Ghosts O) (cabinet : Cabinet.Ghosts C K) (door : Door.Ghosts D L) → ReportsAreRight → LoadsPrintRight source sink cabinet door
loads-print source sink cabinet door right ends told store limit end old new before after text tables does small there known sound =
    loaded-right source sink cabinet right limit ends store.items does.0.0 end old new text tables does.0.1 does.0.2.0 there known small sound

-- ---- confirmations
last-confirmed : (right : ConfirmationsAreRight) (tables : Tables) (key : Key) (had has : Option (List ℕ)) (last : Option (ℕ × Version)) → AreSoundTables tables → last_at tables key ≡ last → answered.Confirmed ≡ (confirmed tables key).answered → HasWritten had has (confirmed tables key).text → ConfirmsRight tables key had has
unfolding confirmed
last-confirmed right tables key had has None sound is said written =
    absurd (let never : answered.Confirmed ≡ answered.Refused = said ∙ ap (λ last. (of_last tables key last).answered) is in cc)
last-confirmed right tables key had has (Some (number, version)) sound is said written =
    let printed = right tables key number version sound is in
    record {
      issue = printed.issue;
      number = number;
      version = version;
      is_last = is;
      right = printed.right;
      written = subst (λ (answer : Answer). HasWritten had has answer.text) printed.printed written;
    }

confirmed-right : {O C K : Type 0} (sink : Sink.Ghosts O) (cabinet : Cabinet.Ghosts C K) (right : ConfirmationsAreRight) (store : List ℕ) (key : Key) (result : Result Answered Fault) (before after : O) (old new : C) (tables : Tables)
    → status.Done ≡ of_answered result → Confirmed sink cabinet store key result before after old new → cabinet.told old store ≡ Some tables → AreSoundTables tables
    → ConfirmsRight tables key (sink.bytes before) (sink.bytes after)
confirmed-right sink cabinet right store key (Ok answered.Confirmed) before after old new tables is did known sound =
    let said = at-some (λ tables. (answered.Confirmed ≡ (confirmed tables key).answered) × HasWritten (sink.bytes before) (sink.bytes after) (confirmed tables key).text) (cabinet.told old store) tables known did in
    last-confirmed right tables key (sink.bytes before) (sink.bytes after) (last_at tables key) sound refl said.0 said.1
confirmed-right sink cabinet right store key (Ok answered.Refused) before after old new tables is did known sound = absurd (let never : status.Done ≡ status.Refused = is in cc)
confirmed-right sink cabinet right store key (Err Read) before after old new tables is did known sound = absurd did
confirmed-right sink cabinet right store key (Err Write) before after old new tables is did known sound = absurd (let never : status.Done ≡ status.WriteFault = is in cc)
confirmed-right sink cabinet right store key (Err Store) before after old new tables is did known sound = absurd (let never : status.Done ≡ status.StoreFault = is in cc)
confirmed-right sink cabinet right store key (Err NoMemory) before after old new tables is did known sound = absurd (let never : status.Done ≡ status.NoMemory = is in cc)
confirmed-right sink cabinet right store key (Err TooLarge) before after old new tables is did known sound = absurd did

pub confirmations-print : {I O C K D L : Type 0} (source : Source.Ghosts I) (sink : Sink.Ghosts O) (cabinet : Cabinet.Ghosts C K) (door : Door.Ghosts D L) → ConfirmationsAreRight → ConfirmationsPrintRight source sink cabinet door
confirmations-print source sink cabinet door right ends told store key old new before after tables does known sound =
    confirmed-right sink cabinet right store.items key does.0.0 old.output new.output old.cabinet new.cabinet tables does.0.1 does.0.2.0 known sound

-- ---- connections
run-right : {L : Type 0} (right : AnswersAreRight) (limit : ℕ) (ends : Ends) (told : L → Traffic) (port most : ℕ) (door : DoorState L) (state : Option (DoorState L)) (opening closing : Option Tables) (before now : ℕ) (outcome : Outcome) (tables : Tables)
    → IsRunOver (serving_rules limit ends) told port most door state opening closing before now outcome → opening ≡ Some tables → limit ≤ 100_000_000 → AreSoundTables tables → AnswersRight told closing door state
run-right right limit ends told port most door state opening closing before now outcome tables over known small sound =
    let run = over.run in
    let exchanges = map (exchange told) run.connections in
    let first : over.first ≡ Some tables = at-some (λ t. over.first ≡ Some t) opening tables known over.opens in
    let each = subst (λ t. AreServed (serving_rules limit ends) t exchanges over.last run.served.faults) first run.served.each in
    let answers = right limit ends tables exchanges over.last run.served.faults small sound each in
    record {
      last = answers.0;
      exposed = at-some (λ _. closing ≡ over.last) opening tables known over.closes ∙ answers.1;
      after = run.after;
      state_after = run.told_after;
      connections = run.connections;
      served = run.served.handed;
      answered = answers.2;
    }

pub connections-answered : {I O C K D L : Type 0} (source : Source.Ghosts I) (sink : Sink.Ghosts O) (cabinet : Cabinet.Ghosts C K) (door : Door.Ghosts D L) → AnswersAreRight → ConnectionsAreAnsweredRight source sink cabinet door
connections-answered source sink cabinet door right ends told store port most limit end old new before after tables state does small known sound is =
    run-right right limit ends told port most state (door.state after) (cabinet.told old.cabinet store.items) (cabinet.told new.cabinet store.items) _ _ does.0.0 tables
    (at-some (λ state. IsRunOver (serving_rules limit ends) told port most state (door.state after) (cabinet.told old.cabinet store.items) (cabinet.told new.cabinet store.items) (cabinet.faults old.cabinet) (cabinet.faults new.cabinet) does.0.0) (door.state before) state is does.0.2.run)
    known small sound
