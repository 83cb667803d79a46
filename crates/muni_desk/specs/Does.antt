-- What a command does to the objects that it is lent.
-- `ends` are those that the encloser gives to payments and a yield.
use Rattle.std.specs.Prelude.{◌≡◌, Some, None, is_some, ℤ}
use Rattle.muni_rule.specs.Payments.{PaymentSeries}
use Rattle.muni_rule.specs.WorthEnds.{WorthEnds}
use Rattle.muni_edge.specs.declared.door.Door as Door
use Rattle.muni_edge.specs.declared.sink.Sink as Sink
use Rattle.muni_edge.specs.declared.source.Source as Source
use Rattle.muni_keep.specs.declared.cabinet.Cabinet as Cabinet
use Rattle.muni_answer.specs.Answers.{IsRightAnswer}
use Rattle.muni_book.specs.Rules.{book_rules}
use Rattle.muni_desk_io.specs.Lent.{Lent}
use Rattle.muni_desk.specs.Answers.{IsAnswer}
use Rattle.muni_desk_serve.specs.Rules.{serving_rules}
use Rattle.muni_desk_serve.specs.Serves.{Traffic}
use Rattle.muni_desk.specs.Store.{ImportsInto, ImportsWith, LoadsInto, Confirms, Serves, Lists, Marks, WritesFigures, ChecksFigures, ChecksAlone, Exports}
use Rattle.muni_desk.specs.Written.{WritesAnswer, TellsFaults}
use Rattle.muni_desk.specs.declared.command.DeskCommand.{DeskCommand}
use Rattle.muni_desk.specs.declared.command.DeskCommand.TheVariants.{QuoteOne, Quote, Import, Load, Confirm, Serve, Positions, Mark, Figures, Check, CheckAlone, Export, Drill, Help}
use Rattle.muni_desk.specs.declared.status.Answer.{Answer}
use Rattle.muni_desk.specs.declared.status.Status.{Status}
use Rattle.muni_desk.specs.declared.status.Status.TheVariants.{ReadFault, StoreFault, NoMemory, TooLarge}

-- a right answer is written, and only a failing output keeps it from that
pub record Says {O : Type 0} (sink : Sink.Ghosts O) (IsRight : Answer → Type 0) (status : Status) (old new : O) : Type 0 where
  pub answered : WritesAnswer IsRight status (sink.bytes old) (sink.bytes new)
  pub tells : is_some (sink.bytes new) ≡ is_some (sink.bytes old)
  pub faults : TellsFaults status (sink.faults old) (sink.faults new)

-- what the command does, if `told` is what each link of the door exposes
abbrev pub Does : {I O C K D L : Type 0} → Source.Ghosts I → Sink.Ghosts O → Cabinet.Ghosts C K → Door.Ghosts D L → (ends : PaymentSeries → ℤ → WorthEnds) → (told : L → Traffic) → DeskCommand → Status → (old new : Lent I O C) → (before after : D) → Type 0
Does source sink cabinet door ends told (QuoteOne request) status old new before after = Says sink (IsAnswer ends (QuoteOne request)) status old.output new.output
Does source sink cabinet door ends told (Quote request shown) status old new before after = Says sink (IsAnswer ends (Quote request shown)) status old.output new.output
Does source sink cabinet door ends told (Import store None limit) status old new before after = ImportsInto source sink cabinet (book_rules limit ends) store.items status old new
Does source sink cabinet door ends told (Import store (Some desk) limit) status old new before after = ImportsWith source sink cabinet (book_rules limit ends) store.items desk status old new
Does source sink cabinet door ends told (Load store limit) status old new before after = LoadsInto source sink cabinet (book_rules limit ends) store.items status old new
Does source sink cabinet door ends told (Confirm store key) status old new before after = Confirms sink cabinet store.items key status old new
Does source sink cabinet door ends told (Serve store port connections limit) status old new before after =
    Serves cabinet door (serving_rules limit ends) told store.items port connections status old.cabinet new.cabinet before after
Does source sink cabinet door ends told (Positions store desk) status old new before after = Lists sink cabinet store.items desk status old new
Does source sink cabinet door ends told (Mark store) status old new before after = Marks source sink cabinet (IsRightAnswer ends) store.items status old new
Does source sink cabinet door ends told (Figures store options) status old new before after = WritesFigures source sink cabinet (IsRightAnswer ends) store.items options status old new
Does source sink cabinet door ends told (Check store desk) status old new before after = ChecksFigures source sink cabinet ends store.items desk status old new
Does source sink cabinet door ends told CheckAlone status old new before after = ChecksAlone source sink ends status old new
Does source sink cabinet door ends told (Export store wanted) status old new before after = Exports sink cabinet store.items wanted status old new
Does source sink cabinet door ends told (Drill request) status old new before after = Says sink (IsAnswer ends (Drill request)) status old.output new.output
Does source sink cabinet door ends told Help status old new before after = Says sink (IsAnswer ends Help) status old.output new.output

-- Which of the input, the output, the cabinet and the door stay as they are: an object that the
-- command does not name, one that it has not come to if the input is not read whole or the store fails,
-- and the output if nothing is confirmed, listed or marked for a fault of the store.
abbrev pub Spares : DeskCommand → Status → (input output cabinet door : Type 0) → Type 0
Spares (QuoteOne request) status input output cabinet door = input × cabinet × door
Spares (Quote request shown) status input output cabinet door = input × cabinet × door
Spares (Import store listed limit) ReadFault input output cabinet door = output × cabinet × door
Spares (Import store listed limit) TooLarge input output cabinet door = output × cabinet × door
Spares (Import store listed limit) status input output cabinet door = door
Spares (Load store limit) status input output cabinet door = door
Spares (Confirm store key) StoreFault input output cabinet door = input × output × door
Spares (Confirm store key) NoMemory input output cabinet door = input × output × door
Spares (Confirm store key) status input output cabinet door = input × door
Spares (Serve store port connections limit) StoreFault input output cabinet door = input × output × door
Spares (Serve store port connections limit) status input output cabinet door = input × output
Spares (Positions store desk) StoreFault input output cabinet door = input × output × door
Spares (Positions store desk) NoMemory input output cabinet door = input × output × door
Spares (Positions store desk) status input output cabinet door = input × door
Spares (Mark store) ReadFault input output cabinet door = output × cabinet × door
Spares (Mark store) TooLarge input output cabinet door = output × cabinet × door
Spares (Mark store) StoreFault input output cabinet door = output × door
Spares (Mark store) NoMemory input output cabinet door = output × door
Spares (Mark store) status input output cabinet door = door
Spares (Figures store options) status input output cabinet door = door
Spares (Check store desk) status input output cabinet door = door
Spares CheckAlone status input output cabinet door = cabinet × door
Spares (Export store wanted) status input output cabinet door = input × door
Spares (Drill request) status input output cabinet door = input × cabinet × door
Spares Help status input output cabinet door = input × cabinet × door
