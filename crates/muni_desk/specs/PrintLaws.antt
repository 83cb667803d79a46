-- A law of what commands over a store print, if its tables are sound.
use Rattle.std.specs.Prelude.{◌≡◌, ◌⊎◌, ◌≤◌, ℕ, List, map, All, Option, Some, None, IfSome, ℤ}
use Rattle.arrayvec.specs.ArrayVec.{ArrayVec}
use Rattle.muni_rule.specs.Payments.{PaymentSeries}
use Rattle.muni_rule.specs.WorthEnds.{WorthEnds}
use Rattle.muni_edge.specs.Door.{DoorState}
use Rattle.muni_edge.specs.Sink.{HasWritten, HasWrittenPart}
use Rattle.muni_edge.specs.declared.door.Door as Door
use Rattle.muni_edge.specs.declared.sink.Sink as Sink
use Rattle.muni_edge.specs.declared.source.Source as Source
use Rattle.muni_terms.specs.declared.row.IssueRow.{IssueRow}
use Rattle.muni_msg.specs.declared.command.Key.{Key}
use Rattle.muni_msg.specs.declared.version.Version.{Version}
use Rattle.muni_confirm.specs.Confirmation.{confirmation_text}
use Rattle.muni_keep.specs.Tables.{Tables, last_at}
use Rattle.muni_keep.specs.declared.cabinet.Cabinet as Cabinet
use Rattle.muni_import.specs.Report.{Said}
use Rattle.muni_answer.specs.RightFigures.{AreRightFigures}
use Rattle.muni_book.specs.RightReplies.{IsKeptRight}
use Rattle.muni_book.specs.SoundTables.{AreSoundTables}
use Rattle.muni_desk_io.specs.Lent.{Lent}
use Rattle.muni_desk_import.specs.RightLines.{HasLinesOf}
use Rattle.muni_position.specs.Listing.{positions_text}
use Rattle.muni_desk_serve.specs.Connections.{Connection, exchange, AreHandedBack}
use Rattle.muni_desk_serve.specs.RightAnswers.{IsAnsweredRight}
use Rattle.muni_desk_serve.specs.Serves.{Traffic}
use Rattle.muni_desk.specs.Does.{Does}
use Rattle.muni_desk.specs.declared.command.DeskCommand.TheVariants.{Import, Load, Confirm, Serve}
use Rattle.muni_desk.specs.declared.status.Status.{Status}
use Rattle.muni_desk.specs.declared.status.Status.TheVariants.{Done}

-- What was written is lines of a report that have right figures, of versions that are kept in the tables after it. If
-- the import ended early it is a front part of them, and else the whole.
pub record ReportsRight (status : Status) (now : Option Tables) (had has : Option (List ℕ)) : Type 0 where
  pub last : Tables
  pub exposed : now ≡ Some last
  pub said : List Said
  pub text : List ℕ
  pub lines : HasLinesOf last 1 said text
  pub part : HasWrittenPart had has text
  pub whole : status ≡ Done → HasWritten had has text

-- After a report nothing more was written, or if they are listed the positions of a desk or a front part of them.
abbrev pub WroteListed : Option (List ℕ) → Option Tables → (reported has : Option (List ℕ)) → Type 0
WroteListed None now reported has = has ≡ reported
WroteListed (Some desk) now reported has =
    (has ≡ reported) ⊎ IfSome now (λ tables. HasWrittenPart reported has (positions_text desk tables))

-- what an import wrote: its report, and what was written after it
pub record PrintsReport (listed : Option (List ℕ)) (status : Status) (now : Option Tables) (had has : Option (List ℕ)) : Type 0 where
  pub reported : Option (List ℕ)
  pub right : ReportsRight status now had reported
  pub behind : WroteListed listed now reported has

abbrev pub ImportsPrintRight : {I O C K D L : Type 0} → Source.Ghosts I → Sink.Ghosts O → Cabinet.Ghosts C K → Door.Ghosts D L → Type 0
ImportsPrintRight {I} {O} {C} {K} {D} {L} source sink cabinet door =
    (ends : PaymentSeries → ℤ → WorthEnds) (told : L → Traffic) (store : ArrayVec ℕ) (listed : Option (List ℕ)) (limit : ℕ) (status : Status) (old new : Lent I O C) (before after : D) (text : List ℕ) (tables : Tables)
    → Does source sink cabinet door ends told (Import store listed limit) status old new before after
    → limit ≤ 100_000_000 → source.left old.input ≡ Some text → cabinet.told old.cabinet store.items ≡ Some tables → AreSoundTables tables
    → PrintsReport listed status (cabinet.told new.cabinet store.items) (sink.bytes old.output) (sink.bytes new.output)

-- a load wrote its report, and nothing else
abbrev pub LoadsPrintRight : {I O C K D L : Type 0} → Source.Ghosts I → Sink.Ghosts O → Cabinet.Ghosts C K → Door.Ghosts D L → Type 0
LoadsPrintRight {I} {O} {C} {K} {D} {L} source sink cabinet door =
    (ends : PaymentSeries → ℤ → WorthEnds) (told : L → Traffic) (store : ArrayVec ℕ) (limit : ℕ) (status : Status) (old new : Lent I O C) (before after : D) (text : List ℕ) (tables : Tables)
    → Does source sink cabinet door ends told (Load store limit) status old new before after
    → limit ≤ 100_000_000 → source.left old.input ≡ Some text → cabinet.told old.cabinet store.items ≡ Some tables → AreSoundTables tables
    → ReportsRight status (cabinet.told new.cabinet store.items) (sink.bytes old.output) (sink.bytes new.output)

-- what was written is the confirmation of the last version of a trade, which is kept with right figures
pub record ConfirmsRight (tables : Tables) (key : Key) (had has : Option (List ℕ)) : Type 0 where
  pub issue : IssueRow
  pub number : ℕ
  pub version : Version
  pub is_last : last_at tables key ≡ Some (number, version)
  pub right : IsKeptRight AreRightFigures tables issue key number version
  pub written : HasWritten had has (confirmation_text issue key number version)

abbrev pub ConfirmationsPrintRight : {I O C K D L : Type 0} → Source.Ghosts I → Sink.Ghosts O → Cabinet.Ghosts C K → Door.Ghosts D L → Type 0
ConfirmationsPrintRight {I} {O} {C} {K} {D} {L} source sink cabinet door =
    (ends : PaymentSeries → ℤ → WorthEnds) (told : L → Traffic) (store : ArrayVec ℕ) (key : Key) (old new : Lent I O C) (before after : D) (tables : Tables)
    → Does source sink cabinet door ends told (Confirm store key) Done old new before after
    → cabinet.told old.cabinet store.items ≡ Some tables → AreSoundTables tables
    → ConfirmsRight tables key (sink.bytes old.output) (sink.bytes new.output)

-- the connections that were served have right answers, by the tables after them
pub record AnswersRight {L : Type 0} (told : L → Traffic) (now : Option Tables) (before : DoorState L) (state : Option (DoorState L)) : Type 0 where
  pub last : Tables
  pub exposed : now ≡ Some last
  pub after : DoorState L
  pub state_after : state ≡ Some after
  pub connections : List (Connection L)
  pub served : AreHandedBack connections before after
  pub answered : All (IsAnsweredRight last) (map (exchange told) connections)

abbrev pub ConnectionsAreAnsweredRight : {I O C K D L : Type 0} → Source.Ghosts I → Sink.Ghosts O → Cabinet.Ghosts C K → Door.Ghosts D L → Type 0
ConnectionsAreAnsweredRight {I} {O} {C} {K} {D} {L} source sink cabinet door =
    (ends : PaymentSeries → ℤ → WorthEnds) (told : L → Traffic) (store : ArrayVec ℕ) (port most limit : ℕ) (status : Status) (old new : Lent I O C) (before after : D) (tables : Tables) (state : DoorState L)
    → Does source sink cabinet door ends told (Serve store port most limit) status old new before after
    → limit ≤ 100_000_000 → cabinet.told old.cabinet store.items ≡ Some tables → AreSoundTables tables → door.state before ≡ Some state
    → AnswersRight told (cabinet.told new.cabinet store.items) state (door.state after)
