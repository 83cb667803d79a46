-- What is done with one connection.
use Rattle.std.specs.Prelude.{◌≡◌, ◌⊎◌, ◌≤◌, ◌+◌, ◌-◌, ◌^◌, ◌==◌, min, ℕ, List, [], ◌∷◌, Bool, true, Option, IfSome, is_some}
use Rattle.std.specs.List.{list_any}
use Rattle.muni_edge.specs.Faults.{Rose}
use Rattle.muni_edge.specs.Sink.{HasWritten, HasWrittenPart}
use Rattle.muni_edge.specs.declared.sink.Sink as sink
use Rattle.muni_edge.specs.declared.source.Source as source
use Rattle.muni_keep.specs.Tables.{Tables}
use Rattle.muni_keep.specs.declared.keeper.Keeper as keeper
use Rattle.muni_msg.specs.declared.command.Command.{Command}
use Rattle.muni_msg.specs.declared.command.Reply.{Reply}
use Rattle.muni_confirm.specs.declared.details.Details.{Details}
use Rattle.muni_book_step.specs.Runs.{StepsTo}
use Rattle.muni_desk_serve.specs.Rules.{ServingRules}
use Rattle.muni_wire.specs.Extent.{AwaitsMore, TakesOnlyWhile}
use Rattle.muni_wire.specs.Reading.{Reading, Whole, Faulty, Short, Reads}
use Rattle.muni_wire_body.specs.declared.fault.Bad.{Bad}
use Rattle.muni_wire_body.specs.declared.look.Look.{Look}
use Rattle.muni_wire_body.specs.declared.look.Request.{Request}
use Rattle.muni_wire_body.specs.declared.look.Request.TheVariants.{Book, Look as LookAt, Check}
use Rattle.muni_wire_body.specs.Stated.{RowTexts}
use Rattle.muni_desk_serve.specs.Answer.{Answer, AreBeside, reply_answer, bad_answer, unavailable_answer}
use Rattle.muni_desk_serve.specs.Check.{IsCheckAnswer}
use Rattle.muni_desk_serve.specs.Look.{look_answer}
use Rattle.muni_desk_serve.specs.declared.served.Served.{Served}
use Rattle.muni_desk_serve.specs.declared.served.Served.TheVariants as served

-- what a connection exposes: the bytes to be taken, those that are written, and how often takes
-- and puts have failed
pub record Traffic : Type 0 where
  pub left : Option (List ℕ)
  pub written : Option (List ℕ)
  pub take_faults : ℕ
  pub put_faults : ℕ

-- the same, by what connections of a type expose
abbrev pub traffic : {L : Type 0} → (L → Option (List ℕ)) → (L → Option (List ℕ)) → (L → ℕ) → (L → ℕ) → L → Traffic
traffic left written take_faults put_faults link =
    record {
      left = left link;
      written = written link;
      take_faults = take_faults link;
      put_faults = put_faults link;
    }

-- if the bytes to be taken are exposed, they are read so
abbrev pub Asks : Traffic → Reading → Type 0
Asks link reading = IfSome link.left (λ bytes. Reads bytes reading)

-- the bytes are a command, to which one step of the book gives the reply and the tables after it
pub record IsReply (rules : ServingRules) (old : Option Tables) (link : Traffic) (answer : Answer) (new : Option Tables) (faults : ℕ) : Type 0 where
  pub command : Command
  pub reply : Reply
  pub asks : Asks link (Whole (Book command))
  pub step : IfSome old (λ t. StepsTo rules.book t command reply new)
  pub details : Details
  pub beside : IfSome old (λ t. AreBeside reply details)
  pub is : answer ≡ reply_answer reply details
  pub none : faults ≡ 0

-- they are no command, and the tables stay as they are
pub record IsBad (old : Option Tables) (link : Traffic) (answer : Answer) (new : Option Tables) (faults : ℕ) : Type 0 where
  pub kind : Bad
  pub asks : Asks link (Faulty kind)
  pub is : answer ≡ bad_answer kind
  pub tables : new ≡ old
  pub none : faults ≡ 0

-- they are a look at the tables, which shows what is kept and leaves them as they are
pub record IsLookedUp (old : Option Tables) (link : Traffic) (answer : Answer) (new : Option Tables) (faults : ℕ) : Type 0 where
  pub look : Look
  pub asks : Asks link (Whole (LookAt look))
  pub is : IfSome old (λ t. answer ≡ look_answer t look)
  pub tables : new ≡ old
  pub none : faults ≡ 0

-- they are a check of one row, which is answered by its line and leaves the tables as they are
pub record IsChecked (rules : ServingRules) (old : Option Tables) (link : Traffic) (answer : Answer) (new : Option Tables) (faults : ℕ) : Type 0 where
  pub row : RowTexts
  pub asks : Asks link (Whole (Check row))
  pub is : IsCheckAnswer rules.checks old row answer
  pub tables : new ≡ old
  pub none : faults ≡ 0

-- they are a request at which the keeper failed, and the tables stay as they are
pub record IsUnavailable (old : Option Tables) (link : Traffic) (answer : Answer) (new : Option Tables) (faults : ℕ) : Type 0 where
  pub request : Request
  pub asks : Asks link (Whole request)
  pub is : answer ≡ unavailable_answer
  pub tables : new ≡ old
  pub one : faults ≡ 1

-- an answer that is due, with the tables after it; and how many faults of the keeper it reports
abbrev pub IsDue : ServingRules → Option Tables → Traffic → Answer → Option Tables → ℕ → Type 0
IsDue rules old link answer new faults =
    IsReply rules old link answer new faults
    ⊎ IsBad old link answer new faults
    ⊎ IsUnavailable old link answer new faults
    ⊎ IsLookedUp old link answer new faults
    ⊎ IsChecked rules old link answer new faults

-- nothing is written, no tables change, and no fault of the keeper is reported
pub record IsUnanswered (old : Option Tables) (link : Traffic) (new : Option Tables) (after : Traffic) (faults : ℕ) : Type 0 where
  pub written : after.written ≡ link.written
  pub tables : new ≡ old
  pub none : faults ≡ 0

-- a take failed before there was an answer, or a put of an answer that is due
abbrev pub IsCutOff : ServingRules → Option Tables → Traffic → Option Tables → Traffic → ℕ → Type 0
IsCutOff rules old link new after faults =
    (Rose link.take_faults after.take_faults × IsUnanswered old link new after faults)
    ⊎ (Rose link.put_faults after.put_faults × (answer : Answer) × IsDue rules old link answer new faults
    × HasWrittenPart link.written after.written answer.bytes)

-- One connection: the tables and the connection before it, what came of it, and both after it. The
-- number says how many faults of the keeper its answer reports, one or none.
abbrev pub Serves : ServingRules → Option Tables → Traffic → Served → Option Tables → Traffic → ℕ → Type 0
Serves rules old link (served.Answered status) new after faults =
    (answer : Answer) × IsDue rules old link answer new faults × (status ≡ answer.status)
    × HasWritten link.written after.written answer.bytes
Serves rules old link served.Gone new after faults =
    Asks link Short × IsUnanswered old link new after faults
Serves rules old link served.LinkFault new after faults = IsCutOff rules old link new after faults
Serves rules old link served.NoMemory new after faults = IsUnanswered old link new after faults

-- a count rose by so much, or is at the last value of its type
abbrev pub RoseBy : ℕ → ℕ → ℕ → Type 0
RoseBy rise before now = min (before + rise) (2 ^ 64 - 1) ≤ now

-- a connection was served, and the keeper counted the faults that its answer reports
pub record WasServed (rules : ServingRules) (old : Option Tables) (before : ℕ) (link : Traffic) (answer : Served) (new : Option Tables) (now : ℕ) (after : Traffic) : Type 0 where
  pub faults : ℕ
  pub serves : Serves rules old link answer new after faults
  pub rose : RoseBy faults before now

-- Bytes of a connection are taken only while more of its request is awaited, and none after it.
pub record TakesRequest {L : Type 0} (takes : source.Ghosts L) (old new : L) : Type 0 where
  pub mid : L
  pub ready : TakesOnlyWhile takes AwaitsMore old mid
  pub none_after : takes.left new ≡ takes.left mid

-- A take or a put that failed is counted and is a fault of the connection; after any other end none has
-- failed.
abbrev pub CountsLink : Served → (takes takes_now puts puts_now : ℕ) → Type 0
CountsLink (served.Answered status) takes takes_now puts puts_now = (takes_now ≡ takes) × (puts_now ≡ puts)
CountsLink served.Gone takes takes_now puts puts_now = (takes_now ≡ takes) × (puts_now ≡ puts)
CountsLink served.LinkFault takes takes_now puts puts_now = Rose takes takes_now ⊎ Rose puts puts_now
CountsLink served.NoMemory takes takes_now puts puts_now = (takes_now ≡ takes) × (puts_now ≡ puts)

-- a status that is answered to what is no request, and to nothing else
abbrev pub is_bad_status : ℕ → Bool
is_bad_status status = list_any (λ bad. bad == status) (400 ∷ 405 ∷ 411 ∷ 413 ∷ 431 ∷ [])

-- What an answer leaves of a keeper and of a connection, whatever they expose: a fault that it reports is
-- counted, and what is no command has not come to the keeper.
pub record LeavesCounted {K L : Type 0} (keeps : keeper.Ghosts K) (takes : source.Ghosts L) (puts : sink.Ghosts L) (came : Served) (old new : K) (before after : L) : Type 0 where
  pub unavailable : came ≡ served.Answered 503 → Rose (keeps.faults old) (keeps.faults new)
  pub counts : CountsLink came (takes.faults before) (takes.faults after) (puts.faults before) (puts.faults after)
  pub unanswered : came ≡ served.Gone → new ≡ old
  pub bad : (status : ℕ) → came ≡ served.Answered status → is_bad_status status ≡ true → new ≡ old
  pub asked : (new ≡ old) ⊎ ((request : Request) × IfSome (takes.left before) (λ bytes. Reads bytes (Whole request)))
  pub tells : is_some (keeps.tables new) ≡ is_some (keeps.tables old)
  pub later : keeps.faults old ≤ keeps.faults new
  pub lent_as : keeps.lent_as new ≡ keeps.lent_as old
  pub takes_later : takes.faults before ≤ takes.faults after
  pub puts_later : puts.faults before ≤ puts.faults after
