-- What a head says of the bytes that were taken, whatever is left after them.
use Rattle.std.specs.Prelude.{◌≡◌, ◌≤◌, ◌==◌, ◌||◌, ℕ, List, Option, Bool, not, drop, length, ◌++◌, Result, Ok, Err, ⊤}
use Rattle.std.specs.Io.KnownBytes.{IsAtEnd}
use Rattle.std.specs.List.{list_any}
use Rattle.httparse.specs.Grammar.{RequestHead, HasNoRequest}
use Rattle.muni_wire.specs.BodyLength.{body_limit}
use Rattle.muni_wire.specs.Head.{HasHead, IsNoHead, IsHeadTooLarge, EndsInHead}
use Rattle.muni_wire.specs.Awaited.{plan_of}
use Rattle.muni_wire.specs.Reading.{Whole, Faulty, Short, carried_out}
use Rattle.muni_wire_body.specs.declared.fault.WireFault.{WireFault}
use Rattle.muni_wire_body.specs.declared.fault.WireFault.TheVariants as fault
use Rattle.muni_wire_body.specs.declared.look.Request.{Request}
use Rattle.muni_wire_body.specs.declared.form.Form.{Form}
use Rattle.muni_wire.specs.declared.head.Awaited.{Awaited}
use Rattle.muni_wire.specs.declared.head.Awaited.TheVariants as plan
use Rattle.muni_wire.specs.declared.head.Head.{Head}
use Rattle.muni_wire.specs.declared.head.Head.TheVariants as head

-- bytes hold more than ends of lines
abbrev pub has_text : List ℕ → Bool
has_text bytes = list_any (λ b. not (b == 13 || b == 10)) bytes

-- the bytes begin with a head of this plan, which ends at a place, whatever follows
abbrev pub IsWholeAt : List ℕ → ℕ → Awaited → Type 0
IsWholeAt bytes end plan =
    (more : List ℕ) → (end ≤ length bytes) × (h : RequestHead)
    × HasHead (bytes ++ more) h (drop end bytes ++ more) × (plan ≡ plan_of h)

-- a body that is to be read is within its limit
abbrev pub IsWithinLimit : Awaited → Type 0
IsWithinLimit (plan.Refuse kind) = ⊤
IsWithinLimit (plan.Ask request) = ⊤
IsWithinLimit (plan.Read form size) = size ≤ body_limit

-- what a head says of these bytes, whatever follows them
abbrev pub IsSeenIn : List ℕ → Head → Type 0
IsSeenIn bytes (head.Whole end plan) = IsWholeAt bytes end plan × IsWithinLimit plan
IsSeenIn bytes head.More = ⊤
IsSeenIn bytes head.Never = (more : List ℕ) → IsNoHead (bytes ++ more)
IsSeenIn bytes head.TooLarge = (more : List ℕ) → IsHeadTooLarge (bytes ++ more)

-- bytes that hold no head yet, and whether they hold more than ends of lines
pub record AreBefore (bytes : List ℕ) (has_begun : Bool) : Type 0 where
  pub begun : has_begun ≡ has_text bytes
  pub none : HasNoRequest bytes

-- what a head says of the bytes that were taken and of those that are left
abbrev pub IsHeadOf : Head → List ℕ → Option (List ℕ) → Type 0
IsHeadOf (head.Whole end plan) bytes left = IsWholeAt bytes end plan × IsWithinLimit plan
IsHeadOf head.More bytes left = EndsInHead bytes × IsAtEnd left
IsHeadOf head.Never bytes left = (more : List ℕ) → IsNoHead (bytes ++ more)
IsHeadOf head.TooLarge bytes left = (more : List ℕ) → IsHeadTooLarge (bytes ++ more)

-- the answer to a body of so many bytes, by all bytes after the head
abbrev pub IsAnswerTo : Form → ℕ → List ℕ → Result Request WireFault → Type 0
IsAnswerTo form size rest (Ok request) = Whole request ≡ carried_out (plan.Read form size) rest
IsAnswerTo form size rest (Err (fault.Bad kind)) = Faulty kind ≡ carried_out (plan.Read form size) rest
IsAnswerTo form size rest (Err fault.Gone) = Short ≡ carried_out (plan.Read form size) rest
IsAnswerTo form size rest (Err fault.LinkFault) = ⊤
IsAnswerTo form size rest (Err fault.NoMemory) = ⊤
