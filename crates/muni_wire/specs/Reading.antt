-- What the bytes of a connection ask for.
use Rattle.std.specs.Prelude.{◌≡◌, ◌⊎◌, ℕ, List, length, take, nat_lt, Option, Some, None, Result, Ok, Err, if◌then◌else◌, ⊤}
use Rattle.httparse.specs.Grammar.{RequestHead}
use Rattle.muni_wire_body.specs.Body.{request_of}
use Rattle.muni_wire.specs.Head.{HasHead, IsNoHead, IsHeadTooLarge, EndsInHead}
use Rattle.muni_wire.specs.Awaited.{plan_of}
use Rattle.muni_wire_body.specs.declared.fault.Bad.{Bad}
use Rattle.muni_wire_body.specs.declared.fault.Bad.TheVariants as bad
use Rattle.muni_wire_body.specs.declared.fault.WireFault.{WireFault}
use Rattle.muni_wire_body.specs.declared.fault.WireFault.TheVariants as fault
use Rattle.muni_wire_body.specs.declared.look.Request.{Request}
use Rattle.muni_wire.specs.declared.head.Awaited.{Awaited}
use Rattle.muni_wire.specs.declared.head.Awaited.TheVariants as plan

-- a whole request, a bad one, or bytes that end before the request does
pub data Reading : Type 0 where
  Whole : Request → Reading
  Faulty : Bad → Reading
  Short : Reading

-- a body that is there
abbrev pub of_body : Option Request → Reading
of_body (Some request) = Whole request
of_body None = Faulty bad.BadRequest

-- what comes of a plan with the bytes after the head
abbrev pub carried_out : Awaited → List ℕ → Reading
carried_out (plan.Refuse kind) rest = Faulty kind
carried_out (plan.Ask request) rest = Whole request
carried_out (plan.Read form size) rest =
    if nat_lt (length rest) size then Short else of_body (request_of form (take size rest))

-- the bytes begin with a head within the limits, and it asks for this with the bytes after it
pub record HeadAsks (bytes : List ℕ) (reading : Reading) : Type 0 where
  pub head : RequestHead
  pub rest : List ℕ
  pub has : HasHead bytes head rest
  pub asks : reading ≡ carried_out (plan_of head) rest

-- all bytes of a connection are read so
abbrev pub Reads : List ℕ → Reading → Type 0
Reads bytes reading =
    HeadAsks bytes reading
    ⊎ (IsNoHead bytes × (reading ≡ Faulty bad.BadRequest))
    ⊎ (IsHeadTooLarge bytes × (reading ≡ Faulty bad.HeadTooLarge))
    ⊎ (EndsInHead bytes × (reading ≡ Short))

-- The bytes allow this answer. A fault of the link and a lack of memory say nothing of them.
abbrev pub Allows : List ℕ → Result Request WireFault → Type 0
Allows bytes (Ok request) = Reads bytes (Whole request)
Allows bytes (Err (fault.Bad kind)) = Reads bytes (Faulty kind)
Allows bytes (Err fault.Gone) = Reads bytes Short
Allows bytes (Err fault.LinkFault) = ⊤
Allows bytes (Err fault.NoMemory) = ⊤
