-- That the bytes of a connection are read in one way.
use Rattle.std.specs.Prelude.{◌≡◌, ◌⊎◌, List, ℕ, take, Result, Ok, Err, ⊤}
use Rattle.httparse.specs.Grammar.{EndsInTarget, HasNoRequest}
use Rattle.httparse.specs.Spans.{RequestExceeds}
use Rattle.muni_wire.specs.Head.{IsNoHead, head_limit, field_limit}
use Rattle.muni_wire.specs.Reading.{Reading, Whole, Faulty, Short, HeadAsks, Reads}
use Rattle.muni_wire_body.specs.declared.fault.WireFault.{WireFault}
use Rattle.muni_wire_body.specs.declared.look.Request.{Request}
use Rattle.muni_wire_body.specs.declared.fault.WireFault.TheVariants as fault

-- The first bytes, as many as a head has, end within a target that no head continues, or they hold too
-- many header fields and no whole head. Then two answers may be right.
abbrev pub IsAmbiguous : List ℕ → Type 0
IsAmbiguous bytes =
    (EndsInTarget (take head_limit bytes) × IsNoHead bytes)
    ⊎ (RequestExceeds field_limit (take head_limit bytes) × HasNoRequest (take head_limit bytes))

-- two readings of the same bytes are equal, unless these are ambiguous
abbrev pub AreReadOnce : Type 0
AreReadOnce =
    (bytes : List ℕ) (a b : Reading) → Reads bytes a → Reads bytes b → IsAmbiguous bytes ⊎ (a ≡ b)

-- bytes that begin with a head within the limits have one reading, without exception
abbrev pub HeadsAreReadOnce : Type 0
HeadsAreReadOnce = (bytes : List ℕ) (a b : Reading) → HeadAsks bytes a → Reads bytes b → a ≡ b

-- no bytes are without a reading
abbrev pub AreAllRead : Type 0
AreAllRead = (bytes : List ℕ) → ¬ ((reading : Reading) → ¬ (Reads bytes reading))

-- the answer that a reading is
abbrev pub answer_to : Reading → Result Request WireFault
answer_to (Whole request) = Ok request
answer_to (Faulty kind) = Err (fault.Bad kind)
answer_to Short = Err fault.Gone

-- the link failed, or memory ran out
abbrev pub IsCutOff : Result Request WireFault → Type 0
IsCutOff (Ok request) = ⊥
IsCutOff (Err (fault.Bad kind)) = ⊥
IsCutOff (Err fault.Gone) = ⊥
IsCutOff (Err fault.LinkFault) = ⊤
IsCutOff (Err fault.NoMemory) = ⊤

-- if the bytes have one reading, it is answered, unless that was cut off
pub record IsTheAnswer (bytes : List ℕ) (result : Result Request WireFault) : Type 0 where
  pub whole : (reading : Reading) → HeadAsks bytes reading
      → IsCutOff result ⊎ (result ≡ answer_to reading)
  pub one : (reading : Reading) → Reads bytes reading
      → IsAmbiguous bytes ⊎ IsCutOff result ⊎ (result ≡ answer_to reading)
