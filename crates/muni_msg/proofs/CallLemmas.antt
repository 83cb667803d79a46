-- Calls that are read one after another.
use Rattle.std.proofs.Common.{◌≡◌, List, [], ◌∷◌, ◌++◌, ℕ, Option, Some, None, refl, ap}
use Rattle.std.proofs.lemmas.List.{append_assoc, append-nil}
use Rattle.muni_terms.specs.declared.row.Call.{Call}
use Rattle.muni_msg.specs.Fields.{◌>>=◌, call_reading}
use Rattle.muni_msg.specs.IssueFields.{calls_reading}

-- calls that were read, and then others, if those read
abbrev pub with_more : List Call → Option (List Call) → Option (List Call)
with_more calls None = None
with_more calls (Some more) = Some (calls ++ more)

-- the next one reads
more-by : (before : List Call) (call : Call) (rest : Option (List Call)) → with_more (before ++ call ∷ []) rest ≡ with_more before (rest >>= λ calls. Some (call ∷ calls))
more-by before call None = refl
more-by before call (Some calls) = ap Some (append_assoc before (call ∷ []) calls)

pub calls-here : (before : List Call) (text : List ℕ) (texts : List (List ℕ)) (call : Call) → call_reading text ≡ Some call → with_more (before ++ call ∷ []) (calls_reading texts) ≡ with_more before (calls_reading (text ∷ texts))
calls-here before text texts call reads = rw reads (more-by before call (calls_reading texts))

-- it does not read
pub calls-fault : (before : List Call) (text : List ℕ) (texts : List (List ℕ)) → call_reading text ≡ None → with_more before (calls_reading (text ∷ texts)) ≡ None
calls-fault before text texts fault = rw fault refl

-- nothing in front, and nothing after
pub calls-first : (calls : Option (List Call)) → with_more [] calls ≡ calls
calls-first None = refl
calls-first (Some calls) = refl

pub calls-read : (calls : List Call) → with_more calls (calls_reading []) ≡ Some calls
calls-read calls = ap Some (append-nil calls)
