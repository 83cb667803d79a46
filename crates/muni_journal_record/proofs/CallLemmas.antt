-- Calls that are read one by one.
use Rattle.std.proofs.Common.{◌≡◌, Bool, ℕ, suc, Option, Some, None, List, [], ◌∷◌, ◌++◌, refl, sym, ◌∙◌, ap, append_assoc}
use Rattle.std.specs.Option.{option_map}
use Rattle.muni_terms.specs.declared.row.Call.{Call}
use Rattle.muni_journal_record.specs.Words.{front}
use Rattle.muni_journal_record.specs.IssueBody.{call_size, call_of, calls_of}

-- calls that were read before, and those that are read after them
abbrev pub behind : List Call → Option (List Call) → Option (List Call)
behind calls more = option_map (λ later. calls ++ later) more

-- one call more was read
behind_one : (calls : List Call) (call : Call) (more : Option (List Call)) → behind (calls ++ call ∷ []) more ≡ behind calls (option_map (λ later. call ∷ later) more)
behind_one calls call None = refl
behind_one calls call (Some later) = λ i. Some (append_assoc calls (call ∷ []) later i)

next_is : (marked : Bool) (n : ℕ) (rest piece after : List ℕ) (call : Call) → front (call_size marked) rest ≡ Some (piece, after) → call_of piece ≡ Some call
    → calls_of marked (suc n) rest ≡ option_map (λ later. call ∷ later) (calls_of marked n after)
next_is marked n rest piece after call there is = rw (there, is) refl

pub step : (marked : Bool) (calls later : List Call) (k n : ℕ) (rest piece after : List ℕ) (call : Call) → k ≡ suc n → front (call_size marked) rest ≡ Some (piece, after) → call_of piece ≡ Some call → later ≡ calls ++ call ∷ []
    → behind later (calls_of marked n after) ≡ behind calls (calls_of marked k rest)
step marked calls later k n rest piece after call more there is added =
    ap (λ (l : List Call). behind l (calls_of marked n after)) added ∙ behind_one calls call (calls_of marked n after)
    ∙ sym (ap (behind calls) (next_is marked n rest piece after call there is)) ∙ sym (ap (λ (m : ℕ). behind calls (calls_of marked m rest)) more)

-- if no call is read, none are
pub none_read : (marked : Bool) (calls : List Call) (k n : ℕ) (rest : List ℕ) → k ≡ suc n → front (call_size marked) rest ≡ None → behind calls (calls_of marked k rest) ≡ None
none_read marked calls k n rest more none = ap (λ (m : ℕ). behind calls (calls_of marked m rest)) more ∙ (rw none refl)

pub bad_read : (marked : Bool) (calls : List Call) (k n : ℕ) (rest piece after : List ℕ) → k ≡ suc n → front (call_size marked) rest ≡ Some (piece, after) → call_of piece ≡ None → behind calls (calls_of marked k rest) ≡ None
bad_read marked calls k n rest piece after more there bad = ap (λ (m : ℕ). behind calls (calls_of marked m rest)) more ∙ (rw (there, bad) refl)
