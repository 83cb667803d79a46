-- Which texts a row may have in its columns of calls and of the commission.
use Rattle.std.specs.Prelude.{◌≡◌, ◌≢◌, ◌≤◌, ◌⊎◌, ◌↔◌, ℕ, List, [], ◌∷◌, ◌++◌, length, Some, Ok}
use Rattle.std.specs.List.{AllByRecursion, AllZip}
use Rattle.muni_dec.specs.Values.{fee_reading}
use Rattle.muni_terms.specs.declared.row.Call.{Call}
use Rattle.muni_msg.specs.Calls.{calls_field}
use Rattle.muni_msg.specs.Fields.{fee_field}
use Rattle.muni_desk.specs.WordLaws.{IsCall}

-- no byte of a text is a blank
abbrev pub HasNoBlank : List ℕ → Type 0
HasNoBlank text = AllByRecursion (λ byte. byte ≢ 32) text

-- texts in their order, with one blank between two
abbrev pub with_blanks : List (List ℕ) → List ℕ
with_blanks [] = []
with_blanks (text ∷ []) = text
with_blanks (text ∷ next ∷ texts) = text ++ 32 ∷ with_blanks (next ∷ texts)

-- calls, at most 40: each is a text without a blank, and one blank is between two
pub record SaysCallsInField (text : List ℕ) (calls : List Call) : Type 0 where
  pub texts : List (List ℕ)
  pub some : texts ≢ []
  pub at_most : length texts ≤ 40
  pub apart : AllByRecursion HasNoBlank texts
  pub joined : text ≡ with_blanks texts
  pub are_read : AllZip IsCall texts calls

-- a field reads as calls exactly so, and the empty one as none
abbrev pub CallFieldsAreRead : Type 0
CallFieldsAreRead =
    (text : List ℕ) (calls : List Call)
    → (calls_field text ≡ Some calls)
    ↔ (((text ≡ []) × (calls ≡ [])) ⊎ ((text ≢ []) × SaysCallsInField text calls))

-- a field reads as a commission exactly if that reads, and the empty one as 0
abbrev pub FeeFieldsAreRead : Type 0
FeeFieldsAreRead =
    (text : List ℕ) (fee : ℕ)
    → (fee_field text ≡ Some fee)
    ↔ (((text ≡ []) × (fee ≡ 0)) ⊎ ((text ≢ []) × (fee_reading text ≡ Ok fee)))
