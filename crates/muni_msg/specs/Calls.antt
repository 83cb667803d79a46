-- The calls of an issue in one field.
use Rattle.std.specs.Prelude.{ℕ, ◌==◌, nat_le, if◌then◌else◌, List, [], ◌∷◌, length, Option, Some, None}
use Rattle.muni_terms.specs.declared.row.Call.{Call}
use Rattle.muni_msg.specs.IssueFields.{calls_reading}

-- one byte in front of the first of some texts
abbrev pub in_front : ℕ → List (List ℕ) → List (List ℕ)
in_front byte [] = (byte ∷ []) ∷ []
in_front byte (text ∷ texts) = (byte ∷ text) ∷ texts

-- a text cut at each of its blanks
unfoldable pub cut_at_blanks : List ℕ → List (List ℕ)
cut_at_blanks [] = [] ∷ []
cut_at_blanks (byte ∷ text) =
    if byte == 32 then [] ∷ cut_at_blanks text else in_front byte (cut_at_blanks text)

-- what follows a blank, cut, if there is one
abbrev pub cut_behind : Option (List ℕ) → List (List ℕ)
cut_behind None = []
cut_behind (Some text) = cut_at_blanks text

-- at most forty texts as calls
abbrev pub few_calls : List (List ℕ) → Option (List Call)
few_calls texts = if nat_le (length texts) 40 then calls_reading texts else None

-- a text as calls with one blank between; the empty text names none
unfoldable pub calls_field : List ℕ → Option (List Call)
calls_field text = if length text == 0 then Some [] else few_calls (cut_at_blanks text)
