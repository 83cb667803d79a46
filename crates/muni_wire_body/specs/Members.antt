-- The texts of members of a JSON object.
use Rattle.std.specs.Prelude.{ℕ, List, [], Option, Some, None}
use Rattle.serde_json.specs.Data.{Data}
use Rattle.serde_json.specs.Find.{get, as_str}
use Rattle.muni_msg.specs.Fields.{◌>>=◌}

-- the text of a member
abbrev pub member : List ℕ → Data → Option (List ℕ)
member name value = get name value >>= as_str

-- the text of what may be left out, and reads as an empty one then
abbrev pub text_or_empty : Option Data → Option (List ℕ)
text_or_empty None = Some []
text_or_empty (Some found) = as_str found

abbrev pub optional : List ℕ → Data → Option (List ℕ)
optional name value = text_or_empty (get name value)
