-- Which header fields give a body a length.
use Rattle.std.specs.Prelude.{◌≡◌, ◌≤◌, ◌↔◌, ℕ, List, All, Any, true, false, codes, Some, Ok}
use Rattle.muni_wire.specs.BodyLength.{FieldText, is_named, length_in, body_limit, body_length}

-- There is no Transfer-Encoding and some Content-Length, each of them has this number of one to ten
-- digits, and it is no more than a body has.
pub record HasLength (fields : List FieldText) (size : ℕ) : Type 0 where
  pub plain : All (λ field. is_named (codes "transfer-encoding") field ≡ false) fields
  pub some : Any (λ field. is_named (codes "content-length") field ≡ true) fields
  pub each : All (λ field. is_named (codes "content-length") field ≡ true → length_in field.1 ≡ Some size) fields
  pub limit : size ≤ body_limit

-- header fields give a body a length exactly so
abbrev pub LengthsAreGiven : Type 0
LengthsAreGiven =
    (fields : List FieldText) (size : ℕ) → (body_length fields ≡ Ok size) ↔ HasLength fields size
