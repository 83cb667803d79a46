-- The length of a body, as the header fields of its request tell it (RFC 9112, section 6).
use Rattle.std.specs.Prelude.{ℕ, List, Bool, false, ◌||◌, not, ◌==◌, nat_le, codes, Option, Some, None, Result, Ok, Err, find, if◌then◌else◌}
use Rattle.std.specs.List.{list_any, list_all}
use Rattle.std.specs.Str.{str_eq_ignore_ascii_case}
use Rattle.muni_dec.specs.Digits.{number_reading}
use Rattle.muni_wire_body.specs.declared.fault.Bad.{Bad}
use Rattle.muni_wire_body.specs.declared.fault.Bad.TheVariants as bad

-- the name and the value of a header field
abbrev pub FieldText : Type 0
FieldText = List ℕ × List ℕ

-- a field has this name, whatever the case of its letters
abbrev pub is_named : List ℕ → FieldText → Bool
is_named name field = str_eq_ignore_ascii_case field.0 name

-- the number that one to ten digits write
abbrev pub length_in : List ℕ → Option ℕ
length_in value = number_reading 10 0 9_999_999_999 value

-- a value tells this number
abbrev pub tells : ℕ → Option ℕ → Bool
tells size None = false
tells size (Some other) = other == size

-- a field is no Content-Length, or tells this number
abbrev pub may_stand_beside : ℕ → FieldText → Bool
may_stand_beside size field =
    not (is_named (codes "content-length") field) || tells size (length_in field.1)

-- a body has at most so many bytes
abbrev pub body_limit : ℕ
body_limit = 65_536

abbrev pub within_limit : ℕ → Result ℕ Bad
within_limit size = if nat_le size body_limit then Ok size else Err bad.TooLarge

-- the length, if every Content-Length is this number
abbrev pub agreed : Option ℕ → List FieldText → Result ℕ Bad
agreed None fields = Err bad.BadRequest
agreed (Some size) fields =
    if list_all (may_stand_beside size) fields then within_limit size else Err bad.BadRequest

abbrev pub by_first : Option FieldText → List FieldText → Result ℕ Bad
by_first None fields = Err bad.LengthRequired
by_first (Some field) fields = agreed (length_in field.1) fields

-- the length of a body, by the header fields
unfoldable pub body_length : List FieldText → Result ℕ Bad
body_length fields =
    if list_any (is_named (codes "transfer-encoding")) fields then Err bad.LengthRequired
    else by_first (find (is_named (codes "content-length")) fields) fields
