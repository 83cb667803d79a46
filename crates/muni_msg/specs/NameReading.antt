-- Texts read as names.
use Rattle.std.specs.Prelude.{ℕ, ◌==◌, Bool, not, nat_lt, List, length, position, if◌then◌else◌, Option, Some, None, Result, Ok, Err}
use Rattle.muni_msg.specs.declared.names.NameFault.{NameFault}
use Rattle.muni_msg.specs.declared.names.NameFault.TheVariants.{Empty, TooLong, BadByte}

-- each fault has a number of its own
abbrev pub fault_number : NameFault → ℕ
fault_number Empty = 1
fault_number TooLong = 2
fault_number (BadByte place) = 3

-- the text, unless there is a first byte that the name may not have
abbrev pub unless_bad : List ℕ → Option ℕ → Result (List ℕ) NameFault
unless_bad text None = Ok text
unless_bad text (Some place) = Err (BadByte place)

-- a name of at most so many bytes, given the first byte that it may not have
abbrev pub name_if : ℕ → List ℕ → Option ℕ → Result (List ℕ) NameFault
name_if most text bad_byte =
    if length text == 0 then Err Empty
    else (if nat_lt most (length text) then Err TooLong else unless_bad text bad_byte)

-- a text as a name of at most so many such letters, or what is wrong with it
abbrev pub name_reading : (ℕ → Bool) → ℕ → List ℕ → Result (List ℕ) NameFault
name_reading is_letter most text = name_if most text (position (λ b. not (is_letter b)) text)
