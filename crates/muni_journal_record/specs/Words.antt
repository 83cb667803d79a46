-- Numbers as bytes, the highest first, and the front of bytes.
use Rattle.std.specs.Prelude.{ℕ, ℤ, ◌==◌, nat_le, List, [], ◌∷◌, length, take, drop, Option, Some, None, if◌then◌else◌}
use Rattle.std.specs.Option.{option_map, option_and_then}
use Rattle.std.specs.Int.{w16, w32, w64, to_be_bytes, from_be_bytes, cast_signed, cast_unsigned}

-- a number in two bytes, in four and in eight
unfoldable pub two : ℕ → List ℕ
two n = to_be_bytes w16 n

unfoldable pub four : ℕ → List ℕ
four n = to_be_bytes w32 n

unfoldable pub eight : ℕ → List ℕ
eight n = to_be_bytes w64 n

-- a number of either sign in four bytes, by two's complement
unfoldable pub signed : ℤ → List ℕ
signed n = to_be_bytes w32 (cast_unsigned w32 n)

-- the number of two bytes, of four and of eight
unfoldable pub number_of_2 : List ℕ → ℕ
number_of_2 bytes = from_be_bytes w16 bytes

unfoldable pub number_of_4 : List ℕ → ℕ
number_of_4 bytes = from_be_bytes w32 bytes

unfoldable pub number_of_8 : List ℕ → ℕ
number_of_8 bytes = from_be_bytes w64 bytes

-- the number of either sign of four bytes
unfoldable pub signed_of : List ℕ → ℤ
signed_of bytes = cast_signed w32 (from_be_bytes w32 bytes)

-- so many bytes from the front and the rest, if there are so many
abbrev pub front : ℕ → List ℕ → Option (List ℕ × List ℕ)
front count bytes = if nat_le count (length bytes) then Some (take count bytes, drop count bytes) else None

-- what the first so many bytes are read as, and the rest
abbrev pub read_front : {A : Type 0} → (List ℕ → A) → ℕ → List ℕ → Option (A × List ℕ)
read_front of count bytes = option_map (λ found. (of found.0, found.1)) (front count bytes)

-- a byte, and the rest
abbrev pub byte_front : List ℕ → Option (ℕ × List ℕ)
byte_front [] = None
byte_front (byte ∷ rest) = Some (byte, rest)

-- a number or some bytes from the front, and the rest
abbrev pub four_front : List ℕ → Option (ℕ × List ℕ)
four_front bytes = read_front number_of_4 4 bytes

-- a number other than 1, and the rest
abbrev pub if_later : ℕ × List ℕ → Option (ℕ × List ℕ)
if_later found = if found.0 == 1 then None else Some found

abbrev pub later_front : List ℕ → Option (ℕ × List ℕ)
later_front bytes = option_and_then if_later (four_front bytes)

abbrev pub eight_front : List ℕ → Option (ℕ × List ℕ)
eight_front bytes = read_front number_of_8 8 bytes

abbrev pub signed_front : List ℕ → Option (ℤ × List ℕ)
signed_front bytes = read_front signed_of 4 bytes
