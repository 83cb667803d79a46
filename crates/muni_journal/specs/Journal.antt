-- What a disk stands for: the tables to which the open slots lead, from place 0 up to the first closed
-- gate. A slot is a gate byte and a record, which is four bytes of length and a body.
use Rattle.std.specs.Prelude.{◌≡◌, ◌<◌, ◌^◌, ℕ, zero, suc, ◌+◌, ◌==◌, ◌&&◌, Bool, nat_le, List, [], ◌∷◌, ◌++◌, length, Option, Some, None, if◌then◌else◌}
use Rattle.std.specs.Option.{option_map, option_and_then}
use Rattle.muni_keep.specs.Tables.{Tables, no_tables}
use Rattle.muni_journal_disk.specs.Bytes.{byte_at, bytes_at}
use Rattle.muni_journal_disk.specs.Disk.{IfRead}
use Rattle.muni_journal_record.specs.Words.{four, number_of_4}
use Rattle.muni_journal_record.specs.Body.{body_of, put_of}
use Rattle.muni_journal_record.specs.declared.put.Put.{Put}
use Rattle.muni_journal.specs.Puts.{put_on, after}

-- the gate after some slots, and the tables to which these lead
pub record Place : Type 0 where
  pub gate : ℕ
  pub tables : Tables

-- before the first slot
abbrev pub start : Place
start = record { gate = 0; tables = no_tables }

-- a length that a body may have
abbrev pub is_length : ℕ → Bool
is_length count = nat_le 1 count && nat_le count 1_024

-- the length that a record begins with
unfoldable pub number_at : List ℕ → ℕ → ℕ
number_at bytes place = number_of_4 (bytes_at bytes place 4)

-- the put whose record stands at a place, if one does
abbrev pub put_at : List ℕ → ℕ → Option Put
put_at bytes place =
    if is_length (number_at bytes place) then put_of (bytes_at bytes (place + 4) (number_at bytes place)) else None

-- after the open slot at a place, if it holds a record that reads and a put that meets its condition
unfoldable pub behind_slot : List ℕ → Place → Option Place
behind_slot bytes at =
    option_map (λ tables. record { gate = at.gate + 5 + number_at bytes (at.gate + 1); tables = tables })
    (option_and_then (put_on at.tables) (put_at bytes (at.gate + 1)))

-- where the open slots from a place on end, if there are fewer than so many
abbrev pub end_from : ℕ → List ℕ → Place → Option Place
end_from zero bytes at = None
end_from (suc most) bytes at =
    if byte_at bytes at.gate == 1 then option_and_then (end_from most bytes) (behind_slot bytes at) else Some at

-- the closed gate that ends the journal, and the tables for which it stands: no disk has more open
-- slots than bytes
unfoldable pub journal_of : List ℕ → Option Place
journal_of bytes = end_from (length bytes + 1) bytes start

-- the tables for which a disk stands that reads so
abbrev pub tables_of : List ℕ → Option Tables
tables_of bytes = option_map (λ (at : Place). at.tables) (journal_of bytes)

-- these tables, if the disk exposes its bytes
abbrev pub HasTables : Option (List ℕ) → Tables → Type 0
HasTables bytes tables = IfRead bytes (λ c. tables_of c ≡ Some tables)

-- a disk that reads so is no journal: it stands for no tables, or its slots end past the limit
abbrev pub IsNoJournal : List ℕ → Type 0
IsNoJournal bytes = (e : Place) → journal_of bytes ≡ Some e → 2 ^ 40 < e.gate

-- what is written for a put: its record, and the closed gate of the next slot
unfoldable pub piece_of : Put → List ℕ
piece_of put = four (length (body_of put)) ++ (body_of put ++ 0 ∷ [])

-- the place after the slot of a put
abbrev pub place_with : Place → Put → Place
place_with at put = record { gate = at.gate + 5 + length (body_of put); tables = after at.tables put }
