-- What a stop leaves of a journal.
use Rattle.std.specs.Prelude.{◌≡◌, ◌≢◌, ◌⊎◌, ℕ, List, Option, Some, None}
use Rattle.muni_keep.specs.Tables.{Tables}
use Rattle.muni_journal_disk.specs.Bytes.{byte_at, IsSameOutside}
use Rattle.muni_journal_record.specs.declared.put.Put.{Put}
use Rattle.muni_journal.specs.Puts.{after}
use Rattle.muni_journal.specs.Journal.{Place, journal_of, tables_of, place_with}

-- a put is in doubt: with its gate closed the image stands for the tables, and with its gate open for
-- them after the put, whatever byte the gate is given
pub record IsInDoubt (at : Place) (put : Put) (image : List ℕ) : Type 0 where
  pub without : (c : List ℕ) → IsSameOutside at.gate 1 image c → byte_at c at.gate ≢ 1 → journal_of c ≡ Some at
  pub with_it : (c : List ℕ) → IsSameOutside at.gate 1 image c → byte_at c at.gate ≡ 1 → journal_of c ≡ Some (place_with at put)

-- the image stands for the tables after such a put
abbrev pub IsAfterPut : Tables → Option Put → List ℕ → Type 0
IsAfterPut tables None image = ⊥
IsAfterPut tables (Some put) image = tables_of image ≡ Some (after tables put)

-- the image stands for the tables, or for them after one put more: the last one that failed and was
-- not taken back, or the one in flight
abbrev pub StandsFor : Tables → Option Put → Option Put → List ℕ → Type 0
StandsFor tables failed in_flight image =
    (tables_of image ≡ Some tables) ⊎ (IsAfterPut tables failed image ⊎ IsAfterPut tables in_flight image)
