-- A journal as the slots of its puts.
use Rattle.std.specs.Prelude.{◌≡◌, ◌≢◌, ◌≤◌, ◌<◌, ℕ, List, [], ◌∷◌, ◌++◌, length, Option, Some, All}
use Rattle.std.specs.Option.{option_and_then}
use Rattle.muni_keep.specs.Tables.{Tables, no_tables}
use Rattle.muni_journal_disk.specs.Bytes.{byte_at, StandsAt}
use Rattle.muni_journal_record.specs.Words.{four}
use Rattle.muni_journal_record.specs.Body.{body_of, put_of}
use Rattle.muni_journal_record.specs.declared.put.Put.{Put}
use Rattle.muni_journal.specs.Puts.{put_on}
use Rattle.muni_journal.specs.Journal.{tables_of}

-- a put that has a record: its body has 1 to 1,024 bytes, and reads as the put
pub record HasRecord (put : Put) : Type 0 where
  pub length_from : 1 ≤ length (body_of put)
  pub length_to : length (body_of put) ≤ 1_024
  pub reads : put_of (body_of put) ≡ Some put

-- its slot: an open gate and the record, which is four bytes of length and the body
abbrev pub slot_of : Put → List ℕ
slot_of put = 1 ∷ (four (length (body_of put)) ++ body_of put)

-- the slots of puts, one after the other
abbrev pub slots_of : List Put → List ℕ
slots_of [] = []
slots_of (put ∷ puts) = slot_of put ++ slots_of puts

-- the tables to which puts lead, if each meets its condition
abbrev pub led_by : List Put → Tables → Option Tables
led_by [] tables = Some tables
led_by (put ∷ puts) tables = option_and_then (led_by puts) (put_on tables put)

-- bytes that begin with the slots of puts that lead to these tables, and then have a closed gate
pub record IsJournalOf (bytes : List ℕ) (tables : Tables) : Type 0 where
  pub puts : List Put
  pub records : All HasRecord puts
  pub led : led_by puts no_tables ≡ Some tables
  pub slots : StandsAt 0 (slots_of puts) bytes
  pub closed : byte_at bytes (length (slots_of puts)) ≢ 1

-- Puts that lead from empty tables to these, written as slots with 0 after them, stand for these tables,
-- whatever follows.
abbrev pub WhatIsWrittenStands : Type 0
WhatIsWrittenStands =
    (puts : List Put) (tables : Tables) (rest : List ℕ) → All HasRecord puts → led_by puts no_tables ≡ Some tables
    → tables_of (slots_of puts ++ 0 ∷ rest) ≡ Some tables

-- So does whatever begins so.
abbrev pub JournalsStand : Type 0
JournalsStand = (bytes : List ℕ) (tables : Tables) → IsJournalOf bytes tables → tables_of bytes ≡ Some tables

-- Nothing else stands for tables.
abbrev pub NothingElseStands : Type 0
NothingElseStands =
    (bytes : List ℕ) (tables : Tables) → ((i : ℕ) → byte_at bytes i < 256) → tables_of bytes ≡ Some tables → IsJournalOf bytes tables
