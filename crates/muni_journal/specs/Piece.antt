-- What is written for a put, with the bounds of its size.
use Rattle.std.specs.Prelude.{◌≡◌, ◌≤◌, ◌+◌, ℕ, List, length}
use Rattle.muni_journal_record.specs.Body.{PutFits, body_of}
use Rattle.muni_journal_record.specs.declared.put.Put.{Put}
use Rattle.muni_journal.specs.Journal.{piece_of}

pub record IsPieceOf (put : Put) (piece : List ℕ) : Type 0 where
  pub is : piece ≡ piece_of put
  pub size : length piece ≡ 5 + length (body_of put)
  pub body : (1 ≤ length (body_of put)) × (length (body_of put) ≤ 1_024)
  pub fits : PutFits put
