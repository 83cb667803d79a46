-- Puts and their bodies.
use Rattle.std.specs.Prelude.{◌≡◌, ℕ, List, Some}
use Rattle.muni_journal_record.specs.Body.{body_of, put_of, PutFits}
use Rattle.muni_journal_record.specs.declared.put.Put.{Put}

-- a put is read from the bytes that are written for it
abbrev pub WhatIsWrittenIsRead : Type 0
WhatIsWrittenIsRead = (put : Put) → PutFits put → put_of (body_of put) ≡ Some put

-- what is read is written so, and in no other way: one put has one body
abbrev pub OnePutHasOneBody : Type 0
OnePutHasOneBody = (bytes : List ℕ) (put : Put) → put_of bytes ≡ Some put → bytes ≡ body_of put
