-- The body of a record, both ways.
use Rattle.std.specs.Prelude.{ℕ, ◌==◌, ◌+◌, ◌<◌, ◌^◌, Bool, true, false, nat_eq, List, [], ◌∷◌, ◌++◌, length, Option, Some, None, if◌then◌else◌}
use Rattle.std.specs.Option.{option_map, option_and_then}
use Rattle.std.specs.Cmp.Lexicographic.{pointwise}
use Rattle.muni_msg.specs.declared.command.Key.{Key}
use Rattle.muni_msg.specs.declared.version.Version.{Version}
use Rattle.muni_terms.specs.declared.row.IssueRow.{IssueRow}
use Rattle.muni_journal_record.specs.Words.{four, later_front}
use Rattle.muni_journal_record.specs.IssueBody.{row_bytes, has_mark, issue_of, IssueFits}
use Rattle.muni_journal_record.specs.VersionBody.{version_bytes, version_of, VersionFits}
use Rattle.muni_journal_record.specs.declared.put.Put.{Put}
use Rattle.muni_journal_record.specs.declared.put.Put.TheVariants.{Issue, Version as PutVersion}

-- the first terms of an issue: the byte 1 and the issue, or the byte 3 and the issue with the marks of its calls
-- if one has a mark
abbrev pub first_bytes : IssueRow → List ℕ
first_bytes row = (if has_mark row then 3 else 1) ∷ row_bytes (has_mark row) row

-- its terms with a number; those after the first are the byte 4, the number, and the issue with the marks of its
-- calls
abbrev pub terms_bytes : ℕ → IssueRow → List ℕ
terms_bytes number row =
    if number == 1 then first_bytes row else 4 ∷ (four number ++ row_bytes true row)

-- with what the body of a version begins: the byte 2 if it goes by the first terms of its issue, or the byte 5 and
-- the number of the terms
abbrev pub kind_bytes : ℕ → List ℕ
kind_bytes issue_number = if issue_number == 1 then 2 ∷ [] else 5 ∷ four issue_number

-- the body of a put
unfoldable pub body_of : Put → List ℕ
body_of (Issue number row) = terms_bytes number row
body_of (PutVersion key number version) =
    kind_bytes version.issue_number ++ version_bytes key number version

-- what bytes are read as, whatever follows
abbrev pub first_terms : Bool → List ℕ → Option Put
first_terms marked bytes = option_map (λ row. Issue 1 row) (issue_of marked bytes)

abbrev pub later_terms : List ℕ → Option Put
later_terms bytes =
    option_and_then (λ number. option_map (λ row. Issue number.0 row) (issue_of true number.1)) (later_front bytes)

abbrev pub of_version : Key × ℕ × Version → Put
of_version found = PutVersion found.0 found.1 found.2

abbrev pub later_version : List ℕ → Option (Key × ℕ × Version)
later_version bytes = option_and_then (λ number. version_of number.0 number.1) (later_front bytes)

abbrev pub begun_of : List ℕ → Option Put
begun_of [] = None
begun_of (kind ∷ rest) =
    if kind == 1 then first_terms false rest
    else (if kind == 2 then option_map of_version (version_of 1 rest)
    else (if kind == 3 then first_terms true rest
    else (if kind == 4 then later_terms rest
    else (if kind == 5 then option_map of_version (later_version rest) else None))))

-- a put, if the bytes are its body
abbrev pub if_body : List ℕ → Put → Option Put
if_body bytes put = if pointwise nat_eq (body_of put) bytes then Some put else None

-- the put that has these bytes as its body, if one has
unfoldable pub put_of : List ℕ → Option Put
put_of bytes = option_and_then (if_body bytes) (begun_of bytes)

-- the version that is put with its trade and its number, if one is
abbrev pub version_in : Put → Option (Key × ℕ × Version)
version_in (Issue number row) = None
version_in (PutVersion key number version) = Some (key, number, version)

-- how many bytes the body of a version has
abbrev pub version_size : Key → Version → ℕ
version_size key version =
    (if version.issue_number == 1 then 92 else 96) + length key.desk + length key.reference

-- a put that is written: each value is in the range of its type
pub record TermsFit (number : ℕ) (row : IssueRow) : Type 0 where
  pub numbered : number < 2 ^ 32
  pub issue : IssueFits row

abbrev pub PutFits : Put → Type 0
PutFits (Issue number row) = TermsFit number row
PutFits (PutVersion key number version) = VersionFits key number version
