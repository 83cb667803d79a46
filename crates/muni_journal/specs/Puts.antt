-- Puts on the tables of the desk.
use Rattle.std.specs.Prelude.{◌==◌, Bool, Option, Some, None, if◌then◌else◌}
use Rattle.muni_keep.specs.History.{next_number}
use Rattle.muni_keep.specs.Tables.{Tables, issue_history, trade_at, with_issue, with_version}
use Rattle.muni_journal_record.specs.declared.put.Put.{Put}
use Rattle.muni_journal_record.specs.declared.put.Put.TheVariants.{Issue, Version}

-- the condition of a put: the terms are the next ones of their issue, or the version is the next one of its trade
abbrev pub is_next : Tables → Put → Bool
is_next tables (Issue number row) = number == next_number (issue_history tables row.cusip)
is_next tables (Version key number version) = number == next_number (trade_at tables key)

-- the tables after a put
abbrev pub after : Tables → Put → Tables
after tables (Issue number row) = with_issue row tables
after tables (Version key number version) = with_version key version tables

-- the same, if its condition holds
abbrev pub put_on : Tables → Put → Option Tables
put_on tables put = if is_next tables put then Some (after tables put) else None
