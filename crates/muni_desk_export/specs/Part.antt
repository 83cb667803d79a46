-- What an export of one desk has of the tables: the desk as it is, and the issues that its trades name, with all their
-- terms.
use Rattle.std.specs.Prelude.{ℕ, List, Option, Some, None}
use Rattle.std.specs.FinMap.{empty, get, insert, retain_keys}
use Rattle.muni_msg.specs.declared.version.Version.{Version}
use Rattle.muni_keep.specs.Tables.{Tables}
use Rattle.muni_keep.specs.Trades.{Desks, Trades}
use Rattle.muni_desk_export.specs.Named.{is_named}

-- no desk but this one, if it is kept
abbrev pub one_desk : List ℕ → Option (Trades Version) → Desks Version
one_desk desk None = empty
one_desk desk (Some trades) = insert empty desk trades

abbrev pub part_of : List ℕ → Tables → Tables
part_of desk tables =
    record {
      issues = retain_keys tables.issues (is_named tables desk);
      desks = one_desk desk (get tables.desks desk);
    }
