-- What is held of the issues of rows.
use Rattle.std.specs.BTreeMap as tree
use Rattle.std.specs.BTreeSet as set
use Rattle.muni_keep.specs.Tables.{Tables}
use Rattle.muni_keep.specs.Trades.{by_bytes}
use Rattle.muni_marks.specs.Portfolio.{AreKnown}
use Rattle.muni_check.specs.declared.cache.IssueCache.{IssueCache}

-- of each CUSIP that is held it is known what is kept
abbrev pub IsSoundCache : Tables → IssueCache → Type 0
IsSoundCache tables cache = AreKnown tables (tree.get by_bytes cache.issues) (set.contains by_bytes cache.missing)
