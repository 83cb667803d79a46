-- What is written of what tables keep.
use Rattle.std.specs.Prelude.{ℕ, List, ◌++◌, None}
use Rattle.muni_keep.specs.Tables.{Tables}
use Rattle.muni_export.specs.List.{list_names}
use Rattle.muni_desk_export.specs.Counts.{counts_text}
use Rattle.muni_desk_export.specs.Issues.{all_issues, issues_after}
use Rattle.muni_desk_export.specs.Named.{is_named}
use Rattle.muni_desk_export.specs.Trades.{trades_left}
use Rattle.muni_desk_export.specs.Walk.{desk_rows, desks_after}
use Rattle.muni_desk_export.specs.declared.trades.Style.TheVariants as style
use Rattle.muni_desk_export.specs.declared.wanted.Wanted.{Wanted}
use Rattle.muni_desk_export.specs.declared.wanted.Wanted.TheVariants as wanted

abbrev pub wanted_text : Wanted → Tables → List ℕ
wanted_text wanted.Everything tables = all_issues tables ++ desks_after tables None
wanted_text wanted.Issues tables = all_issues tables
wanted_text (wanted.Desk desk) tables = issues_after tables (is_named tables desk) None ++ desk_rows tables desk
wanted_text (wanted.List desk) tables = list_names ++ trades_left tables style.Line desk None
wanted_text (wanted.Confirmations desk) tables = trades_left tables style.Confirmation desk None
wanted_text wanted.Counts tables = counts_text tables
