-- The confirmation of a trade, by the line that has its last version.
use Rattle.std.proofs.Common.{◌≡◌, Option, Some, sym, ap, ◌∙◌}
use Rattle.std.specs.Option.{option_map}
use Rattle.muni_terms.specs.declared.row.IssueRow.{IssueRow}
use Rattle.muni_msg.specs.declared.command.Key.{Key}
use Rattle.muni_msg.specs.declared.command.Line.{Line}
use Rattle.muni_msg.specs.declared.version.Version.{Version}
use Rattle.muni_keep.specs.History.{History, count}
use Rattle.muni_keep.specs.Tables.{Tables, issue_numbered, last_at}
use Rattle.muni_desk_import.specs.Confirm.{confirmed, of_last, of_version}
use Rattle.muni_desk_export.specs.Trades.{IsLineOf}

last_is : (tables : Tables) (key : Key) (trade : Line) → IsLineOf tables key trade → last_at tables key ≡ Some (trade.number, trade.version)
last_is tables key trade of =
    ap (option_map (λ (history : History Version). (count history, history.last))) of.kept ∙ ap (λ (l : Line). Some (l.number, l.version)) (sym of.is)

pub line-confirmed : (tables : Tables) (key : Key) (trade : Line) (issue : Option IssueRow) → IsLineOf tables key trade → issue ≡ issue_numbered tables trade.version.terms.asked.cusip trade.version.issue_number
    → (of_version key trade.number trade.version issue).text ≡ (confirmed tables key).text
unfolding confirmed
line-confirmed tables key trade issue of is =
    ap (λ found. (of_version key trade.number trade.version found).text) is
    ∙ ap (λ last. (of_last tables key last).text) (sym (last_is tables key trade of))
