-- Sound tables stay sound.
use Rattle.std.specs.Prelude.{◌≤◌, List, Ok}
use Rattle.muni_terms.specs.declared.row.IssueRow.{IssueRow}
use Rattle.muni_msg.specs.declared.asked.Asked.{Asked}
use Rattle.muni_msg.specs.declared.command.Command.{Command}
use Rattle.muni_msg.specs.declared.command.Reply.{Reply}
use Rattle.muni_msg.specs.declared.figures.Figures.{Figures}
use Rattle.muni_keep.specs.Tables.{Tables}
use Rattle.muni_book_step.specs.Runs.{Runs}
use Rattle.muni_book_step.specs.Sound.{Rightness, IsSound}
use Rattle.muni_book_step.specs.Step.{Pricing, Rules}

-- figures that may be answered are right
abbrev pub PricesRight : Pricing → Rightness → Type 0
PricesRight Prices AreRight =
    (row : IssueRow) (asked : Asked) (figures : Figures)
    → Prices row asked (Ok figures) → AreRight row asked figures

-- a run leaves sound tables sound, whatever the limit of a desk up to 100,000,000 trades
abbrev pub RunsStaySound : Rules → Rightness → Type 0
RunsStaySound rules AreRight =
    rules.limit ≤ 100_000_000 → (old new : Tables) (commands : List Command) (replies : List Reply)
    → IsSound AreRight old → Runs rules old commands replies new → IsSound AreRight new
