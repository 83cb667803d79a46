-- Replies are unique.
use Rattle.std.specs.Prelude.{◌≡◌, List, Result}
use Rattle.muni_terms.specs.declared.row.IssueRow.{IssueRow}
use Rattle.muni_msg.specs.declared.asked.Asked.{Asked}
use Rattle.muni_msg.specs.declared.command.Command.{Command}
use Rattle.muni_msg.specs.declared.command.Reply.{Reply}
use Rattle.muni_msg.specs.declared.figures.Figures.{Figures}
use Rattle.muni_msg.specs.declared.refusal.Refusal.{Refusal}
use Rattle.muni_msg.specs.declared.version.Version.{Version}
use Rattle.muni_keep.specs.Tables.{Tables, Issues}
use Rattle.muni_keep.specs.Trades.{Trades}
use Rattle.muni_book_step.specs.Runs.{Runs}
use Rattle.muni_book_step.specs.Step.{Pricing, Rules, Outcome, IsStep}

-- one answer may be given to what is asked of an issue
abbrev pub PricesOnce : Pricing → Type 0
PricesOnce Prices =
    (row : IssueRow) (asked : Asked) (answer other : Result Figures Refusal)
    → Prices row asked answer → Prices row asked other → answer ≡ other

-- equal issues and equal trades of the desk that sends a command give one outcome
abbrev pub StepsAreUnique : Rules → Type 0
StepsAreUnique rules =
    (issues : Issues) (own : Trades Version) (command : Command) (outcome other : Outcome)
    → IsStep rules issues own command outcome → IsStep rules issues own command other
    → outcome ≡ other

-- commands over given tables have one list of replies, and one end
abbrev pub RunsAreUnique : Rules → Type 0
RunsAreUnique rules =
    (old new other : Tables) (commands : List Command) (replies others : List Reply)
    → Runs rules old commands replies new → Runs rules old commands others other
    → (replies ≡ others) × (new ≡ other)
