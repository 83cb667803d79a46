-- How long the texts can be, in bytes.
use Rattle.std.specs.Prelude.{ℕ, ◌≤◌, length}
use Rattle.muni_terms.specs.declared.row.IssueRow.{IssueRow}
use Rattle.muni_msg.specs.declared.asked.Given.{Given}
use Rattle.muni_msg.specs.declared.command.Key.{Key}
use Rattle.muni_msg.specs.declared.figures.Figures.{Figures}
use Rattle.muni_msg.specs.declared.refusal.Refusal.{Refusal}
use Rattle.muni_msg.specs.declared.version.Version.{Version}
use Rattle.muni_confirm.specs.Confirmation.{confirmation_text}
use Rattle.muni_confirm.specs.Figures.{figure_text}
use Rattle.muni_confirm.specs.Refusal.{refusal_text}

-- the lines of figures
abbrev pub FiguresFit : Figures → Given → ℕ → Type 0
FiguresFit figures given fee = length (figure_text figures given fee) ≤ 374

-- a confirmation
abbrev pub ConfirmationFits : IssueRow → Key → ℕ → Version → Type 0
ConfirmationFits issue key number version =
    length (confirmation_text issue key number version) ≤ 685

-- the line of a refusal
abbrev pub RefusalFits : Refusal → Type 0
RefusalFits refusal = length (refusal_text refusal) ≤ 82
