use Rattle.std.proofs.Common.{◌∙◌, ap, sym}
use Rattle.muni_msg.specs.IssueFields.{cusip_reading}
use Rattle.muni_import.specs.Row.{field}
use Rattle.muni_figures.specs.Rows.{parts}
use Rattle.muni_figures.proofs.RowLemmas.{field-first}
use Rattle.muni_figures.proofs.asked.read_named.Goals as goal

pub returns : goal.returns
returns c =
    c.read_cusip.ensures
    ∙ ap cusip_reading (sym (field-first _ _ _ c.cut.ensures.parts) ∙ ap (λ text. field 1 (parts 44 text)) c.without_return.ensures)
