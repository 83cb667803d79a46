use Rattle.muni_keep.specs.Tables.{issue_at}
use Rattle.muni_figures.specs.Rows.{rows_of}
use Rattle.muni_figures.proofs.UniqueLemmas.{texts-unique}
use Rattle.muni_figures.proofs.laws.inputs_have_one_text.Goals as goal

pub returns : goal.returns
returns c = λ ends tables before place input text other is also.
    texts-unique ends (issue_at tables) before place (rows_of input) text other is also
