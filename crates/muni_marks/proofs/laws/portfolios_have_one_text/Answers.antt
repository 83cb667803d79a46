use Rattle.std.proofs.Common.{◌∙◌, sym, ap}
use Rattle.muni_keep.specs.Tables.{issue_at}
use Rattle.muni_marks.specs.Line.{marks_text}
use Rattle.muni_marks.specs.Rows.{rows_of}
use Rattle.muni_marks.proofs.UniqueLemmas.{marks-unique}
use Rattle.muni_marks.proofs.laws.portfolios_have_one_text.Goals as goal

pub returns : goal.returns
returns c = λ ends tables text lines others is also.
    is.written ∙ ap marks_text (marks-unique ends (issue_at tables) (rows_of text) is.said also.said is.marks also.marks) ∙ sym also.written
