use Rattle.std.proofs.Common.{◌+◌, ◌++◌, length, sym, ap, subst}
use Rattle.muni_answer.specs.Answers.{IsRightAnswer}
use Rattle.muni_keep.specs.Tables.{issue_at}
use Rattle.muni_figures.specs.Done.{AreDone, tally_sum}
use Rattle.muni_figures.specs.Rows.{rows_in}
use Rattle.muni_figures.specs.Said.{IsSaid}
use Rattle.muni_figures.proofs.BlockLemmas.{rows-joined}
use Rattle.muni_figures.proofs.DoneLemmas.{done-joined, done-rows}
use Rattle.muni_figures.proofs.laws.lines_go_on.Goals as goal

pub returns : goal.returns
returns c = λ ends has_risk tables place front back lines more tally after first then.
    let Answers = IsSaid (IsRightAnswer ends) has_risk (issue_at tables) in
    subst (λ rows. AreDone Answers place rows (lines ++ more) (tally_sum tally after)) (sym (rows-joined front back))
    (done-joined Answers place (place + length (rows_in front)) (rows_in front) (rows_in back) lines more tally after
    (ap (λ n. place + n) (sym (done-rows Answers place (rows_in front) lines tally first))) first then)
