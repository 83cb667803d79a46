use Rattle.muni_book.proofs.RiskLemmas.{not-refused}
use Rattle.muni_book.proofs.risks.risk_of_asked.Goals as goal

pub returns-in-Err : goal.returns-in-Err
returns-in-Err c = λ ends right.
    absurd (not-refused ends c.args.issue.now c.args.asked.now c.args.figures.now c.fill_for.new.schedule.candidates c.in-Err.field-0 c.in-Err.ensures right)
