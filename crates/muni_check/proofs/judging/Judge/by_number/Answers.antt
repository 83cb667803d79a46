use Rattle.muni_check.proofs.judging.Judge.by_number.Goals as goal

pub returns-clause-said : goal.returns-clause-said
returns-clause-said g c = (c.in_ok-issue.issue, c.in_ok-issue.ensures.found, c.in_ok-said.ensures.said)
