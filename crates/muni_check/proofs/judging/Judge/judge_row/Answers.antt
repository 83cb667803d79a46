use Rattle.muni_check.proofs.judging.Judge.judge_row.Goals as goal

pub returns-in-Some-clause-sound : goal.returns-in-Some-clause-sound
returns-in-Some-clause-sound g c = rw c.by_terms.ensures.issues c.requires
