use Rattle.muni_desk.proofs.NextDateLemmas.{read-dated}
use Rattle.muni_desk.proofs.UniqueLemmas.{answer-unique}
use Rattle.muni_desk.proofs.laws.the_answer_is_unique.Goals as goal

pub returns : goal.returns
returns c = λ ends words line answer other read is also.
    answer-unique ends line.command answer other (read-dated words line read) is also
