use Rattle.std.proofs.Common.{sym, subst}
use Rattle.muni_desk.specs.Answers.{IsAnswer}
use Rattle.muni_desk.proofs.NextDateLemmas.{read-dated}
use Rattle.muni_desk.proofs.UniqueLemmas.{answer-unique}
use Rattle.muni_desk.proofs.laws.the_workers_do_not_show.Goals as goal

pub returns : goal.returns
returns c = λ ends words others line changed answer other read also_read same is also.
    answer-unique ends line.command answer other (read-dated words line read) is
    (subst (λ command. IsAnswer ends command other) (sym same) also)
