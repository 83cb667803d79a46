use Rattle.muni_answer.specs.Answers.{IsRightAnswer}
use Rattle.muni_book_step.proofs.CarriedOutLemmas.{still-ready, refused-unchanged}
use Rattle.muni_book.proofs.steps.step.Goals as goal

pub carry_out-requires-clause-can_keep : goal.carry_out-requires-clause-can_keep
carry_out-requires-clause-can_keep g c κs within =
    still-ready _ _ _ c.args.command.now _ c.in_ok-plan.ensures.plan.reads.unchanged c.in_ok-plan.ensures.plan.found

pub returns-clause-refused : goal.returns-clause-refused
returns-clause-refused g c =
    refused-unchanged (IsRightAnswer (g.E.Encloser.ends c.args.book.now.calculator.now.encloser.now)) _ _ _ c.in_ok-plan.plan c.in_ok-carry_out.field-0
    c.in_ok-plan.ensures.plan.reads.unchanged c.in_ok-carry_out.ensures.same.tells c.in_ok-carry_out.ensures.done
