use Rattle.std.proofs.lemmas.Result.{IfOk-weaker}
use Rattle.muni_answer.specs.Answers.{IsRightAnswer}
use Rattle.muni_book_step.proofs.CarriedOutLemmas.{issue-carried, amendment-carried, version-carried, priced-carried}
use Rattle.muni_book.proofs.steps.carry_out.Goals as goal

pub returns-in-KeepIssue-clause-done : goal.returns-in-KeepIssue-clause-done
returns-in-KeepIssue-clause-done g c =
    IfOk-weaker c.keep_issue.result _ _
    (λ reply keeps. issue-carried (IsRightAnswer (g.E.Encloser.ends c.args.calculator.now.encloser.now)) _ _ c.args.plan c.in-KeepIssue.issue reply c.in-KeepIssue.is keeps)
    c.keep_issue.ensures.kept

pub returns-in-KeepAmendment-clause-done : goal.returns-in-KeepAmendment-clause-done
returns-in-KeepAmendment-clause-done g c =
    IfOk-weaker c.keep_amendment.result _ _
    (λ reply keeps. amendment-carried (IsRightAnswer (g.E.Encloser.ends c.args.calculator.now.encloser.now)) _ _ c.args.plan c.in-KeepAmendment.number c.in-KeepAmendment.issue reply c.in-KeepAmendment.is keeps)
    c.keep_amendment.ensures.kept

pub returns-in-KeepVersion-clause-done : goal.returns-in-KeepVersion-clause-done
returns-in-KeepVersion-clause-done g c =
    IfOk-weaker c.keep_version.result _ _
    (λ reply keeps. version-carried (IsRightAnswer (g.E.Encloser.ends c.args.calculator.now.encloser.now)) _ _ c.args.plan c.in-KeepVersion.issue c.in-KeepVersion.key c.in-KeepVersion.number c.in-KeepVersion.version reply c.in-KeepVersion.is keeps)
    c.keep_version.ensures.kept

pub returns-in-Ok-figures-clause-done : goal.returns-in-Ok-figures-clause-done
returns-in-Ok-figures-clause-done g c =
    IfOk-weaker c.keep_version-in-Ok-figures.result _ _
    (λ reply keeps. priced-carried (IsRightAnswer (g.E.Encloser.ends c.args.calculator.now.encloser.now)) _ _ c.args.plan c.in-KeepPriced.issue c.in-KeepPriced.issue_number c.in-KeepPriced.key c.in-KeepPriced.number c.in-KeepPriced.act c.in-KeepPriced.terms
    c.in-Ok-figures.figures c.figures-in-KeepPriced.result reply c.in-KeepPriced.is c.in-Ok-figures.is c.figures-in-KeepPriced.ensures.right keeps)
    c.keep_version-in-Ok-figures.ensures.kept
