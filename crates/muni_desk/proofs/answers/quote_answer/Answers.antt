use Rattle.std.proofs.Common.{rules, ◌≡◌, subst, sym, ap, Ok, Err}
use Rattle.muni_terms.specs.Check.{checked}
use Rattle.muni_answer.specs.Answers.{IsRightAnswer}
use Rattle.muni_desk.specs.Answers.{IsTextOf}
use Rattle.muni_desk.proofs.AnswerLemmas.{quote-shown, fault-shown}
use Rattle.muni_desk.proofs.answers.quote_answer.Goals as goal

pub returns-in-Ok-figures : goal.returns-in-Ok-figures
returns-in-Ok-figures g c =
    let ends = g.E.Encloser.ends c.args.calculator.now.encloser.now in
    let checks : checked c.args.request.row ≡ Ok c.in-Ok.issue = search rules in
    let right = subst (IsRightAnswer ends c.in-Ok.issue c.args.request.asked) c.in-Ok-figures.is c.figures.ensures.right in
    let lines = subst (IsTextOf ends c.in-Ok.issue c.args.request.asked c.in-Ok-figures.found c.args.shown) (sym (ap (λ text. text.items) c.done.ensures.text)) c.quoted.ensures in
    quote-shown ends c.args.request c.in-Ok.issue c.args.shown c.done.result.status c.done.result.text.items c.in-Ok-figures.found checks c.done.ensures.status right lines

pub returns-in-Err : goal.returns-in-Err
returns-in-Err g c =
    let checks : checked c.args.request.row ≡ Err c.in-Err.fault = search rules in
    fault-shown (g.E.Encloser.ends c.args.calculator.now.encloser.now) c.args.request c.in-Err.fault c.args.shown c.refused.result.status c.refused.result.text.items checks c.refused.ensures.status c.refused.ensures.text
