use Rattle.muni_wire.specs.Answer.{status_line, text_lines, last_lines}
use Rattle.muni_wire.proofs.AnswerLemmas.{four}
use Rattle.muni_wire.proofs.answer.push_head.Goals as goal

pub returns-clause-items : goal.returns-clause-items
returns-clause-items c =
    rw (c.push-2.ensures.items, c.push.ensures.items, c.push_text_lines.ensures.items, c.push_status_line.ensures.items)
    (four c.args.answer.now.items (status_line c.args.status) (text_lines c.args.size) c.args.allow.now last_lines)
