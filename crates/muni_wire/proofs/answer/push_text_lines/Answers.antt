use Rattle.std.proofs.Common.{◌++◌, codes, decimal}
use Rattle.muni_wire.specs.Answer.{text_lines, crlf}
use Rattle.muni_wire.proofs.AnswerLemmas.{three}
use Rattle.muni_wire.proofs.answer.push_text_lines.Goals as goal

pub returns-clause-items : goal.returns-clause-items
unfolding text_lines
returns-clause-items c =
    rw (c.push-2.ensures.items, c.push_decimal.ensures.items, c.push.ensures.items)
    (three c.args.answer.now.items (codes "Content-Type: text/plain" ++ crlf ++ codes "Content-Length: ") (decimal c.args.size) crlf)
