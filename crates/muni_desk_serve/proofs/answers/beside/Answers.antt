use Rattle.muni_desk_serve.proofs.ServesLemmas.{quote-beside}
use Rattle.muni_desk_serve.proofs.answers.beside.Goals as goal

pub returns-in-Quoted : goal.returns-in-Quoted
returns-in-Quoted g c =
    quote-beside (g.E.Encloser.ends c.args.calculator.now.encloser.now) c.args.reply.now c.in-Quoted.issue c.in-Quoted.asked c.in-Quoted.figures c.in-Quoted.shown c.details.result
    c.in-Quoted.is c.details.ensures
