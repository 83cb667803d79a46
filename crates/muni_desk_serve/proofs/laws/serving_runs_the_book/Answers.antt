use Rattle.muni_desk_serve.specs.Rules.{serving_rules}
use Rattle.muni_desk_serve.proofs.RunLemmas.{connections-run}
use Rattle.muni_desk_serve.proofs.laws.serving_runs_the_book.Goals as goal

pub returns : goal.returns
returns c = λ limit ends. connections-run (serving_rules limit ends)
