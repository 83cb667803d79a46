use Rattle.muni_desk_serve.specs.Rules.{serving_rules}
use Rattle.muni_desk_serve.proofs.AnswerLemmas.{requests-answered, bytes-answered}
use Rattle.muni_desk_serve.proofs.laws.what_has_come_is_answered.Goals as goal

pub returns : goal.returns
returns c = record {
  requests = λ limit ends. requests-answered (serving_rules limit ends);
  all = λ limit ends. bytes-answered (serving_rules limit ends);
}
