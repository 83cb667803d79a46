use Rattle.muni_desk_serve.specs.Rules.{serving_rules}
use Rattle.muni_desk_serve.proofs.ResentLemmas.{connections-act-once}
use Rattle.muni_desk_serve.proofs.laws.what_is_sent_again_acts_once.Goals as goal

pub returns : goal.returns
returns c = λ limit ends. connections-act-once (serving_rules limit ends)
