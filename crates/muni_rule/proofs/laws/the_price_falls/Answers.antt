use Rattle.muni_rule.proofs.FallLemmas.{price_falls}
use Rattle.muni_rule.proofs.YieldLemmas.{printed_yield-same, printed_yield-rounded}
use Rattle.muni_rule.proofs.laws.the_price_falls.Goals as goal

pub returns-clause-falls : goal.returns-clause-falls
returns-clause-falls c = price_falls

pub returns-clause-one : goal.returns-clause-one
returns-clause-one c = λ payment amount s t left above. printed_yield-same (price_falls payment amount left above) s t

pub returns-clause-rounded : goal.returns-clause-rounded
returns-clause-rounded c = λ payment amount y t left above. printed_yield-rounded (price_falls payment amount left above) y t
