use Rattle.muni_multi.proofs.PriceLemmas.{one_price-right}
use Rattle.muni_multi.proofs.laws.at_most_one_price_is_right.Goals as goal

pub returns : goal.returns
returns c = one_price-right
