use Rattle.muni_rule.proofs.OnePriceLemmas.{one_payment-price, many_periods-price}
use Rattle.muni_rule.proofs.laws.one_price_is_printed.Goals as goal

pub returns-clause-one_payment : goal.returns-clause-one_payment
returns-clause-one_payment c = one_payment-price

pub returns-clause-many_periods : goal.returns-clause-many_periods
returns-clause-many_periods c = many_periods-price
