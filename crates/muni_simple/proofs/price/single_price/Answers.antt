use Rattle.muni_simple.specs.declared.price.SimplePrice.TheVariants.{Price}
use Rattle.muni_simple.proofs.AnswerLemmas.{answer_below}
use Rattle.muni_simple.proofs.price.single_price.Goals as goal

pub returns-in-Some-clause-below_zero : goal.returns-in-Some-clause-below_zero
returns-in-Some-clause-below_zero c =
    answer_below c.args.shape c.args.single.now c.args.y (Price c.new.result) c.requires.single c.requires.y
    (rw c.new.ensures c.in-Some.ensures.exact)
