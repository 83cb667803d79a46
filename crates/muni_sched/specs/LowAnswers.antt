-- The lowest price and the lowest yield, or why there is none, as one answer.
use Rattle.std.specs.Prelude.{Result, Ok, Err}
use Rattle.muni_terms.specs.declared.disclosure.Boundary.TheVariants as boundary
use Rattle.muni_sched.specs.declared.answer.Figure.TheVariants as figure
use Rattle.muni_sched.specs.declared.answer.LowAnswer.{LowAnswer}
use Rattle.muni_sched.specs.declared.answer.LowAnswer.TheVariants.{Low, Undecided, Below, Above, NoTime}
use Rattle.muni_sched.specs.declared.answer.LowestPrice.{LowestPrice}
use Rattle.muni_sched.specs.declared.answer.LowestYield.{LowestYield}
use Rattle.muni_sched.specs.declared.answer.NoPrice.{NoPrice}
use Rattle.muni_sched.specs.declared.answer.NoPrice.TheVariants as no_price
use Rattle.muni_sched.specs.declared.answer.NoYield.{NoYield}
use Rattle.muni_sched.specs.declared.answer.NoYield.TheVariants as no_yield

abbrev pub low_price : Result LowestPrice NoPrice → LowAnswer
low_price (Ok lowest) = Low (figure.Price lowest.price) lowest.candidate
low_price (Err (no_price.Undecided date price)) = Undecided date (boundary.Price price)
low_price (Err (no_price.Below date)) = Below date

abbrev pub low_yield : Result LowestYield NoYield → LowAnswer
low_yield (Ok lowest) = Low (figure.Yield lowest.yld) lowest.candidate
low_yield (Err (no_yield.Undecided date yld)) = Undecided date (boundary.Yield yld)
low_yield (Err (no_yield.Below date)) = Below date
low_yield (Err no_yield.Above) = Above
low_yield (Err (no_yield.NoTime date)) = NoTime date
