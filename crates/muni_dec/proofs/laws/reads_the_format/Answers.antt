use Rattle.muni_dec.proofs.GrammarLemmas.{reading-written, written-reading, signed_reading-written, written-signed_reading}
use Rattle.muni_dec.proofs.FaultLemmas.{reads_digits}
use Rattle.muni_dec.proofs.NumberLemmas.{reading-number, number-reading}
use Rattle.muni_dec.proofs.laws.reads_the_format.Goals as goal

pub returns-clause-unsigned : goal.returns-clause-unsigned
returns-clause-unsigned c = λ places text units. (reading-written places text units, written-reading places text units)

pub returns-clause-signed : goal.returns-clause-signed
returns-clause-signed c = λ places text units. (signed_reading-written places text units, written-signed_reading places text units)

pub returns-clause-numbers : goal.returns-clause-numbers
returns-clause-numbers c = λ most least greatest small text number. (reading-number most least greatest small text number, number-reading most least greatest small text number)

pub returns-clause-digits : goal.returns-clause-digits
returns-clause-digits c = reads_digits
