use Rattle.muni_dec.proofs.RoundTripLemmas.{read-again, signed-read-again, digits-read-again}
use Rattle.muni_dec.proofs.laws.what_is_written_is_read_again.Goals as goal

pub returns-clause-unsigned : goal.returns-clause-unsigned
returns-clause-unsigned c = read-again

pub returns-clause-signed : goal.returns-clause-signed
returns-clause-signed c = signed-read-again

pub returns-clause-digits : goal.returns-clause-digits
returns-clause-digits c = digits-read-again
