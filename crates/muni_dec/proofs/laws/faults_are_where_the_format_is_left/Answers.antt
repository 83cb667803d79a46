use Rattle.muni_dec.proofs.FaultLemmas.{decimal_faults, digit_faults}
use Rattle.muni_dec.proofs.SignedFaultLemmas.{signed_faults}
use Rattle.muni_dec.proofs.laws.faults_are_where_the_format_is_left.Goals as goal

pub returns-clause-unsigned : goal.returns-clause-unsigned
returns-clause-unsigned c = decimal_faults

pub returns-clause-signed : goal.returns-clause-signed
returns-clause-signed c = signed_faults

pub returns-clause-digits : goal.returns-clause-digits
returns-clause-digits c = digit_faults
