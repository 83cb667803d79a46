use Rattle.muni_desk.proofs.FieldLawLemmas.{call-fields, fee-fields}
use Rattle.muni_desk.proofs.laws.words.fields_are_read_by_the_rule.Goals as goal

pub returns-clause-calls : goal.returns-clause-calls
returns-clause-calls c = call-fields

pub returns-clause-fee : goal.returns-clause-fee
returns-clause-fee c = fee-fields
