use Rattle.muni_journal_record.proofs.BodyLaws.{what_is_written_is_read, one_put_has_one_body}
use Rattle.muni_journal_record.proofs.laws.bodies_are_puts.Goals as goal

pub returns-clause-read : goal.returns-clause-read
returns-clause-read c = what_is_written_is_read

pub returns-clause-one : goal.returns-clause-one
returns-clause-one c = one_put_has_one_body
