use Rattle.muni_days.proofs.ReadingLemmas.{text-read, read-text, formed-not_form, other-form, missing-formed, missing-text, none-missing}
use Rattle.muni_days.proofs.laws.days_are_read_as_they_are_written.Goals as goal

pub returns-clause-days : goal.returns-clause-days
returns-clause-days c = λ text day. (read-text text day, text-read text day)

pub returns-clause-form : goal.returns-clause-form
returns-clause-form c = λ text. (formed-not_form text, other-form text)

pub returns-clause-calendar : goal.returns-clause-calendar
returns-clause-calendar c = λ text. (λ refused. (missing-formed text refused, missing-text text refused), λ formed. none-missing text formed.0 formed.1)
