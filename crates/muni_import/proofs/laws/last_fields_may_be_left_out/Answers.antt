use Rattle.muni_import.proofs.LawLemmas.{issue-added, amendment-added, trade-added, numbered-trade-added, correction-added, numbered-correction-added}
use Rattle.muni_import.proofs.laws.last_fields_may_be_left_out.Goals as goal

pub returns-clause-issues : goal.returns-clause-issues
returns-clause-issues c = issue-added

pub returns-clause-amendments : goal.returns-clause-amendments
returns-clause-amendments c = amendment-added

pub returns-clause-fees : goal.returns-clause-fees
returns-clause-fees c = (trade-added, correction-added)

pub returns-clause-issue_numbers : goal.returns-clause-issue_numbers
returns-clause-issue_numbers c = (numbered-trade-added, numbered-correction-added)
