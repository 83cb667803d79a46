use Rattle.muni_desk.proofs.LineLawLemmas.{read-line, line-read, none-refused, refused-none}
use Rattle.muni_desk.proofs.WordLawLemmas.{names-apart}
use Rattle.muni_desk.proofs.laws.words.words_are_read_by_the_rule.Goals as goal

pub returns-clause-line : goal.returns-clause-line
returns-clause-line c = λ words line. (read-line words line, line-read words line)

pub returns-clause-refused : goal.returns-clause-refused
returns-clause-refused c = λ words. (λ none line. none-refused words line none, refused-none words)

pub returns-clause-apart : goal.returns-clause-apart
returns-clause-apart c = names-apart
