use Rattle.std.proofs.Common.{◌∙◌}
use Rattle.muni_msg.proofs.LettersLemmas.{front_read}
use Rattle.muni_msg.proofs.names.first_eight.Goals as goal

pub returns-clause-front : goal.returns-clause-front
returns-clause-front c = c.from_be_bytes.ensures ∙ front_read c.args.bytes.now c.requires
