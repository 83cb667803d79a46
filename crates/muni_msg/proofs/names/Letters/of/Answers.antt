use Rattle.muni_msg.proofs.LettersLemmas.{padded_is}
use Rattle.muni_msg.proofs.names.Letters.of.Goals as goal

pub invariant_of-result : goal.invariant_of-result
invariant_of-result g c = rw c.copy_from_slice.ensures.after (padded_is g.row.MOST c.args.text.now c.requires.0 c.requires.1 c.requires.2)
