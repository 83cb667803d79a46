use Rattle.std.proofs.Common.{refl}
use Rattle.muni_check_rows.proofs.LawLemmas.{right-ours}
use Rattle.muni_check_rows.proofs.laws.right_is_our_trade.Goals as goal

pub returns : goal.returns
returns c = λ ends told columns fields version said. right-ours ends told columns fields version _ refl said
