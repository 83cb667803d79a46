use Rattle.std.proofs.Common.{map}
use Rattle.std.specs.FinMap.{entries}
use Rattle.muni_keep.specs.Tables.{line}
use Rattle.muni_keep.specs.Trades.{own}
use Rattle.muni_check.proofs.LawLemmas.{unseen-told}
use Rattle.muni_check.proofs.laws.unseen_trades_are_told.Goals as goal

pub returns : goal.returns
returns c = λ tables desk named trade contained live unnamed. unseen-told (map line (entries (own desk tables.desks))) named trade contained live unnamed
