-- What was moved and what is left make up the bytes from before.
use Rattle.std.proofs.Common.{drop, arith}
use Rattle.std.proofs.lemmas.Grind.{common_steps}
use Rattle.std.proofs.lemmas.List.{take-append-drop, drop-drop}
use Rattle.muni_edge.proofs.source.MemSourceSource.take.Goals as goal

pub returns-clause-moved : goal.returns-clause-moved
returns-clause-moved c =
    let bytes = c.self.inside.bytes.items in
    let taken = c.self.inside.taken in
    let count = c.fill_front-count.result in
    let both = take-append-drop count (drop taken bytes) in
    let rest = drop-drop count taken bytes in
    grind (arith, common_steps, both, rest)
