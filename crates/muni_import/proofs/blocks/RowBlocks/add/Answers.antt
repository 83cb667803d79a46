use Rattle.std.proofs.Common.{◌≡◌, ◌++◌, ◌∷◌, take, drop, rules}
use Rattle.muni_import.proofs.BlockLemmas.{cut-off, cuts-rows, held-behind, held-more, none-cut}
use Rattle.muni_import.proofs.blocks.RowBlocks.add.Goals as goal

pub invariant_of-self-then-end-eq0 : goal.invariant_of-self-then-end-eq0
invariant_of-self-then-end-eq0 c =
    let held : c.extend_from_slice.new.self.items ≡ c.self.inside.held.items ++ c.args.piece.now = search rules in
    rw held (held-more c.self.inside.place c.pass-end.new.self c.self.inside.held.items c.args.piece.now c.pass-end.result c.if-end-eq0.true c.self.invariant c.pass-end.ensures)

pub returns-then-end-eq0-clause-records : goal.returns-then-end-eq0-clause-records
returns-then-end-eq0-clause-records c =
    let held : c.extend_from_slice.new.self.items ≡ c.self.inside.held.items ++ c.args.piece.now = search rules in
    rw (← c.self.view_is, c.new.ensures.items, held)
    (none-cut c.pass-end.new.self (c.self.inside.held.items ++ c.args.piece.now) (held-more c.self.inside.place c.pass-end.new.self c.self.inside.held.items c.args.piece.now c.pass-end.result c.if-end-eq0.true c.self.invariant c.pass-end.ensures))

pub invariant_of-self-2 : goal.invariant_of-self-2
invariant_of-self-2 c =
    let begun : c.in_ok-begun.begun.items ≡ 10 ∷ drop c.pass-end.result c.args.piece.now = search rules in
    rw (c.replace.ensures.after, begun)
    (held-behind c.self.inside.place c.pass-end.new.self c.self.inside.held.items c.args.piece.now c.pass-end.result c.if-end-eq0.false c.pass-end.ensures)

pub returns-clause-records : goal.returns-clause-records
returns-clause-records c =
    let block : c.extend_from_slice-2.new.self.items ≡ c.self.inside.held.items ++ take c.pass-end.result c.args.piece.now = search rules in
    let begun : c.in_ok-begun.begun.items ≡ 10 ∷ drop c.pass-end.result c.args.piece.now = search rules in
    rw (← c.self.view_is, c.replace.ensures.value, c.replace.ensures.after, begun, block)
    (cut-off c.self.inside.place c.pass-end.new.self c.self.inside.held.items c.args.piece.now c.pass-end.result c.if-end-eq0.false c.self.invariant c.pass-end.ensures)

-- so are its rows
pub returns-then-end-eq0-clause-cuts : goal.returns-then-end-eq0-clause-cuts
returns-then-end-eq0-clause-cuts c = cuts-rows _ _ _ (returns-then-end-eq0-clause-records c)

pub returns-clause-cuts : goal.returns-clause-cuts
returns-clause-cuts c = cuts-rows _ _ _ (returns-clause-records c)
