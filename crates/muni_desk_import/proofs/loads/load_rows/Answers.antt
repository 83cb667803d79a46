use Rattle.std.proofs.Common.{◌≡◌, ◌∙◌, ◌++◌, take, Err, ap, refl, arith}
use Rattle.std.proofs.lemmas.Result.{err_from_is_err_and}
use Rattle.muni_book.specs.Rules.{book_rules}
use Rattle.muni_desk_import.proofs.LoadLemmas.{all-loaded, block-done, block-fault, last-fault, load-done, load-unread, loaded-start, only-written, piece-taken}
use Rattle.muni_desk_import.proofs.loads.load_rows.Goals as goal

pub pieces-init : goal.pieces-init
pieces-init g c = record {
  at = rw c.new-blocks.ensures (loaded-start (book_rules c.args.book.now.limit (g.E.Encloser.ends c.args.book.now.calculator.now.encloser.now)) (g.I.Source.left c.args.input.now) (g.K.Keeper.tables c.args.keeper.now) (g.O.Sink.bytes c.args.output.now));
  takes = refl;
  tells = refl;
  later = omega arith;
  puts = refl;
  lent_as = refl;
}

pub returns-in_err-count-clause-loaded : goal.returns-in_err-count-clause-loaded
returns-in_err-count-clause-loaded g c =
    let p = err_from_is_err_and c.from_residual.result c.from_residual.ensures.1 in
    (load-unread g.I.Source g.K.Keeper g.O.Sink (book_rules c.args.book.now.limit (g.E.Encloser.ends c.args.book.now.calculator.now.encloser.now)) c.pieces.blocks c.pieces.done c.from_residual.result
    c.args.input.now c.pieces.input c.take_piece.new.input c.args.keeper.now c.pieces.keeper c.args.output.now c.pieces.output
    (p.1 ∙ ap Err (p.2 ∙ c.in_err-count.ensures.only)) c.pieces.invariant.at c.in_err-count.ensures.unchanged (omega (arith, c.pieces.invariant.takes, c.in_err-count.ensures.failed))).0

-- ---- the last row
pub returns-in_err-rows_after-clause-loaded : goal.returns-in_err-rows_after-clause-loaded
returns-in_err-rows_after-clause-loaded g c =
    let p = err_from_is_err_and c.from_residual-in_err-rows_after.result c.from_residual-in_err-rows_after.ensures.1 in
    (last-fault g.I.Source g.K.Keeper g.O.Sink (book_rules c.args.book.now.limit (g.E.Encloser.ends c.args.book.now.calculator.now.encloser.now)) c.pieces.blocks (take c.in_ok-count.count c.take_piece.new.room) c.deref.result.now c.pieces.done c.in_err-rows_after.field-0.0
    c.from_residual-in_err-rows_after.result c.args.input.now c.pieces.input c.take_piece.new.input c.args.keeper.now c.pieces.keeper c.rows_after.new.keeper c.args.output.now c.pieces.output c.rows_after.new.output
    (p.1 ∙ ap Err p.2) (c.deref.ensures.value ∙ c.rest.ensures) c.pieces.invariant.at c.in_ok-count.ensures.taken (ap (λ n. take n c.take_piece.new.room) c.if-count-eq0.true) (c.in_ok-count.ensures.end c.if-count-eq0.true)
    c.pieces.invariant.puts c.in_err-rows_after.ensures.applied).0

pub returns-in_err-rows_after-clause-reported : goal.returns-in_err-rows_after-clause-reported
returns-in_err-rows_after-clause-reported g c =
    let p = err_from_is_err_and c.from_residual-in_err-rows_after.result c.from_residual-in_err-rows_after.ensures.1 in
    (last-fault g.I.Source g.K.Keeper g.O.Sink (book_rules c.args.book.now.limit (g.E.Encloser.ends c.args.book.now.calculator.now.encloser.now)) c.pieces.blocks (take c.in_ok-count.count c.take_piece.new.room) c.deref.result.now c.pieces.done c.in_err-rows_after.field-0.0
    c.from_residual-in_err-rows_after.result c.args.input.now c.pieces.input c.take_piece.new.input c.args.keeper.now c.pieces.keeper c.rows_after.new.keeper c.args.output.now c.pieces.output c.rows_after.new.output
    (p.1 ∙ ap Err p.2) (c.deref.ensures.value ∙ c.rest.ensures) c.pieces.invariant.at c.in_ok-count.ensures.taken (ap (λ n. take n c.take_piece.new.room) c.if-count-eq0.true) (c.in_ok-count.ensures.end c.if-count-eq0.true)
    c.pieces.invariant.puts c.in_err-rows_after.ensures.applied).1

pub returns-then-count-eq0-clause-loaded : goal.returns-then-count-eq0-clause-loaded
returns-then-count-eq0-clause-loaded g c =
    let R = book_rules c.args.book.now.limit (g.E.Encloser.ends c.args.book.now.calculator.now.encloser.now) in
    let held : c.deref.result.now ≡ c.pieces.blocks = c.deref.ensures.value ∙ c.rest.ensures in
    let applied = rw held at c.in_ok-rows_after.ensures.applied in
    (load-done (Unit {0}) g.I.Source g.K.Keeper g.O.Sink R tt c.args.input.now c.take_piece.new.input c.args.keeper.now c.rows_after.new.keeper c.args.output.now c.rows_after.new.output
    (all-loaded R c.pieces.blocks (take c.in_ok-count.count c.take_piece.new.room) c.pieces.done (g.I.Source.left c.args.input.now) (g.I.Source.left c.pieces.input) (g.I.Source.left c.take_piece.new.input)
    (g.K.Keeper.tables c.args.keeper.now) (g.K.Keeper.tables c.pieces.keeper) (g.K.Keeper.tables c.rows_after.new.keeper) (g.O.Sink.bytes c.args.output.now) (g.O.Sink.bytes c.pieces.output) (g.O.Sink.bytes c.rows_after.new.output)
    c.pieces.invariant.at c.in_ok-count.ensures.taken (ap (λ n. take n c.take_piece.new.room) c.if-count-eq0.true) (c.in_ok-count.ensures.end c.if-count-eq0.true) applied.0)).0

pub returns-then-count-eq0-clause-reported : goal.returns-then-count-eq0-clause-reported
returns-then-count-eq0-clause-reported g c =
    let R = book_rules c.args.book.now.limit (g.E.Encloser.ends c.args.book.now.calculator.now.encloser.now) in
    let held : c.deref.result.now ≡ c.pieces.blocks = c.deref.ensures.value ∙ c.rest.ensures in
    let applied = rw held at c.in_ok-rows_after.ensures.applied in
    (load-done (Unit {0}) g.I.Source g.K.Keeper g.O.Sink R tt c.args.input.now c.take_piece.new.input c.args.keeper.now c.rows_after.new.keeper c.args.output.now c.rows_after.new.output
    (all-loaded R c.pieces.blocks (take c.in_ok-count.count c.take_piece.new.room) c.pieces.done (g.I.Source.left c.args.input.now) (g.I.Source.left c.pieces.input) (g.I.Source.left c.take_piece.new.input)
    (g.K.Keeper.tables c.args.keeper.now) (g.K.Keeper.tables c.pieces.keeper) (g.K.Keeper.tables c.rows_after.new.keeper) (g.O.Sink.bytes c.args.output.now) (g.O.Sink.bytes c.pieces.output) (g.O.Sink.bytes c.rows_after.new.output)
    c.pieces.invariant.at c.in_ok-count.ensures.taken (ap (λ n. take n c.take_piece.new.room) c.if-count-eq0.true) (c.in_ok-count.ensures.end c.if-count-eq0.true) applied.0)).1

-- ---- a block
pub returns-in_err-block-clause-takes : goal.returns-in_err-block-clause-takes
returns-in_err-block-clause-takes g c =
    let piece = take c.in_ok-count.count c.take_piece.new.room in (
      c.pieces.invariant.at.came ++ piece,
      piece-taken (book_rules c.args.book.now.limit (g.E.Encloser.ends c.args.book.now.calculator.now.encloser.now)) c.pieces.blocks piece c.pieces.done (g.I.Source.left c.args.input.now) (g.I.Source.left c.pieces.input) (g.I.Source.left c.take_piece.new.input)
          (g.K.Keeper.tables c.args.keeper.now) (g.K.Keeper.tables c.pieces.keeper) (g.O.Sink.bytes c.args.output.now) (g.O.Sink.bytes c.pieces.output) c.pieces.invariant.at c.in_ok-count.ensures.taken,
    )

pub returns-in_err-done-clause-takes : goal.returns-in_err-done-clause-takes
returns-in_err-done-clause-takes g c =
    let piece = take c.in_ok-count.count c.take_piece.new.room in (
      c.pieces.invariant.at.came ++ piece,
      piece-taken (book_rules c.args.book.now.limit (g.E.Encloser.ends c.args.book.now.calculator.now.encloser.now)) c.pieces.blocks piece c.pieces.done (g.I.Source.left c.args.input.now) (g.I.Source.left c.pieces.input) (g.I.Source.left c.take_piece.new.input)
          (g.K.Keeper.tables c.args.keeper.now) (g.K.Keeper.tables c.pieces.keeper) (g.O.Sink.bytes c.args.output.now) (g.O.Sink.bytes c.pieces.output) c.pieces.invariant.at c.in_ok-count.ensures.taken,
    )

pub returns-in_err-done-clause-loaded : goal.returns-in_err-done-clause-loaded
returns-in_err-done-clause-loaded g c =
    let p = err_from_is_err_and c.from_residual-in_err-done.result c.from_residual-in_err-done.ensures.1 in
    (block-fault g.I.Source g.K.Keeper g.O.Sink (book_rules c.args.book.now.limit (g.E.Encloser.ends c.args.book.now.calculator.now.encloser.now)) c.pieces.blocks (take c.in_ok-count.count c.take_piece.new.room) c.in_ok-block.block.items c.add.new.self c.deref-in-pieces.result.now c.pieces.done
    c.in_err-done.field-0.0 c.from_residual-in_err-done.result c.args.input.now c.pieces.input c.take_piece.new.input c.args.keeper.now c.pieces.keeper c.rows_after-in-pieces.new.keeper c.args.output.now c.pieces.output c.rows_after-in-pieces.new.output
    (p.1 ∙ ap Err p.2) c.deref-in-pieces.ensures.value c.pieces.invariant.at c.in_ok-count.ensures.taken c.in_ok-block.ensures.cuts c.pieces.invariant.puts c.in_err-done.ensures.applied).0

pub returns-in_err-done-clause-reported : goal.returns-in_err-done-clause-reported
returns-in_err-done-clause-reported g c =
    let p = err_from_is_err_and c.from_residual-in_err-done.result c.from_residual-in_err-done.ensures.1 in
    (block-fault g.I.Source g.K.Keeper g.O.Sink (book_rules c.args.book.now.limit (g.E.Encloser.ends c.args.book.now.calculator.now.encloser.now)) c.pieces.blocks (take c.in_ok-count.count c.take_piece.new.room) c.in_ok-block.block.items c.add.new.self c.deref-in-pieces.result.now c.pieces.done
    c.in_err-done.field-0.0 c.from_residual-in_err-done.result c.args.input.now c.pieces.input c.take_piece.new.input c.args.keeper.now c.pieces.keeper c.rows_after-in-pieces.new.keeper c.args.output.now c.pieces.output c.rows_after-in-pieces.new.output
    (p.1 ∙ ap Err p.2) c.deref-in-pieces.ensures.value c.pieces.invariant.at c.in_ok-count.ensures.taken c.in_ok-block.ensures.cuts c.pieces.invariant.puts c.in_err-done.ensures.applied).1

pub pieces-preserved : goal.pieces-preserved
pieces-preserved g c =
    let applied = rw c.deref-in-pieces.ensures.value at c.in_ok-done.ensures.applied in
    record {
      at = block-done (book_rules c.args.book.now.limit (g.E.Encloser.ends c.args.book.now.calculator.now.encloser.now)) c.pieces.blocks (take c.in_ok-count.count c.take_piece.new.room) c.in_ok-block.block.items c.add.new.self c.pieces.done _
          (g.I.Source.left c.args.input.now) (g.I.Source.left c.pieces.input) (g.I.Source.left c.take_piece.new.input) (g.K.Keeper.tables c.args.keeper.now) (g.K.Keeper.tables c.pieces.keeper) (g.K.Keeper.tables c.rows_after-in-pieces.new.keeper)
          (g.O.Sink.bytes c.args.output.now) (g.O.Sink.bytes c.pieces.output) (g.O.Sink.bytes c.rows_after-in-pieces.new.output)
          c.pieces.invariant.at c.in_ok-count.ensures.taken c.in_ok-block.ensures.cuts applied.0 applied.1;
      takes = c.in_ok-count.ensures.uncounted ∙ c.pieces.invariant.takes;
      tells = c.in_ok-done.ensures.same.tells ∙ c.pieces.invariant.tells;
      later = omega (arith, c.in_ok-done.ensures.same.later, c.pieces.invariant.later);
      puts = only-written (g.O.Sink.faults c.pieces.output) (g.O.Sink.faults c.rows_after-in-pieces.new.output) _ c.in_ok-done.ensures.writes ∙ c.pieces.invariant.puts;
      lent_as = c.in_ok-done.ensures.same.lent_as ∙ c.pieces.invariant.lent_as;
    }
