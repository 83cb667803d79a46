use Rattle.std.proofs.Common.{◌∙◌, Err, ap, refl, arith}
use Rattle.std.proofs.lemmas.Result.{err_from_is_err_and}
use Rattle.muni_check.specs.Judging.{over}
use Rattle.muni_check.proofs.AnswerLemmas.{block-last}
use Rattle.muni_check.proofs.CheckLemmas.{block-next, block-stopped, block-unwritten, names-refused, check-stopped}
use Rattle.muni_check.proofs.OverLemmas.{next-failed, next-failed-took, next-taken, nothing-done}
use Rattle.muni_check.proofs.ToldLemmas.{if-always}
use Rattle.muni_check.proofs.command.check_over.Goals as goal

pub pieces-init : goal.pieces-init
pieces-init g c =
    let so_far = c.new-so_far.ensures in
    record {
      at_ = nothing-done (over (g.E.Encloser.ends c.args.calculator.now.encloser.now) c.args.desk.now (g.K.Keeper.tables c.args.keeper.now)) (g.I.Source.left c.args.input.now) c.new-blocks.result.held c.new-so_far.result (g.O.Sink.bytes c.args.output.now)
          c.new-blocks.ensures.held so_far.columns (record { tally = so_far.tally; named = so_far.named });
      ended = c.new-blocks.ensures.ended;
      small = rw so_far.tally (record { right = omega arith; differ = omega arith; missing = omega arith; again = omega arith; nothing = omega arith });
      sound = if-always (g.K.Keeper.tables c.args.keeper.now) _ c.new-judge.ensures.sound;
      calculator = c.new-judge.ensures.calculator;
      desk = c.new-judge.ensures.desk;
      takes = refl;
      puts = refl;
      tables = refl;
      later = omega arith;
      lent_as = refl;
    }

pub returns-in_err-block-clause-written : goal.returns-in_err-block-clause-written
returns-in_err-block-clause-written g c =
    let by = over (g.E.Encloser.ends c.args.calculator.now.encloser.now) c.args.desk.now (g.K.Keeper.tables c.args.keeper.now) in
    let left = g.I.Source.left in
    let bytes = g.O.Sink.bytes in
    let p = err_from_is_err_and c.from_residual.result c.from_residual.ensures.1 in
    rw (p.1, p.2)
    (next-failed g.I.Source by (left c.args.input.now) c.pieces.blocks c.next.new.self c.pieces.input c.next.new.input c.pieces.so_far (bytes c.args.output.now) (bytes c.pieces.output) c.in_err-block.field-0.0 c.pieces.invariant.at_ c.in_err-block.ensures)

pub returns-in_err-block-clause-takes : goal.returns-in_err-block-clause-takes
returns-in_err-block-clause-takes g c =
    let by = over (g.E.Encloser.ends c.args.calculator.now.encloser.now) c.args.desk.now (g.K.Keeper.tables c.args.keeper.now) in
    let left = g.I.Source.left in
    let bytes = g.O.Sink.bytes in
    next-failed-took g.I.Source by (left c.args.input.now) c.pieces.blocks c.next.new.self c.pieces.input c.next.new.input c.pieces.so_far (bytes c.args.output.now) (bytes c.pieces.output) c.in_err-block.field-0.0 c.pieces.invariant.at_ c.in_err-block.ensures

pub returns-in_err-lines-clause-written : goal.returns-in_err-lines-clause-written
returns-in_err-lines-clause-written g c =
    let by = over (g.E.Encloser.ends c.args.calculator.now.encloser.now) c.args.desk.now (g.K.Keeper.tables c.args.keeper.now) in
    let left = g.I.Source.left in
    let bytes = g.O.Sink.bytes in
    let taken = next-taken g.I.Source by (left c.args.input.now) c.pieces.blocks c.next.new.self c.pieces.input c.next.new.input c.pieces.so_far (bytes c.args.output.now) (bytes c.pieces.output) c.in_ok-block.block c.pieces.invariant.at_ c.in_ok-block.ensures in
    let p = err_from_is_err_and c.from_residual-in_err-lines.result c.from_residual-in_err-lines.ensures.1 in
    let many = rw c.deref.ensures.value at c.in_err-lines.ensures.too_many in
    rw (p.1, p.2)
    (block-stopped by (left c.args.input.now) (left c.next.new.input) (left c.next.new.input) c.next.new.self.ended c.in_ok-block.block.items c.next.new.self.held c.pieces.so_far (bytes c.args.output.now) (bytes c.pieces.output) c.in_err-lines.field-0.0 taken
    c.in_err-lines.ensures.only (λ too_large. many (ap Err too_large)))

pub returns-in_err-lines-clause-takes : goal.returns-in_err-lines-clause-takes
returns-in_err-lines-clause-takes g c =
    let by = over (g.E.Encloser.ends c.args.calculator.now.encloser.now) c.args.desk.now (g.K.Keeper.tables c.args.keeper.now) in
    let left = g.I.Source.left in
    let bytes = g.O.Sink.bytes in
    let taken = next-taken g.I.Source by (left c.args.input.now) c.pieces.blocks c.next.new.self c.pieces.input c.next.new.input c.pieces.so_far (bytes c.args.output.now) (bytes c.pieces.output) c.in_ok-block.block c.pieces.invariant.at_ c.in_ok-block.ensures in
    (taken.came, taken.taken)

pub returns-in_err-write-in-Lines-clause-takes : goal.returns-in_err-write-in-Lines-clause-takes
returns-in_err-write-in-Lines-clause-takes g c =
    let by = over (g.E.Encloser.ends c.args.calculator.now.encloser.now) c.args.desk.now (g.K.Keeper.tables c.args.keeper.now) in
    let left = g.I.Source.left in
    let bytes = g.O.Sink.bytes in
    let taken = next-taken g.I.Source by (left c.args.input.now) c.pieces.blocks c.next.new.self c.pieces.input c.next.new.input c.pieces.so_far (bytes c.args.output.now) (bytes c.pieces.output) c.in_ok-block.block c.pieces.invariant.at_ c.in_ok-block.ensures in
    (taken.came, taken.taken)

pub returns-in-BadNames-clause-takes : goal.returns-in-BadNames-clause-takes
returns-in-BadNames-clause-takes g c =
    let by = over (g.E.Encloser.ends c.args.calculator.now.encloser.now) c.args.desk.now (g.K.Keeper.tables c.args.keeper.now) in
    let left = g.I.Source.left in
    let bytes = g.O.Sink.bytes in
    let taken = next-taken g.I.Source by (left c.args.input.now) c.pieces.blocks c.next.new.self c.pieces.input c.next.new.input c.pieces.so_far (bytes c.args.output.now) (bytes c.pieces.output) c.in_ok-block.block c.pieces.invariant.at_ c.in_ok-block.ensures in
    (taken.came, taken.taken)

pub returns-then-blocks-clause-takes : goal.returns-then-blocks-clause-takes
returns-then-blocks-clause-takes g c =
    let by = over (g.E.Encloser.ends c.args.calculator.now.encloser.now) c.args.desk.now (g.K.Keeper.tables c.args.keeper.now) in
    let left = g.I.Source.left in
    let bytes = g.O.Sink.bytes in
    let taken = next-taken g.I.Source by (left c.args.input.now) c.pieces.blocks c.next.new.self c.pieces.input c.next.new.input c.pieces.so_far (bytes c.args.output.now) (bytes c.pieces.output) c.in_ok-block.block c.pieces.invariant.at_ c.in_ok-block.ensures in
    (taken.came, taken.taken)

pub returns-in_err-write-in-Lines-clause-written : goal.returns-in_err-write-in-Lines-clause-written
returns-in_err-write-in-Lines-clause-written g c =
    let by = over (g.E.Encloser.ends c.args.calculator.now.encloser.now) c.args.desk.now (g.K.Keeper.tables c.args.keeper.now) in
    let left = g.I.Source.left in
    let bytes = g.O.Sink.bytes in
    let was = c.pieces.invariant in
    let taken = next-taken g.I.Source by (left c.args.input.now) c.pieces.blocks c.next.new.self c.pieces.input c.next.new.input c.pieces.so_far (bytes c.args.output.now) (bytes c.pieces.output) c.in_ok-block.block c.pieces.invariant.at_ c.in_ok-block.ensures in
    let does = rw (was.calculator, was.desk, was.tables, c.deref.ensures.value, c.in-Lines.is) at c.in_ok-lines.ensures.does in
    let part = rw c.deref-in-Lines.ensures.value at c.in_err-write-in-Lines.ensures.part in
    let p = err_from_is_err_and c.from_residual-in_err-write-in-Lines.result c.from_residual-in_err-write-in-Lines.ensures.1 in
    rw (p.1, p.2, c.in_err-write-in-Lines.ensures.only)
    (block-unwritten by (left c.args.input.now) (left c.next.new.input) (left c.next.new.input) c.next.new.self.ended c.in_ok-block.block.items c.next.new.self.held c.pieces.so_far c.do_block.new.so_far (bytes c.args.output.now) (bytes c.pieces.output) (bytes c.write.new.output) c.in-Lines.lines taken does part)

pub returns-in-BadNames-clause-written : goal.returns-in-BadNames-clause-written
returns-in-BadNames-clause-written g c =
    let by = over (g.E.Encloser.ends c.args.calculator.now.encloser.now) c.args.desk.now (g.K.Keeper.tables c.args.keeper.now) in
    let left = g.I.Source.left in
    let bytes = g.O.Sink.bytes in
    let was = c.pieces.invariant in
    let taken = next-taken g.I.Source by (left c.args.input.now) c.pieces.blocks c.next.new.self c.pieces.input c.next.new.input c.pieces.so_far (bytes c.args.output.now) (bytes c.pieces.output) c.in_ok-block.block c.pieces.invariant.at_ c.in_ok-block.ensures in
    let does = rw (was.calculator, was.desk, was.tables, c.deref.ensures.value, c.in-BadNames.is) at c.in_ok-lines.ensures.does in
    names-refused by (left c.args.input.now) (left c.next.new.input) (left c.next.new.input) c.next.new.self.ended c.in_ok-block.block.items c.next.new.self.held c.pieces.so_far c.do_block.new.so_far (bytes c.args.output.now) (bytes c.pieces.output) (bytes c.refuse_names.new.output) c.in-BadNames.fault c.refuse_names.result taken does
    c.refuse_names.ensures.written

pub returns-then-blocks-clause-written : goal.returns-then-blocks-clause-written
returns-then-blocks-clause-written g c =
    let by = over (g.E.Encloser.ends c.args.calculator.now.encloser.now) c.args.desk.now (g.K.Keeper.tables c.args.keeper.now) in
    let left = g.I.Source.left in
    let bytes = g.O.Sink.bytes in
    let was = c.pieces.invariant in
    let taken = next-taken g.I.Source by (left c.args.input.now) c.pieces.blocks c.next.new.self c.pieces.input c.next.new.input c.pieces.so_far (bytes c.args.output.now) (bytes c.pieces.output) c.in_ok-block.block c.pieces.invariant.at_ c.in_ok-block.ensures in
    let does = rw (was.calculator, was.desk, was.tables, c.deref.ensures.value, c.in-Lines.is) at c.in_ok-lines.ensures.does in
    let written = rw c.deref-in-Lines.ensures.value at c.in_ok-write-in-Lines.ensures.written in
    let ends = rw (c.in_ok-lines.ensures.unchanged, was.tables) at c.finish.ensures.written in
    block-last by (left c.args.input.now) (left c.next.new.input) c.next.new.self.ended c.in_ok-block.block.items c.next.new.self.held c.pieces.so_far c.do_block.new.so_far (bytes c.args.output.now) (bytes c.pieces.output) (bytes c.write.new.output) (bytes c.finish.new.output) c.in-Lines.lines c.finish.result c.if-blocks.true taken does written ends

pub returns-clause-written : goal.returns-clause-written
returns-clause-written g c =
    check-stopped (over (g.E.Encloser.ends c.args.calculator.now.encloser.now) c.args.desk.now (g.K.Keeper.tables c.args.keeper.now)) (g.I.Source.left c.args.input.now) (g.I.Source.left c.pieces.input) (g.I.Source.left c.pieces.input) c.pieces.blocks.held c.pieces.so_far (g.O.Sink.bytes c.args.output.now) (g.O.Sink.bytes c.pieces.output) c.pieces.invariant.at_

pub pieces-preserved : goal.pieces-preserved
pieces-preserved g c =
    let by = over (g.E.Encloser.ends c.args.calculator.now.encloser.now) c.args.desk.now (g.K.Keeper.tables c.args.keeper.now) in
    let left = g.I.Source.left in
    let bytes = g.O.Sink.bytes in
    let was = c.pieces.invariant in
    let taken = next-taken g.I.Source by (left c.args.input.now) c.pieces.blocks c.next.new.self c.pieces.input c.next.new.input c.pieces.so_far (bytes c.args.output.now) (bytes c.pieces.output) c.in_ok-block.block c.pieces.invariant.at_ c.in_ok-block.ensures in
    let does = rw (was.calculator, was.desk, was.tables, c.deref.ensures.value, c.in-Lines.is) at c.in_ok-lines.ensures.does in
    let did = c.in_ok-lines.ensures in
    let written = rw c.deref-in-Lines.ensures.value at c.in_ok-write-in-Lines.ensures.written in
    record {
      at_ = block-next by (left c.args.input.now) (left c.next.new.input) c.next.new.self.ended c.in_ok-block.block.items c.next.new.self.held c.pieces.so_far c.do_block.new.so_far (bytes c.args.output.now) (bytes c.pieces.output) (bytes c.write.new.output) c.in-Lines.lines c.if-blocks.false taken does written;
      ended = c.if-blocks.false;
      small = did.small;
      sound = rw was.tables at did.sound;
      calculator = rw did.calculator was.calculator;
      desk = rw did.desk was.desk;
      takes = c.in_ok-block.ensures.uncounted ∙ was.takes;
      puts = c.in_ok-write-in-Lines.ensures.uncounted ∙ was.puts;
      tables = did.unchanged ∙ was.tables;
      later = omega (arith, did.same.later, was.later);
      lent_as = did.same.lent_as ∙ was.lent_as;
    }
