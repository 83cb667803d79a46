use Rattle.std.proofs.Common.{◌≡◌, ◌+◌, ◌∙◌, Err, ap, refl, arith}
use Rattle.std.proofs.lemmas.Result.{err_from_is_err_and}
use Rattle.muni_book.specs.Rules.{book_rules}
use Rattle.muni_import.specs.Rows.{rows_of}
use Rattle.muni_desk_import.proofs.FaultLemmas.{unanswered}
use Rattle.muni_desk_import.proofs.ImportLemmas.{at-start, row-done, all-done, first-done, before-done, most-done, part-done, few-done}
use Rattle.muni_desk_import.proofs.rows.rows_after.Goals as goal

pub loop-count-init : goal.loop-count-init
loop-count-init g c = record {
  at = rw c.new-rows.ensures (at-start (c.args.before + 1) (book_rules c.args.book.now.limit (g.E.Encloser.ends c.args.book.now.calculator.now.encloser.now)) (rows_of c.args.text.now) (g.K.Keeper.tables c.args.keeper.now) (g.O.Sink.bytes c.args.output.now));
  counted = omega arith;
  tells = refl;
  later = omega arith;
  puts = refl;
  lent_as = refl;
}

pub returns-in-None-clause-applied : goal.returns-in-None-clause-applied
returns-in-None-clause-applied g c =
    let next = rw c.in-None.is at c.in_ok-row.ensures.next in
    let all = all-done (c.args.before + 1) (book_rules c.args.book.now.limit (g.E.Encloser.ends c.args.book.now.calculator.now.encloser.now)) (rows_of c.args.text.now) c.loop-count.rows c.next_row.new.self c.loop-count.count
    (g.K.Keeper.tables c.args.keeper.now) (g.K.Keeper.tables c.loop-count.keeper) (g.O.Sink.bytes c.args.output.now) (g.O.Sink.bytes c.loop-count.output) c.loop-count.invariant.at next in
    (all.0, omega (arith, c.loop-count.invariant.counted, all.1))

pub returns-in_err-row-clause-applied : goal.returns-in_err-row-clause-applied
returns-in_err-row-clause-applied g c =
    let p = err_from_is_err_and c.from_residual.result c.from_residual.ensures.1 in
    rw (p.1, p.2)
    (first-done (c.args.before + 1) (book_rules c.args.book.now.limit (g.E.Encloser.ends c.args.book.now.calculator.now.encloser.now)) (rows_of c.args.text.now) c.loop-count.rows c.loop-count.count
    (g.K.Keeper.tables c.args.keeper.now) (g.K.Keeper.tables c.loop-count.keeper) (g.O.Sink.bytes c.args.output.now) (g.O.Sink.bytes c.loop-count.output) c.loop-count.invariant.at)

pub returns-in_err-place-clause-applied : goal.returns-in_err-place-clause-applied
returns-in_err-place-clause-applied g c =
    let next = rw c.in-Some.is at c.in_ok-row.ensures.next in
    let p = err_from_is_err_and c.from_residual-in_err-place.result c.from_residual-in_err-place.ensures.1 in
    rw (p.1, p.2, c.in_err-place.ensures.only)
    (most-done c.args.before (book_rules c.args.book.now.limit (g.E.Encloser.ends c.args.book.now.calculator.now.encloser.now)) (rows_of c.args.text.now) c.loop-count.rows c.next_row.new.self c.loop-count.count c.in-Some.row
    (g.K.Keeper.tables c.args.keeper.now) (g.K.Keeper.tables c.loop-count.keeper) (g.O.Sink.bytes c.args.output.now) (g.O.Sink.bytes c.loop-count.output) c.loop-count.invariant.at next
    (omega (arith, c.loop-count.invariant.counted, c.in_err-place.ensures.last)))

pub returns-in_err-said-clause-applied : goal.returns-in_err-said-clause-applied
returns-in_err-said-clause-applied g c =
    let R = book_rules c.args.book.now.limit (g.E.Encloser.ends c.args.book.now.calculator.now.encloser.now) in
    let next = rw c.in-Some.is at c.in_ok-row.ensures.next in
    let p = err_from_is_err_and c.from_residual-in_err-said.result c.from_residual-in_err-said.ensures.1 in
    unanswered g.K.Keeper g.O.Sink R c.args.before (rows_of c.args.text.now) c.in_err-said.field-0.0 c.from_residual-in_err-said.result c.args.keeper.now c.said_of.new.keeper c.args.output.now c.loop-count.output
    (p.1 ∙ ap Err p.2)
    (before-done (c.args.before + 1) R (rows_of c.args.text.now) c.loop-count.rows c.next_row.new.self c.loop-count.count c.in-Some.row (g.K.Keeper.tables c.args.keeper.now) (g.K.Keeper.tables c.loop-count.keeper) (g.K.Keeper.tables c.said_of.new.keeper)
    (g.O.Sink.bytes c.args.output.now) (g.O.Sink.bytes c.loop-count.output) c.loop-count.invariant.at next c.in_err-said.ensures.unchanged)

pub returns-in_err-write_line-clause-applied : goal.returns-in_err-write_line-clause-applied
returns-in_err-write_line-clause-applied g c =
    let R = book_rules c.args.book.now.limit (g.E.Encloser.ends c.args.book.now.calculator.now.encloser.now) in
    let next = rw c.in-Some.is at c.in_ok-row.ensures.next in
    let p = err_from_is_err_and c.from_residual-in_err-write_line.result c.from_residual-in_err-write_line.ensures.1 in
    let here : c.in_ok-place.place ≡ c.args.before + 1 + c.loop-count.count = omega (arith, c.in_ok-place.ensures, c.loop-count.invariant.counted) in
    let part = part-done (c.args.before + 1) R (rows_of c.args.text.now) c.loop-count.rows c.next_row.new.self c.loop-count.count c.in_ok-place.place c.in-Some.row c.in_ok-said.said
    (g.K.Keeper.tables c.args.keeper.now) (g.K.Keeper.tables c.loop-count.keeper) (g.K.Keeper.tables c.said_of.new.keeper)
    (g.O.Sink.bytes c.args.output.now) (g.O.Sink.bytes c.loop-count.output) (g.O.Sink.bytes c.write_line.new.output)
    c.loop-count.invariant.at next here c.in_ok-said.ensures.said c.in_ok-said.ensures.came c.in_err-write_line.ensures.part in
    rw (p.1, p.2, c.in_err-write_line.ensures.only) (part, omega (arith, c.loop-count.invariant.puts, c.in_err-write_line.ensures.failed))

pub loop-count-preserved : goal.loop-count-preserved
loop-count-preserved g c =
    let R = book_rules c.args.book.now.limit (g.E.Encloser.ends c.args.book.now.calculator.now.encloser.now) in
    let next = rw c.in-Some.is at c.in_ok-row.ensures.next in
    let here : c.in_ok-place.place ≡ c.args.before + 1 + c.loop-count.count = omega (arith, c.in_ok-place.ensures, c.loop-count.invariant.counted) in
    record {
      at = row-done (c.args.before + 1) R (rows_of c.args.text.now) c.loop-count.rows c.next_row.new.self c.loop-count.count c.in_ok-place.place c.in-Some.row c.in_ok-said.said
          (g.K.Keeper.tables c.args.keeper.now) (g.K.Keeper.tables c.loop-count.keeper) (g.K.Keeper.tables c.said_of.new.keeper)
          (g.O.Sink.bytes c.args.output.now) (g.O.Sink.bytes c.loop-count.output) (g.O.Sink.bytes c.write_line.new.output)
          c.loop-count.invariant.at next here c.in_ok-said.ensures.said c.in_ok-said.ensures.came c.in_ok-write_line.ensures.written;
      counted = omega (arith, c.in_ok-place.ensures, c.loop-count.invariant.counted);
      tells = c.in_ok-said.ensures.same.tells ∙ c.loop-count.invariant.tells;
      later = omega (arith, c.in_ok-said.ensures.same.later, c.loop-count.invariant.later);
      puts = c.in_ok-write_line.ensures.uncounted ∙ c.loop-count.invariant.puts;
      lent_as = c.in_ok-said.ensures.same.lent_as ∙ c.loop-count.invariant.lent_as;
    }

pub unreachable-requires : goal.unreachable-requires
unreachable-requires g c =
    omega (arith, few-done (c.args.before + 1) (book_rules c.args.book.now.limit (g.E.Encloser.ends c.args.book.now.calculator.now.encloser.now)) c.args.text.now c.loop-count.rows c.loop-count.count (g.K.Keeper.tables c.args.keeper.now) (g.K.Keeper.tables c.loop-count.keeper) (g.O.Sink.bytes c.args.output.now) (g.O.Sink.bytes c.loop-count.output) c.loop-count.invariant.at)
