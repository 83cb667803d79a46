use Rattle.std.proofs.Common.{◌≡◌, ◌∙◌, ◌++◌, ℕ, List, None, subst, arith}
use Rattle.std.specs.Prelude.{IfSome}
use Rattle.std.proofs.lemmas.Result.{err_from_is_err_and}
use Rattle.muni_keep.specs.Tables.{Tables}
use Rattle.muni_desk_export.specs.Counts.{desk_lines_after}
use Rattle.muni_desk_export.proofs.WalkLemmas.{looked, unput, without-memory, pieces-part, piece-part, piece-more, stays-on, failed-on}
use Rattle.muni_desk_export.proofs.counts.write_desk_lines.Goals as goal

pub returns-in_err-line : goal.returns-in_err-line
returns-in_err-line g c =
    let all : Tables → List ℕ = λ t. desk_lines_after t None in
    let before = c.desks.invariant in
    let p = err_from_is_err_and c.from_residual.result c.from_residual.ensures.1 in
    looked g.K.Keeper g.O.Sink all p.0 c.in_err-line.field-0.0 c.from_residual.result c.args.keeper.now c.next_desk_line.new.keeper c.args.output.now c.desks.output
    p.1 p.2
    (pieces-part (g.K.Keeper.tables c.args.keeper.now) (g.O.Sink.bytes c.args.output.now) (g.O.Sink.bytes c.desks.output) all (λ t. desk_lines_after t c.desks.desk) before.wrote)
    (stays-on g.K.Keeper g.O.Sink c.next_desk_line.result c.args.keeper.now c.desks.keeper c.next_desk_line.new.keeper c.args.output.now c.desks.output before.stays c.next_desk_line.ensures.looks)
    (failed-on g.K.Keeper g.O.Sink c.next_desk_line.result c.in_err-line.field-0.0 c.args.keeper.now c.desks.keeper c.next_desk_line.new.keeper c.args.output.now c.desks.output before.stays c.next_desk_line.ensures.looks c.in_err-line.was)

pub returns-in_err-write-in-Some : goal.returns-in_err-write-in-Some
returns-in_err-write-in-Some g c =
    let told = g.K.Keeper.tables c.args.keeper.now in
    let all : Tables → List ℕ = λ t. desk_lines_after t None in
    let before = c.desks.invariant in
    let looks = c.next_desk_line.ensures.looks in
    let text = c.in-Some.line.items in
    let next = subst (λ told. IfSome told (λ t. desk_lines_after t c.desks.desk ≡ text ++ desk_lines_after t c.next_desk_line.new.desk)) before.stays.unchanged (rw c.in-Some.is at c.in_ok-line.ensures.next) in
    let p = err_from_is_err_and c.from_residual-in_err-write-in-Some.result c.from_residual-in_err-write-in-Some.ensures.1 in
    unput g.K.Keeper g.O.Sink all p.0 c.from_residual-in_err-write-in-Some.result c.args.keeper.now c.next_desk_line.new.keeper c.args.output.now c.write.new.output
    p.1 (p.2 ∙ c.in_err-write-in-Some.ensures.only)
    (piece-part told (g.O.Sink.bytes c.args.output.now) (g.O.Sink.bytes c.desks.output) (g.O.Sink.bytes c.write.new.output) all (λ t. desk_lines_after t c.desks.desk) (λ t. desk_lines_after t c.next_desk_line.new.desk) text before.wrote next
    (rw c.as_slice.ensures.value at c.in_err-write-in-Some.ensures.part))
    (looks.unchanged ∙ before.stays.unchanged) (omega (arith, before.stays.later, looks.later)) (looks.lent_as ∙ before.stays.lent_as)
    (omega (arith, before.stays.puts, c.write.ensures.later)) (rw before.stays.puts at c.in_err-write-in-Some.ensures.failed)

pub desks-preserved : goal.desks-preserved
desks-preserved g c =
    let told = g.K.Keeper.tables c.args.keeper.now in
    let before = c.desks.invariant in
    let looks = c.next_desk_line.ensures.looks in
    let text = c.in-Some.line.items in
    let next = subst (λ told. IfSome told (λ t. desk_lines_after t c.desks.desk ≡ text ++ desk_lines_after t c.next_desk_line.new.desk)) before.stays.unchanged (rw c.in-Some.is at c.in_ok-line.ensures.next) in
    record {
      wrote = piece-more told (g.O.Sink.bytes c.args.output.now) (g.O.Sink.bytes c.desks.output) (g.O.Sink.bytes c.write.new.output) (λ t. desk_lines_after t None) (λ t. desk_lines_after t c.desks.desk) (λ t. desk_lines_after t c.next_desk_line.new.desk) text before.wrote next
          (rw c.as_slice.ensures.value at c.in_ok-write-in-Some.ensures.written);
      stays = record {
        unchanged = looks.unchanged ∙ before.stays.unchanged;
        later = omega (arith, before.stays.later, looks.later);
        lent_as = looks.lent_as ∙ before.stays.lent_as;
        puts = c.in_ok-write-in-Some.ensures.uncounted ∙ before.stays.puts;
      };
    }

pub returns : goal.returns
returns g c =
    let all : Tables → List ℕ = λ t. desk_lines_after t None in
    without-memory g.K.Keeper g.O.Sink all c.args.keeper.now c.desks.keeper c.args.output.now c.desks.output
    (pieces-part (g.K.Keeper.tables c.args.keeper.now) (g.O.Sink.bytes c.args.output.now) (g.O.Sink.bytes c.desks.output) all (λ t. desk_lines_after t c.desks.desk) c.desks.invariant.wrote)
    c.desks.invariant.stays
