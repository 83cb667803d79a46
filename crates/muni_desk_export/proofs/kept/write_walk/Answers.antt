use Rattle.std.proofs.Common.{◌≡◌, ◌∙◌, ◌++◌, ℕ, List, subst, arith}
use Rattle.std.specs.Prelude.{IfSome}
use Rattle.std.proofs.lemmas.Result.{err_from_is_err_and}
use Rattle.muni_keep.specs.Tables.{Tables}
use Rattle.muni_desk_export.specs.Walk.{left}
use Rattle.muni_desk_export.proofs.WalkLemmas.{looked, unput, without-memory, pieces-part, piece-part, piece-more, stays-on, failed-on}
use Rattle.muni_desk_export.proofs.kept.write_walk.Goals as goal

pub returns-in_err-text : goal.returns-in_err-text
returns-in_err-text g c =
    let all : Tables → List ℕ = λ t. left t c.args.walk.now in
    let before = c.pieces.invariant in
    let p = err_from_is_err_and c.from_residual.result c.from_residual.ensures.1 in
    looked g.K.Keeper g.O.Sink all p.0 c.in_err-text.field-0.0 c.from_residual.result c.args.keeper.now c.next.new.keeper c.args.output.now c.pieces.output
    p.1 p.2
    (pieces-part (g.K.Keeper.tables c.args.keeper.now) (g.O.Sink.bytes c.args.output.now) (g.O.Sink.bytes c.pieces.output) all (λ t. left t c.pieces.walk) before.wrote)
    (stays-on g.K.Keeper g.O.Sink c.next.result c.args.keeper.now c.pieces.keeper c.next.new.keeper c.args.output.now c.pieces.output before.stays c.next.ensures.looks)
    (failed-on g.K.Keeper g.O.Sink c.next.result c.in_err-text.field-0.0 c.args.keeper.now c.pieces.keeper c.next.new.keeper c.args.output.now c.pieces.output before.stays c.next.ensures.looks c.in_err-text.was)

pub returns-in_err-write-in-Some : goal.returns-in_err-write-in-Some
returns-in_err-write-in-Some g c =
    let told = g.K.Keeper.tables c.args.keeper.now in
    let all : Tables → List ℕ = λ t. left t c.args.walk.now in
    let before = c.pieces.invariant in
    let looks = c.next.ensures.looks in
    let text = c.in-Some.text.items in
    let next = subst (λ told. IfSome told (λ t. left t c.pieces.walk ≡ text ++ left t c.next.new.self)) before.stays.unchanged (rw c.in-Some.is at c.in_ok-text.ensures.next) in
    let p = err_from_is_err_and c.from_residual-in_err-write-in-Some.result c.from_residual-in_err-write-in-Some.ensures.1 in
    unput g.K.Keeper g.O.Sink all p.0 c.from_residual-in_err-write-in-Some.result c.args.keeper.now c.next.new.keeper c.args.output.now c.write.new.output
    p.1 (p.2 ∙ c.in_err-write-in-Some.ensures.only)
    (piece-part told (g.O.Sink.bytes c.args.output.now) (g.O.Sink.bytes c.pieces.output) (g.O.Sink.bytes c.write.new.output) all (λ t. left t c.pieces.walk) (λ t. left t c.next.new.self) text before.wrote next
    (rw c.deref.ensures.value at c.in_err-write-in-Some.ensures.part))
    (looks.unchanged ∙ before.stays.unchanged) (omega (arith, before.stays.later, looks.later)) (looks.lent_as ∙ before.stays.lent_as)
    (omega (arith, before.stays.puts, c.write.ensures.later)) (rw before.stays.puts at c.in_err-write-in-Some.ensures.failed)

pub pieces-preserved : goal.pieces-preserved
pieces-preserved g c =
    let told = g.K.Keeper.tables c.args.keeper.now in
    let before = c.pieces.invariant in
    let looks = c.next.ensures.looks in
    let text = c.in-Some.text.items in
    let next = subst (λ told. IfSome told (λ t. left t c.pieces.walk ≡ text ++ left t c.next.new.self)) before.stays.unchanged (rw c.in-Some.is at c.in_ok-text.ensures.next) in
    record {
      wrote = piece-more told (g.O.Sink.bytes c.args.output.now) (g.O.Sink.bytes c.pieces.output) (g.O.Sink.bytes c.write.new.output) (λ t. left t c.args.walk.now) (λ t. left t c.pieces.walk) (λ t. left t c.next.new.self) text before.wrote next
          (rw c.deref.ensures.value at c.in_ok-write-in-Some.ensures.written);
      stays = record {
        unchanged = looks.unchanged ∙ before.stays.unchanged;
        later = omega (arith, before.stays.later, looks.later);
        lent_as = looks.lent_as ∙ before.stays.lent_as;
        puts = c.in_ok-write-in-Some.ensures.uncounted ∙ before.stays.puts;
      };
    }

pub returns : goal.returns
returns g c =
    let all : Tables → List ℕ = λ t. left t c.args.walk.now in
    without-memory g.K.Keeper g.O.Sink all c.args.keeper.now c.pieces.keeper c.args.output.now c.pieces.output
    (pieces-part (g.K.Keeper.tables c.args.keeper.now) (g.O.Sink.bytes c.args.output.now) (g.O.Sink.bytes c.pieces.output) all (λ t. left t c.pieces.walk) c.pieces.invariant.wrote)
    c.pieces.invariant.stays
