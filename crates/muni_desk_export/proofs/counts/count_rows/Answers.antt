use Rattle.std.proofs.Common.{◌≡◌, ◌∙◌, ◌++◌, [], refl, subst, arith}
use Rattle.std.specs.Prelude.{IfSome}
use Rattle.muni_desk_export.specs.Walk.{left}
use Rattle.muni_desk_export.proofs.CountLemmas.{none-counted, more-counted, all-counted}
use Rattle.muni_desk_export.proofs.counts.count_rows.Goals as goal

pub pieces-init : goal.pieces-init
pieces-init g c = record {
  counted = none-counted (g.K.Keeper.tables c.args.keeper.now) (λ t. left t c.args.walk.now);
  tables = refl;
  later = omega arith;
  lent_as = refl;
}

pub returns-in_default-clause-count : goal.returns-in_default-clause-count
returns-in_default-clause-count g c =
    let before = c.pieces.invariant in
    let none = subst (λ told. IfSome told (λ t. left t c.pieces.walk ≡ [])) before.tables (rw c.in_default.is at c.in_ok-text.ensures.next) in
    all-counted (g.K.Keeper.tables c.args.keeper.now) (λ t. left t c.args.walk.now) (λ t. left t c.pieces.walk) c.pieces.count before.counted none

pub pieces-preserved : goal.pieces-preserved
pieces-preserved g c =
    let before = c.pieces.invariant in
    let looks = c.next.ensures.looks in
    let text = c.in-Some.text.items in
    let next = subst (λ told. IfSome told (λ t. left t c.pieces.walk ≡ text ++ left t c.next.new.self)) before.tables (rw c.in-Some.is at c.in_ok-text.ensures.next) in
    record {
      counted = more-counted (g.K.Keeper.tables c.args.keeper.now) (λ t. left t c.args.walk.now) (λ t. left t c.pieces.walk) (λ t. left t c.next.new.self) text
          c.pieces.count c.in_ok-count.count before.counted next (rw c.deref.ensures.value at c.in_ok-count.ensures.sum);
      tables = looks.unchanged ∙ before.tables;
      later = omega (arith, before.later, looks.later);
      lent_as = looks.lent_as ∙ before.lent_as;
    }
