use Rattle.std.proofs.Common.{refl, subst, inl, inr}
use Rattle.muni_position.specs.Change.{HasNoRoom}
use Rattle.muni_position.proofs.change.Change.of.Goals as goal

pub returns-in_err-moved_at-clause-none : goal.returns-in_err-moved_at-clause-none
returns-in_err-moved_at-clause-none c = λ _.
    inl (subst (λ cusip. HasNoRoom c.args.holdings.now c.args.last.now c.args.version.now cusip) c.named_before-before.ensures (c.in_err-moved_at.ensures.none refl))

pub returns-in_err-moved_at-2-clause-none : goal.returns-in_err-moved_at-2-clause-none
returns-in_err-moved_at-2-clause-none c = λ _. inr (c.in_err-moved_at-2.ensures.none refl)
