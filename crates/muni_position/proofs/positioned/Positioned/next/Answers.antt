use Rattle.std.proofs.Common.{◌<◌, Some, sym, ap, ◌∙◌, arith}
use Rattle.std.specs.Prelude.{slice_get}
use Rattle.muni_position.specs.Holding.{position_in}
use Rattle.muni_position.specs.Holdings.{kept}
use Rattle.muni_position.specs.declared.holding.Holding.{Holding}
use Rattle.muni_position.specs.declared.position.Position.{Position}
use Rattle.muni_position.proofs.NextLemmas.{held_of, told_next, stop_at}
use Rattle.muni_position.proofs.positioned.Positioned.next.Goals as goal

pub returns-then-holding-gt0 : goal.returns-then-holding-gt0
returns-then-holding-gt0 g c =
    let self = c.args.self.now in
    let cusip = c.in-Some.cusip.now in
    let range = c.range-cusip-items in
    let live : 0 < (kept self.holdings cusip).live = omega (arith, c.if-holding-gt0.true, ap (λ (h : Holding). h.live) c.kept-holding.ensures) in
    let first = stop_at self.holdings (cusip, c.in-Some.field-0-1.now) c.loop-cusip.cusip-iterator c.next.new.self c.in-Some.ensures.steps live in
    let found = ap (λ (p : Position). Some (cusip, p)) (c.position.ensures ∙ ap position_in c.kept-holding.ensures) ∙ sym first ∙ c.loop-cusip.invariant
    ∙ ap (λ l. slice_get (held_of self.holdings l) 0) c.into_iter-cusip-iterator.ensures.into_iter_gives in
    told_next self.desk (g.K.Keeper.tables self.inner) self.holdings c.args.after.now range.result (Some (cusip, c.position.result)) _ self.right range.ensures.ordered c.bound_past.ensures (range.ensures.between tt) found

pub returns : goal.returns
returns g c =
    let self = c.args.self.now in
    let range = c.range-cusip-items in
    let found = ap (λ l. slice_get (held_of self.holdings l) 0) (sym c.in-None.ensures.steps.0) ∙ c.loop-cusip.invariant
    ∙ ap (λ l. slice_get (held_of self.holdings l) 0) c.into_iter-cusip-iterator.ensures.into_iter_gives in
    told_next self.desk (g.K.Keeper.tables self.inner) self.holdings c.args.after.now range.result _ _ self.right range.ensures.ordered c.bound_past.ensures (range.ensures.between tt) found
