use Rattle.std.proofs.Common.{◌≡◌, subst, arith, to_z, of_z, w32}
use Rattle.std.proofs.lemmas.Int.{ints}
use Rattle.muni_rule.specs.WorthEnds.{HoldsWorth, enclosure_ends}
use Rattle.muni_readings.specs.Compounded.{compounded}
use Rattle.muni_readings.proofs.CompoundedLemmas.{place-above, place-below}
use Rattle.muni_readings.proofs.compounded.reached.Goals as goal

pub returns-then-place-gt5001 : goal.returns-then-place-gt5001
returns-then-place-gt5001 c =
    let payment = c.args.payment.now in
    let single = c.requires.single in
    let least = single.accrued.0 in
    let most = single.accrued.1 in
    let worth = c.compounded_worth-worth.ensures in
    let range = c.boundary_at.ensures.range in
    let least_y = range.0 in
    let most_y = range.1 in
    let same : to_z w32 (of_z w32 c.boundary_at.result) ≡ c.boundary_at.result = omega (arith, ints, least_y, most_y) in
    let holds : HoldsWorth (compounded payment) c.boundary_at.result (enclosure_ends c.compounded_worth-worth.result.lo c.compounded_worth-worth.result.hi) = subst (λ z. HoldsWorth (compounded payment) z (enclosure_ends c.compounded_worth-worth.result.lo c.compounded_worth-worth.result.hi)) same worth.holds in
    let above = c.if-place-gt5001.true in
    place-above payment c.args.price c.args.place c.boundary_at.result c.compounded_worth-worth.result.lo c.compounded_worth-worth.result.hi _ c.at_least_verdict.result above c.boundary_at.ensures.value c.boundary_at.ensures.range
    (record { holds = holds; narrow = worth.narrow; small = worth.small }) (omega (arith, ints, least, most)) c.at_least_verdict.ensures

pub returns-else-place-gt5001 : goal.returns-else-place-gt5001
returns-else-place-gt5001 c =
    let payment = c.args.payment.now in
    let single = c.requires.single in
    let least = single.accrued.0 in
    let most = single.accrued.1 in
    let worth = c.compounded_worth-worth.ensures in
    let range = c.boundary_at.ensures.range in
    let least_y = range.0 in
    let most_y = range.1 in
    let same : to_z w32 (of_z w32 c.boundary_at.result) ≡ c.boundary_at.result = omega (arith, ints, least_y, most_y) in
    let holds : HoldsWorth (compounded payment) c.boundary_at.result (enclosure_ends c.compounded_worth-worth.result.lo c.compounded_worth-worth.result.hi) = subst (λ z. HoldsWorth (compounded payment) z (enclosure_ends c.compounded_worth-worth.result.lo c.compounded_worth-worth.result.hi)) same worth.holds in
    let below = c.if-place-gt5001.false in
    place-below payment c.args.price c.args.place c.boundary_at.result c.compounded_worth-worth.result.lo c.compounded_worth-worth.result.hi _ c.more_verdict.result below c.boundary_at.ensures.value c.boundary_at.ensures.range
    (record { holds = holds; narrow = worth.narrow; small = worth.small }) (omega (arith, ints, least, most)) c.more_verdict.ensures
