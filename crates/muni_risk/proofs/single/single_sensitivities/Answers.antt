use Rattle.std.proofs.Common.{◌≡◌, pos, unsigned_abs, ap, ◌∙◌, arith, to_z, of_z, w32, w64}
use Rattle.std.proofs.lemmas.Int.{ints}
use Rattle.muni_simple.specs.Single.{payment_of}
use Rattle.muni_risk.proofs.Singles.{AreNumbers, most-few, convexity-fits, convexity-small, dv01-fits, dv01-small, single-duration, single-convexity, single-dv01}
use Rattle.muni_risk.proofs.single.single_sensitivities.Goals.{After-from-growth}
use Rattle.muni_risk.proofs.single.single_sensitivities.Goals as goal

numbers : (c : After-from-growth) → AreNumbers (payment_of c.args.single.now) c.args.y (unsigned_abs (to_z w32 (of_z w32 c.args.single.now.left))) (unsigned_abs (to_z w64 (of_z w64 c.args.single.now.due))) c.from-growth.result
numbers c =
    let single = c.requires.single in
    let most = most-few c.args.shape in
    let left : pos (unsigned_abs (to_z w32 (of_z w32 c.args.single.now.left))) ≡ c.args.single.now.left = omega (arith, ints) in
    let due : pos (unsigned_abs (to_z w64 (of_z w64 c.args.single.now.due))) ≡ c.args.single.now.due = omega (arith, ints) in
    record {
      left_is = ap unsigned_abs left;
      due_is = ap unsigned_abs due;
      growth_is = c.from-growth.ensures ∙ ap unsigned_abs c.growth.ensures.value;
      in_range = record {
        left_few = omega (arith, ints, left, most);
        due_few = omega (arith, ints, due);
        growth_least = omega (arith, c.from-growth.ensures, c.growth.ensures.range);
        growth_most = omega (arith, c.from-growth.ensures, c.growth.ensures.range);
      };
    }

pub nearest-requires-2-clause-fits : goal.nearest-requires-2-clause-fits
nearest-requires-2-clause-fits c = convexity-fits _ _ _ (numbers (goal.at.nearest-requires-2-clause-fits c).After-from-growth).in_range

pub nearest-requires-2-clause-small : goal.nearest-requires-2-clause-small
nearest-requires-2-clause-small c = convexity-small _ _ _ (numbers (goal.at.nearest-requires-2-clause-small c).After-from-growth).in_range

pub nearest-requires-3-clause-fits : goal.nearest-requires-3-clause-fits
nearest-requires-3-clause-fits c = dv01-fits _ _ _ (numbers (goal.at.nearest-requires-3-clause-fits c).After-from-growth).in_range

pub nearest-requires-3-clause-small : goal.nearest-requires-3-clause-small
nearest-requires-3-clause-small c = dv01-small _ _ _ (numbers (goal.at.nearest-requires-3-clause-small c).After-from-growth).in_range

pub returns-clause-duration : goal.returns-clause-duration
returns-clause-duration c =
    single-duration (payment_of c.args.single.now) c.args.y _ _ c.from-growth.result c.nearest.result (numbers (goal.at.returns-clause-duration c).After-from-growth) c.nearest.ensures.not_far_above c.nearest.ensures.not_far_below

pub returns-clause-convexity : goal.returns-clause-convexity
returns-clause-convexity c =
    single-convexity (payment_of c.args.single.now) c.args.y _ _ c.from-growth.result c.nearest-2.result (numbers (goal.at.returns-clause-convexity c).After-from-growth) c.nearest-2.ensures.not_far_above c.nearest-2.ensures.not_far_below

pub returns-clause-dv01 : goal.returns-clause-dv01
returns-clause-dv01 c =
    single-dv01 (payment_of c.args.single.now) c.args.y _ _ c.from-growth.result c.nearest-3.result (numbers (goal.at.returns-clause-dv01 c).After-from-growth) c.nearest-3.ensures.not_far_above c.nearest-3.ensures.not_far_below
