use Rattle.std.proofs.Common.{◌+◌, ◌-◌, ◌/◌}
use Rattle.muni_risk.proofs.Cuts.{AreCut, are-cut, cut-most, whole-few, whole-some, fits, small, nearest-above, nearest-below}
use Rattle.muni_risk.proofs.nearest.nearest_of_sums.Goals.{After-unit_of-unit}
use Rattle.muni_risk.proofs.nearest.nearest_of_sums.Goals as goal

cut : (c : After-unit_of-unit) → AreCut c.unit_of-unit.result (c.unit_of-unit.result - 1) c.args.sum c.args.whole (c.args.sum / c.unit_of-unit.result) ((c.args.whole + (c.unit_of-unit.result - 1)) / c.unit_of-unit.result)
cut c = are-cut c.unit_of-unit.result c.args.sum c.args.whole c.unit_of-unit.ensures.some c.unit_of-unit.ensures.fine c.unit_of-unit.ensures.small

pub nearest-requires-clause-fits : goal.nearest-requires-clause-fits
nearest-requires-clause-fits c =
    fits _ _ c.args.by c.args.over (cut-most _ _ _ _ _ _ 327240000 (cut c) c.requires.sum) (whole-few _ _ _ _ _ _ (cut c)) c.requires.by c.requires.over.1

pub nearest-requires-clause-small : goal.nearest-requires-clause-small
nearest-requires-clause-small c =
    small _ _ c.args.by c.args.over (cut-most _ _ _ _ _ _ 327240000 (cut c) c.requires.sum) (whole-some _ _ _ _ _ _ (cut c) c.requires.some) c.requires.over.0 c.requires.near

pub returns-clause-not_far_above : goal.returns-clause-not_far_above
returns-clause-not_far_above c = nearest-above c.nearest.result _ _ _ _ _ _ c.args.by c.args.over (cut (goal.at.returns-clause-not_far_above c).After-unit_of-unit) c.nearest.ensures.not_far_above

pub returns-clause-not_far_below : goal.returns-clause-not_far_below
returns-clause-not_far_below c = nearest-below c.nearest.result _ _ _ _ _ _ c.args.by c.args.over (cut (goal.at.returns-clause-not_far_below c).After-unit_of-unit) c.nearest.ensures.not_far_below
