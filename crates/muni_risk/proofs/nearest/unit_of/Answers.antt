use Rattle.std.proofs.Common.{◌^◌, arith}
use Rattle.muni_risk.proofs.Cuts.{IsUnit, unit-is}
use Rattle.muni_risk.proofs.nearest.unit_of.Goals as goal

unit : (c : goal.After-saturating_sub) → IsUnit c.args.number (2 ^ c.saturating_sub.result)
unit c = unit-is c.args.number c.ilog2.result c.saturating_sub.result c.ilog2.ensures.power_le c.ilog2.ensures.next_power_gt c.requires.small c.saturating_sub.ensures

pub returns-clause-some : goal.returns-clause-some
returns-clause-some c = let is = unit c in let fits = is.fits in let small = is.small in omega (arith, fits, small)

pub returns-clause-small : goal.returns-clause-small
returns-clause-small c = let is = unit c in let fits = is.fits in let small = is.small in omega (arith, fits, small)

pub returns-clause-fine : goal.returns-clause-fine
returns-clause-fine c = let is = unit c in let fits = is.fits in let fine = is.fine in omega (arith, fits, fine)
