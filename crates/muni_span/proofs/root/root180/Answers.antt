use Rattle.std.proofs.Common.{◌≡◌, ◌+◌, ◌-◌, ◌^◌, arith, lit<, rules}
use Rattle.muni_span.specs.Roots.{root_low, root_high}
use Rattle.muni_span.proofs.Holding.{root_holds}
use Rattle.muni_span.proofs.RootLaws.{IsRootSpan, root_span_of}
use Rattle.muni_span.proofs.RootReach.{reach_up, reach_down}
use Rattle.muni_span.proofs.root.root180.Goals as goal

pub end_near-lo-requires : goal.end_near-lo-requires
end_near-lo-requires c = reach_up c.lo-2.result (omega arith) (omega arith)

pub end_near-below_hi-requires : goal.end_near-below_hi-requires
end_near-below_hi-requires c = reach_down (c.hi.result - 1) (omega arith) (omega arith)

pub new-requires : goal.new-requires
new-requires c =
    let low : c.end_near-lo.result ≡ root_low c.args.v.lo = search rules in
    let high : c.end_near-below_hi.result + 1 ≡ root_high c.args.v.hi = search rules in
    let law = root_span_of c.args.v.lo c.args.v.hi c.end_near-lo.result (c.end_near-below_hi.result + 1) c.requires.least c.requires.greatest c.args.v.ordered c.requires.narrow low high in
    record { ordered = law.ordered }

law : (c : goal.After-new) → IsRootSpan c.args.v.lo c.args.v.hi c.new.result.lo c.new.result.hi
law c =
    let low : c.new.result.lo ≡ root_low c.args.v.lo = search rules in
    let high : c.new.result.hi ≡ root_high c.args.v.hi = search rules in
    root_span_of c.args.v.lo c.args.v.hi c.new.result.lo c.new.result.hi c.requires.least c.requires.greatest c.args.v.ordered c.requires.narrow low high

pub returns-clause-below : goal.returns-clause-below
returns-clause-below c = (law c).below

pub returns-clause-above : goal.returns-clause-above
returns-clause-above c = (law c).above

pub returns-clause-encloses : goal.returns-clause-encloses
returns-clause-encloses c j n d =
    root_holds (2 ^ 60) c.args.v.lo c.args.v.hi 180 c.new.result.lo c.new.result.hi j n d (lit< tt) (law c).below (law c).above

pub returns-clause-width : goal.returns-clause-width
returns-clause-width c = (law c).narrow
