use Rattle.std.proofs.Common.{◌≡◌, ◌-◌, ◌^◌, arith, rules}
use Rattle.muni_span.specs.Powers.{product_end, power_from_half}
use Rattle.muni_span.proofs.PowerGrowth.{from_half-grows}
use Rattle.muni_span.proofs.span.Span.power_from_half.Goals as goal

pub new-requires : goal.new-requires
new-requires c =
    let low : c.power_from_half-lo.result ≡ power_from_half (product_end 0) c.args.self.lo c.args.k c.args.half.lo = search rules in
    let high : c.power_from_half-hi.result ≡ power_from_half (product_end (2 ^ 60 - 1)) c.args.self.hi c.args.k c.args.half.hi = search rules in
    record { ordered = rw (low, high) (from_half-grows 0 (2 ^ 60 - 1) c.args.self.lo c.args.self.hi c.args.k c.args.half.lo c.args.half.hi (omega arith) c.args.self.ordered c.args.half.ordered) }
