use Rattle.std.proofs.Common.{◌≡◌, sym, subst, length, slice_index_or, arith, rules}
use Rattle.muni_desk.specs.Drill.{IsShare, is_dealt}
use Rattle.muni_desk.proofs.DrillLemmas.{is_among, joined-none, joined-more, joined-room, joined-all}
use Rattle.muni_desk.proofs.drill.joined.Goals as goal

pub loop-worker-init : goal.loop-worker-init
loop-worker-init g c =
    joined-none (g.E.Encloser.ends c.args.encloser.now) (length c.args.shares.now) c.args.seed c.args.count c.new-sums.result c.new-sums.ensures.sums c.new-sums.ensures.small

pub plus-sums-requires-clause-few : goal.plus-sums-requires-clause-few
plus-sums-requires-clause-few g c =
    let ends = g.E.Encloser.ends c.args.encloser.now in
    let workers = length c.args.shares.now in
    let worker = c.loop-worker.worker in
    let it = c.index-shares-worker.result in
    let same : it ≡ slice_index_or c.args.shares.now worker it = search rules in
    let share = subst (IsShare ends (is_dealt workers worker) c.args.seed c.args.count) (sym same) (c.requires.each worker it (omega arith)) in
    let room = joined-room ends workers worker c.args.seed c.args.count c.loop-worker.sums it c.loop-worker.invariant share in
    omega (arith, room, c.requires.count)

pub loop-worker-preserved : goal.loop-worker-preserved
loop-worker-preserved g c =
    let ends = g.E.Encloser.ends c.args.encloser.now in
    let workers = length c.args.shares.now in
    let worker = c.loop-worker.worker in
    let it = c.index-shares-worker.result in
    let same : it ≡ slice_index_or c.args.shares.now worker it = search rules in
    let share = subst (IsShare ends (is_dealt workers worker) c.args.seed c.args.count) (sym same) (c.requires.each worker it (omega arith)) in
    joined-more ends workers worker c.args.seed c.args.count c.loop-worker.sums it c.plus-sums.result c.loop-worker.invariant share c.plus-sums.ensures

pub returns : goal.returns
returns g c =
    let ends = g.E.Encloser.ends c.args.encloser.now in
    let workers = length c.args.shares.now in
    let last : c.loop-worker.worker ≡ workers = omega arith in
    let all = subst (λ k. IsShare ends (is_among workers k) c.args.seed c.args.count c.loop-worker.sums) last c.loop-worker.invariant in
    joined-all ends workers c.args.seed c.args.count c.loop-worker.sums c.requires.few.0 all
