use Rattle.std.proofs.Common.{◌≤◌, ◌++◌, ap, length, refl, arith}
use Rattle.std.proofs.lemmas.List.{length_push}
use Rattle.std.proofs.lemmas.Result.{err_from_is_err_and}
use Rattle.muni_desk_io.proofs.TakenLemmas.{taken-then}
use Rattle.muni_figures.specs.Blocks.{most_bytes}
use Rattle.muni_figures.specs.declared.shares.Share.{Share}
use Rattle.muni_figures.proofs.GroupLemmas.{all-push, group-more}
use Rattle.muni_figures.proofs.groups.take_group.Goals as goal

pub returns-in_err-add_share-2-clause-refused : goal.returns-in_err-add_share-2-clause-refused
returns-in_err-add_share-2-clause-refused g c =
    let p = err_from_is_err_and c.from_residual-in_err-add_share-2.result c.from_residual-in_err-add_share-2.ensures.1 in
    let left = g.I.Source.left in
    let group = c.loop.invariant.group in
    let more = c.in_err-add_share-2.ensures.refused in
    rw p.1 (
      group.piece ++ more.0,
      taken-then (left c.args.input.now) (left c.loop.input) (left c.add_share-in-loop.new.input) group.piece more.0 (group.piece ++ more.0) group.taken more.1 refl,
    )

pub loop-preserved : goal.loop-preserved
loop-preserved g c =
    let before = c.loop.invariant in
    let added = c.in_ok-add_share-2.ensures.added in
    record {
      group = rw added.added
          (group-more g.I.Source c.args.blocks.now c.loop.blocks c.add_share-in-loop.new.blocks c.loop.shares.items added.share c.args.input.now c.loop.input c.add_share-in-loop.new.input before.group added.taken);
      count = omega (arith, ap length added.added, length_push c.loop.shares.items added.share, before.count);
      bytes = rw added.added
          (all-push (λ (share : Share). length share.block.items ≤ most_bytes) c.loop.shares.items added.share before.bytes (added.taken.few before.group.few).0);
    }
