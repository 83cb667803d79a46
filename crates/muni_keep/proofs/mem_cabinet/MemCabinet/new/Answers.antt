use Rattle.std.proofs.Common.{◌≡◌, ap, ◌∙◌}
use Rattle.std.specs.FinMap as finmap
use Rattle.muni_keep.proofs.KeeperLemmas.{put_all-empty, put_last}
use Rattle.muni_keep.proofs.mem_cabinet.MemCabinet.new.Goals as goal

pub loop-name-init : goal.loop-name-init
loop-name-init c =
    let items : c.into_iter-name-iterator.result.iter.rest.items ≡ c.args.keepers.items =
    ap (λ rev. rev.iter.rest.items) c.into_iter-name-iterator.ensures.into_iter_gives ∙ ap (λ iter. iter.rest.items) c.rev-name-items.ensures.source ∙ c.into_iter.ensures.rest in
    rw (items, c.new-by_name.ensures) (put_all-empty _)

pub loop-name-preserved-in_ok-put : goal.loop-name-preserved-in_ok-put
loop-name-preserved-in_ok-put c =
    put_last (λ named. (named.0.items, named.1)) _ c.loop-name.by_name c.put.new.self c.loop-name.name-iterator.iter.rest.items c.next.new.self.iter.rest.items (c.in-Some.name, c.in-Some.keeper) c.in-Some.ensures.steps
    (c.in_ok-put.ensures.put ∙ ap (λ name. finmap.insert c.loop-name.by_name name c.in-Some.keeper) c.new.ensures) c.loop-name.invariant

pub loop-name-preserved : goal.loop-name-preserved
loop-name-preserved c =
    put_last (λ named. (named.0.items, named.1)) _ c.loop-name.by_name c.put.new.self c.loop-name.name-iterator.iter.rest.items c.next.new.self.iter.rest.items (c.in-Some.name, c.in-Some.keeper) c.in-Some.ensures.steps
    (c.in_ok-put.ensures.put ∙ ap (λ name. finmap.insert c.loop-name.by_name name c.in-Some.keeper) c.new.ensures) c.loop-name.invariant
