use Rattle.std.proofs.Common.{◌∙◌, ◌++◌, refl, take}
use Rattle.std.proofs.lemmas.Result.{err_from_is_err_and}
use Rattle.muni_desk_io.proofs.TakenLemmas.{taken-then}
use Rattle.muni_figures.proofs.blocks.fill.Goals as goal

pub returns-in_err-extend_from_slice-in-Ok : goal.returns-in_err-extend_from_slice-in-Ok
returns-in_err-extend_from_slice-in-Ok g c =
    let p = err_from_is_err_and c.from_residual.result c.from_residual.ensures.1 in
    let left = g.I.Source.left in
    let piece = take c.in-Ok.count c.take.new.room in
    rw p.1 record {
      piece = c.loop-room.invariant.piece ++ piece;
      taken = taken-then (left c.args.input.now) (left c.loop-room.input) (left c.take.new.self) c.loop-room.invariant.piece piece (c.loop-room.invariant.piece ++ piece)
          c.loop-room.invariant.taken c.in-Ok.ensures.takes.moved refl;
      uncounted = c.in-Ok.ensures.counts.uncounted ∙ c.loop-room.invariant.uncounted;
    }
