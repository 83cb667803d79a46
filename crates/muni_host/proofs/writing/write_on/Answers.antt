-- What one more write appends follows what was appended before it.
use Rattle.std.proofs.Common.{rules, ◌≡◌, ◌-◌, ◌++◌, length, take, drop, sym, ap, ◌∙◌, subst}
use Rattle.std.proofs.Math.Seq.{take-add}
use Rattle.std.proofs.lemmas.List.{take_rest}
use Rattle.std.specs.Io.KnownBytes.{Appends}
use Rattle.std.proofs.KnownBytes.{Appends-trans}
use Rattle.muni_host.proofs.writing.write_on.Goals as goal
use Rattle.muni_host.proofs.writing.write_on.Goals.{in-Ok, in-Err+else-ne}

pub loop-preserved : goal.loop-preserved
loop-preserved g c =
    let piece = c.args.piece.now in
    let at = c.loop.at in
    elim c.match-write.branch [
      | in-Ok w ↦
          let joined : take c.match-write.at piece ≡ take at piece ++ take w.in-Ok.count (take (length piece - at) (drop at piece))
          = ap (λ n. take n piece) w.at-is ∙ take-add at w.in-Ok.count piece ∙ ap (λ l. take at piece ++ take w.in-Ok.count l) (sym (take_rest piece at)) in
          (search rules, subst (Appends _ _) (sym joined) (Appends-trans _ _ _ _ _ c.loop.invariant.1 w.in-Ok.ensures.bytes))
      | in-Err+else-ne w ↦ search rules
    ]
