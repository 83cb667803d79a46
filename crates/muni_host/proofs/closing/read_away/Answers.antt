-- What one more read takes follows what was taken before it.
use Rattle.std.proofs.Common.{rules, arith, ◌*◌, ◌≡◌, ℕ, ◌+◌, ◌≤◌, List, ◌++◌, length, take, length-append}
use Rattle.std.proofs.lemmas.List.{length-take}
use Rattle.std.proofs.KnownBytes.{Consumes-trans, Consumes-kept}
use Rattle.muni_host.proofs.closing.read_away.Goals as goal
use Rattle.muni_host.proofs.closing.read_away.Goals.{in-Ok, in-Err+else-ne+else-silent-eq-SILENT_READS}

-- A read takes at most the room.
one_more : (turns count : ℕ) (old room : List ℕ) → length old ≤ turns * 65_536 → length room ≡ 65_536 → length (old ++ take count room) ≤ (turns + 1) * 65_536
one_more turns count old room few full = omega (arith, length-append old (take count room), length-take count room)

pub loop-turn-preserved : goal.loop-turn-preserved
loop-turn-preserved g c =
    let before = c.loop-turn.invariant.2 in
    let room = c.read_on.new.room in
    let full : length room ≡ 65_536 = search rules in
    elim c.match-read_on.branch [
      | in-Ok w ↦
          (full, search rules, (before.0 ++ take w.in-Ok.field-0 room, Consumes-trans _ _ _ _ _ before.1 w.in-Ok.ensures.bytes.0, one_more _ _ _ _ before.2 full))
      | in-Err+else-ne+else-silent-eq-SILENT_READS w ↦
          (full, search rules, (before.0, Consumes-kept _ _ _ _ before.1 w.in-Err.ensures.bytes, search rules))
    ]
