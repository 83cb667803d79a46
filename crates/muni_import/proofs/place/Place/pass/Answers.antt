use Rattle.std.proofs.Common.{◌≡◌, ◌+◌, ◌++◌, ◌∷◌, [], length, take, get_or, arith}
use Rattle.std.proofs.lemmas.List.{length-take, take_more}
use Rattle.muni_import.specs.Places.{step}
use Rattle.muni_import.proofs.BlockLemmas.{passes-none, passes-then}
use Rattle.muni_import.proofs.place.Place.pass.Goals as goal

pub loop-i-init : goal.loop-i-init
loop-i-init c = passes-none c.args.self.now

pub loop-i-preserved : goal.loop-i-preserved
loop-i-preserved c =
    let bytes = c.args.bytes.now in
    let i = c.loop-i.i in
    let byte = get_or bytes i 0 in
    let more : take (i + 1) bytes ≡ take i bytes ++ byte ∷ [] = take_more bytes i 0 c.loop-i-test.true in
    let steps : c.step-place.result ≡ step c.loop-i.self byte = c.step-place.ensures in
    let here : i + 1 ≡ length (take i bytes) + 1 = omega (arith, length-take i bytes, c.loop-i-test.true) in
    rw (more, c.last_end-end.ensures, steps) (passes-then c.args.self.now c.loop-i.self (take i bytes) byte c.loop-i.end (i + 1) c.loop-i.invariant here)
