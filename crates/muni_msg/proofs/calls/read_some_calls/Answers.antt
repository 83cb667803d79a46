use Rattle.std.proofs.Common.{◌<◌, length, sym, arith}
use Rattle.muni_msg.specs.Calls.{cut_at_blanks}
use Rattle.muni_msg.proofs.BlankLemmas.{some_piece, many_calls}
use Rattle.muni_msg.proofs.calls.read_some_calls.Goals as goal

pub returns : goal.returns
returns c =
    let many : 40 < length (cut_at_blanks c.args.text.now) = omega (arith, some_piece c.loop-count.rest.now, c.loop-count.invariant.pieces) in
    sym (many_calls (cut_at_blanks c.args.text.now) many)
