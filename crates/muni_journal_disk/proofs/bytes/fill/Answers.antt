use Rattle.std.proofs.Common.{◌∙◌, sym, length, arith}
use Rattle.std.proofs.lemmas.List.{ext_get_or}
use Rattle.muni_journal_disk.specs.Bytes.{bytes_at}
use Rattle.muni_journal_disk.proofs.Patches.{length-bytes_at, in_piece}
use Rattle.muni_journal_disk.proofs.bytes.fill.Goals as goal

pub returns : goal.returns
returns c =
    let n = length c.args.room.now in
    let long = length-bytes_at c.args.bytes.now c.args.place n in
    ext_get_or 0 c.loop-i.room (bytes_at c.args.bytes.now c.args.place n) (c.loop-i.auto.room ∙ sym long)
    (λ i below. c.loop-i.invariant i (omega (arith, below, c.loop-i.auto.room, c.loop-i-test.false)) ∙ sym (in_piece c.args.bytes.now c.args.place n i (omega (arith, below, c.loop-i.auto.room))))
