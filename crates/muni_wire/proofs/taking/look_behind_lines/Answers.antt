use Rattle.std.proofs.Common.{◌-◌, ◌&&◌, ◌||◌, ◌==◌, not, length, drop, nat_lt, sym, ◌∙◌}
use Rattle.std.specs.List.{list_any}
use Rattle.muni_wire.specs.Head.{head_limit}
use Rattle.muni_wire.proofs.LineLemmas.{begun-now, still-none, third}
use Rattle.muni_wire.proofs.taking.look_behind_lines.Goals as goal

pub returns-then-is_within_line-clause-begun : goal.returns-then-is_within_line-clause-begun
returns-then-is_within_line-clause-begun c =
    begun-now c.args.bytes.now (length c.args.bytes.now - c.args.count) c.args.has_begun.now c.has_text.result c.requires.before.begun c.has_text.ensures

pub returns-then-is_within_line-clause-awaited : goal.returns-then-is_within_line-clause-awaited
returns-then-is_within_line-clause-awaited c _ =
    let bytes = c.args.bytes.now in
    let place = length bytes - c.args.count in
    let begun = c.args.has_begun.now || c.has_text.result in
    let none = still-none bytes place begun
    (begun-now bytes place c.args.has_begun.now c.has_text.result c.requires.before.begun c.has_text.ensures) c.requires.before.none
    (third (nat_lt 0 c.args.count) (nat_lt (length bytes) head_limit) (not (begun && list_any (λ b. b == 10) (drop place bytes)))
    (sym c.is_within_line.ensures.value ∙ c.if-is_within_line.true)) in
    (none, (c.is_within_line.ensures.some c.if-is_within_line.true).1)

pub returns-clause-begun : goal.returns-clause-begun
returns-clause-begun c =
    begun-now c.args.bytes.now (length c.args.bytes.now - c.args.count) c.args.has_begun.now c.has_text.result c.requires.before.begun c.has_text.ensures
