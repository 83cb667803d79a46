use Rattle.std.proofs.Common.{◌≡◌, ◌++◌, ◌∙◌, [], ap, rules, length, arith}
use Rattle.csv.specs.Reading.{strip_bom}
use Rattle.muni_figures.proofs.BlockLemmas.{length-strip_bom}
use Rattle.muni_figures.proofs.blocks.LineBlocks.open.Goals as goal

pub returns-in-Ok : goal.returns-in-Ok
returns-in-Ok g c =
    let fills = c.in_ok-reading.ensures in
    let none : c.new-bytes.result.items ≡ [] = c.new-bytes.ensures.items in
    let bytes : c.fill.new.bytes.items ≡ fills.piece = fills.added ∙ ap (λ l. l ++ fills.piece) none in
    let copied : c.in-Ok.held.items ≡ c.without_mark.result.now = search rules in
    let held : c.in-Ok.held.items ≡ strip_bom fills.piece = copied ∙ c.without_mark.ensures ∙ ap strip_bom (c.deref.ensures.value ∙ bytes) in
    record {
      came = fills.piece;
      taken = fills.taken;
      held = held;
      few = omega (arith, ap length held, length-strip_bom fills.piece, ap length bytes, fills.few (omega (arith, ap length none)));
      left = fills.left;
      enough = λ opened. omega (arith, fills.enough opened, ap length bytes);
      whole = c.in_default.not-Failed;
    }
