use Rattle.std.proofs.Common.{◌++◌, ◌∷◌, ◌∙◌, [], sym, refl, length, arith}
use Rattle.std.specs.BTreeMap as tree
use Rattle.std.specs.Option.{option_map}
use Rattle.muni_keep.specs.Trades.{by_bytes}
use Rattle.muni_figures.specs.Rows.{row_of}
use Rattle.std.proofs.lemmas.List.{length_push}
use Rattle.muni_figures.proofs.IssueLemmas.{one-named}
use Rattle.muni_figures.proofs.RowLemmas.{read-none, read-row, size-shorter}
use Rattle.muni_figures.proofs.scan.scan_block.Goals as goal

pub loop-left-init : goal.loop-left-init
loop-left-init c = record { done = []; read = read-none c.args.block.now; counted = refl; named = tt }

pub loop-left-preserved-in_ok-add_unknown : goal.loop-left-preserved-in_ok-add_unknown
loop-left-preserved-in_ok-add_unknown c =
    let done = c.loop-left.invariant.done in
    let line = c.next_line.result.0.now in
    let left = option_map (λ text. text.now) c.next_line.result.1 in
    let read = rw c.in-Some.is at c.loop-left.invariant.read in
    record {
      done = done ++ row_of line ∷ [];
      read = read-row c.args.block.now c.in-Some.bytes.now line left done read c.next_line.ensures.parts (size-shorter c.next_line.result.1 (length c.in-Some.bytes.now) c.next_line.ensures.shorter) (sym c.is_row.ensures ∙ c.if-is_row.true);
      counted = omega (arith, c.loop-left.invariant.counted, length_push done (row_of line));
      named = one-named (tree.get by_bytes c.args.issues.now) done (row_of line) c.loop-left.unknown.items c.add_unknown.new.unknown.items c.in_ok-add_unknown.ensures c.loop-left.invariant.named;
    }
