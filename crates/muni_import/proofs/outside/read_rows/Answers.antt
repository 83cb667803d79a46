use Rattle.std.proofs.Common.{◌≡◌, ◌++◌, ◌∷◌, [], rules, arith}
use Rattle.std.proofs.lemmas.List.{length-append}
use Rattle.muni_import.specs.Rows.{rows_of}
use Rattle.muni_import.proofs.RowLemmas.{read-more, read-few, few-rows}
use Rattle.muni_import.proofs.outside.read_rows.Goals as goal

pub loop-count-preserved : goal.loop-count-preserved
loop-count-preserved c =
    let row = c.in-Some.row in
    let next = rw c.in-Some.is at c.in_ok-row.ensures.next in
    let items : c.push.new.self.items ≡ c.loop-count.rows.items ++ row ∷ [] = search rules in
    rw items record {
      read = read-more c.loop-count.rows.items row c.loop-count.reader c.next_row.new.self (rows_of c.args.text.now) c.loop-count.invariant.read next;
      counted = omega (arith, length-append c.loop-count.rows.items (row ∷ []), c.loop-count.invariant.counted);
    }

pub unreachable-requires : goal.unreachable-requires
unreachable-requires c =
    omega (arith, read-few c.loop-count.rows.items c.loop-count.reader (rows_of c.args.text.now) c.loop-count.invariant.read, few-rows c.args.text.now, c.loop-count.invariant.counted)
