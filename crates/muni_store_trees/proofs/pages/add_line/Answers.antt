use Rattle.std.proofs.Common.{subst}
use Rattle.muni_store_trees.specs.Found.{HasRow}
use Rattle.muni_store_trees.proofs.pages.add_line.Goals as goal

pub returns-in-Some-clause-added : goal.returns-in-Some-clause-added
returns-in-Some-clause-added g c = λ clean.
    let rows = (g.S.Store.view c.args.store.now).trees c.args.places.versions in (
      c.in-Some.line,
      c.push.ensures.items,
      record {
        row = c.read_row.new.row;
        leads = subst (λ value. HasRow rows value c.read_row.new.row) c.get.ensures (c.in_ok-read_row.ensures.found clean);
        read = c.in-Some.ensures.read;
        same = c.in-Some.ensures.same;
      },
    )
