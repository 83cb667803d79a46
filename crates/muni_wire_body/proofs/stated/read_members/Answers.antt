use Rattle.std.proofs.Common.{rules, arith, ◌<◌, ◌≤◌, length}
use Rattle.csv.specs.Records.{fields_of}
use Rattle.csv.proofs.ReadFacts.{on-ok}
use Rattle.serde_json.specs.View.{view}
use Rattle.muni_msg.specs.Columns.{all_columns}
use Rattle.muni_wire_body.proofs.StatedLemmas.{one-more, left-out, not-one, no-more, one-longer, whole-row, no-desk, no-text}
use Rattle.muni_wire_body.proofs.stated.read_members.Goals as goal
use Rattle.muni_wire_body.proofs.stated.read_members.Goals.{in-Some+else-is_err, in_default}

pub returns-in_err-desk-clause-bad : goal.returns-in_err-desk-clause-bad
returns-in_err-desk-clause-bad c kind e = (search rules, no-desk (view c.args.value.now) c.in_err-desk.ensures.bad.1)

pub returns-clause-whole : goal.returns-clause-whole
returns-clause-whole c =
    let past : length all_columns ≤ c.loop-column.column-index = (let test = c.loop-column-test.false in omega (arith, test)) in
    whole-row (view c.args.value.now) c.in_ok-desk.desk c.loop-column.columns.items (fields_of c.loop-column.fields) c.in_ok-desk.ensures.desk
    (no-more (view c.args.value.now) all_columns c.loop-column.column-index c.loop-column.columns.items (fields_of c.loop-column.fields) _ past c.loop-column.invariant.left)

pub returns-in_err-text-clause-bad : goal.returns-in_err-text-clause-bad
returns-in_err-text-clause-bad c kind e =
    let inside : c.loop-column.column-index < length all_columns = (let test = c.loop-column-test.true in omega (arith, test)) in
    let none = not-one (view c.args.value.now) all_columns c.loop-column.column-index _ c.loop-column.columns.items (fields_of c.loop-column.fields) _ inside (search rules) c.in_err-text.ensures.bad.1 c.loop-column.invariant.left in
    (search rules, no-text (view c.args.value.now) c.in_ok-desk.desk c.in_ok-desk.ensures.desk none)

pub loop-column-preserved : goal.loop-column-preserved
loop-column-preserved c =
    let value = view c.args.value.now in
    let place = c.loop-column.column-index in
    let columns = c.loop-column.columns.items in
    let fields = fields_of c.loop-column.fields in
    let inside : place < length all_columns = (let test = c.loop-column-test.true in omega (arith, test)) in
    elim c.match-branch-3.branch [
      | in-Some+else-is_err w ↦
          let reads = rw w.in-Some.is at c.in_ok-text.ensures.text in
          let added = on-ok w.push_field.result (search rules) w.push_field.ensures.fields in
          let cleared = on-ok w.push_field.result (search rules) w.push_field.ensures.partial in
          rw (w.columns-is, w.fields-is) record {
            items = c.loop-column.invariant.items;
            left = rw (w.push.ensures.items, added, c.loop-column.invariant.partial) (one-more value all_columns place _ _ columns fields _ inside (search rules) reads c.loop-column.invariant.left);
            partial = cleared;
            room = rw w.push.ensures.items (one-longer columns _ place c.loop-column.invariant.room);
          }
      | in_default w ↦
          let reads = rw w.in_default.is at c.in_ok-text.ensures.text in
          rw (w.columns-is, w.fields-is) record {
            items = c.loop-column.invariant.items;
            left = left-out value all_columns place _ columns fields _ inside (search rules) reads c.loop-column.invariant.left;
            partial = c.loop-column.invariant.partial;
            room = omega (arith, c.loop-column.invariant.room);
          }
    ]
