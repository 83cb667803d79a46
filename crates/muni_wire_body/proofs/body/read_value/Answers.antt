use Rattle.std.proofs.Common.{rules, ◌≡◌, None, IsUtf8}
use Rattle.serde_json.specs.Read.{read as read_json}
use Rattle.serde_json.specs.View.{view}
use Rattle.muni_wire_body.proofs.BodyLemmas.{data-read, data-none}
use Rattle.muni_wire_body.proofs.body.read_value.Goals as goal

pub returns-in-Ok-clause-value : goal.returns-in-Ok-clause-value
returns-in-Ok-clause-value c = data-read c.args.body.now (view c.in-Ok.value) c.in-Ok.ensures.ok.0 c.in-Ok.ensures.ok.1

pub returns-else-is_memory-clause-bad : goal.returns-else-is_memory-clause-bad
returns-else-is_memory-clause-bad c kind e =
    let none : IsUtf8 c.args.body.now → read_json c.args.body.now ≡ None = search rules in
    (cc e, data-none c.args.body.now none)
