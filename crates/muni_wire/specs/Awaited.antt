-- What is to be done about a request, by its head alone.
use Rattle.std.specs.Prelude.{ℕ, List, codes, bytes_eq, map, Option, Some, None, Result, Ok, Err, if◌then◌else◌, true, false}
use Rattle.httparse.specs.Grammar.{RequestHead}
use Rattle.httparse.specs.Spans.{name_and_value}
use Rattle.muni_wire.specs.BodyLength.{FieldText, body_length}
use Rattle.muni_wire.specs.Routes.{path_of, target_of}
use Rattle.muni_wire_body.specs.declared.fault.Bad.{Bad}
use Rattle.muni_wire_body.specs.declared.fault.Bad.TheVariants as bad
use Rattle.muni_wire_body.specs.declared.form.Form.{Form}
use Rattle.muni_wire.specs.declared.routes.Target.{Target}
use Rattle.muni_wire.specs.declared.routes.Target.TheVariants as target
use Rattle.muni_wire.specs.declared.head.Awaited.{Awaited}
use Rattle.muni_wire.specs.declared.head.Awaited.TheVariants as plan

-- a body is to be read, if its length is given
abbrev pub body_plan : Form → Result ℕ Bad → Awaited
body_plan form (Ok size) = plan.Read form size
body_plan form (Err fault) = plan.Refuse fault

-- by what is asked under the path, by the method, and by the header fields
abbrev pub plan_on : Option Target → List ℕ → List FieldText → Awaited
plan_on None method fields = plan.Refuse bad.NotFound
plan_on (Some (target.Get request)) method fields =
    if bytes_eq method (codes "GET") then plan.Ask request else plan.Refuse (bad.NotAllowed false)
plan_on (Some (target.Post form)) method fields =
    if bytes_eq method (codes "POST") then body_plan form (body_length fields)
    else plan.Refuse (bad.NotAllowed true)

-- by the method, the target, and the names and values of the header fields
abbrev pub plan_by : List ℕ → List ℕ → List FieldText → Awaited
plan_by method target fields = plan_on (target_of (path_of target)) method fields

unfoldable pub plan_of : RequestHead → Awaited
plan_of head = plan_by head.method head.target (map name_and_value head.fields)
