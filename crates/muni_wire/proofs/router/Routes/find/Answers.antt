use Rattle.std.proofs.Common.{ap, ◌∙◌}
use Rattle.muni_wire.specs.Routes.{target_of}
use Rattle.muni_wire.specs.Table.{asked_by}
use Rattle.muni_wire.proofs.TableLemmas.{asked-along}
use Rattle.muni_wire.proofs.router.Routes.find.Goals as goal

pub returns : goal.returns
returns c =
    let route = c.in_ok-route.route in
    c.asked_by.ensures ∙ ap (asked_by route) c.as_bytes.ensures.value
    ∙ asked-along c.in-Ok.path.now route c.in_ok-route.rest.now c.in_ok-route.ensures ∙ ap target_of c.in-Ok.ensures.cases.0
