use Rattle.std.proofs.Common.{rules, ◌≡◌, Some, option_map, refl, sym, ap, ◌∙◌}
use Rattle.std.specs.Map.{keys_of}
use Rattle.serde_json.specs.Find.{as_object}
use Rattle.serde_json.specs.View.{members_view, view}
use Rattle.muni_wire_body.proofs.StatedLemmas.{names-of-keys}
use Rattle.muni_wire_body.proofs.stated.has_known.Goals as goal

pub loop-name-init : goal.loop-name-init
loop-name-init c =
    let members = c.in-Some.members.now.entries in
    let names : c.into_iter-name-iterator.result ≡ keys_of members = search rules in
    let found : as_object (view c.args.value.now) ≡ Some (members_view members) = sym c.as_object.ensures ∙ ap (option_map (λ m. members_view m.now.entries)) c.in-Some.is in
    rw (names, found, names-of-keys members) refl
