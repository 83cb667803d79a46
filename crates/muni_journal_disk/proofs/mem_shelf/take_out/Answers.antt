use Rattle.std.proofs.Common.{◌≡◌, refl, sym, ap, ◌∙◌, rules, List, [], ◌∷◌, ◌++◌, None, length}
use Rattle.muni_journal_disk.specs.declared.mem_shelf.Place.{Place}
use Rattle.muni_journal_disk.specs.Places.{has_place, disk_under}
use Rattle.muni_journal_disk.proofs.PlaceLemmas.{has_new, others_have, one_more}
use Rattle.muni_journal_disk.proofs.mem_shelf.take_out.Goals as goal

pub returns-clause-there : goal.returns-clause-there
returns-clause-there c =
    let old = c.args.places.now in
    let place : Place = record { name = c.in_ok-name.name; disk = None } in
    let named : place.name.items ≡ c.args.name.now = search rules in
    let long : old.len ≡ length old.items = search rules in
    let pushed = one_more old.len old.items c.exchange.new.places c.push.new.self.items place c.in_ok-push.ensures.items ((c.if-exchange.ensures.kept refl).unchanged ∙ c.deref_mut.ensures.value) long in
    ap (λ (places : List Place). has_place places c.args.name.now) pushed
    ∙ (ap (has_place (old.items ++ place ∷ [])) (sym named) ∙ has_new old.items place)

pub returns-clause-others : goal.returns-clause-others
returns-clause-others c other differs =
    let old = c.args.places.now in
    let place : Place = record { name = c.in_ok-name.name; disk = None } in
    let named : place.name.items ≡ c.args.name.now = search rules in
    let long : old.len ≡ length old.items = search rules in
    let pushed = one_more old.len old.items c.exchange.new.places c.push.new.self.items place c.in_ok-push.ensures.items ((c.if-exchange.ensures.kept refl).unchanged ∙ c.deref_mut.ensures.value) long in
    ap (λ (places : List Place). disk_under places other) pushed ∙ others_have old.items place other (λ same. differs (same ∙ named))
