use Rattle.std.proofs.Common.{rules, ◌≡◌, Some, None, ap, sym, ◌∙◌}
use Rattle.matchit.specs.Params.{walk}
use Rattle.matchit.specs.Seek.{first}
use Rattle.muni_wire.specs.Table.{table}
use Rattle.muni_wire.proofs.TableLemmas.{none-asked, is-found, all-text, named-rest}
use Rattle.muni_wire.proofs.router.Routes.route_of.Goals as goal

pub returns-in_err-found : goal.returns-in_err-found
returns-in_err-found c =
    let none : first c.self.inside.router c.args.path.now ≡ None = search rules in
    let hit : first table c.args.path.now ≡ None = rw (sym c.self.invariant) none in
    let gone : c.from_residual.result ≡ None = search rules in
    rw gone (none-asked c.args.path.now hit)

pub returns : goal.returns
returns c =
    let found = c.in_ok-found.found in
    let hit : first c.self.inside.router c.args.path.now ≡ Some (record { pattern = found.params.pattern.now; text = found.params.text.now; names = found.params.names.now; value = found.value.now }) = search rules in
    let is = is-found c.args.path.now (record { pattern = found.params.pattern.now; text = found.params.text.now; names = found.params.names.now; value = found.value.now }) (rw (sym c.self.invariant) hit) in
    let same : found.params.path.now ≡ c.args.path.now = search rules in
    let shows = ap (λ p. walk found.params.pattern.now found.params.text.now p found.params.names.now 0 0) same ∙ is.shows in
    let got = rw shows at c.get.ensures in
    rw c.unwrap_or.ensures
    (named-rest (λ text. text.now) c.args.path.now found.value.now is.rest c.get.result _ is.leads (got (all-text c.args.path.now found.value.now is.rest is.leads c.utf8.path)))
