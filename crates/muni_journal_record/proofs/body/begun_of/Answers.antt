use Rattle.std.proofs.Common.{◌≡◌, ◌==◌, ◌∙◌, sym, ap, false, rules}
use Rattle.std.specs.Option.{option_map, option_and_then}
use Rattle.muni_journal_record.specs.Body.{begun_of, of_version, version_in}
use Rattle.muni_journal_record.proofs.BodyLaws.{other_is_version}
use Rattle.muni_journal_record.proofs.body.begun_of.Goals as goal

pub returns-in_default : goal.returns-in_default
returns-in_default c =
    let kind = c.in_ok-kind.kind in
    let rest = c.in_ok-kind.rest.now in
    let not_one : kind == 1 ≡ false = search rules in
    let not_three : kind == 3 ≡ false = search rules in
    let not_four : kind == 4 ≡ false = search rules in
    c.version_put.ensures ∙ ap (λ b. option_map of_version (option_and_then version_in (begun_of b))) c.in_ok-kind.ensures.parts
    ∙ other_is_version kind rest not_one not_three not_four ∙ ap begun_of (sym c.in_ok-kind.ensures.parts)
